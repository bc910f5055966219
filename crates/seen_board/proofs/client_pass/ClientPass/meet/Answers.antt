use Rattle.std.proofs.Common.{◌≡◌, ℕ, ap, arith, ◌∙◌}
use Rattle.std.specs.Prelude.{slice_index}
use Rattle.seen_board.specs.Rows.{put}
use Rattle.seen_board.proofs.Rows.{put_else, put_here}
use Rattle.seen_board.proofs.Keeps.{meets}
use Rattle.seen_board.proofs.client_pass.ClientPass.meet.Goals as goal

pub load-requires : goal.load-requires
load-requires g c = (c.requires.board, omega (arith, c.requires.repo, c.from-word.ensures), meets g.N.Naming.meaning g.N.Naming.lasts _ _ _ _ _)

pub returns-clause-found : goal.returns-clause-found
returns-clause-found g c =
    let old = c.args.self.now.seat.me.0.reached in
    let n : ℕ = c.load.result in
    let told : slice_index c.load.new.seat.me.0.reached c.args.repo ≡ slice_index (put 0 old c.from-word.result n) c.args.repo = ap (λ m. slice_index m.0.reached c.args.repo) c.load.ensures.2.0 in
    told ∙ (ap (λ (k : ℕ). slice_index (put 0 old k n) c.args.repo) c.from-word.ensures ∙ put_here 0 old c.args.repo n)

pub returns-clause-others : goal.returns-clause-others
returns-clause-others g c = λ r no.
    let old = c.args.self.now.seat.me.0.reached in
    let n : ℕ = c.load.result in
    let told : slice_index c.load.new.seat.me.0.reached r ≡ slice_index (put 0 old c.from-word.result n) r = ap (λ m. slice_index m.0.reached r) c.load.ensures.2.0 in
    told ∙ (ap (λ (k : ℕ). slice_index (put 0 old k n) r) c.from-word.ensures ∙ put_else 0 old c.args.repo r n no)
