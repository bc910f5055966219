use Rattle.std.proofs.Common.{◌≡◌, ℕ, suc, [], ◌+◌, ◌-◌, ap, ◌∙◌, arith}
use Rattle.seen_board.specs.Rows.{from}
use Rattle.seen_board.specs.Rule.{newcomer}
use Rattle.seen_board.specs.Steps.{given_repo}
use Rattle.seen_board.proofs.Keeps.{makes_owner}
use Rattle.seen_board.proofs.making.new_owner.Goals as goal

pub split_seat-seat-requires : goal.split_seat-seat-requires
split_seat-seat-requires g c =
    let n : ℕ = c.args.repos - (c.args.repo + 1) in
    let more : c.args.repos - c.args.repo ≡ suc n = omega (arith, c.requires.repo) in
    (c.requires.board.0, omega (arith, c.requires.repo, c.requires.board.1), makes_owner g.N.Naming.meaning g.N.Naming.lasts _ _ n c.args.repo [] _ (c.requires.chief ∙ ap (λ (k : ℕ). newcomer (from k c.args.repo) []) more))

pub returns-clause-chief : goal.returns-clause-chief
returns-clause-chief g c =
    let n : ℕ = c.args.repos - (c.args.repo + 1) in
    let more : c.args.repos - c.args.repo ≡ suc n = omega (arith, c.requires.repo) in
    let next : suc c.args.repo ≡ c.args.repo + 1 = omega arith in
    let e = c.split_seat-seat.ensures in
    (e.0, ap (λ m. m.1) e.2, ap (λ m. m.0) e.2 ∙ (ap given_repo (c.requires.chief ∙ ap (λ (k : ℕ). newcomer (from k c.args.repo) []) more) ∙ ap (λ (k : ℕ). newcomer (from n k) []) next))
