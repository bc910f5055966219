use Rattle.std.proofs.Common.{◌≡◌, ℕ, suc, ◌+◌, ◌-◌, ap, ◌∙◌, arith}
use Rattle.seen_board.specs.Rows.{from}
use Rattle.seen_board.specs.Rule.{newcomer}
use Rattle.seen_board.specs.Steps.{given_client}
use Rattle.seen_board.proofs.Keeps.{makes_client}
use Rattle.seen_board.proofs.making.new_client.Goals as goal

pub split_seat-seat-requires : goal.split_seat-seat-requires
split_seat-seat-requires g c =
    let n : ℕ = c.args.clients - (c.args.client + 1) in
    let more : c.args.clients - c.args.client ≡ suc n = omega (arith, c.requires.client) in
    (c.requires.board.0, omega (arith, c.requires.client, c.requires.board.1), makes_client g.N.Naming.meaning g.N.Naming.lasts _ _ n c.args.client (from c.args.repos 0) _ (c.requires.chief ∙ ap (λ (k : ℕ). newcomer (from c.args.repos 0) (from k c.args.client)) more))

pub returns-clause-chief : goal.returns-clause-chief
returns-clause-chief g c =
    let n : ℕ = c.args.clients - (c.args.client + 1) in
    let more : c.args.clients - c.args.client ≡ suc n = omega (arith, c.requires.client) in
    let next : suc c.args.client ≡ c.args.client + 1 = omega arith in
    let e = c.split_seat-seat.ensures in
    (e.0, ap (λ m. m.1) e.2, ap (λ m. m.0) e.2 ∙ (ap given_client (c.requires.chief ∙ ap (λ (k : ℕ). newcomer (from c.args.repos 0) (from k c.args.client)) more) ∙ ap (λ (k : ℕ). newcomer (from c.args.repos 0) (from n k)) next))
