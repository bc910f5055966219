use Rattle.std.proofs.Common.{◌≡◌, ℕ, length, ap, sym, ◌∙◌, subst, slice_get}
use Rattle.seen_board.specs.Clauses.{IsFresh, history}
use Rattle.seen_board.specs.Rows.{EachOf}
use Rattle.seen_board.proofs.Rows.{each_pop, each_push}
use Rattle.test_base.proofs.SampleLemmas.{each_two, emptied}
use Rattle.test_base.proofs.boards.two_repositories.Goals as goal

pub close-requires-clause-owners : goal.close-requires-clause-owners
close-requires-clause-owners c =
    let made = c.in_ok-board in
    let took = c.in-Some-Some-Some in
    let z = made.board.table.shared.table_id in
    let one = each_pop (λ r x. (x.repo ≡ r) × IsFresh z x.seat) made.owners.items c.pop.new.self.items took.second took.ensures.items made.ensures.owners in
    let two = each_pop (λ r x. (x.repo ≡ r) × IsFresh z x.seat) c.pop.new.self.items c.pop-2.new.self.items took.first took.ensures'.items one.0 in
    let many = emptied made.owners.items c.pop.new.self.items took.second 1 took.ensures.items made.ensures.counts.0 in
    let none = emptied c.pop.new.self.items c.pop-2.new.self.items took.first 0 took.ensures'.items many in
    each_two (λ r x. (x.repo ≡ r) × (x.seat.table_id ≡ z)) c.in-Ok-Ok.owners.items c.show_two.new.owner took.second c.in-Ok-Ok.ensures
    (c.show_two.ensures.same.0 ∙ two.1.0 ∙ none, c.show_two.ensures.same.1 ∙ two.1.1.0)
    (one.1.0 ∙ many, one.1.1.0)

pub close-requires-clause-passes : goal.close-requires-clause-passes
close-requires-clause-passes c =
    let made = c.in_ok-board in
    let took = c.in-Some-Some-Some in
    let z = made.board.table.shared.table_id in
    let one = each_pop (λ r x. (x.client ≡ r) × IsFresh z x.seat) made.passes.items c.pop-3.new.self.items took.pass took.ensures''.items made.ensures.clients in
    let same = c.show_two.ensures.same in
    subst (EachOf (λ r x. (x.client ≡ r) × (x.seat.table_id ≡ z))) (sym c.in-Ok-Ok.ensures'.items)
    (each_push (λ r x. (x.client ≡ r) × (x.seat.table_id ≡ z)) c.pop-3.new.self.items c.meet-2.new.self (λ i x e. ((one.0 i x e).0, (one.0 i x e).1.0))
    (c.meet-2.ensures.same.0 ∙ c.meet.ensures.same.0 ∙ same.2 ∙ one.1.0, c.meet-2.ensures.same.1 ∙ c.meet.ensures.same.1 ∙ same.3 ∙ one.1.1.0))

pub returns : goal.returns
returns c =
    let made = c.in_ok-board in
    let took = c.in-Some-Some-Some in
    let z = made.board.table.shared.table_id in
    let one = each_pop (λ r x. (x.repo ≡ r) × IsFresh z x.seat) made.owners.items c.pop.new.self.items took.second took.ensures.items made.ensures.owners in
    let two = each_pop (λ r x. (x.repo ≡ r) × IsFresh z x.seat) c.pop.new.self.items c.pop-2.new.self.items took.first took.ensures'.items one.0 in
    let many = emptied made.owners.items c.pop.new.self.items took.second 1 took.ensures.items made.ensures.counts.0 in
    let none = emptied c.pop.new.self.items c.pop-2.new.self.items took.first 0 took.ensures'.items many in
    let zero : took.first.repo ≡ 0 = two.1.0 ∙ none in (
      c.close.ensures.lengths 0 c.show_two.new.owner (ap (λ l. slice_get l 0) c.in-Ok-Ok.ensures) ∙ subst (λ (r : ℕ). length (history c.show_two.new.owner.seat r) ≡ 2) zero c.show_two.ensures.grown,
      c.close.ensures.lengths 1 took.second (ap (λ l. slice_get l 1) c.in-Ok-Ok.ensures) ∙ ap length (one.1.1.1 1),
    )
