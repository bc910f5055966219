use Rattle.cached_sets.proofs.Finding.{found, found_in_set}
use Rattle.cached_sets.proofs.invalid_set.InvalidSet.first_of_set.Goals as goal
use Rattle.cached_sets.specs.Invalid.{Invalid}
use Rattle.std.proofs.Common.{arith, nat_le, refl, subst, sym, true, ◌∙◌, ◌≡◌}
use Rattle.std.proofs.lemmas.Bool.Decides.{nat_tests}
use Rattle.std.specs.List.Sorted.{IsStrictlySortedBy}
use Rattle.std.specs.Map.{keys_of}
use Rattle.std.specs.Prelude.{None, Some}
use Rattle.thor_value.specs.Names.{oref_cmp}
use Rattle.validation_queue.specs.Names.{is_among}

pub returns-then-is_one_of-clause-value : goal.returns-then-is_one_of-clause-value
returns-then-is_one_of-clause-value g c =
    let le : nat_le c.args.upto c.in-Some.place.now ≡ true = grind (arith, nat_tests) in
    let among : is_among c.args.names.now c.in-Some.oref.now ≡ true = sym c.is_one_of.ensures ∙ c.if-is_one_of.true in
    let here : found c.args.names.now c.args.upto c.loop-oref.oref-iterator ≡ Some (c.in-Some.oref.now, c.in-Some.place.now) = rw (c.in-Some.ensures.steps, le, among) refl in
    let sorted = subst (λ (m : Invalid). IsStrictlySortedBy oref_cmp (keys_of m.pairs)) c.self.view_is c.iter-oref-items.ensures.ordered in
    sym here ∙ c.loop-oref.invariant.left ∙ found_in_set c.args.self.now c.args.upto c.args.names.now c.requires sorted

pub returns-clause-value : goal.returns-clause-value
returns-clause-value g c =
    let here : found c.args.names.now c.args.upto c.loop-oref.oref-iterator ≡ None = rw c.in-None.ensures.steps.0 refl in
    let sorted = subst (λ (m : Invalid). IsStrictlySortedBy oref_cmp (keys_of m.pairs)) c.self.view_is c.iter-oref-items.ensures.ordered in
    sym here ∙ c.loop-oref.invariant.left ∙ found_in_set c.args.self.now c.args.upto c.args.names.now c.requires sorted

pub returns-then-is_one_of-clause-some : goal.returns-then-is_one_of-clause-some
returns-then-is_one_of-clause-some g c = omega (arith, c.tick.ensures, c.loop-oref.invariant.rise)
