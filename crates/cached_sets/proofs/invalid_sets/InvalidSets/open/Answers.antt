use Rattle.cached_sets.proofs.Restoring.{restored_new}
use Rattle.cached_sets.proofs.invalid_sets.InvalidSets.open.Goals as goal
use Rattle.cached_sets.specs.Invalid.{Invalid, Invalids}
use Rattle.std.proofs.Common.{List, ap, false, refl, sym, ◌∙◌, ◌≡◌, ℕ}
use Rattle.std.proofs.lemmas.Map.Lookups.{exact_unsigned}
use Rattle.std.specs.Cmp.{nat_cmp_total}
use Rattle.std.specs.Option.{is_some}
use Rattle.std.specs.Prelude.{None, Option, Some}
use Rattle.thor_value.specs.FiniteMap.{get, remove}

none_if : (o : Option Invalid) → is_some o ≡ false → o ≡ None
none_if None h = refl
none_if (Some m) h = cc

pub returns-clause-undone : goal.returns-clause-undone
returns-clause-undone c =
    let N : Invalids = record { pairs = c.self.inside.sets.entries } in
    let none : get N c.args.session ≡ None = none_if (get N c.args.session) (sym c.contains_key.ensures ∙ c.if-contains_key.false) in
    λ _. rw (← c.self.view_is) (ap (λ (es : List (ℕ × Invalid)). remove (record { pairs = es }) c.args.session) c.in_ok-insert.ensures.entries ∙ restored_new nat_cmp_total exact_unsigned N c.args.session c.new.result c.insert.ensures.was_ordered none)
