use Rattle.cached_sets.proofs.Restoring.{set_none}
use Rattle.cached_sets.proofs.invalid_set.InvalidSet.put_back.Goals as goal
use Rattle.cached_sets.specs.Invalid.{Invalid}
use Rattle.std.proofs.Common.{List, ap, sym, ◌∙◌, ◌≡◌, ℕ}
use Rattle.std.specs.BTreeMap.{is_at}
use Rattle.std.specs.Option.{option_copied_mut}
use Rattle.std.specs.Prelude.{None}
use Rattle.thor_value.specs.FiniteMap.{get}
use Rattle.thor_value.specs.Names.{oref_cmp}
use Rattle.thor_value.specs.declared.names.Oref.{Oref}

pub returns-in_default : goal.returns-in_default
returns-in_default c =
    let m : Invalid = record { pairs = c.self.inside.places.entries } in
    let none : get m c.args.oref ≡ None = sym c.get_mut.ensures.value ∙ ap option_copied_mut c.in_default.is in
    let same = set_none (is_at (oref_cmp c.args.oref)) m.pairs c.in-Some.before none in
    rw (← c.self.view_is, c.in-Some.is, c.get_mut.follows.holds-at-none) (ap (λ (es : List (Oref × ℕ)). record { pairs = es }) (sym same))
