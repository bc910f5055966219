use Rattle.std.proofs.Common.{not, sym}
use Rattle.std.proofs.lemmas.List.Kept.{IsStrictlySortedBy-filter}
use Rattle.thor_value.specs.Names.{oref_cmp}
use Rattle.client_cache.specs.Pages.{same_name}
use Rattle.thor_value.specs.Rising.{IsThere}
use Rattle.client_cache.proofs.NameLists.{none_removed, removed_at}
use Rattle.client_cache.proofs.name_set.NameSet.remove.Goals as goal

pub invariant_of-self : goal.invariant_of-self
invariant_of-self c =
    let there : IsThere c.self.inside.names.items c.args.oref c.in-Ok.at = rw c.as_slice.ensures.value at c.in-Ok.ensures.found in
    let removed = removed_at c.self.inside.names.items c.args.oref c.in-Ok.at c.self.invariant there.within there.here in
    rw (c.remove.ensures.items, removed) (IsStrictlySortedBy-filter oref_cmp (λ x. not (same_name c.args.oref x)) c.self.inside.names.items c.self.invariant)

pub returns-in-Ok : goal.returns-in-Ok
returns-in-Ok c =
    let there : IsThere c.self.inside.names.items c.args.oref c.in-Ok.at = rw c.as_slice.ensures.value at c.in-Ok.ensures.found in
    let removed = removed_at c.self.inside.names.items c.args.oref c.in-Ok.at c.self.invariant there.within there.here in
    rw (← c.self.view_is, c.remove.ensures.items) removed

pub returns-in-Err : goal.returns-in-Err
returns-in-Err c = rw (← c.self.view_is) (sym (none_removed c.args.oref c.self.inside.names.items (rw c.as_slice.ensures.value at c.in-Err.ensures.absent.absent)))
