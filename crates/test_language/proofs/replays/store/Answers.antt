use Rattle.std.proofs.Common.{◌≡◌, sym, subst}
use Rattle.std.specs.List.Sorted.{IsStrictlySortedBy}
use Rattle.thor_value.specs.FiniteMap.{IsSorted, empty}
use Rattle.thor_value.specs.Names.{oref_cmp}
use Rattle.class_defs.specs.declared.store.Object.{Object}
use Rattle.test_language.proofs.replays.store.Goals as goal

none_sorted : IsSorted {R = oref_cmp} (empty {X = Object})
unfolding IsStrictlySortedBy
none_sorted = tt

pub returns : goal.returns
returns c = c.in_ok-put-2.ensures (c.in_ok-put.ensures (subst IsSorted (sym c.new-objects.ensures) none_sorted))
