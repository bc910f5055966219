use Rattle.store_opening.specs.Seated.{AreSeated}
use Rattle.store_opening.specs.Reading.{PutsAll, ReadAll}
use Rattle.repo_opening.specs.declared.unopened.Unopened.TheVariants.{Damaged, Failed}
use Rattle.std.specs.List.{AllZip}
use Rattle.store_opening.specs.Failing.{FailsIn, IsCalled}
use Rattle.store_opening.specs.Unsound.{IsNoStore}
use Rattle.std.proofs.Common.{IsErrOf, List, OnOk, ℕ, vec_capacity, vec_len, ◌++◌, ◌+◌, ◌≡◌, ◌≤◌}
use Rattle.std.specs.Vec.Iter.{into_iter_items, into_iter_len}
use Rattle.store_opening.proofs.found.read_all.Given as goal

-- one for each so far, in their order, and room for the rest; what is told as damaged is wrong
abbrev pub invariant-loop-part : goal.invariant-loop-part
invariant-loop-part g l = (vec_len l.places + into_iter_len l.part-iterator ≡ into_iter_len l.initial.part-iterator)
    × (vec_len l.places + into_iter_len l.part-iterator ≤ vec_capacity l.places)
    × (l.yielded ++ into_iter_items l.part-iterator ≡ l.fn.parts.items)
    × AreSeated g.P.Parts.disks l.yielded l.places.items
    × ((images : List (ℕ → List ℕ)) → ReadAll g.P.Parts.disks l.yielded images → OnOk l.read (PutsAll images l.fn.objects l.objects))
    × ((images : List (ℕ → List ℕ)) (r d place : ℕ) → ReadAll g.P.Parts.disks l.fn.parts.items images → IsErrOf l.read (Damaged r d place) → IsNoStore images r d place)
    × AllZip (IsCalled g.P.Parts.disks) l.yielded l.places.items
    × ((r : ℕ) → IsErrOf l.read (Failed r) → FailsIn g.P.Parts.disks l.yielded l.places.items r)
