use Rattle.cluster_core.specs.Failing.{FailedOn, NoneFellOn, faults_at}
use Rattle.cluster_core.specs.Seated.{AreBegun, AreRecovered, AreSeated}
use Rattle.repo_opening.specs.declared.unopened.Unopened.TheVariants.{Failed}
use Rattle.std.proofs.Common.{IsErrOf, OnOk, length, vec_capacity, vec_len, ℕ, ◌++◌, ◌+◌, ◌≡◌, ◌≤◌}
use Rattle.std.specs.Vec.Iter.{into_iter_items, into_iter_len}
use Rattle.cluster_core.proofs.opening.open_all.Given as goal

-- one for each so far, at its place, and room for the rest
abbrev pub invariant-loop-closed : goal.invariant-loop-closed
invariant-loop-closed g l = (vec_len l.done + into_iter_len l.closed-iterator ≡ into_iter_len l.initial.closed-iterator)
    × (vec_len l.done + into_iter_len l.closed-iterator ≤ vec_capacity l.done)
    × (l.yielded ++ into_iter_items l.closed-iterator ≡ l.fn.places.items)
    × AreSeated 0 l.done.items
    × AreBegun g.O.Opening.run l.repos (length l.done.items) (into_iter_items l.closed-iterator)
    × OnOk l.opened (AreRecovered g.P.Parts.disks l.yielded)
    × OnOk l.opened (NoneFellOn g.P.Parts.disks (faults_at g.P.Parts.disks) l.yielded l.done.items)
    × (length l.yielded ≡ length l.done.items)
    × ((r : ℕ) → IsErrOf l.opened (Failed r) → FailedOn g.P.Parts.disks (faults_at g.P.Parts.disks) l.yielded l.done.items r)
