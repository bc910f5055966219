use Rattle.cluster_core.specs.Failing.{FailedOn, NoneFellOn, faults_on}
use Rattle.cluster_core.specs.Seated.{AreSeated}
use Rattle.repo_opening.specs.declared.unopened.Unopened.TheVariants.{Failed}
use Rattle.std.proofs.Common.{IsErrOf, OnOk, length, vec_capacity, vec_len, ℕ, ◌++◌, ◌+◌, ◌≡◌, ◌≤◌}
use Rattle.std.specs.Vec.Iter.{into_iter_items, into_iter_len}
use Rattle.cluster_core.proofs.opening.format_from.Given as goal

-- one for each so far, at its place, and room for the rest
abbrev pub invariant-loop-seat : goal.invariant-loop-seat
invariant-loop-seat g l = (vec_len l.done + into_iter_len l.seat-iterator ≡ into_iter_len l.initial.seat-iterator)
    × (vec_len l.done + into_iter_len l.seat-iterator ≤ vec_capacity l.done)
    × AreSeated 0 l.done.items
    × AreSeated (length l.done.items) (into_iter_items l.seat-iterator)
    × (l.yielded ++ into_iter_items l.seat-iterator ≡ l.fn.seats.items)
    × OnOk l.formatted (NoneFellOn g.P.Parts.disks (faults_on g.P.Parts.disks) l.yielded l.done.items)
    × (length l.yielded ≡ length l.done.items)
    × ((r : ℕ) → IsErrOf l.formatted (Failed r) → FailedOn g.P.Parts.disks (faults_on g.P.Parts.disks) l.yielded l.done.items r)
