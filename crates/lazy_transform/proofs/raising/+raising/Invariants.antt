-- Each object that is read has its value in the epoch before.
use Rattle.std.proofs.Common.{◌≡◌, ◌++◌, ◌+◌, ◌*◌, drop, map, take}
use Rattle.std.specs.List.{flat_map}
use Rattle.thor_value.specs.FiniteMap.{get}
use Rattle.class_defs.specs.Eager.{value}
use Rattle.lazy_transform.proofs.Gathering.{Follows}
use Rattle.lazy_transform.specs.Reads.{path_reads, reads}
use Rattle.lazy_transform.specs.Walked.{Covers, all_read, as_of, classes_in}
use Rattle.lazy_transform.proofs.raising.+raising.Given as goal

abbrev pub decreases-raise : goal.decreases-raise
decreases-raise l = 7 * l.epoch

abbrev pub decreases-next : goal.decreases-next
decreases-next l = 7 * l.before + 6

abbrev pub decreases-gather : goal.decreases-gather
decreases-gather l = 7 * l.before + 5

abbrev pub decreases-walk : goal.decreases-walk
decreases-walk l = 7 * l.before + 4

abbrev pub decreases-follow : goal.decreases-follow
decreases-follow l = 7 * l.before + 3

abbrev pub decreases-look : goal.decreases-look
decreases-look l = 7 * l.before + 2

abbrev pub decreases-look_at : goal.decreases-look_at
decreases-look_at l = 7 * l.before + 1

-- the object is as it was in the epoch that was reached, and what was read for that was looked at
abbrev pub invariant-raise-loop-before : goal.invariant-raise-loop-before
invariant-raise-loop-before l =
    (l.object ≡ value l.past.schemas.now l.past.objects.now l.before l.obj)
    × (l.looked ≡ l.fn.looked ++ reads l.past.schemas.now l.past.objects.now l.before l.obj)

-- the objects of the paths so far are gathered
abbrev pub invariant-gather-loop-names : goal.invariant-gather-loop-names
invariant-gather-loop-names l =
    let done = flat_map (path_reads (classes_in l.past l.before) (as_of l.past l.before) l.object) (map (λ p. p.now) (take l.names-index l.paths)) in
    Covers done (get l.parts) (as_of l.past l.before) × (l.looked ≡ l.fn.looked ++ all_read l.past l.before done)

-- the objects of the names so far are gathered
abbrev pub invariant-follow-loop-name : goal.invariant-follow-loop-name
invariant-follow-loop-name l =
    Follows l.past l.before l.fn.value l.names l.fn.parts l.fn.looked l.reached (drop l.name-index l.names) l.parts l.looked
