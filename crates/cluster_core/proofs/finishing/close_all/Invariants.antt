use Rattle.cluster_core.specs.Seated.{AreNumbered}
use Rattle.cluster_core.proofs.Ending.{AreEnded}
use Rattle.std.proofs.Common.{IfOk, vec_capacity, vec_len, ◌+◌, ◌≡◌, ◌≤◌}
use Rattle.std.specs.Vec.Iter.{into_iter_items, into_iter_len}
use Rattle.cluster_core.proofs.finishing.close_all.Given as goal

-- one for each so far, and room for the rest; the traces are right, as many as there are parts, and their disks say what they say
abbrev pub invariant-loop-site : goal.invariant-loop-site
invariant-loop-site g l = (vec_len l.parts + into_iter_len l.site-iterator ≡ into_iter_len l.initial.site-iterator)
    × (vec_len l.parts + into_iter_len l.site-iterator ≤ vec_capacity l.parts)
    × AreNumbered (vec_len l.parts) (into_iter_items l.site-iterator)
    × IfOk l.traces (AreEnded g.P.Parts.disks g.O.Opening.run l.parts.items)
