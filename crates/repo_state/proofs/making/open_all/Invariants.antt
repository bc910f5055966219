use Rattle.std.specs.Vec.Iter.{into_iter_items}
use Rattle.repo_state.specs.Making.{OpensTo}
use Rattle.repo_state.proofs.making.open_all.Given as goal

abbrev pub invariant-loop-request : goal.invariant-loop-request
invariant-loop-request l =
    OpensTo l.repo l.fn.prepared l.table (into_iter_items l.request-iterator)
