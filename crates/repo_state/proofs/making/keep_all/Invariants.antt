use Rattle.std.proofs.Common.{List}
use Rattle.log_entries.specs.declared.request.Request.{Request}
use Rattle.std.specs.Vec.Iter.{into_iter_items}
use Rattle.repo_state.specs.Making.{KeepsTo}
use Rattle.repo_state.proofs.making.keep_all.Given as goal

abbrev pub invariant-loop-tx : goal.invariant-loop-tx
invariant-loop-tx l =
    ((prepared : List Request) → KeepsTo l.repo prepared l.fn.kept l.fn.table l.fn.kept → KeepsTo l.repo prepared l.fn.kept l.table (into_iter_items l.tx-iterator))
