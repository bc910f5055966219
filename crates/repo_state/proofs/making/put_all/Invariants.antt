use Rattle.std.proofs.Common.{List}
use Rattle.log_entries.specs.declared.request.Request.{Request}
use Rattle.thor_value.specs.declared.names.Ts.{Ts}
use Rattle.std.specs.Vec.Iter.{into_iter_items}
use Rattle.repo_state.specs.Making.{AlonesTo}
use Rattle.repo_state.proofs.making.put_all.Given as goal

abbrev pub invariant-loop-client : goal.invariant-loop-client
invariant-loop-client l =
    ((prepared : List Request) (decisions : List Ts) → AlonesTo l.repo prepared decisions l.fn.alone l.fn.table l.fn.alone → AlonesTo l.repo prepared decisions l.fn.alone l.table (into_iter_items l.client-iterator))
