use Rattle.client_state.proofs.transaction.shares_of.Given as goal
use Rattle.client_state.specs.Writing.{shares_write}
use Rattle.paused_eval.specs.Copies.{last_of}
use Rattle.std.proofs.Common.{◌++◌, ◌≡◌}
use Rattle.std.specs.Vec.Iter.{into_iter_items}
use Rattle.thor_value.specs.declared.names.Oref.{Oref}

-- the shares write what has come so far
abbrev pub invariant-loop-oref : goal.invariant-loop-oref
invariant-loop-oref l = (l.yielded ++ into_iter_items l.oref-iterator ≡ l.fn.writes) × ((x : Oref) → shares_write l.shares.items x ≡ last_of l.yielded x)
