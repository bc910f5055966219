use Rattle.client_state.proofs.transaction.Transaction.upgrade.Given as goal
use Rattle.client_state.specs.Writing.{shares_write}
use Rattle.std.proofs.Common.{◌≡◌}
use Rattle.std.specs.Prelude.{None}
use Rattle.thor_value.specs.declared.names.Oref.{Oref}

abbrev pub invariant-loop-repo : goal.invariant-loop-repo
invariant-loop-repo l = (x : Oref) → shares_write l.shares.items x ≡ None
