use Rattle.std.proofs.Common.{◌++◌, ◌≡◌}
use Rattle.std.specs.Map.{keys_of}
use Rattle.model_reading.proofs.names.add_keys.Given as goal

-- what is left comes behind
abbrev pub invariant-loop-name : goal.invariant-loop-name
invariant-loop-name l = l.names.items ++ l.name-iterator ≡ l.fn.names.items ++ keys_of l.fn.objects.entries
