use Rattle.object_codec.specs.Spelling.{obj_bytes}
use Rattle.std.proofs.Common.{length, ◌+◌, ◌≡◌}
use Rattle.std.specs.List.{sum_by}
use Rattle.std.specs.Map.{values_of}
use Rattle.model_reading.proofs.bytes.bytes_of_all.Given as goal

-- what is left leads to the whole
abbrev pub invariant-loop-object : goal.invariant-loop-object
invariant-loop-object l = l.bytes + sum_by (λ o. length (obj_bytes o)) l.object-iterator ≡ sum_by (λ o. length (obj_bytes o)) (values_of l.fn.objects.entries)
