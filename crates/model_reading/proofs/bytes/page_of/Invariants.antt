use Rattle.std.proofs.Common.{◌≡◌}
use Rattle.model_reading.specs.Paging.{contents_of, with_objects}
use Rattle.model_reading.proofs.bytes.page_of.Given as goal

-- what is left leads to the whole
abbrev pub invariant-loop-name : goal.invariant-loop-name
invariant-loop-name l = with_objects l.page l.name-iterator ≡ contents_of l.fn.number l.fn.objects.entries
