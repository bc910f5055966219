use Rattle.std.proofs.Common.{◌++◌, ◌≡◌}
use Rattle.std.specs.List.{filter}
use Rattle.std.specs.Map.{keys_of}
use Rattle.thor_value.specs.FiniteMap.{has}
use Rattle.model_reading.specs.Tables.{pages_in}
use Rattle.model_reading.proofs.session.names_on.Given as goal

-- what is left comes behind
abbrev pub invariant-loop-name : goal.invariant-loop-name
invariant-loop-name l = l.names ++ filter (λ x. has (pages_in l.fn.pages) x.page) l.name-iterator ≡ filter (λ x. has (pages_in l.fn.pages) x.page) (keys_of l.fn.objects.entries)
