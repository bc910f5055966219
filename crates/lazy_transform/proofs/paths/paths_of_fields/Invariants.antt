use Rattle.std.proofs.Common.{◌≡◌, map, take}
use Rattle.lazy_transform.specs.Reads.{paths_of_fields}
use Rattle.lazy_transform.proofs.paths.paths_of_fields.Given as goal

-- the paths of the fields so far
abbrev pub invariant-loop-field : goal.invariant-loop-field
invariant-loop-field l = map (λ p. p.now) l.paths.items ≡ paths_of_fields (take l.field-index l.fields)
