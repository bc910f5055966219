use Rattle.std.proofs.Common.{◌≡◌, ◌++◌, ◌∷◌, length, take}
use Rattle.std.specs.List.{flat_map}
use Rattle.std.specs.Int.{w16, w32, to_be_bytes}
use Rattle.thor_value.specs.Spelling.{value_bytes}
use Rattle.object_codec.proofs.writing.put_parts.Given as goal

-- the head, and the fields so far, stand behind what was there
abbrev pub invariant-loop-field : goal.invariant-loop-field
invariant-loop-field l = l.out ≡ l.fn.out ++ ((to_be_bytes w16 l.o.class ++ to_be_bytes w32 l.o.ver) ++ (length l.o.fields ∷ flat_map value_bytes (take l.field-index l.o.fields)))
