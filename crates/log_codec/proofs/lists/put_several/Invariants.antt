use Rattle.std.proofs.Common.{◌≡◌, ◌++◌, take}
use Rattle.std.specs.List.{flat_map}
use Rattle.log_codec.proofs.lists.put_several.Given as goal

-- the values so far stand behind what was there
abbrev pub invariant-loop-value : goal.invariant-loop-value
invariant-loop-value g l = l.out ≡ l.fn.out ++ flat_map g.T.Spelled.format.spelling (take l.value-index l.values)
