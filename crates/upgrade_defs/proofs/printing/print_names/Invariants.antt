use Rattle.std.proofs.Common.{◌≡◌, ◌++◌, take}
use Rattle.std.specs.List.{flat_map}
use Rattle.method_parse.proofs.Spaced.{one_text}
use Rattle.upgrade_defs.specs.Spelling.{dot_name}
use Rattle.upgrade_defs.proofs.printing.print_names.Given as goal

-- the words of those so far
abbrev pub invariant-loop-name : goal.invariant-loop-name
invariant-loop-name l = l.out ≡ l.fn.out ++ flat_map (one_text dot_name) (take l.name-index l.names)
