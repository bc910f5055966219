use Rattle.std.proofs.Common.{◌≡◌, ◌++◌, take}
use Rattle.std.specs.List.{flat_map}
use Rattle.class_defs.specs.Spelling.{method_words}
use Rattle.method_parse.proofs.Spaced.{one_text}
use Rattle.method_parse.proofs.print_statements.print_methods.Given as goal

-- the words of those so far
abbrev pub invariant-loop-method : goal.invariant-loop-method
invariant-loop-method l = l.out ≡ l.fn.out ++ flat_map (one_text method_words) (take l.method-index l.methods)
