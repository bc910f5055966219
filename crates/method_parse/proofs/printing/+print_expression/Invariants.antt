use Rattle.std.proofs.Common.{◌≡◌, ◌++◌, take}
use Rattle.std.specs.List.{flat_map}
use Rattle.class_defs.specs.Spelling.{expr_words}
use Rattle.method_parse.proofs.Spaced.{comma_text, first_text}
use Rattle.method_parse.proofs.printing.+print_expression.Given as goal

-- the words of the first argument, and of those so far behind it
abbrev pub invariant-print_arguments-loop-argument : goal.invariant-print_arguments-loop-argument
invariant-print_arguments-loop-argument l =
    l.out ≡ l.fn.out ++ (first_text expr_words l.arguments ++ flat_map (comma_text expr_words) (take l.argument-index l.more))
