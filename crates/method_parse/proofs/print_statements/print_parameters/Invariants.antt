use Rattle.std.proofs.Common.{◌≡◌, ◌++◌, take}
use Rattle.std.specs.List.{flat_map}
use Rattle.class_defs.specs.Spelling.{parameter_words}
use Rattle.method_parse.proofs.Spaced.{comma_text, first_text}
use Rattle.method_parse.proofs.print_statements.print_parameters.Given as goal

-- the words of the first parameter, and of those so far behind it
abbrev pub invariant-loop-parameter : goal.invariant-loop-parameter
invariant-loop-parameter l =
    l.out ≡ l.fn.out ++ (first_text parameter_words l.parameters ++ flat_map (comma_text parameter_words) (take l.parameter-index l.more))
