use Rattle.std.proofs.Common.{◌≡◌, map, drop}
use Rattle.class_defs.specs.ExpressionRules.{judged, arguments_rules}
use Rattle.class_defs.specs.Rules.{least_with}
use Rattle.method_check.specs.Bodies.{sight}
use Rattle.method_check.proofs.judge.+judge.Given as goal

-- the arguments to come break, beside what was found so far, what all break
abbrev pub invariant-judge_arguments-loop-argument : goal.invariant-judge_arguments-loop-argument
invariant-judge_arguments-loop-argument l =
    let s = sight l.body l.locals in
    least_with l.found (arguments_rules s.schema.classes l.rest (map (judged s) (drop l.argument-index l.arguments)))
    ≡ least_with l.fn.found (arguments_rules s.schema.classes l.parameters (map (judged s) l.arguments))
