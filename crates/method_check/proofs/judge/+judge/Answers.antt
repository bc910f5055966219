use Rattle.std.proofs.Common.{◌≡◌, ℕ, ◌+◌, ◌<◌, List, ◌∷◌, length, drop, get_or, slice_get, map, arith, ◌∙◌, ap, sym, Option}
use Rattle.std.proofs.lemmas.List.{at_drop_more}
use Rattle.std.proofs.lemmas.Grind.{common_steps}
use Rattle.class_defs.specs.ExpressionRules.{judged, argument_rules, arguments_rules}
use Rattle.class_defs.specs.Rules.{Sight, least_with}
use Rattle.class_defs.specs.declared.classes.Parameter.{Parameter}
use Rattle.class_defs.specs.declared.expressions.Expr.{Expr}
use Rattle.class_defs.specs.declared.rules.RuleFault.{RuleFault}
use Rattle.method_check.proofs.Pieces.{least_append}
use Rattle.method_check.specs.Bodies.{sight}
use Rattle.method_check.proofs.judge.+judge.Goals as goal

one_more : (s : Sight) (ps : List Parameter) (all : List Expr) (i : ℕ) (e : Expr) (found whole : Option RuleFault) → i < length all → e ≡ get_or all i e → least_with found (arguments_rules s.schema.classes ps (map (judged s) (drop i all))) ≡ whole → least_with (least_with found (argument_rules s.schema.classes (slice_get ps 0) (judged s e))) (arguments_rules s.schema.classes (drop 1 ps) (map (judged s) (drop (i + 1) all))) ≡ whole
one_more s ps all i e found whole within is h =
    sym (least_append found (argument_rules s.schema.classes (slice_get ps 0) (judged s e)) (arguments_rules s.schema.classes (drop 1 ps) (map (judged s) (drop (i + 1) all))))
    ∙ ap (λ q. least_with found (arguments_rules s.schema.classes ps (map (judged s) (q ∷ drop (i + 1) all)))) is
    ∙ sym (at_drop_more (λ more. least_with found (arguments_rules s.schema.classes ps (map (judged s) more))) all i e within)
    ∙ h

pub judge_arguments-loop-argument-preserved : goal.judge_arguments-loop-argument-preserved
judge_arguments-loop-argument-preserved t c =
    let s = sight c.args.body.now c.args.locals.now in
    let within : c.loop-argument.argument-index < length c.args.arguments.now = grind (arith, common_steps) in
    let is : c.argument-item.result ≡ get_or c.args.arguments.now c.loop-argument.argument-index c.argument-item.result = cc in
    let step = one_more s c.loop-argument.rest.now c.args.arguments.now c.loop-argument.argument-index c.argument-item.result c.loop-argument.found _ within is c.loop-argument.invariant in
    rw (c.judge_argument.ensures, c.behind_first-rest.ensures, c.first.ensures.value) step
