use Rattle.std.proofs.Common.{◌≡◌, ℕ, ◌+◌, ◌<◌, List, ◌∷◌, length, drop, get_or, arith, ◌∙◌, ap, sym, Option}
use Rattle.std.proofs.lemmas.List.{at_drop_more}
use Rattle.std.proofs.lemmas.Grind.{common_steps}
use Rattle.class_defs.specs.Rules.{least_with}
use Rattle.class_defs.specs.SchemaRules.{class_rules, classes_from}
use Rattle.class_defs.specs.declared.classes.Class.{Class}
use Rattle.class_defs.specs.declared.rules.RuleFault.{RuleFault}
use Rattle.class_defs.specs.declared.store.Schema.{Schema}
use Rattle.method_check.proofs.Pieces.{least_append}
use Rattle.method_check.proofs.classes.classes.Goals as goal

one_more : (schema : Schema) (repos : ℕ) (all : List Class) (i : ℕ) (d : Class) (found whole : Option RuleFault) → i < length all → d ≡ get_or all i d → least_with found (classes_from schema repos i (drop i all)) ≡ whole → least_with (least_with found (class_rules schema repos i d)) (classes_from schema repos (i + 1) (drop (i + 1) all)) ≡ whole
one_more schema repos all i d found whole within is h =
    sym (least_append found (class_rules schema repos i d) (classes_from schema repos (i + 1) (drop (i + 1) all)))
    ∙ ap (λ q. least_with found (classes_from schema repos i (q ∷ drop (i + 1) all))) is
    ∙ sym (at_drop_more (λ more. least_with found (classes_from schema repos i more)) all i d within)
    ∙ h

pub loop-place-preserved : goal.loop-place-preserved
loop-place-preserved c =
    let all = c.args.schema.now.classes in
    let within : c.loop-place.place < length all = grind (arith, common_steps) in
    let is : c.class-item.result ≡ get_or all c.loop-place.place c.class-item.result = cc in
    let step = one_more c.args.schema.now c.args.repos all c.loop-place.place c.class-item.result c.loop-place.found _ within is c.loop-place.invariant in
    rw c.in_ok-class_rules.ensures step
