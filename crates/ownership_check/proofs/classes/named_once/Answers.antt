use Rattle.std.proofs.Common.{◌≡◌, ℕ, ◌+◌, ◌<◌, List, [], ◌∷◌, ◌++◌, length, drop, take, get_or, not, is_some, ◌&&◌, ◌∙◌, ap, sym, Option}
use Rattle.std.specs.List.{list_any}
use Rattle.std.specs.Str.{bytes_eq}
use Rattle.std.proofs.lemmas.List.{at_drop_more, take_more}
use Rattle.class_defs.specs.Types.{class_named}
use Rattle.class_defs.specs.Rules.{least_with, must}
use Rattle.class_defs.specs.UpgradeRules.{named_once}
use Rattle.class_defs.specs.declared.classes.Class.{Class}
use Rattle.class_defs.specs.declared.expressions.Name.{Name}
use Rattle.class_defs.specs.declared.rules.RuleFault.{RuleFault}
use Rattle.class_defs.specs.declared.rules.Rule.TheVariants.{O1}
use Rattle.class_defs.specs.declared.upgrades.ClassUpgrade.{ClassUpgrade}
use Rattle.ownership_check.proofs.Names.{any_of_names, names_append, said_names}
use Rattle.method_check.proofs.Pieces.{least_append}
use Rattle.ownership_check.proofs.classes.named_once.Goals as goal

abbrev of_said : List Class → List ClassUpgrade → Name → List RuleFault
of_said classes earlier n = must (is_some (class_named classes n.text) && not (list_any (λ k. bytes_eq k.name.text n.text) earlier)) O1 n.line

abbrev of_names : List Class → List Name → Name → List RuleFault
of_names classes earlier n = must (is_some (class_named classes n.text) && not (list_any (λ m. bytes_eq m.text n.text) earlier)) O1 n.line

same : (classes : List Class) (earlier : List ClassUpgrade) (n : Name) → of_said classes earlier n ≡ of_names classes (said_names earlier) n
same classes earlier n = ap (λ b. must (is_some (class_named classes n.text) && not b) O1 n.line) (any_of_names n earlier)

one_more : (classes : List Class) (all : List ClassUpgrade) (i : ℕ) (k : ClassUpgrade) (found whole : Option RuleFault) → i < length all → k ≡ get_or all i k
    → least_with found (named_once classes (said_names (take i all)) (said_names (drop i all))) ≡ whole
    → least_with (least_with found (of_said classes (take i all) k.name)) (named_once classes (said_names (take (i + 1) all)) (said_names (drop (i + 1) all))) ≡ whole
one_more classes all i k found whole within is h =
    let own : List RuleFault = of_names classes (said_names (take i all)) k.name in
    ap (λ fs. least_with (least_with found fs) (named_once classes (said_names (take (i + 1) all)) (said_names (drop (i + 1) all)))) (same classes (take i all) k.name)
    ∙ ap (λ t. least_with (least_with found own) (named_once classes t (said_names (drop (i + 1) all))))
    (ap said_names (take_more all i k within ∙ ap (λ q. take i all ++ q ∷ []) (sym is)) ∙ names_append (take i all) (k ∷ []))
    ∙ sym (least_append found own (named_once classes (said_names (take i all) ++ k.name ∷ []) (said_names (drop (i + 1) all))))
    ∙ ap (λ q. least_with found (named_once classes (said_names (take i all)) (said_names (q ∷ drop (i + 1) all)))) is
    ∙ sym (at_drop_more (λ more. least_with found (named_once classes (said_names (take i all)) (said_names more))) all i k within)
    ∙ h

pub loop-place-preserved : goal.loop-place-preserved
loop-place-preserved c =
    let step = one_more c.args.classes.now c.args.said.now c.loop-place.place c.index-said-place.result c.loop-place.found _ c.loop-place-test.true c.index-said-place.is c.loop-place.invariant in
    rw c.is_class_once.ensures step
