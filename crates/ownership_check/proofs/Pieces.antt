-- The least of the faults of classes that are found one by one.
use Rattle.std.proofs.Common.{◌≡◌, ℕ, ◌+◌, ◌<◌, List, ◌∷◌, length, drop, get_or, ◌∙◌, ap, sym, Option}
use Rattle.std.proofs.lemmas.List.{at_drop_more}
use Rattle.class_defs.specs.Rules.{least_with}
use Rattle.class_defs.specs.UpgradeOrder.{over_classes}
use Rattle.class_defs.specs.declared.classes.Class.{Class}
use Rattle.class_defs.specs.declared.rules.RuleFault.{RuleFault}
use Rattle.method_check.proofs.Pieces.{least_append}

-- one more class of several
pub class_more : (rules : ℕ → Class → List RuleFault) (all : List Class) (i : ℕ) (d : Class) (found whole : Option RuleFault) → i < length all → d ≡ get_or all i d → least_with found (over_classes rules i (drop i all)) ≡ whole → least_with (least_with found (rules i d)) (over_classes rules (i + 1) (drop (i + 1) all)) ≡ whole
class_more rules all i d found whole within is h =
    sym (least_append found (rules i d) (over_classes rules (i + 1) (drop (i + 1) all)))
    ∙ ap (λ q. least_with found (over_classes rules i (q ∷ drop (i + 1) all))) is
    ∙ sym (at_drop_more (λ more. least_with found (over_classes rules i more)) all i d within)
    ∙ h
