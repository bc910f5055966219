-- O7 is broken where one rule T is broken outside an upgrade.
use Rattle.std.proofs.Common.{◌≡◌, ℕ, List, [], ◌∷◌, true, false, Some, option_map, if◌then◌else◌, refl, sym}
use Rattle.class_defs.specs.Rules.{least, least_with, told_before}
use Rattle.class_defs.specs.UpgradeOrder.{breaks_outside}
use Rattle.class_defs.specs.declared.rules.RuleFault.{RuleFault}
use Rattle.class_defs.specs.declared.rules.Rule.TheVariants.{O7}

abbrev outside_fault : ℕ → RuleFault
outside_fault line = record { line = line; rule = O7 }

-- where one was found, one is told
one_told : (line : ℕ) (fs : List RuleFault) (g : RuleFault) → option_map (λ t. outside_fault line) (least_with (Some g) fs) ≡ Some (outside_fault line)
one_told line [] g = refl
one_told line (f ∷ fs) g = elim (told_before f g) as (λ b. option_map (λ t. outside_fault line) (least_with (if b then Some f else Some g) fs) ≡ Some (outside_fault line)) [ true ↦ one_told line fs f | false ↦ one_told line fs g ]

told_for : (line : ℕ) (fs : List RuleFault) → option_map (λ t. outside_fault line) (least fs) ≡ breaks_outside line fs
told_for line [] = refl
told_for line (f ∷ fs) = one_told line fs f

pub outside_told : (line : ℕ) (fs : List RuleFault) → breaks_outside line fs ≡ option_map (λ t. record { line = line; rule = O7 }) (least fs)
outside_told line fs = sym (told_for line fs)
