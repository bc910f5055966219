use Rattle.std.proofs.Common.{◌<◌, arith, ℕ, zero, suc, [], refl}
use Rattle.class_defs.proofs.RuleForms.{the_forms}
use Rattle.rows_language.proofs.UpgradeForms.{upgrade_forms}
use Rattle.class_defs.specs.Accepted.{IsAccepted}
use Rattle.class_defs.specs.Applied.{applied}
use Rattle.rows_language.specs.LazyExamples.{twice}
use Rattle.class_defs.specs.SchemaRules.{class_rules, item_rules, method_rules}
use Rattle.class_defs.specs.UpgradeOrder.{inside_rules, outside_rules, own_fault}
use Rattle.class_defs.specs.UpgradeRules.{first_line, gives_int, reads_parts, upgrade_rules}
use Rattle.rows_language.proofs.upgrade_rows.accepted.Goals as goal

ruleset forms = (the_forms, upgrade_forms)

at_epoch : (k : ℕ) → k < 2 → IsAccepted twice 1 [] k
unfolding own_fault upgrade_rules first_line gives_int reads_parts inside_rules outside_rules applied class_rules item_rules method_rules
at_epoch zero h = record { upgrade = _; leads = refl; keeps = simp forms refl; behind = refl }
at_epoch (suc zero) h = record { upgrade = _; leads = refl; keeps = simp forms refl; behind = refl }
at_epoch (suc (suc k)) h = absurd (omega (arith, h))

pub returns : goal.returns
returns c = record { upgrades = at_epoch }
