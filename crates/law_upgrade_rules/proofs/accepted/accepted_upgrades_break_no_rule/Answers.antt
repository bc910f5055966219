use Rattle.law_upgrade_rules.proofs.AppliedRules.{items_behind, rules_behind}
use Rattle.law_upgrade_rules.proofs.KeptByRules.{sound}
use Rattle.law_upgrade_rules.proofs.accepted.accepted_upgrades_break_no_rule.Goals as goal

pub returns : goal.returns
returns c = record {
  schema = λ schema repos u items h own. rules_behind schema repos u items h (sound schema repos u items own);
  items = λ schema repos u items i block own is. items_behind schema repos u items (sound schema repos u items own) i block is;
}
