use Rattle.std.proofs.Common.{nat_lt, ap, sym, ◌∙◌}
use Rattle.law_upgrade_rules.proofs.UpgradeNumbers.{numbers_are_last}
use Rattle.class_defs.proofs.Levels.{due_by_last}
use Rattle.law_upgrade_rules.proofs.accepted.numbers_tell_what_is_due.Goals as goal

pub returns : goal.returns
returns c = record {
  numbers = λ s repos items e c zeros all some. numbers_are_last s repos items e zeros all some c;
  due = λ s repos items e o zeros all some. due_by_last s e o ∙ ap (nat_lt o.ver) (sym (numbers_are_last s repos items e zeros all some o.class));
}
