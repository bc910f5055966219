use Rattle.std.proofs.Common.{refl}
use Rattle.class_defs.specs.SchemaRules.{item_rules}
use Rattle.class_defs.proofs.RuleForms.{the_forms}
use Rattle.rows_language.proofs.rule_rows.numbers_of_arguments.Goals as goal

pub returns : goal.returns
unfolding item_rules
returns c = record {
  too_few_arguments = simp the_forms refl;
  too_many_arguments = simp the_forms refl;
}
