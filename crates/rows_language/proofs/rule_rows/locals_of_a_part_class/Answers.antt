use Rattle.std.proofs.Common.{refl}
use Rattle.class_defs.specs.SchemaRules.{item_rules}
use Rattle.class_defs.proofs.RuleForms.{the_forms}
use Rattle.rows_language.proofs.rule_rows.locals_of_a_part_class.Goals as goal

pub returns : goal.returns
unfolding item_rules
returns c = record {
  a_local_of_a_part_class = simp the_forms refl;
}
