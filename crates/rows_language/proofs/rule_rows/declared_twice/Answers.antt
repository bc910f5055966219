use Rattle.std.proofs.Common.{refl}
use Rattle.class_defs.specs.SchemaRules.{item_rules}
use Rattle.class_defs.proofs.RuleForms.{the_forms}
use Rattle.rows_language.proofs.rule_rows.declared_twice.Goals as goal

pub returns : goal.returns
unfolding item_rules
returns c = record {
  a_local_with_a_roots_name = simp the_forms refl;
  a_local_with_a_roots_name_inside = simp the_forms refl;
  a_local_twice = simp the_forms refl;
  a_local_in_two_blocks = simp the_forms refl;
  the_least_rule_on_a_line = simp the_forms refl;
}
