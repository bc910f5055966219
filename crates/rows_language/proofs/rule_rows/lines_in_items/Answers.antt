use Rattle.std.proofs.Common.{refl}
use Rattle.class_defs.specs.SchemaRules.{item_rules}
use Rattle.class_defs.proofs.RuleForms.{the_forms}
use Rattle.rows_language.proofs.rule_rows.lines_in_items.Goals as goal

pub returns : goal.returns
unfolding item_rules
returns c = record {
  method_of_an_int = simp the_forms refl;
  root_assigned = simp the_forms refl;
  argument_missing = simp the_forms refl;
  local_of_a_part_class = simp the_forms refl;
  part_made_alone = simp the_forms refl;
  repository_that_is_not_there = simp the_forms refl;
  local_ends_with_its_block = simp the_forms refl;
  local_with_a_roots_name = simp the_forms refl;
}
