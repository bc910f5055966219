use Rattle.std.proofs.Common.{refl}
use Rattle.class_defs.specs.SchemaRules.{schema_rules, class_rules, method_rules}
use Rattle.class_defs.proofs.RuleForms.{the_forms}
use Rattle.rows_language.proofs.rule_rows.schemas.Goals as goal

pub returns : goal.returns
unfolding schema_rules class_rules method_rules
returns c = record {
  sample_breaks_none = simp the_forms refl;
  second_field_of_a_name = simp the_forms refl;
  field_and_method_of_a_name = simp the_forms refl;
}
