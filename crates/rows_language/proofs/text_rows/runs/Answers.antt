use Rattle.std.proofs.Common.{refl}
use Rattle.class_defs.proofs.RuleForms.{the_forms}
use Rattle.rows_language.proofs.RunForms.{deep, run_forms, turns}
use Rattle.class_defs.specs.Calls.{call, call_object, owners_at, run_body}
use Rattle.class_defs.specs.Expressions.{expression, values_of}
use Rattle.class_defs.specs.Objects.{assign_field, create, field_value, named_value, new_object, scope_at, seen, take_name, touch}
use Rattle.class_defs.specs.Run.{execute_all, run}
use Rattle.class_defs.specs.Statements.{assigned, block_of, statement}
use Rattle.class_defs.specs.Steps.{step}
use Rattle.rows_language.proofs.text_rows.runs.Goals as goal

ruleset forms = (the_forms, run_forms)

pub returns : goal.returns
unfolding run execute_all deep turns statement expression values_of block_of step named_value scope_at call call_object run_body touch seen owners_at field_value assign_field assigned create take_name new_object
returns c = record {
  printed = simp forms refl;
  a_local = simp forms refl;
  equal = simp forms refl;
  unequal = simp forms refl;
  other_bytes = simp forms refl;
  put = simp forms refl;
}
