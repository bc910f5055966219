use Rattle.std.proofs.Common.{refl}
use Rattle.class_defs.proofs.RuleForms.{the_forms}
use Rattle.rows_language.proofs.RunForms.{deep, run_forms}
use Rattle.class_defs.specs.Calls.{call, call_object, owners_at, run_body}
use Rattle.class_defs.specs.Expressions.{expression, values_of}
use Rattle.class_defs.specs.Objects.{create, field_value, named_value, new_object, scope_at, seen, take_name, touch}
use Rattle.class_defs.specs.Run.{execute_all}
use Rattle.class_defs.specs.Statements.{block_of, statement}
use Rattle.class_defs.specs.Steps.{step}
use Rattle.rows_language.proofs.need_rows.needed_names.Goals as goal

ruleset forms = (the_forms, run_forms)

pub returns : goal.returns
unfolding execute_all deep statement expression values_of block_of step named_value scope_at call call_object run_body touch seen owners_at field_value create take_name new_object
returns c = record {
  none = simp forms refl;
  of_another_repository = simp forms refl;
  given = simp forms refl;
}
