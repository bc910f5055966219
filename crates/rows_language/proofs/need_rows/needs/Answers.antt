use Rattle.std.proofs.Common.{refl}
use Rattle.class_defs.proofs.RuleForms.{the_forms}
use Rattle.rows_language.proofs.RunForms.{deep, run_forms, statements, types}
use Rattle.class_defs.specs.Calls.{call, call_object, owners_at, run_body}
use Rattle.class_defs.specs.Expressions.{expression, values_of}
use Rattle.class_defs.specs.Objects.{field_value, named_value, scope_at, seen, touch}
use Rattle.class_defs.specs.Run.{execute_all}
use Rattle.class_defs.specs.Statements.{block_of, statement}
use Rattle.class_defs.specs.Steps.{step}
use Rattle.rows_language.proofs.NeedLevels.{asks_a_part_of_its_part, asks_its_part, from_the_top}
use Rattle.rows_language.proofs.need_rows.needs.Goals as goal

ruleset forms = (the_forms, run_forms)

ruleset deep_forms = (the_forms, types, statements, from_the_top, asks_its_part, asks_a_part_of_its_part)

pub returns : goal.returns
unfolding execute_all deep statement expression values_of block_of step named_value scope_at call call_object run_body touch seen owners_at field_value
returns c = record {
  root = simp forms refl;
  part = simp forms refl;
  part_of_part = simp deep_forms refl;
  deep = simp deep_forms refl;
}
