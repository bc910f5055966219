use Rattle.std.proofs.Common.{refl}
use Rattle.class_defs.proofs.RuleForms.{the_forms}
use Rattle.rows_language.proofs.RunForms.{deep, statements, types}
use Rattle.class_defs.specs.Calls.{call, call_object, owners_at, run_body}
use Rattle.class_defs.specs.Expressions.{expression, values_of}
use Rattle.class_defs.specs.Objects.{field_value, named_value, scope_at, seen, touch}
use Rattle.class_defs.specs.Run.{execute_all}
use Rattle.class_defs.specs.Statements.{block_of, statement}
use Rattle.class_defs.specs.Steps.{step}
use Rattle.rows_language.proofs.NeedLevels.{asks_itself, asks_itself_twice, from_the_top}
use Rattle.rows_language.proofs.need_rows.needs_behind_calls_of_itself.Goals as goal

ruleset forms = (the_forms, types, statements, from_the_top, asks_itself, asks_itself_twice)

pub returns : goal.returns
unfolding execute_all deep statement expression values_of block_of step named_value scope_at call call_object run_body touch seen owners_at field_value
returns c = record {
  once = simp forms refl;
  twice = simp forms refl;
}
