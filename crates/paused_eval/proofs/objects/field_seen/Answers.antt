use Rattle.lang_small_steps.specs.Reaches.{over}
use Rattle.paused_eval.proofs.FieldPlaces.{field_value_is}
use Rattle.paused_eval.proofs.objects.field_seen.Goals as goal
use Rattle.paused_eval.specs.Copies.{at_hand, state}

pub returns-in-Some : goal.returns-in-Some
returns-in-Some c = let s = c.args.program.now.schema.now in record {
  value = field_value_is (over s (at_hand s c.args.cache.now)) (state c.args.machine.now c.args.cache.now) c.in-Some.this c.args.name.now
      c.field_named-index.result c.type_at-kind.result c.seen_field-found.result c.fitted_or_beginning.result
      c.in-Some.is c.field_named-index.ensures c.type_at-kind.ensures c.seen_field-found.ensures c.fitted_or_beginning.ensures;
}
