use Rattle.model_repository.proofs.ByReading.{connects, is_step, with_added}
use Rattle.model_repository.specs.Reading.{IsAnswer}
use Rattle.std.proofs.Common.{ap, arith, subst, sym, ◌∙◌}
use Rattle.std.specs.Prelude.{Ok}
use Rattle.model_reading.specs.Items.{trace_of}
use Rattle.model_reading.specs.Opening.{base_of}
use Rattle.model_repository.proofs.answers.connect.Goals as goal

pub returns : goal.returns
returns c = record {
  ok = subst IsAnswer (sym c.marked.ensures.answer) tt;
  step_is = is_step _ _ _ _ (connects (base_of c.args.opening.now) 0 (trace_of c.args.items.now) c.in_ok-reading.reading c.in_ok-reading.ensures c.args.client c.in_ok-session.session c.in_ok-session.ensures (omega arith))
      (with_added _ _ _ _ (c.marked.ensures.answer ∙ ap Ok c.in_ok-welcome.ensures) c.marked.ensures.trace);
}
