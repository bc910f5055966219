use Rattle.class_defs.specs.declared.machine.Flow.TheVariants.{Next}
use Rattle.paused_eval.specs.Copies.{state_with}
use Rattle.paused_eval.proofs.Ending.{if_ok}
use Rattle.paused_eval.proofs.Standing.{done_stands, ended_at, ended_well}
use Rattle.paused_eval.proofs.paused.Paused.answer.Goals as goal

pub returns-in-Ended-clause-answers : goal.returns-in-Ended-clause-answers
returns-in-Ended-clause-answers c = λ s f tx given l names came.
    let h = ended_well s f tx given c.args.came l _ c.in-Ended.is came in
    if_ok c.done.result _ _ (ended_at c.args.epoch s f tx given _ _ h.1) (c.done.ensures.answers names h.0)

pub returns-in-Ended-clause-stands : goal.returns-in-Ended-clause-stands
returns-in-Ended-clause-stands c = λ s f tx given l names came. done_stands c.done.result c.args.epoch Next (state_with c.args.machine.now c.args.copies.now.cache names) _ (c.done.ensures.answers names Next)
