use Rattle.std.proofs.Common.{sym, ◌∙◌, ap, subst, IfOk}
use Rattle.method_eval.specs.Names.{listed}
use Rattle.method_eval.specs.declared.view.View.{View}
use Rattle.serial_model.specs.Replaying.{Settles}
use Rattle.serial_model.specs.Whole.{plain}
use Rattle.serial_model.proofs.WholeStore.{done_result, done_versions, listed_supply, need_ran, need_name_ran}
use Rattle.serial_model.proofs.running.run_on_current.Goals as goal

pub returns-in-Done-clause-ran : goal.returns-in-Done-clause-ran
returns-in-Done-clause-ran c =
    done_result c.args.schema.now c.args.tx.now c.args.names.now c.args.view.now (listed c.args.names.now) c.in-Done.answer c.in-Done.reads c.in-Done.fresh c.in-Done.writes c.settle.new.view c.settle.result
    c.requires.current (listed_supply c.args.names.now) (sym c.in-Done.is ∙ c.in_ok-answer.ensures.ran) (subst (λ (v : View). IfOk c.settle.result (λ t. Settles c.args.names.now c.in-Done.fresh c.in-Done.writes v c.in-Done.answer t c.settle.new.view)) c.eval_with.ensures.view c.settle.ensures)

pub returns-in-Need-clause-ran : goal.returns-in-Need-clause-ran
returns-in-Need-clause-ran c = λ roots. (need_ran c.args.schema.now c.args.tx.now c.args.names.now roots c.args.view.now (listed c.args.names.now) c.in-Need.oref c.in-Need.owners c.requires.current (listed_supply c.args.names.now) (sym c.in-Need.is ∙ c.in_ok-answer.ensures.ran), ap (plain roots) c.eval_with.ensures.view)

pub returns-clause-ran : goal.returns-clause-ran
returns-clause-ran c = λ roots. (need_name_ran c.args.schema.now c.args.tx.now c.args.names.now roots c.args.view.now (listed c.args.names.now) c.in-NeedName.repo c.requires.current (listed_supply c.args.names.now) (sym c.in-NeedName.is ∙ c.in_ok-answer.ensures.ran), ap (plain roots) c.eval_with.ensures.view)

pub returns-in-Done-clause-versions : goal.returns-in-Done-clause-versions
returns-in-Done-clause-versions c =
    done_versions c.args.schema.now c.args.tx.now c.args.names.now c.args.view.now (listed c.args.names.now) c.in-Done.answer c.in-Done.reads c.in-Done.fresh c.in-Done.writes c.settle.new.view c.settle.result
    (sym c.in-Done.is ∙ c.in_ok-answer.ensures.ran) (subst (λ (v : View). IfOk c.settle.result (λ t. Settles c.args.names.now c.in-Done.fresh c.in-Done.writes v c.in-Done.answer t c.settle.new.view)) c.eval_with.ensures.view c.settle.ensures)
