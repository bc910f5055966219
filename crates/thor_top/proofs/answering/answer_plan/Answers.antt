use Rattle.thor_top.proofs.HistoryLaws.{not_in_turn}
use Rattle.thor_top.proofs.answering.answer_plan.Goals as goal

pub returns-in-Run-clause-histories : goal.returns-in-Run-clause-histories
returns-in-Run-clause-histories g c = λ turn. absurd (not_in_turn c.args.plan.now.command c.in-Run.is turn)

pub returns-in-Run-clause-reported : goal.returns-in-Run-clause-reported
returns-in-Run-clause-reported g c = λ turn. absurd (not_in_turn c.args.plan.now.command c.in-Run.is turn)

pub returns-in-Run-clause-left : goal.returns-in-Run-clause-left
returns-in-Run-clause-left g c = λ turn. absurd (not_in_turn c.args.plan.now.command c.in-Run.is turn)
