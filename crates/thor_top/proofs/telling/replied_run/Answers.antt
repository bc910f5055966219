use Rattle.thor_top.proofs.StageLaws.{replied_of}
use Rattle.thor_top.proofs.telling.replied_run.Goals as goal

pub returns-clause-reply : goal.returns-clause-reply
returns-clause-reply g c = replied_of c.report-told.result c.reply_of.result _ c.reply_of.ensures c.report-told.ensures.reported

pub returns-clause-lines : goal.returns-clause-lines
returns-clause-lines g c = replied_of c.report-told.result c.reply_of.result _ c.reply_of.ensures c.report-told.ensures.lines
