use Rattle.thor_top.proofs.ReplyLaws.{given_as, gives}
use Rattle.top_reply.specs.declared.reply.Reply.TheVariants as reply
use Rattle.top_statement.proofs.WrittenLaws.{refuses_of, said_of, tells_of}
use Rattle.thor_top.proofs.top.thor.Goals as goal

pub returns-clause-report : goal.returns-clause-report
returns-clause-report g c = λ finished text. gives c.answer-answered.result.reply c.write_answer.result.reply (reply.Report finished text) _ c.write_answer.ensures.reply c.answer-answered.ensures.reply

pub returns-clause-summary : goal.returns-clause-summary
returns-clause-summary g c = λ finished text. gives c.answer-answered.result.reply c.write_answer.result.reply (reply.Summary finished text) _ c.write_answer.ensures.reply c.answer-answered.ensures.reply

pub returns-clause-ok : goal.returns-clause-ok
returns-clause-ok g c = gives c.answer-answered.result.reply c.write_answer.result.reply reply.Accepted _ c.write_answer.ensures.reply c.answer-answered.ensures.reply

pub returns-clause-rule : goal.returns-clause-rule
returns-clause-rule g c = λ refusal. gives c.answer-answered.result.reply c.write_answer.result.reply (reply.Refused refusal) _ c.write_answer.ensures.reply c.answer-answered.ensures.reply

pub returns-clause-limit : goal.returns-clause-limit
returns-clause-limit g c = λ limit. gives c.answer-answered.result.reply c.write_answer.result.reply (reply.Limit limit) _ c.write_answer.ensures.reply c.answer-answered.ensures.reply

pub returns-clause-disk : goal.returns-clause-disk
returns-clause-disk g c = λ repo. gives c.answer-answered.result.reply c.write_answer.result.reply (reply.DiskFault repo) _ c.write_answer.ensures.reply c.answer-answered.ensures.reply

pub returns-clause-damage : goal.returns-clause-damage
returns-clause-damage g c = λ repo disk place. gives c.answer-answered.result.reply c.write_answer.result.reply (reply.Damaged repo disk place) _ c.write_answer.ensures.reply c.answer-answered.ensures.reply

pub returns-clause-words : goal.returns-clause-words
returns-clause-words g c = gives c.answer-answered.result.reply c.write_answer.result.reply reply.Words _ c.write_answer.ensures.reply c.answer-answered.ensures.reply

pub returns-clause-source : goal.returns-clause-source
returns-clause-source g c = gives c.answer-answered.result.reply c.write_answer.result.reply reply.SourceFault _ c.write_answer.ensures.reply c.answer-answered.ensures.reply

pub returns-clause-refused : goal.returns-clause-refused
returns-clause-refused g c = λ refuses. rw c.write_answer.ensures.parts
    (c.answer-answered.ensures.kept (refuses_of c.answer-answered.result.reply c.write_answer.result.reply c.write_answer.ensures.reply refuses))

pub returns-clause-checked : goal.returns-clause-checked
returns-clause-checked g c = λ p is check. rw c.write_answer.ensures.parts (c.answer-answered.ensures.checked p is check)

pub returns-clause-audited : goal.returns-clause-audited
returns-clause-audited g c = λ p is audit. rw c.write_answer.ensures.parts (c.answer-answered.ensures.audited p is audit)

pub returns-clause-legal : goal.returns-clause-legal
returns-clause-legal g c = gives c.answer-answered.result.reply c.write_answer.result.reply reply.Legal _ c.write_answer.ensures.reply c.answer-answered.ensures.reply

pub returns-clause-disagrees : goal.returns-clause-disagrees
returns-clause-disagrees g c = λ at. gives c.answer-answered.result.reply c.write_answer.result.reply (reply.Disagrees at) _ c.write_answer.ensures.reply c.answer-answered.ensures.reply

pub returns-clause-no_report : goal.returns-clause-no_report
returns-clause-no_report g c = λ line. gives c.answer-answered.result.reply c.write_answer.result.reply (reply.NoReport line) _ c.write_answer.ensures.reply c.answer-answered.ensures.reply

pub returns-clause-histories : goal.returns-clause-histories
returns-clause-histories g c = λ p is turn. rw c.write_answer.ensures.traces (c.answer-answered.ensures.histories p is turn)

pub returns-clause-reported : goal.returns-clause-reported
returns-clause-reported g c = λ p is turn tells. rw c.write_answer.ensures.traces
    (c.answer-answered.ensures.reported p is turn (tells_of c.answer-answered.result.reply c.write_answer.result.reply c.write_answer.ensures.reply tells))

pub returns-clause-committed : goal.returns-clause-committed
returns-clause-committed g c = rw c.write_answer.ensures.traces
    (said_of c.answer-answered.result.reply c.write_answer.result.reply _ c.write_answer.ensures.reply c.answer-answered.ensures.committed)

pub returns-clause-failed : goal.returns-clause-failed
returns-clause-failed g c = λ repo is. rw c.write_answer.ensures.parts
    (c.answer-answered.ensures.failed repo (given_as c.answer-answered.result.reply c.write_answer.result.reply (reply.DiskFault repo) c.write_answer.ensures.reply is))

pub returns-clause-left : goal.returns-clause-left
returns-clause-left g c = λ p is turn tells. rw c.write_answer.ensures.traces (rw c.write_answer.ensures.parts
    (c.answer-answered.ensures.left p is turn (tells_of c.answer-answered.result.reply c.write_answer.result.reply c.write_answer.ensures.reply tells)))
