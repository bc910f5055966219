use Rattle.thor_top.proofs.ReplyLaws.{audit_writes, check_writes, given_as, writes_nothing}
use Rattle.top_reply.specs.declared.reply.Reply.TheVariants.{DiskFault}
use Rattle.top_statement.proofs.WrittenLaws.{refuses_of, said_of, tells_of}
use Rattle.thor_top.proofs.performing.perform.Goals as goal

pub returns-clause-says : goal.returns-clause-says
returns-clause-says g c = said_of c.answer_in_turn-answered.result.reply c.write_answer.result.reply _ c.write_answer.ensures.reply c.answer_in_turn-answered.ensures.reply

pub returns-clause-refused : goal.returns-clause-refused
returns-clause-refused g c = λ refuses. rw c.write_answer.ensures.parts
    (c.answer_in_turn-answered.ensures.kept (writes_nothing c.args.plan.command c.answer_in_turn-answered.result.reply
    (refuses_of c.answer_in_turn-answered.result.reply c.write_answer.result.reply c.write_answer.ensures.reply refuses)))

pub returns-clause-checked : goal.returns-clause-checked
returns-clause-checked g c = λ check. rw c.write_answer.ensures.parts
    (c.answer_in_turn-answered.ensures.kept (check_writes c.args.plan.command c.answer_in_turn-answered.result.reply check))

pub returns-clause-audited : goal.returns-clause-audited
returns-clause-audited g c = λ audit. rw c.write_answer.ensures.parts
    (c.answer_in_turn-answered.ensures.kept (audit_writes c.args.plan.command c.answer_in_turn-answered.result.reply audit))

pub returns-clause-histories : goal.returns-clause-histories
returns-clause-histories g c = rw c.write_answer.ensures.traces c.answer_in_turn-answered.ensures.histories

pub returns-clause-reported : goal.returns-clause-reported
returns-clause-reported g c = λ tells. rw c.write_answer.ensures.traces
    (c.answer_in_turn-answered.ensures.reported (tells_of c.answer_in_turn-answered.result.reply c.write_answer.result.reply c.write_answer.ensures.reply tells))

pub returns-clause-committed : goal.returns-clause-committed
returns-clause-committed g c = rw c.write_answer.ensures.traces
    (said_of c.answer_in_turn-answered.result.reply c.write_answer.result.reply _ c.write_answer.ensures.reply c.answer_in_turn-answered.ensures.committed)

pub returns-clause-failed : goal.returns-clause-failed
returns-clause-failed g c = λ repo is. rw c.write_answer.ensures.parts
    (c.answer_in_turn-answered.ensures.failed repo (given_as c.answer_in_turn-answered.result.reply c.write_answer.result.reply (DiskFault repo) c.write_answer.ensures.reply is))

pub returns-clause-left : goal.returns-clause-left
returns-clause-left g c = λ tells. rw c.write_answer.ensures.traces (rw c.write_answer.ensures.parts
    (c.answer_in_turn-answered.ensures.left (tells_of c.answer_in_turn-answered.result.reply c.write_answer.result.reply c.write_answer.ensures.reply tells)))
