use Rattle.top_judging.proofs.StageLaws.{err_reply_map, over_is_none, read_within}
use Rattle.top_judging.specs.Stages.{RepliesText, RepliesOver}
use Rattle.top_judging.proofs.reading.read_bytes.Goals as goal

pub returns-in-Ok-clause-script : goal.returns-in-Ok-clause-script
returns-in-Ok-clause-script c =
    read_within c.args.bytes.now c.in-Ok.script c.within_limits.result c.in-Ok.ensures.read c.in-Ok.ensures.few
    c.within_limits.ensures.script c.within_limits.ensures.clients c.within_limits.ensures.events

pub returns-in-Ok-clause-reply : goal.returns-in-Ok-clause-reply
returns-in-Ok-clause-reply c =
    err_reply_map c.within_limits.result (RepliesOver c.in-Ok.script) (RepliesText c.args.bytes.now)
    (over_is_none c.args.bytes.now c.in-Ok.script c.in-Ok.ensures.read) c.within_limits.ensures.reply
