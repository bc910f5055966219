use Rattle.top_judging.proofs.StageLaws.{err_reply_map, read_from, unread}
use Rattle.top_judging.specs.Stages.{RepliesUnread, RepliesText}
use Rattle.top_judging.proofs.reading.read_source.Goals as goal

pub returns-in-Ok-clause-script : goal.returns-in-Ok-clause-script
returns-in-Ok-clause-script g c =
    read_from _ _ c.in-Ok.bytes c.as_slice.result.now c.read_bytes.result
    (record { took = c.in-Ok.ensures.took; at_end = c.in-Ok.ensures.end; short = c.in-Ok.ensures.within }) c.as_slice.ensures c.read_bytes.ensures.script

pub returns-in-Ok-clause-reply : goal.returns-in-Ok-clause-reply
returns-in-Ok-clause-reply g c =
    err_reply_map c.read_bytes.result (RepliesText c.as_slice.result.now) (RepliesUnread _ _)
    (unread _ _ c.in-Ok.bytes c.as_slice.result.now (record { took = c.in-Ok.ensures.took; at_end = c.in-Ok.ensures.end; short = c.in-Ok.ensures.within }) c.as_slice.ensures) c.read_bytes.ensures.reply
