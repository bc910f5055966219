use Rattle.top_judging.proofs.StageLaws.{err_reply_map, rule_refused}
use Rattle.top_judging.specs.Stages.{FitsStore, HasSchemas, RepliesRefused, RepliesRule}
use Rattle.top_judging.proofs.judging.base_within.Goals as goal

pub returns-in-Ok-Some-clause-reply : goal.returns-in-Ok-Some-clause-reply
returns-in-Ok-Some-clause-reply g c =
    let plan = c.args.plan.now in
    let script = c.args.script.now in
    let store = c.args.found.now.store in
    let fits : FitsStore script.setup store = rw c.in-Ok-Some.field-0-is at c.in-Ok-Some.ensures.fits in
    let base = c.in-Ok-Some.base in
    let has : HasSchemas script.setup store base = rw c.in-Ok-Some.field-0-is at c.in-Ok-Some.ensures.schemas in
    err_reply_map c.judged.result (RepliesRule plan script base) (RepliesRefused plan script store) (rule_refused plan script store base fits has) c.judged.ensures.reply
