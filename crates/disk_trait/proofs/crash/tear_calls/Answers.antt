use Rattle.std.proofs.Common.{sym, ◌∙◌, rules, length, ◌≡◌}
use Rattle.disk_trait.proofs.TornCalls.{torn_done}
use Rattle.disk_trait.proofs.crash.tear_calls.Goals as goal

pub returns : goal.returns
returns c =
    let empty : length c.loop-call.left.now ≡ 0 = search rules in
    sym (torn_done c.args.pick c.loop-call.left.now c.loop-call.bytes empty) ∙ c.loop-call.invariant
