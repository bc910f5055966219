use Rattle.std.proofs.Common.{length, refl, ◌-◌}
use Rattle.audit_check.proofs.Found.{one_behind_at}
use Rattle.audit_check.proofs.standings.standings_of.Goals as goal

pub loop-behind-preserved : goal.loop-behind-preserved
loop-behind-preserved c =
    one_behind_at c.loop-behind.standings c.put.new.self c.loop-behind.least c.put-in-loop-behind.new.self c.args.history.now c.loop-behind.behind (length c.args.history.now - 1 - c.loop-behind.behind) c.index-history-place.result c.is_below.result
    c.loop-behind-test.true refl c.index-history-place.is c.in_ok-put.ensures.low c.is_below.ensures c.in_ok-put.ensures.put c.in_ok-put-2.ensures c.loop-behind.invariant
