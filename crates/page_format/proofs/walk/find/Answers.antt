use Rattle.page_format.specs.Walking.{pairs_of}
use Rattle.page_format.proofs.Walks.{found_in, find_none, find_here, find_other, find_ends}
use Rattle.page_format.proofs.walk.find.Goals as goal

pub returns-in-None : goal.returns-in-None
returns-in-None c = find_none c.args.count c.loop.counter c.args.slot c.loop.rest.now (found_in c.args.slot (pairs_of c.args.count c.args.entries.now)) c.loop-test.true c.in-None.ensures c.loop.invariant

pub returns-then-at-slot : goal.returns-then-at-slot
returns-then-at-slot c = find_here c.args.count c.loop.counter c.args.slot c.in-Some.at c.in-Some.object.now c.in-Some.after.now c.loop.rest.now (found_in c.args.slot (pairs_of c.args.count c.args.entries.now)) c.loop-test.true c.in-Some.ensures c.if-at-slot.true c.loop.invariant

pub loop-preserved : goal.loop-preserved
loop-preserved c = find_other c.args.count c.loop.counter c.args.slot c.in-Some.at c.in-Some.object.now c.in-Some.after.now c.loop.rest.now (found_in c.args.slot (pairs_of c.args.count c.args.entries.now)) c.loop-test.true c.in-Some.ensures c.if-at-slot.false c.loop.invariant

pub returns : goal.returns
returns c = find_ends c.args.count c.loop.counter c.args.slot c.loop.rest.now (found_in c.args.slot (pairs_of c.args.count c.args.entries.now)) c.loop-test.false c.loop.invariant
