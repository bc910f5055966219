use Rattle.page_format.specs.Walking.{behind_at}
use Rattle.page_format.proofs.Walks.{behind_cut, behind_low, behind_on, behind_ends}
use Rattle.page_format.proofs.walk.behind.Goals as goal

pub returns-in-None : goal.returns-in-None
returns-in-None c = behind_cut c.args.count c.loop.counter c.loop.low c.loop.rest.now (behind_at c.args.count 0 c.args.bytes.now) c.loop-test.true c.in-None.ensures c.loop.invariant

pub returns-then-at-low : goal.returns-then-at-low
returns-then-at-low c = behind_low c.args.count c.loop.counter c.loop.low c.in-Some.at c.in-Some.field-0-0-1.now c.in-Some.after.now c.loop.rest.now (behind_at c.args.count 0 c.args.bytes.now) c.loop-test.true c.in-Some.ensures c.if-at-low.true c.loop.invariant

pub loop-preserved : goal.loop-preserved
loop-preserved c = behind_on c.args.count c.loop.counter c.loop.low c.in-Some.at c.in-Some.field-0-0-1.now c.in-Some.after.now c.loop.rest.now (behind_at c.args.count 0 c.args.bytes.now) c.loop-test.true c.in-Some.ensures c.if-at-low.false c.loop.invariant

pub returns : goal.returns
returns c = behind_ends c.args.count c.loop.counter c.loop.low c.loop.rest.now (behind_at c.args.count 0 c.args.bytes.now) c.loop-test.false c.loop.invariant
