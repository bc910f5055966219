use Rattle.std.proofs.Common.{slice_get, ◌-◌, arith}
use Rattle.page_format.specs.Walking.{pairs_of}
use Rattle.page_format.proofs.Walks.{nth_past, nth_none, nth_on, nth_here}
use Rattle.page_format.proofs.walk.nth.Goals as goal

pub returns-then-rank-count : goal.returns-then-rank-count
returns-then-rank-count c = nth_past c.args.count c.args.rank c.args.entries.now c.if-rank-count.true

pub returns-in-None : goal.returns-in-None
returns-in-None c = nth_none c.args.count c.loop.counter (c.args.rank - c.loop.counter) c.loop.rest.now (slice_get (pairs_of c.args.count c.args.entries.now) c.args.rank) (omega arith) c.in-None.ensures c.loop.invariant

pub loop-preserved : goal.loop-preserved
loop-preserved c = nth_on c.args.count c.loop.counter c.args.rank (c.in-Some.field-0-0.0, c.in-Some.field-0-0.1.now) c.in-Some.after.now c.loop.rest.now (slice_get (pairs_of c.args.count c.args.entries.now) c.args.rank) c.loop-test.true (omega arith) c.in-Some.ensures c.loop.invariant

pub returns-in-None-first_of : goal.returns-in-None-first_of
returns-in-None-first_of c = nth_none c.args.count c.loop.counter (c.args.rank - c.loop.counter) c.loop.rest.now (slice_get (pairs_of c.args.count c.args.entries.now) c.args.rank) (omega arith) c.in-None-first_of.ensures c.loop.invariant

pub returns-in-Some-first_of : goal.returns-in-Some-first_of
returns-in-Some-first_of c = nth_here c.args.count c.loop.counter c.args.rank (c.in-Some-first_of.object.0, c.in-Some-first_of.object.1.now) c.in-Some-first_of.field-0-1.now c.loop.rest.now (slice_get (pairs_of c.args.count c.args.entries.now) c.args.rank) (omega arith) c.loop-test.false c.in-Some-first_of.ensures c.loop.invariant
