use Rattle.std.proofs.Common.{arith}
use Rattle.page_format.specs.Walking.{place_at}
use Rattle.page_format.proofs.Walks.{place_cut, place_before, place_here, place_on, place_ends, first_shorter}
use Rattle.page_format.proofs.walk.place.Goals as goal

pub returns-in-None-clause-place : goal.returns-in-None-clause-place
returns-in-None-clause-place c = place_cut c.args.count c.loop.counter c.args.slot c.loop.start c.loop.rest.now (place_at c.args.count c.args.slot c.args.entries.now) c.loop-test.true c.in-None.ensures c.loop.invariant.same

pub returns-then-slot-at-clause-place : goal.returns-then-slot-at-clause-place
returns-then-slot-at-clause-place c = place_before c.args.count c.loop.counter c.args.slot c.loop.start c.in-Some.at c.in-Some.object.now c.in-Some.after.now c.loop.rest.now (place_at c.args.count c.args.slot c.args.entries.now) c.loop-test.true c.in-Some.ensures c.if-slot-at.true c.loop.invariant.same

pub returns-then-slot-at-2-clause-place : goal.returns-then-slot-at-2-clause-place
returns-then-slot-at-2-clause-place c = place_here c.args.count c.loop.counter c.args.slot c.loop.start c.in-Some.at c.in-Some.object.now c.in-Some.after.now c.loop.rest.now (place_at c.args.count c.args.slot c.args.entries.now) c.loop-test.true c.in-Some.ensures c.if-slot-at-2.true c.loop.invariant.same

pub loop-preserved : goal.loop-preserved
loop-preserved c = record {
  same = place_on c.args.count c.loop.counter c.args.slot c.loop.start c.in-Some.at c.in-Some.object.now c.in-Some.after.now c.loop.rest.now (place_at c.args.count c.args.slot c.args.entries.now) c.loop-test.true c.in-Some.ensures (omega (arith, c.if-slot-at-2.false)) c.loop.invariant.same;
  within = let e = first_shorter c.loop.rest.now c.in-Some.at c.in-Some.object.now c.in-Some.after.now c.in-Some.ensures in omega arith;
}

pub returns-clause-place : goal.returns-clause-place
returns-clause-place c = place_ends c.args.count c.loop.counter c.args.slot c.loop.start c.loop.rest.now (place_at c.args.count c.args.slot c.args.entries.now) c.loop-test.false c.loop.invariant.same
