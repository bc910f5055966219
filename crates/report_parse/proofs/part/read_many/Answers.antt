use Rattle.std.proofs.Common.{length, ◌-◌}
use Rattle.report_parse.specs.Reading.{many}
use Rattle.report_parse.proofs.Loop.{goes_on, ends, is_done}
use Rattle.report_parse.proofs.part.read_many.Goals as goal

pub loop-preserved : goal.loop-preserved
loop-preserved g c =
    rw c.in_ok-push-in-Ok.ensures.items (goes_on g.T.Part.reading c.loop.parts.items (length c.args.bytes.now) c.loop.counter c.loop.rest.now c.in-Ok.part c.in-Ok.after.now (many g.T.Part.reading (length c.args.bytes.now) c.args.bytes.now) c.loop-test.true c.in-Ok.ensures c.loop.invariant)

pub returns-in-Err-Absent : goal.returns-in-Err-Absent
returns-in-Err-Absent g c =
    rw c.from_vec.ensures (ends g.T.Part.reading c.loop.parts.items (length c.args.bytes.now - c.loop.counter) c.loop.rest.now (many g.T.Part.reading (length c.args.bytes.now) c.args.bytes.now) (rw c.in-Err-Absent.field-0-is at c.in-Err-Absent.ensures) c.loop.invariant)

pub returns : goal.returns
returns g c = rw c.from_vec-2.ensures (is_done g.T.Part.reading c.loop.parts.items (length c.args.bytes.now) c.loop.counter c.loop.rest.now (many g.T.Part.reading (length c.args.bytes.now) c.args.bytes.now) c.loop-test.false c.loop.invariant)
