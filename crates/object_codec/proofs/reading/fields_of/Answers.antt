use Rattle.object_codec.specs.Reading.{fields_at}
use Rattle.object_codec.proofs.Loop.{goes_on, ends, is_done}
use Rattle.object_codec.proofs.reading.fields_of.Goals as goal

pub returns-in-Err : goal.returns-in-Err
returns-in-Err c = ends c.in-Err.fault c.loop.fields.items c.args.count c.loop.counter c.loop.rest.now (fields_at c.args.count c.args.bytes.now) c.loop-test.true c.in-Err.ensures c.loop.invariant

pub loop-preserved : goal.loop-preserved
loop-preserved c =
    rw c.in_ok-push-in-Ok.ensures.items (goes_on c.loop.fields.items c.args.count c.loop.counter c.loop.rest.now c.in-Ok.field c.in-Ok.after.now (fields_at c.args.count c.args.bytes.now) c.loop-test.true c.in-Ok.ensures c.loop.invariant)

pub returns : goal.returns
returns c = rw c.from_vec.ensures (is_done c.loop.fields.items c.args.count c.loop.counter c.loop.rest.now (fields_at c.args.count c.args.bytes.now) c.loop-test.false c.loop.invariant)
