use Rattle.std.proofs.lemmas.Result.{err_from_is_err_and}
use Rattle.log_codec.specs.Format.{several}
use Rattle.log_codec.proofs.Loops.{goes_on, ends, is_done}
use Rattle.log_codec.proofs.lists.read_several.Goals as goal

pub returns-in_err-value : goal.returns-in_err-value
returns-in_err-value g c =
    let p = err_from_is_err_and c.from_residual.result c.from_residual.ensures.1 in
    rw (p.1, p.2) (ends g.T.Spelled.format.reading c.in_err-value.field-0.0 c.loop.values.items c.args.count c.loop.counter c.loop.rest.now (several g.T.Spelled.format.reading c.args.count c.args.bytes.now) c.loop-test.true c.in_err-value.ensures c.loop.invariant)

pub loop-preserved : goal.loop-preserved
loop-preserved g c =
    rw c.in_ok-push.ensures.items (goes_on g.T.Spelled.format.reading c.loop.values.items c.args.count c.loop.counter c.loop.rest.now c.in_ok-value.value c.in_ok-value.after.now (several g.T.Spelled.format.reading c.args.count c.args.bytes.now) c.loop-test.true c.in_ok-value.ensures c.loop.invariant)

pub returns : goal.returns
returns g c = rw c.from_vec.ensures (is_done g.T.Spelled.format.reading c.loop.values.items c.args.count c.loop.counter c.loop.rest.now (several g.T.Spelled.format.reading c.args.count c.args.bytes.now) c.loop-test.false c.loop.invariant)
