use Rattle.std.proofs.Common.{◌≡◌, ◌∙◌, ap, arith}
use Rattle.report_summary.specs.Summary.{sum_of}
use Rattle.report_summary.proofs.accounts.sum_of.Goals as goal

pub returns : goal.returns
returns c =
    let e : c.loop-i.i ≡ 16 = omega (arith, c.loop-i-test.false, c.loop-i.auto.i-end) in
    c.loop-i.invariant ∙ ap (sum_of c.args.classes.now c.args.store.now) e
