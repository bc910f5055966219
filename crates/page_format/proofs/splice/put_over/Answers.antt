use Rattle.std.proofs.Common.{arith}
use Rattle.page_format.proofs.Splices.{over_in}
use Rattle.page_format.proofs.splice.put_over.Goals as goal

pub returns-clause-stored : goal.returns-clause-stored
returns-clause-stored c =
    let p = c.place-start.ensures in
    (over_in c.args.count c.args.slot c.args.entries.now c.args.object.now c.requires c.place-start.result c.put_at.new.entries p.place p.ordered p.within c.if-end-start.false (omega (arith, c.ranges.slot)) c.put_at.ensures).0

pub returns-clause-pairs : goal.returns-clause-pairs
returns-clause-pairs c = λ _.
    let p = c.place-start.ensures in
    (over_in c.args.count c.args.slot c.args.entries.now c.args.object.now c.requires c.place-start.result c.put_at.new.entries p.place p.ordered p.within c.if-end-start.false (omega (arith, c.ranges.slot)) c.put_at.ensures).1
