use Rattle.std.proofs.Common.{sym, true}
use Rattle.validation_queue.proofs.Marking.{marked}
use Rattle.validation_queue.specs.declared.member.Member.{Member}
use Rattle.validation_queue.proofs.queue.Queue.settle.Goals as goal

pub returns-in-Some : goal.returns-in-Some
returns-in-Some c =
    let m : Member = c.in-Some.member.now in
    let w : Member = record m { decided = true } in
    rw (← c.self.view_is, c.if-commit.true) (marked c.self.inside.threshold c.self.inside.members.entries (c.get_mut.follows.lender w).entries c.args.tx m c.get_mut.ensures.ordered (sym c.in-Some.ensures.value) (c.get_mut.follows.holds w).0)
