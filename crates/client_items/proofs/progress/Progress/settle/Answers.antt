use Rattle.std.proofs.Common.{arith, inr, length, sym}
use Rattle.client_items.proofs.Settling.{settles_as}
use Rattle.client_items.proofs.progress.Progress.settle.Goals as goal

pub returns-then-is_unknown : goal.returns-then-is_unknown
returns-then-is_unknown c =
    let s = settles_as c.self.inside.client (length c.self.inside.items) c.self.inside.ended c.set.new.self c.args.self.now _ c.in-Some.was.now c.args.settled c.self.view_is (omega arith) (sym c.in-Some.ensures.value) (c.is_unknown.ensures.unknown c.if-is_unknown.true) c.set.ensures
    in record { goes = inr s.settles; told = inr s; settles = λ held. s }
