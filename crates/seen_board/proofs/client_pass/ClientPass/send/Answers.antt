use Rattle.std.proofs.Common.{ap, ◌∙◌}
use Rattle.seen_board.specs.Knowledge.{at}
use Rattle.seen_board.proofs.Owned.{grown_else, grown_here}
use Rattle.seen_board.proofs.client_pass.ClientPass.send.Goals as goal

pub returns-clause-sent : goal.returns-clause-sent
returns-clause-sent g c = ap (λ m. at m.0.knows.calls c.args.self.now.client) c.send_as.ensures.sent ∙ grown_here c.args.self.now.seat.me.0.knows.calls c.args.self.now.client c.args.call.now

pub returns-clause-others : goal.returns-clause-others
returns-clause-others g c = λ k n. ap (λ m. at m.0.knows.calls k) c.send_as.ensures.sent ∙ grown_else c.args.self.now.seat.me.0.knows.calls c.args.self.now.client k c.args.call.now n
