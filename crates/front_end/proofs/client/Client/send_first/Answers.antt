use Rattle.front_end.proofs.Stepping.{by_anew}
use Rattle.front_end.proofs.client.Client.send_first.Goals as goal
use Rattle.std.proofs.Common.{refl}

pub returns-then-not-is_in_session-clause-moves : goal.returns-then-not-is_in_session-clause-moves
returns-then-not-is_in_session-clause-moves g c = λ item none tx drawn apart wrote of idle. by_anew _ item _ c.args.self.now.held c.begin_anew.new.self.held _ _ _ _ c.begin_anew.ensures.less c.begin_anew.ensures.phase refl c.begin_anew.ensures.duties _

pub returns-clause-moves : goal.returns-clause-moves
returns-clause-moves g c = λ item none tx. c.send_in_session.ensures.moves item none tx (c.if-not-is_in_session.ensures.joined refl)
