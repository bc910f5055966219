use Rattle.front_end.proofs.Stepping.{by_anew}
use Rattle.front_end.proofs.client.Client.prepare_held.Goals as goal
use Rattle.std.proofs.Common.{refl}

pub returns-then-not-holds_written-clause-moves : goal.returns-then-not-holds_written-clause-moves
returns-then-not-holds_written-clause-moves g c = λ item none tx drawn apart of idle. by_anew _ item _ c.args.self.now.held c.begin_anew.new.self.held _ _ _ _ c.begin_anew.ensures.less c.begin_anew.ensures.phase refl c.begin_anew.ensures.duties _

pub returns-clause-moves : goal.returns-clause-moves
returns-clause-moves g c = λ item none tx drawn apart of idle. c.prepare_first.ensures.moves item none tx drawn apart (c.if-not-holds_written.ensures.0 refl) of idle
