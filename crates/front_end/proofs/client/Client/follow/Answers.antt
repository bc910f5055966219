use Rattle.front_end.proofs.client.Client.follow.Goals as goal
use Rattle.front_end.specs.Rules.{MayFollow}
use Rattle.front_end.specs.Stepping.{GoesOnBy}
use Rattle.front_end.specs.declared.rule.Counted.{Counted}
use Rattle.std.proofs.Common.{subst}
use Rattle.std.proofs.lemmas.Result.{IfOk-weaker}

pub returns-in-GoOn-clause-moves : goal.returns-in-GoOn-clause-moves
returns-in-GoOn-clause-moves g c = λ w may helps free. IfOk-weaker c.go_on.result _ _ (λ n tries. tries (subst (λ (r : Counted). GoesOnBy r c.args.self.now.duties) c.in-GoOn.is free)) (c.go_on.ensures.moves w (subst (λ (r : Counted). MayFollow r c.args.self.now.held) c.in-GoOn.is may))

pub returns-in-Await-clause-as_sent : goal.returns-in-Await-clause-as_sent
returns-in-Await-clause-as_sent g c = c.await_reply.ensures.as_sent _

pub returns-in-CatchUp-clause-as_sent : goal.returns-in-CatchUp-clause-as_sent
returns-in-CatchUp-clause-as_sent g c = c.catch_up.ensures.as_sent _
