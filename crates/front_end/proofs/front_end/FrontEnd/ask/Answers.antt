use Rattle.front_end.proofs.Moving.{falls_behind}
use Rattle.front_end.proofs.Showing.{goes_shown}
use Rattle.front_end.proofs.Stepping.{item_is, takes_down}
use Rattle.front_end.proofs.front_end.FrontEnd.ask.Goals as goal
use Rattle.std.proofs.lemmas.Result.{on_ok_weaker}

pub returns-clause-falls : goal.returns-clause-falls
returns-clause-falls g c = λ asks. on_ok_weaker c.take_down.result (λ never. falls_behind c.args.self.now c.take_down.new.self c.ask.new.self c.task-task.result.tries never c.take_down.ensures.each c.take_down.ensures.uncounted c.task-task.ensures.tries (c.in_ok-news.ensures.owed asks)) c.take_down.ensures.left

pub returns-clause-shown : goal.returns-clause-shown
returns-clause-shown g c = goes_shown _ _ _ _ _ _ _ _ _ c.in_ok-news.ensures.shown c.take_down.ensures.told

pub returns-clause-moves : goal.returns-clause-moves
returns-clause-moves g c = λ asks. takes_down _ _ _ c.args.self.now (record { who = c.task-task.result.who; tries = c.task-task.result.tries }) c.take_down.new.self c.ask.new.self _ (item_is _ _ _ _ c.task-task.ensures.who c.task-task.ensures.tries) c.take_down.ensures.client c.take_down.result (c.in_ok-news.ensures.moves asks) c.take_down.ensures.told c.take_down.ensures.ends (c.in_ok-news.ensures.as_sent _)
