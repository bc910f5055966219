use Rattle.front_end.proofs.Showing.{goes_shown}
use Rattle.front_end.proofs.Stepping.{item_is, takes_down}
use Rattle.front_end.proofs.front_end.FrontEnd.make_counted.Goals as goal

pub returns-clause-shown : goal.returns-clause-shown
returns-clause-shown g c = λ calls. goes_shown _ _ _ _ _ calls _ _ _ c.in_ok-news.ensures.shown c.take_down.ensures.told

pub returns-clause-moves : goal.returns-clause-moves
returns-clause-moves g c = λ may helps free. takes_down _ _ _ c.args.self.now (record { who = c.task-task.result.who; tries = c.task-task.result.tries }) c.take_down.new.self c.follow.new.self _ (item_is _ _ _ _ c.task-task.ensures.who c.task-task.ensures.tries) c.take_down.ensures.client c.take_down.result (c.in_ok-news.ensures.moves c.args.self.now.writes may helps free) c.take_down.ensures.told c.take_down.ensures.ends c.in_ok-news.ensures.as_sent
