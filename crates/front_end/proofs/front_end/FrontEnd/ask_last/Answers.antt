use Rattle.client_state.specs.Moving.{Unsent}
use Rattle.front_end.proofs.Calling.{on_any, shown_down}
use Rattle.front_end.proofs.Moving.{keeps_behind, nothing_owed}
use Rattle.front_end.proofs.Showing.{goes_shown}
use Rattle.front_end.proofs.front_end.FrontEnd.ask_last.Goals as goal
use Rattle.std.proofs.lemmas.Result.{on_ok_weaker}

pub returns-clause-keeps : goal.returns-clause-keeps
returns-clause-keeps g c = on_ok_weaker c.take_down.result (λ never. keeps_behind c.args.self.now c.take_down.new.self c.ask_last.new.self never c.take_down.ensures.each c.take_down.ensures.uncounted (nothing_owed c.args.self.now.client c.ask_last.new.self c.ask_last.ensures.rest)) c.take_down.ensures.left

pub returns-clause-shown : goal.returns-clause-shown
returns-clause-shown g c = goes_shown _ _ _ _ _ _ _ _ _ c.in_ok-news.ensures.shown c.take_down.ensures.told

pub returns-clause-moves : goal.returns-clause-moves
returns-clause-moves g c = shown_down _ _ _ c.args.self.now.client.held c.ask_last.new.self c.take_down.new.self.client c.take_down.ensures.client c.take_down.result (λ s. Unsent (c.in_ok-news.ensures.moves s))

pub returns-clause-as_sent : goal.returns-clause-as_sent
returns-clause-as_sent g c = on_any c.take_down.result _ (record { came = c.in_ok-news.news; goes = c.take_down.ensures.told; as_sent = c.in_ok-news.ensures.as_sent })
