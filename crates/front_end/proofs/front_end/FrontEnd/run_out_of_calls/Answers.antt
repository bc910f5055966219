use Rattle.client_items.specs.Ending.{ends_try}
use Rattle.client_items.specs.Meanings.{is_ended}
use Rattle.client_state.specs.Pending.{pending_in}
use Rattle.front_end.proofs.Showing.{used_up}
use Rattle.front_end.proofs.Stepping.{by_rest_kept, none_undecided, takes_down, takes_none}
use Rattle.front_end.proofs.front_end.FrontEnd.run_out_of_calls.Goals as goal
use Rattle.front_end.specs.Stepping.{present_of}
use Rattle.std.proofs.Common.{ap, inl, refl}
use Rattle.std.proofs.lemmas.Result.{on_ok_weaker}

pub returns-clause-falls : goal.returns-clause-falls
returns-clause-falls g c = λ _. on_ok_weaker c.take_down.result (λ down. down.falls _ _) (c.take_down.ensures.tried (ap ends_try c.end_try-news.ensures.news) (c.if-has_ended.ensures.left refl))

pub returns-clause-shown : goal.returns-clause-shown
returns-clause-shown g c = λ repos most. used_up _ _ _ repos _ _ _ _ _ c.end_try-news.ensures.news most c.take_down.ensures.told

pub returns-clause-moves : goal.returns-clause-moves
returns-clause-moves g c = takes_down _ _ _ c.args.self.now (present_of c.args.self.now) c.take_down.new.self c.end_try-news.new.self c.end_try-news.result refl c.take_down.ensures.client c.take_down.result (by_rest_kept _ _ _ c.args.self.now.client.held c.end_try-news.new.self.held _ _ _ _ _ c.end_try-news.ensures.less (inl (ap pending_in c.end_try-news.ensures.phase)) (ap is_ended c.end_try-news.ensures.news) c.end_try-news.ensures.verdicts.0 c.end_try-news.ensures.verdicts.1 c.end_try-news.ensures.notes.0 _ c.end_try-news.ensures.notes.1 (none_undecided _ (ap pending_in c.end_try-news.ensures.phase))) c.take_down.ensures.told c.take_down.ensures.ends (c.end_try-news.ensures.as_sent _)

pub returns-then-has_ended-clause-moves : goal.returns-then-has_ended-clause-moves
returns-then-has_ended-clause-moves g c = on_ok_weaker c.hand_on.result (λ steps. takes_none _ _ _ c.args.self.now _ steps refl) (c.hand_on.ensures.moves (present_of c.args.self.now))
