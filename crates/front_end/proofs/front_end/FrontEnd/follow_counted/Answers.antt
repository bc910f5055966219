use Rattle.client_items.proofs.Falling.{then_never_rises}
use Rattle.client_state.specs.Learning.{Rises}
use Rattle.client_state.specs.declared.held.Held.{Held}
use Rattle.front_end.proofs.Showing.{shown_counted, shown_used}
use Rattle.front_end.proofs.Stepping.{takes_counted}
use Rattle.front_end.proofs.front_end.FrontEnd.follow_counted.Goals as goal
use Rattle.front_end.specs.Moving.{held_of, standing_of}
use Rattle.front_end.specs.Rules.{MayFollow}
use Rattle.front_end.specs.Stepping.{GoesOnBy, HelpsBy}
use Rattle.front_end.specs.declared.client.Client.{Client}
use Rattle.std.proofs.Common.{refl, subst, sym}
use Rattle.std.proofs.lemmas.Result.{on_ok_weaker}

pub returns-clause-falls : goal.returns-clause-falls
returns-clause-falls g c = λ _. on_ok_weaker c.make_counted.result (λ never. (then_never_rises (standing_of c.args.self.now) (standing_of c.count_call.new.self) (standing_of c.make_counted.new.self) (c.if-not-count_call.ensures.counted refl) never).falls _ _) c.make_counted.ensures.left

pub returns-then-not-count_call-clause-shown : goal.returns-then-not-count_call-clause-shown
returns-then-not-count_call-clause-shown g c = shown_used _ _ _ _ c.args.self.now c.count_call.new.self c.run_out_of_calls.new.self (c.if-not-count_call.ensures.none refl) (c.if-not-count_call.ensures.used_up refl) c.run_out_of_calls.ensures.shown

pub returns-clause-shown : goal.returns-clause-shown
returns-clause-shown g c = shown_counted _ _ _ _ c.args.self.now c.count_call.new.self c.make_counted.new.self c.count_call.ensures.each c.count_call.ensures.course c.make_counted.ensures.shown

pub returns-clause-rises : goal.returns-clause-rises
returns-clause-rises g c = subst (λ (h : Held). Rises h (held_of c.make_counted.new.self)) c.count_call.ensures.held c.make_counted.ensures.rises

pub returns-clause-moves : goal.returns-clause-moves
returns-clause-moves g c = λ may helps free. on_ok_weaker c.make_counted.result (λ t. takes_counted _ _ _ c.args.self.now c.count_call.new.self c.make_counted.new.self c.count_call.ensures.client c.count_call.ensures.course c.count_call.ensures.each c.count_call.ensures.tried t) (c.make_counted.ensures.moves (subst (λ (k : Client). MayFollow c.args.rule k.held) (sym c.count_call.ensures.client) may) (subst (λ (k : Client). HelpsBy c.args.rule k.duties.helping) (sym c.count_call.ensures.client) helps) (subst (λ (k : Client). GoesOnBy c.args.rule k.duties) (sym c.count_call.ensures.client) free))

pub returns-then-not-count_call-clause-moves : goal.returns-then-not-count_call-clause-moves
returns-then-not-count_call-clause-moves g c = λ may helps free. on_ok_weaker c.run_out_of_calls.result (λ t. takes_counted _ _ _ c.args.self.now c.count_call.new.self c.run_out_of_calls.new.self c.count_call.ensures.client c.count_call.ensures.course c.count_call.ensures.each c.count_call.ensures.tried t) c.run_out_of_calls.ensures.moves
