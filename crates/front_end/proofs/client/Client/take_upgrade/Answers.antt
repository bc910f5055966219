use Rattle.front_end.proofs.Stepping.{none_undecided, notes_same, same_verdicts}
use Rattle.client_cache.specs.Copies.{changed, kept}
use Rattle.client_state.proofs.Pending.{still_written}
use Rattle.client_state.specs.Pending.{pending_in}
use Rattle.client_state.specs.declared.held.Held.{Held}
use Rattle.front_end.proofs.Receiving.{takes_so, takes_then_less}
use Rattle.front_end.proofs.Showing.{try_shown}
use Rattle.front_end.proofs.client.Client.take_upgrade.Goals as goal
use Rattle.front_end.specs.Showing.{ByUpgrade}
use Rattle.std.proofs.Common.{ap, inl, inr, refl}

pub returns-then-runs-clause-shown : goal.returns-then-runs-clause-shown
returns-then-runs-clause-shown c = λ old new repos repo place text taken. try_shown old new repos _ _ c.end_try.ensures.news (ByUpgrade repo c.args.number place text taken refl)

pub returns-then-runs-clause-takes : goal.returns-then-runs-clause-takes
returns-then-runs-clause-takes c = λ repo place text. takes_then_less repo _ c.args.self.now.held c.learn_next_epoch.new.self c.end_try.new.self.held (λ x. ap (λ (h : Held). kept h.cache.cache x) c.learn_next_epoch.ensures.rest) (ap (λ (h : Held). h.client) c.learn_next_epoch.ensures.rest) (ap (λ (h : Held). h.links.items) c.learn_next_epoch.ensures.rest) c.end_try.ensures.less

pub returns-clause-takes : goal.returns-clause-takes
returns-clause-takes c = λ repo place text. takes_so repo _ c.args.self.now.held c.learn_next_epoch.new.self (λ x. ap (λ (h : Held). kept h.cache.cache x) c.learn_next_epoch.ensures.rest) (ap (λ (h : Held). h.client) c.learn_next_epoch.ensures.rest) (ap (λ (h : Held). h.links.items) c.learn_next_epoch.ensures.rest)

pub returns-then-runs-clause-stays : goal.returns-then-runs-clause-stays
returns-then-runs-clause-stays c = inl (ap pending_in c.end_try.ensures.phase)

pub returns-clause-stays : goal.returns-clause-stays
returns-clause-stays c = inr (refl, still_written c.args.self.now.held c.learn_next_epoch.new.self (ap (λ (h : Held). h.links.items) c.learn_next_epoch.ensures.rest) (λ x. ap (λ (h : Held). changed h.cache.cache x) c.learn_next_epoch.ensures.rest))

pub returns-clause-notes : goal.returns-clause-notes
returns-clause-notes c = notes_same c.args.self.now (record c.args.self.now { held = c.learn_next_epoch.new.self }) refl refl

pub returns-then-runs-clause-wrote : goal.returns-then-runs-clause-wrote
returns-then-runs-clause-wrote c = none_undecided _ (ap pending_in c.end_try.ensures.phase)

pub returns-clause-wrote : goal.returns-clause-wrote
returns-clause-wrote c = λ und x. ap (λ (h : Held). changed h.cache.cache x) c.learn_next_epoch.ensures.rest

pub returns-clause-verdicts : goal.returns-clause-verdicts
returns-clause-verdicts c = same_verdicts c.args.self.now (record c.args.self.now { held = c.learn_next_epoch.new.self }) refl (inr refl)
