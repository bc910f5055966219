use Rattle.client_cache.specs.Copies.{changed}
use Rattle.client_state.specs.declared.duties.Duties.{Duties}
use Rattle.client_state.proofs.Writing.{nothing_unsent}
use Rattle.client_state.specs.Moving.{Learns}
use Rattle.client_state.specs.Pending.{pending_in}
use Rattle.client_state.specs.declared.held.Held.{Held}
use Rattle.front_end.proofs.Requesting.{has_stopped_learns, other_where, stopped_where}
use Rattle.front_end.proofs.Stepping.{asks_on, keeps_noted, none_undecided, same_duties}
use Rattle.front_end.proofs.client.Client.refuse_commit.Goals as goal
use Rattle.std.proofs.Common.{ap, refl, subst, sym}
use Rattle.std.proofs.lemmas.Result.{on_ok_weaker}

pub returns-then-has_stopped-clause-shown : goal.returns-then-has_stopped-clause-shown
returns-then-has_stopped-clause-shown c = λ old new repos refuses. tt

pub returns-then-has_stopped-clause-learns : goal.returns-then-has_stopped-clause-learns
returns-then-has_stopped-clause-learns c = subst (λ (h : Held). Learns c.args.refusal c.args.repo c.args.self.now.held h) (sym c.begin_asking.ensures.held) (has_stopped_learns c.args.refusal c.args.repo c.args.self.now.held (c.if-has_stopped.ensures.stopped refl))

pub returns-then-has_stopped-clause-asks : goal.returns-then-has_stopped-clause-asks
returns-then-has_stopped-clause-asks c = stopped_where c.args.refusal c.args.sent _ (c.if-has_stopped.ensures.stopped refl) c.begin_asking.ensures.asks

pub returns-then-has_stopped-clause-over : goal.returns-then-has_stopped-clause-over
returns-then-has_stopped-clause-over c = asks_on _ c.args.sent 0 c.begin_asking.ensures.asks

pub returns-then-has_stopped-clause-written : goal.returns-then-has_stopped-clause-written
returns-then-has_stopped-clause-written c = λ at written stopped. rw (c.begin_asking.ensures.held) written

pub returns-then-has_stopped-clause-duties : goal.returns-then-has_stopped-clause-duties
returns-then-has_stopped-clause-duties c = same_duties _ _ c.begin_asking.ensures.duties

pub returns-clause-asks : goal.returns-clause-asks
returns-clause-asks c = on_ok_weaker c.end_refused.result (λ over. other_where c.args.refusal c.args.sent _ (c.if-has_stopped.ensures.other refl) (ap pending_in over)) c.end_refused.ensures.phase

pub returns-clause-over : goal.returns-clause-over
returns-clause-over c = on_ok_weaker c.end_refused.result (λ over none. over) c.end_refused.ensures.phase

pub returns-clause-written : goal.returns-clause-written
returns-clause-written c = λ at written stopped. absurd (c.if-has_stopped.ensures.other refl stopped)

pub returns-clause-writes : goal.returns-clause-writes
returns-clause-writes c = λ none. c.end_refused.ensures.writes (nothing_unsent _ _ none)

pub returns-then-has_stopped-clause-abort : goal.returns-then-has_stopped-clause-abort
returns-then-has_stopped-clause-abort c = λ none. ap (λ (x : Duties). x.abort) c.begin_asking.ensures.duties

pub returns-clause-abort : goal.returns-clause-abort
returns-clause-abort c = on_ok_weaker c.end_refused.result (keeps_noted c.args.self.now c.end_refused.new.self) c.end_refused.ensures.notes

pub returns-then-has_stopped-clause-wrote : goal.returns-then-has_stopped-clause-wrote
returns-then-has_stopped-clause-wrote c = λ und x. ap (λ (h : Held). changed h.cache.cache x) c.begin_asking.ensures.held

pub returns-clause-wrote : goal.returns-clause-wrote
returns-clause-wrote c = on_ok_weaker c.end_refused.result (λ over. none_undecided _ (ap pending_in over)) c.end_refused.ensures.phase
