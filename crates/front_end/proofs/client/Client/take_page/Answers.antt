use Rattle.front_end.proofs.Stepping.{none_undecided, notes_same, same_verdicts}
use Rattle.client_state.proofs.Pending.{still_written}
use Rattle.client_state.proofs.Writing.{still_writes}
use Rattle.client_state.specs.Pending.{pending_in}
use Rattle.client_state.specs.declared.held.Held.{Held}
use Rattle.front_end.proofs.Receiving.{takes_so, takes_then_less}
use Rattle.front_end.proofs.Showing.{page_shown, try_shown}
use Rattle.front_end.proofs.client.Client.take_page.Goals as goal
use Rattle.std.proofs.Common.{Bool, ap, inl, inr, refl}
use Rattle.std.specs.Prelude.{not}

pub returns-in-Some-clause-shown : goal.returns-in-Some-clause-shown
returns-in-Some-clause-shown c = λ old new repos place taken. try_shown old new repos _ _ c.end_try.ensures.news (page_shown old new repos c.args.repo c.args.page place c.args.bytes.now c.in-Some.oref c.args.self.now.held.cache.cache c.place.new.self.cache.cache (c.is_on.ensures c.if-is_on.true).0 (c.is_on.ensures c.if-is_on.true).1 c.in_ok-place.ensures.kept (c.holds.ensures (ap (λ (b : Bool). not b) c.if-not-holds.true)) taken)

pub returns-in-Some-clause-takes : goal.returns-in-Some-clause-takes
returns-in-Some-clause-takes c = λ place. takes_then_less c.args.repo _ c.args.self.now.held c.place.new.self c.end_try.new.self.held c.in_ok-place.ensures.kept (ap (λ (h : Held). h.client) c.place.ensures.rest) (ap (λ (h : Held). h.links.items) c.place.ensures.rest) c.end_try.ensures.less

pub returns-in-Some-2-clause-takes : goal.returns-in-Some-2-clause-takes
returns-in-Some-2-clause-takes c = λ place. takes_so c.args.repo _ c.args.self.now.held c.place.new.self c.in_ok-place.ensures.kept (ap (λ (h : Held). h.client) c.place.ensures.rest) (ap (λ (h : Held). h.links.items) c.place.ensures.rest)

pub returns-in_err-place-clause-writes : goal.returns-in_err-place-clause-writes
returns-in_err-place-clause-writes c = λ w. still_writes _ _ _ _ refl c.place.ensures.writes w

pub returns-in-Some-2-clause-writes : goal.returns-in-Some-2-clause-writes
returns-in-Some-2-clause-writes c = λ w. still_writes _ _ _ _ refl c.place.ensures.writes w

pub returns-in-Some-clause-stays : goal.returns-in-Some-clause-stays
returns-in-Some-clause-stays c = inl (ap pending_in c.end_try.ensures.phase)

pub returns-in-Some-2-clause-stays : goal.returns-in-Some-2-clause-stays
returns-in-Some-2-clause-stays c = inr (refl, still_written c.args.self.now.held c.place.new.self (ap (λ (h : Held). h.links.items) c.place.ensures.rest) c.place.ensures.writes)

pub returns-in-Some-2-clause-notes : goal.returns-in-Some-2-clause-notes
returns-in-Some-2-clause-notes c = notes_same c.args.self.now (record c.args.self.now { held = c.place.new.self }) refl refl

pub returns-in-Some-clause-wrote : goal.returns-in-Some-clause-wrote
returns-in-Some-clause-wrote c = none_undecided _ (ap pending_in c.end_try.ensures.phase)

pub returns-in-Some-2-clause-wrote : goal.returns-in-Some-2-clause-wrote
returns-in-Some-2-clause-wrote c = λ und. c.place.ensures.writes

pub returns-in-Some-2-clause-verdicts : goal.returns-in-Some-2-clause-verdicts
returns-in-Some-2-clause-verdicts c = same_verdicts c.args.self.now (record c.args.self.now { held = c.place.new.self }) refl (inr refl)

pub returns-in_err-place-clause-verdicts : goal.returns-in_err-place-clause-verdicts
returns-in_err-place-clause-verdicts c = same_verdicts c.args.self.now (record c.args.self.now { held = c.place.new.self }) refl (inr refl)
