use Rattle.client_state.proofs.Pending.{less_written}
use Rattle.client_state.specs.Drawing.{drawn_in}
use Rattle.client_state.specs.Pending.{pending_in}
use Rattle.client_state.specs.Reading.{ReadsNone, phase_reads}
use Rattle.client_state.specs.declared.phase.Phase.{Phase}
use Rattle.front_end.proofs.Receiving.{same_items, takes_so, takes_then_less}
use Rattle.front_end.proofs.Showing.{try_shown}
use Rattle.front_end.proofs.Stepping.{gives_written, none_among, none_undecided, notes_from, notes_same, same_verdicts}
use Rattle.front_end.proofs.client.Client.take_invalid.Goals as goal
use Rattle.front_end.specs.Showing.{ByInvalid}
use Rattle.front_end.specs.Stepping.{IsStaleBy}
use Rattle.front_end.specs.declared.client.Client.{Client}
use Rattle.std.proofs.Common.{ap, inl, inr, refl, subst, sym, ◌∙◌}

pub returns-in-Some-clause-shown : goal.returns-in-Some-clause-shown
returns-in-Some-clause-shown c = λ old new repos repo taken. try_shown old new repos _ _ c.end_try.ensures.news (ByInvalid repo c.args.place c.args.orefs.now c.in-Some.oref taken c.in-Some.ensures.named refl)

pub returns-in-Some-clause-takes : goal.returns-in-Some-clause-takes
returns-in-Some-clause-takes c = λ repo. takes_then_less repo _ c.args.self.now.held c.drop_named.new.self.held c.end_try.new.self.held c.drop_named.ensures.copies c.drop_named.ensures.client (same_items c.drop_named.new.self.held c.args.self.now.held c.drop_named.ensures.links) c.end_try.ensures.less

pub returns-in-None-clause-takes : goal.returns-in-None-clause-takes
returns-in-None-clause-takes c = λ repo. takes_so repo _ c.args.self.now.held c.drop_named.new.self.held c.drop_named.ensures.copies c.drop_named.ensures.client (same_items c.drop_named.new.self.held c.args.self.now.held c.drop_named.ensures.links)

pub returns-in-Some-clause-gives_up : goal.returns-in-Some-clause-gives_up
returns-in-Some-clause-gives_up c = λ sent x named. c.end_try.ensures.none x

pub returns-in-Some-clause-stays : goal.returns-in-Some-clause-stays
returns-in-Some-clause-stays c = inl (ap pending_in c.end_try.ensures.phase)

pub returns-in-None-clause-stays : goal.returns-in-None-clause-stays
returns-in-None-clause-stays c = inr (ap (λ (k : Client). pending_in k.phase) c.drop_named.ensures.rest, less_written c.args.self.now.held c.drop_named.new.self.held (same_items c.drop_named.new.self.held c.args.self.now.held c.drop_named.ensures.links) c.drop_named.ensures.fewer)

pub returns-in-Some-clause-unread : goal.returns-in-Some-clause-unread
returns-in-Some-clause-unread c = subst (λ (p : Phase). ReadsNone p c.args.orefs.now) (sym c.end_try.ensures.phase) (none_among c.args.orefs.now)

pub returns-in-None-clause-unread : goal.returns-in-None-clause-unread
returns-in-None-clause-unread c = c.in-None.ensures.none refl

pub returns-in-Some-clause-read : goal.returns-in-Some-clause-read
returns-in-Some-clause-read c = subst (IsStaleBy c.args.self.now.phase c.args.orefs.now c.args.place) (sym c.end_try.ensures.news) (c.in-Some.oref, refl, c.in-Some.ensures.named, ap (λ (k : Client). phase_reads k.phase c.in-Some.oref) (sym c.drop_named.ensures.rest) ∙ c.in-Some.ensures.read)

pub returns-in-Some-clause-notes : goal.returns-in-Some-clause-notes
returns-in-Some-clause-notes c = notes_from c.args.self.now c.drop_named.new.self c.end_try.new.self (ap (λ (k : Client). k.phase) c.drop_named.ensures.rest) (ap (λ (k : Client). k.duties.abort) c.drop_named.ensures.rest) c.end_try.ensures.notes

pub returns-in-None-clause-notes : goal.returns-in-None-clause-notes
returns-in-None-clause-notes c = notes_same c.args.self.now c.drop_named.new.self (ap (λ (k : Client). k.phase) c.drop_named.ensures.rest) (ap (λ (k : Client). k.duties) c.drop_named.ensures.rest)

pub returns-in-Some-clause-verdicts : goal.returns-in-Some-clause-verdicts
returns-in-Some-clause-verdicts c = (c.end_try.ensures.verdicts.0 ∙ ap (λ (k : Client). k.duties.verdicts) c.drop_named.ensures.rest, c.end_try.ensures.verdicts.1 ∙ ap (λ (k : Client). k.duties.helping) c.drop_named.ensures.rest, (λ none. c.end_try.ensures.verdicts.2 (ap (λ (k : Client). pending_in k.phase) c.drop_named.ensures.rest ∙ none) ∙ ap (λ (k : Client). k.duties.abort) c.drop_named.ensures.rest), inl (ap drawn_in c.end_try.ensures.phase))

pub returns-in-None-clause-verdicts : goal.returns-in-None-clause-verdicts
returns-in-None-clause-verdicts c = same_verdicts c.args.self.now c.drop_named.new.self (ap (λ (k : Client). k.duties) c.drop_named.ensures.rest) (inr (ap (λ (k : Client). drawn_in k.phase) c.drop_named.ensures.rest))

pub returns-in-Some-clause-wrote : goal.returns-in-Some-clause-wrote
returns-in-Some-clause-wrote c = none_undecided _ (ap pending_in c.end_try.ensures.phase)

pub returns-in-None-clause-wrote : goal.returns-in-None-clause-wrote
returns-in-None-clause-wrote c = λ und. gives_written c.args.repo c.args.self.now.phase c.args.orefs.now c.args.place _ _ c.drop_named.ensures.sent c.drop_named.ensures.unsent
