use Rattle.client_cache.specs.Copies.{changed}
use Rattle.client_state.proofs.Parting.{leaves_all_same}
use Rattle.client_state.proofs.Writing.{nothing_unsent}
use Rattle.client_state.specs.Pending.{IsAsking, pending_in}
use Rattle.client_state.specs.Stepping.{AsksAgain, HoldsUnknown}
use Rattle.client_state.specs.Writing.{unsent}
use Rattle.front_end.proofs.Stepping.{asks_on, none_undecided}
use Rattle.front_end.proofs.client.Client.ask_again.Goals as goal
use Rattle.front_end.specs.declared.client.Client.{Client}
use Rattle.std.proofs.Common.{ap, arith, inl, inr, refl, ◌∙◌}

pub returns-then-answers-task-clause-writes : goal.returns-then-answers-task-clause-writes
returns-then-answers-task-clause-writes c = λ none. nothing_unsent _ _ (ap (λ (k : Client). unsent k.phase) c.set_phase.ensures)

pub returns-then-answers-task-clause-stays : goal.returns-then-answers-task-clause-stays
returns-then-answers-task-clause-stays c = λ before none. rw (c.set_phase.ensures) (inr (refl, λ at written. written))

pub returns-clause-stays : goal.returns-clause-stays
returns-clause-stays c = λ before none. inl (ap (λ (k : Client). pending_in k.phase) c.hold_as_unknown.ensures.rest ∙ none)

pub returns-then-answers-task-clause-over : goal.returns-then-answers-task-clause-over
returns-then-answers-task-clause-over c = λ over. asks_on _ c.args.sent c.args.answers (ap (λ (k : Client). pending_in k.phase) c.set_phase.ensures)

pub returns-clause-over : goal.returns-clause-over
returns-clause-over c = λ over none. ap (λ (k : Client). k.phase) c.hold_as_unknown.ensures.rest ∙ over

pub returns-then-answers-task-clause-asks : goal.returns-then-answers-task-clause-asks
returns-then-answers-task-clause-asks c = λ before none is. AsksAgain (ap (λ (k : Client). pending_in k.phase) c.set_phase.ensures ∙ ap (IsAsking c.args.sent) is) (omega (arith, c.if-answers-task.true, is)) refl

pub returns-clause-asks : goal.returns-clause-asks
returns-clause-asks c = λ before none is. HoldsUnknown (ap (λ (k : Client). pending_in k.phase) c.hold_as_unknown.ensures.rest ∙ none) (omega (arith, c.if-answers-task.false, is)) c.hold_as_unknown.ensures.unknown c.hold_as_unknown.ensures.link

pub returns-then-answers-task-clause-wrote : goal.returns-then-answers-task-clause-wrote
returns-then-answers-task-clause-wrote c = λ none und x. ap (λ (k : Client). changed k.held.cache.cache x) c.set_phase.ensures

pub returns-clause-wrote : goal.returns-clause-wrote
returns-clause-wrote c = λ none. none_undecided _ (ap (λ (k : Client). pending_in k.phase) c.hold_as_unknown.ensures.rest ∙ none)

pub returns-then-answers-task-clause-parts : goal.returns-then-answers-task-clause-parts
returns-then-answers-task-clause-parts c = leaves_all_same _ _ _ c.args.self.now.held c.set_phase.new.self.held (ap (λ (k : Client). k.held.links.items) c.set_phase.ensures)
