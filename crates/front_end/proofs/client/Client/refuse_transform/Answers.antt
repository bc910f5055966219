use Rattle.std.proofs.lemmas.Result.{on_ok_weaker}
use Rattle.client_state.specs.declared.duties.Duties.{Duties}
use Rattle.front_end.proofs.Stepping.{keeps_noted, notes_from}
use Rattle.client_state.proofs.Pending.{stays_free}
use Rattle.client_state.proofs.Writing.{nothing_unsent}
use Rattle.client_state.specs.Pending.{pending_in}
use Rattle.client_state.specs.Writing.{unsent}
use Rattle.client_state.specs.declared.held.Held.{Held}
use Rattle.front_end.proofs.Requesting.{learns_from}
use Rattle.front_end.proofs.client.Client.refuse_transform.Goals as goal
use Rattle.std.proofs.Common.{ap, ◌∙◌}

pub returns-clause-learns : goal.returns-clause-learns
returns-clause-learns c = learns_from c.args.self.now.held c.count_if_stopped.new.self.held c.count_if_stopped.ensures.rest c.args.refusal c.args.at.repo c.end_refused.new.self.held c.end_refused.ensures.learns

pub returns-clause-client : goal.returns-clause-client
returns-clause-client c = c.end_refused.ensures.client ∙ ap (λ (h : Held). h.client) c.count_if_stopped.ensures.rest

pub returns-clause-writes : goal.returns-clause-writes
returns-clause-writes c = λ none. c.end_refused.ensures.writes (nothing_unsent _ _ (ap unsent c.count_if_stopped.ensures.phase ∙ none))

pub returns-clause-free : goal.returns-clause-free
returns-clause-free c = λ none. stays_free _ _ c.count_if_stopped.new.self.held c.end_refused.new.self.held (ap pending_in c.count_if_stopped.ensures.phase ∙ none) c.end_refused.ensures.stays

pub returns-clause-abort : goal.returns-clause-abort
returns-clause-abort c = on_ok_weaker c.end_refused.result (λ notes. keeps_noted c.args.self.now c.end_refused.new.self (notes_from c.args.self.now c.count_if_stopped.new.self c.end_refused.new.self c.count_if_stopped.ensures.phase (ap (λ (x : Duties). x.abort) c.count_if_stopped.ensures.duties) notes)) c.end_refused.ensures.notes
