use Rattle.client_state.proofs.Moving.{here, session_is_here}
use Rattle.client_state.proofs.Writing.{nothing_unsent}
use Rattle.client_state.specs.Calling.{upto_in}
use Rattle.client_state.specs.Sending.{transform_of}
use Rattle.front_end.proofs.Requesting.{of_call}
use Rattle.front_end.proofs.Stepping.{by_anew, sent_under}
use Rattle.front_end.proofs.client.Client.commit_transform.Goals as goal
use Rattle.std.proofs.Common.{ap, refl, sym, ◌∙◌}
use Rattle.std.specs.Prelude.{slice_get}
use Rattle.thor_value.specs.declared.names.Ts.{Ts}

pub returns-in_err-request-in-Some-clause-writes : goal.returns-in_err-request-in-Some-clause-writes
returns-in_err-request-in-Some-clause-writes g c = λ none. nothing_unsent _ _ none

pub returns-in-None-clause-moves : goal.returns-in-None-clause-moves
returns-in-None-clause-moves g c = λ item none idle. by_anew _ item _ c.args.self.now.held c.begin_anew.new.self.held _ _ _ _ c.begin_anew.ensures.less c.begin_anew.ensures.phase refl c.begin_anew.ensures.duties _

pub returns-in_ok-request-in-Some-clause-moves : goal.returns-in_ok-request-in-Some-clause-moves
returns-in_ok-request-in-Some-clause-moves g c = λ item none idle. let all = c.in_ok-request-in-Some.ensures in sent_under _ item _ _ _ c.args.ts c.args.self.now c.send_held.new.self c.send_held.result all.tx (c.send_held.ensures.moves item none (session_is_here c.args.self.now.held.links.items c.args.becomes.oref.repo c.in-Some.at (sym c.in-Some.ensures)) (record { oref = c.args.becomes.oref; made = c.args.becomes.made; ros = c.args.becomes.ros; request = all.all ∙ ap (λ (t : Ts). transform_of c.args.self.now.held.client c.in-Some.at.session (upto_in (slice_get c.args.self.now.held.links.items c.in-Some.at.repo)) t c.args.becomes.oref c.args.becomes.made c.args.becomes.ros) (sym all.tx) }) (of_call c.args.self.now.held.links.items c.in-Some.at _ all.session all.upto) all.writes (here c.args.becomes.oref.repo c.in-Some.at (slice_get c.args.self.now.held.links.items c.args.becomes.oref.repo) (sym c.in-Some.ensures)) idle)
