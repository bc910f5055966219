use Rattle.client_state.specs.Drawing.{drawn_in}
use Rattle.front_end.proofs.Stepping.{same_verdicts}
use Rattle.client_state.specs.Settling.{CameAsSent}
use Rattle.client_state.proofs.Writing.{came_learnt, came_well, still_writes}
use Rattle.client_state.specs.Pending.{pending_in}
use Rattle.client_state.specs.Showing.{CameShown}
use Rattle.front_end.proofs.client.Client.go_behind.Goals as goal
use Rattle.std.proofs.Common.{ap, inl, inr, refl, subst}

pub returns-in-Learnt-clause-shown : goal.returns-in-Learnt-clause-shown
returns-in-Learnt-clause-shown c = λ old new repos h. c.take_learnt.ensures.shown old new repos (subst (CameShown old new) c.in-Learnt.is h)

pub returns-in-Well-clause-writes : goal.returns-in-Well-clause-writes
returns-in-Well-clause-writes c = λ before stays w. still_writes _ _ before _ refl (came_well _ _ _ c.in-Well.is stays) w

pub returns-in-Learnt-clause-writes : goal.returns-in-Learnt-clause-writes
returns-in-Learnt-clause-writes c = λ before stays w. c.take_learnt.ensures.writes (still_writes _ _ before _ refl (came_learnt _ _ _ _ c.in-Learnt.is stays) w)

pub returns-in-Anew-clause-free : goal.returns-in-Anew-clause-free
returns-in-Anew-clause-free c = λ none. ap pending_in c.begin_anew.ensures.phase

pub returns-in-Refused-clause-free : goal.returns-in-Refused-clause-free
returns-in-Refused-clause-free c = λ none. ap pending_in c.end_try.ensures.phase

pub returns-in-Learnt-clause-as_sent : goal.returns-in-Learnt-clause-as_sent
returns-in-Learnt-clause-as_sent c = λ links h. c.take_learnt.ensures.as_sent links (subst (CameAsSent links) c.in-Learnt.is h)

pub returns-in-Anew-clause-verdicts : goal.returns-in-Anew-clause-verdicts
returns-in-Anew-clause-verdicts c = same_verdicts c.args.self.now c.begin_anew.new.self c.begin_anew.ensures.duties (inl (ap drawn_in c.begin_anew.ensures.phase))

pub returns-in-Learnt-clause-verdicts : goal.returns-in-Learnt-clause-verdicts
returns-in-Learnt-clause-verdicts c = same_verdicts c.args.self.now c.take_learnt.new.self c.take_learnt.ensures.duties c.take_learnt.ensures.drawn

pub returns-in-Well-clause-verdicts : goal.returns-in-Well-clause-verdicts
returns-in-Well-clause-verdicts c = same_verdicts c.args.self.now c.args.self.now refl (inr refl)
