use Rattle.client_state.proofs.Moving.{less_itself}
use Rattle.client_state.proofs.Pending.{stays_itself}
use Rattle.client_state.specs.declared.duties.Duties.{Duties}
use Rattle.front_end.proofs.Stepping.{by_rest_kept, stays_noted}
use Rattle.front_end.proofs.client.Client.hand_on.Goals as goal
use Rattle.std.proofs.Common.{ap, inr, refl, ◌≡◌}

pub returns-in-None-clause-moves : goal.returns-in-None-clause-moves
returns-in-None-clause-moves g c = λ item. let same : c.take_first.new.self ≡ c.args.self.now.duties = c.in-None.ensures.none refl in by_rest_kept _ item _ c.args.self.now.held c.args.self.now.held _ _ _ _ _ (less_itself c.args.self.now.held) (stays_itself _ c.args.self.now.held) refl (ap (λ (x : Duties). x.verdicts) same) (ap (λ (x : Duties). x.helping) same) (stays_noted _ _ c.args.self.now.duties c.take_first.new.self refl (ap (λ (x : Duties). x.abort) same)) _ (inr refl) (λ und x. refl)

pub returns-in-Some-clause-moves : goal.returns-in-Some-clause-moves
returns-in-Some-clause-moves g c = λ item. c.do_next.ensures.moves item c.args.self.now.duties c.in-Some.ensures.taken (ap (λ (x : Duties). x.helping) c.take_first.ensures.rest) (ap (λ (x : Duties). x.abort) c.take_first.ensures.rest)
