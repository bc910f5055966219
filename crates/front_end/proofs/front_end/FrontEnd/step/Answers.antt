use Rattle.client_state.proofs.Moving.{less_itself}
use Rattle.client_state.proofs.Pending.{moves_so, stays_itself}
use Rattle.front_end.proofs.Stepping.{by_rest_kept, takes_moves, takes_none, notes_same}
use Rattle.front_end.proofs.Steps.{steps_fall}
use Rattle.front_end.proofs.front_end.FrontEnd.step.Goals as goal
use Rattle.front_end.specs.Moving.{held_of}
use Rattle.std.proofs.Common.{inr, refl}

pub returns-clause-steps : goal.returns-clause-steps
returns-clause-steps g c = λ _. steps_fall c.args.self.now c.move_on.new.self c.move_on.ensures.each (c.in_ok-move_on.ensures.falls (c.if-has_ended.ensures.left refl))

pub returns-then-has_ended-clause-pends : goal.returns-then-has_ended-clause-pends
returns-then-has_ended-clause-pends g c = takes_moves _ _ _ c.args.self.now c.args.self.now (takes_none _ _ _ c.args.self.now c.args.self.now (by_rest_kept _ _ _ (held_of c.args.self.now) (held_of c.args.self.now) _ _ _ _ _ (less_itself (held_of c.args.self.now)) (stays_itself _ (held_of c.args.self.now)) refl refl refl (notes_same c.args.self.now.client c.args.self.now.client refl refl).0 _ (inr refl) (λ und x. refl)) refl)

pub returns-clause-moves : goal.returns-clause-moves
returns-clause-moves g c = moves_so _ _ _ _ _ _ _ (takes_moves _ _ _ c.args.self.now c.move_on.new.self c.in_ok-move_on.ensures.moves)

pub returns-then-has_ended-clause-tried : goal.returns-then-has_ended-clause-tried
returns-then-has_ended-clause-tried g c = takes_none _ _ _ c.args.self.now c.args.self.now (by_rest_kept _ _ _ (held_of c.args.self.now) (held_of c.args.self.now) _ _ _ _ _ (less_itself (held_of c.args.self.now)) (stays_itself _ (held_of c.args.self.now)) refl refl refl (notes_same c.args.self.now.client c.args.self.now.client refl refl).0 _ (inr refl) (λ und x. refl)) refl

pub returns-clause-pends : goal.returns-clause-pends
returns-clause-pends g c = takes_moves _ _ _ c.args.self.now c.move_on.new.self c.in_ok-move_on.ensures.moves
