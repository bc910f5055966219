use Rattle.client_state.proofs.Moving.{here, less_itself, session_is_here}
use Rattle.client_state.proofs.Pending.{moves_so, stays_itself}
use Rattle.client_state.specs.Receiving.{ByRest}
use Rattle.front_end.proofs.Receiving.{gave_here}
use Rattle.front_end.proofs.Stepping.{by_rest_kept, takes_moves, takes_none, notes_same}
use Rattle.front_end.proofs.front_end.FrontEnd.deliver.Goals as goal
use Rattle.front_end.specs.Moving.{held_of}
use Rattle.std.proofs.Common.{inr, refl, sym}
use Rattle.std.proofs.lemmas.Result.{on_ok_weaker}

pub returns-in-Some-clause-moves : goal.returns-in-Some-clause-moves
returns-in-Some-clause-moves g c = on_ok_weaker c.receive.result (λ t. moves_so _ _ _ _ _ _ _ (takes_moves _ _ _ c.args.self.now c.receive.new.self t)) (c.receive.ensures.moves (session_is_here (held_of c.args.self.now).links.items c.args.repo c.in-Some.at (sym c.in-Some.ensures)))

pub returns-in-Some-clause-pends : goal.returns-in-Some-clause-pends
returns-in-Some-clause-pends g c = on_ok_weaker c.receive.result (λ t. takes_moves _ _ _ c.args.self.now c.receive.new.self t) (c.receive.ensures.moves (session_is_here (held_of c.args.self.now).links.items c.args.repo c.in-Some.at (sym c.in-Some.ensures)))

pub returns-in-None-clause-pends : goal.returns-in-None-clause-pends
returns-in-None-clause-pends g c = takes_moves _ _ _ c.args.self.now c.args.self.now (takes_none _ _ _ c.args.self.now c.args.self.now (by_rest_kept _ _ _ (held_of c.args.self.now) (held_of c.args.self.now) _ _ _ _ _ (less_itself (held_of c.args.self.now)) (stays_itself _ (held_of c.args.self.now)) refl refl refl (notes_same c.args.self.now.client c.args.self.now.client refl refl).0 _ (inr refl) (λ und x. refl)) refl)

pub returns-in-Some-clause-gives_up : goal.returns-in-Some-clause-gives_up
returns-in-Some-clause-gives_up g c = gave_here c.receive.result _ _ _ c.args.repo c.in-Some.at.repo c.args.self.now.client.phase c.receive.new.self.client.held.cache.cache (here c.args.repo c.in-Some.at _ (sym c.in-Some.ensures)) c.receive.ensures.gives_up

pub returns-in-None-clause-gives_up : goal.returns-in-None-clause-gives_up
returns-in-None-clause-gives_up g c = λ s. ByRest refl

pub returns-in-Some-clause-tried : goal.returns-in-Some-clause-tried
returns-in-Some-clause-tried g c = c.receive.ensures.moves (session_is_here (held_of c.args.self.now).links.items c.args.repo c.in-Some.at (sym c.in-Some.ensures))

pub returns-in-None-clause-tried : goal.returns-in-None-clause-tried
returns-in-None-clause-tried g c = takes_none _ _ _ c.args.self.now c.args.self.now (by_rest_kept _ _ _ (held_of c.args.self.now) (held_of c.args.self.now) _ _ _ _ _ (less_itself (held_of c.args.self.now)) (stays_itself _ (held_of c.args.self.now)) refl refl refl (notes_same c.args.self.now.client c.args.self.now.client refl refl).0 _ (inr refl) (λ und x. refl)) refl
