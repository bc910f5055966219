use Rattle.client_cache.specs.Copies.{kept}
use Rattle.client_state.proofs.Moving.{by_connect}
use Rattle.client_state.proofs.held.Held.connect.Goals as goal
use Rattle.paused_eval.specs.declared.copies.Copies.{Copies}
use Rattle.client_port.specs.Acting.{RefusesConnect}
use Rattle.std.proofs.Common.{ap, refl}
use Rattle.std.specs.Prelude.{Err, Ok}

pub returns-in-Ok-clause-shown : goal.returns-in-Ok-clause-shown
returns-in-Ok-clause-shown g c = λ s. c.welcome.ensures.shown _ _

pub returns-in_ok-cause_of-in-Err-clause-shown : goal.returns-in_ok-cause_of-in-Err-clause-shown
returns-in_ok-cause_of-in-Err-clause-shown g c = λ s. record {
  repo = c.args.repo;
  refusal = c.in-Err.refusal;
  call = RefusesConnect c.args.self.now.client (c.in-Err.ensures.call s);
  cause_is = c.in_ok-cause_of-in-Err.ensures.cause;
}

pub returns-in_err-cause_of-in-Err-clause-moves : goal.returns-in_err-cause_of-in-Err-clause-moves
returns-in_err-cause_of-in-Err-clause-moves g c = λ apart. by_connect _ _ _ _ _ c.args.repo (record { result = Err c.in-Err.refusal; call = c.in-Err.ensures.call; links = refl }) apart refl (λ x. refl)

pub returns-in-Ok-clause-moves : goal.returns-in-Ok-clause-moves
returns-in-Ok-clause-moves g c = λ apart. by_connect _ _ _ _ _ c.args.repo (record { result = Ok c.in-Ok.welcome; call = c.in-Ok.ensures.call; links = c.welcome.ensures.links }) apart c.welcome.ensures.client (λ x. ap (λ (k : Copies). kept k.cache x) c.welcome.ensures.copies)

pub returns-in_ok-cause_of-in-Err-clause-moves : goal.returns-in_ok-cause_of-in-Err-clause-moves
returns-in_ok-cause_of-in-Err-clause-moves g c = λ apart. by_connect _ _ _ _ _ c.args.repo (record { result = Err c.in-Err.refusal; call = c.in-Err.ensures.call; links = refl }) apart refl (λ x. refl)
