use Rattle.client_state.proofs.Moving.{by_draw}
use Rattle.client_state.proofs.held.Held.draw.Goals as goal
use Rattle.client_state.specs.declared.calls.Drew.TheVariants as drew
use Rattle.client_port.specs.Acting.{RefusesDraw}
use Rattle.std.proofs.Common.{refl}
use Rattle.std.specs.Prelude.{Err, Ok}

pub returns-in_ok-refused-in-Err-clause-shown : goal.returns-in_ok-refused-in-Err-clause-shown
returns-in_ok-refused-in-Err-clause-shown g c = λ s. c.in_ok-refused-in-Err.ensures.shown _ _ (RefusesDraw _ c.floor.result (c.in-Err.ensures.call s))

pub returns-in_err-refused-in-Err-clause-moves : goal.returns-in_err-refused-in-Err-clause-moves
returns-in_err-refused-in-Err-clause-moves g c = λ joined. by_draw _ _ _ _ _ c.args.at (Err c.in_err-refused-in-Err.field-0.0) (record { floor = c.floor.result; result = Err c.in-Err.refusal; call = c.in-Err.ensures.call; told = tt; links = c.refused.ensures.links; kept_so = c.refused.ensures.copies }) joined c.refused.ensures.client

pub returns-in-Ok-clause-moves : goal.returns-in-Ok-clause-moves
returns-in-Ok-clause-moves g c = λ joined. by_draw _ _ _ _ _ c.args.at (Ok (drew.Ts c.in-Ok.ts)) (record { floor = c.floor.result; result = Ok c.in-Ok.ts; call = c.in-Ok.ensures.call; told = refl; links = refl; kept_so = λ x. refl }) joined refl

pub returns-in_ok-refused-in-Err-clause-moves : goal.returns-in_ok-refused-in-Err-clause-moves
returns-in_ok-refused-in-Err-clause-moves g c = λ joined. by_draw _ _ _ _ _ c.args.at (Ok (drew.Refused c.in_ok-refused-in-Err.field-0)) (record { floor = c.floor.result; result = Err c.in-Err.refusal; call = c.in-Err.ensures.call; told = tt; links = c.refused.ensures.links; kept_so = c.refused.ensures.copies }) joined c.refused.ensures.client
