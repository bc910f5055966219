use Rattle.client_cache.specs.Copies.{kept}
use Rattle.client_state.proofs.Moving.{by_fetch}
use Rattle.client_state.proofs.held.Held.fetch.Goals as goal
use Rattle.client_state.specs.declared.held.Held.{Held}
use Rattle.client_port.specs.Acting.{RefusesFetch}
use Rattle.std.proofs.Common.{ap}
use Rattle.std.proofs.lemmas.Result.{IfOk-weaker}
use Rattle.std.specs.Prelude.{Err, Ok}

pub returns-in-Err-clause-shown : goal.returns-in-Err-clause-shown
returns-in-Err-clause-shown g c = IfOk-weaker c.refused.result _ _ (λ came told s. told _ _ (RefusesFetch _ c.args.page c.upto.result (c.in-Err.ensures.call s))) c.refused.ensures.shown

pub returns-in-Ok-clause-moves : goal.returns-in-Ok-clause-moves
returns-in-Ok-clause-moves g c = λ idle. by_fetch _ _ _ _ _ c.args.at c.args.page c.upto.result c.upto.ensures (record { result = Ok _; call = c.in-Ok.ensures.call; links = c.wait.ensures.links; kept_so = λ x. ap (λ (h : Held). kept h.cache.cache x) c.wait.ensures.rest }) idle (ap (λ (h : Held). h.client) c.wait.ensures.rest)

pub returns-in-Err-clause-moves : goal.returns-in-Err-clause-moves
returns-in-Err-clause-moves g c = λ idle. by_fetch _ _ _ _ _ c.args.at c.args.page c.upto.result c.upto.ensures (record { result = Err c.in-Err.refusal; call = c.in-Err.ensures.call; links = c.refused.ensures.links; kept_so = c.refused.ensures.copies }) idle c.refused.ensures.client
