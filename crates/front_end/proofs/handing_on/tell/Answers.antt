use Rattle.front_end.proofs.Acting.{by_finish}
use Rattle.front_end.proofs.handing_on.tell.Goals as goal
use Rattle.std.proofs.Common.{refl}
use Rattle.std.specs.Prelude.{Err, Ok}

pub returns-in-Ok-clause-acts : goal.returns-in-Ok-clause-acts
returns-in-Ok-clause-acts g c = by_finish _ _ _ _ _ _ _ c.finish.ensures.call

pub returns-in-Err-NoMemory-clause-acts : goal.returns-in-Err-NoMemory-clause-acts
returns-in-Err-NoMemory-clause-acts g c = by_finish _ _ _ _ _ _ _ c.finish.ensures.call

pub returns-in-Err-clause-acts : goal.returns-in-Err-clause-acts
returns-in-Err-clause-acts g c = by_finish _ _ _ _ _ _ _ c.finish.ensures.call

pub returns-in-Ok-clause-told : goal.returns-in-Ok-clause-told
returns-in-Ok-clause-told g c = λ s. record { result = Ok c.in-Ok.field-0; call = c.in-Ok.ensures.call s; answered_is = refl }

pub returns-in-Err-clause-told : goal.returns-in-Err-clause-told
returns-in-Err-clause-told g c = λ s. record { result = Err _; call = c.in-Err.ensures.call s; answered_is = refl }
