use Rattle.front_end.proofs.Acting.{by_forget}
use Rattle.front_end.proofs.handing_on.forget.Goals as goal

pub returns-in-Ok-clause-acts : goal.returns-in-Ok-clause-acts
returns-in-Ok-clause-acts g c = by_forget _ _ _ _ _ _ c.forget.ensures.call

pub returns-in-Err-NoMemory-clause-acts : goal.returns-in-Err-NoMemory-clause-acts
returns-in-Err-NoMemory-clause-acts g c = by_forget _ _ _ _ _ _ c.forget.ensures.call

pub returns-in-Err-clause-acts : goal.returns-in-Err-clause-acts
returns-in-Err-clause-acts g c = by_forget _ _ _ _ _ _ c.forget.ensures.call

pub returns-in-Ok-clause-told : goal.returns-in-Ok-clause-told
returns-in-Ok-clause-told g c = λ s. record { result = c.forget.result; call = c.forget.ensures.call s }

pub returns-in-Err-clause-told : goal.returns-in-Err-clause-told
returns-in-Err-clause-told g c = λ s. record { result = c.forget.result; call = c.forget.ensures.call s }
