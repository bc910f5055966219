-- What a queue answers, as the refusal of a request.
use Rattle.base_reasons.specs.declared.reason.Reason.{Reason}
use Rattle.std.proofs.Common.{Err, None, Option, Some, subst, ◌≡◌, ℕ}
use Rattle.thor_value.specs.declared.names.Oref.{Oref}
use Rattle.validation_queue.specs.Clashes as queue
use Rattle.repo_refusals.specs.declared.refusal.Refusal.{Refusal}
use Rattle.repo_volatile.specs.Volatile.{against, answer}

-- the refusal for the clash that a queue answers is that for what stands against a request by it
pub refused_by_queue : (o : Option Reason) (c : Reason) (r : Refusal) (stale : Option (Oref × ℕ)) → queue.answer o ≡ Err c → Err r ≡ answer (against (Some c) stale) → Err r ≡ answer (against o stale)
refused_by_queue None c r stale e h = cc
refused_by_queue (Some x) c r stale e h = let same : c ≡ x = cc in subst (λ (y : Reason). Err r ≡ answer (against (Some y) stale)) same h
