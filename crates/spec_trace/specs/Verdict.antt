-- What a repository answers to a request of a session: the first refusal that holds, with what the
-- session's invalid set has against it.
use Rattle.repo_refusals.specs.Refusals.{first_refusal, full, set_of}
use Rattle.log_entries.specs.declared.entry.Entry.{Entry}
use Rattle.log_entries.specs.declared.request.Request.{Request}
use Rattle.spec_history.specs.History.{Base, state}
use Rattle.spec_trace.specs.Session.{Session, invalid, session, session_lives}
use Rattle.spec_trace.specs.Trace.{Item, entries}
use Rattle.repo_refusals.specs.Window.{window}
use Rattle.base_reasons.specs.declared.reason.Reason.TheVariants as reasons
use Rattle.repo_refusals.specs.declared.refusal.Refusal.TheVariants as refused
use Rattle.repo_refusals.specs.declared.refusal.Refusal.{Refusal}
use Rattle.std.specs.Option.{option_and_then}
use Rattle.std.specs.Prelude.{List, None, Option, Some, cond, nat_le, ℕ}
use Rattle.thor_value.specs.FiniteMap.{keys}
use Rattle.thor_value.specs.declared.names.Oref.{Oref}
use Rattle.validation_queue.specs.Clashes.{first_some}

-- the copy of x, where the place k of its last write by another session isn't below upto
abbrev pub stale_from : ℕ → Oref → ℕ → Option Refusal
stale_from upto x k = cond (nat_le upto k) (Some (refused.Reason (reasons.Stale x k))) None

-- Of the names that q read, the least that its session's invalid set has at a place not below q's
-- `upto`: its client hadn't taken the message of that write.
abbrev pub stale : Base → List Entry → ℕ → Session → Request → Option Refusal
stale b H s v q = first_some (λ x. option_and_then (stale_from q.upto x) (invalid b H s v x)) (keys (set_of q.ros))

-- the refusal of q, which comes from the session s, where that stands so
abbrev pub verdict_by : Base → List Entry → ℕ → Request → Option Session → Option Refusal
verdict_by b H s q None = Some (refused.Reason (reasons.Gone s))
verdict_by b H s q (Some v) = cond (session_lives v) (first_refusal (state b H) (window b H) (stale b H s v q) (full b (window b H) q) q) (Some (refused.Reason (reasons.Gone s)))

-- What a repository with this trace answers to the request q of the session s: the first of Gone,
-- Blocked, Epoch, TooOld, Stale, Earlier, Later, Full of the window and Full of the buffer that holds,
-- or None where it is accepted.
abbrev pub verdict : Base → List Item → ℕ → Request → Option Refusal
verdict b T s q = verdict_by b (entries T) s q (session b T s)
