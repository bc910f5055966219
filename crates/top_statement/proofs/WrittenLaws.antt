-- What was written of a reply.
use Rattle.outside.specs.Faults.{Rose}
use Rattle.std.proofs.Common.{◌≡◌, ◌∙◌, Err, IfOk, List, Ok, Option, Result, ap, inl, inr, sym, subst, ℕ}
use Rattle.std.specs.Prelude.{false, true}
use Rattle.thor_value.specs.declared.memory.NoMemory.{NoMemory}
use Rattle.top_reply.specs.Replies.{status_of}
use Rattle.top_reply.specs.declared.reply.Reply.{Reply}
use Rattle.top_reply.specs.declared.reply.Reply.TheVariants as reply
use Rattle.top_reply.specs.declared.status.Status.{Status}
use Rattle.top_reply.specs.declared.status.Status.TheVariants as status
use Rattle.top_statement.specs.Kept.{RefusesBy}
use Rattle.top_statement.specs.Telling.{TellsRunBy}
use Rattle.top_statement.specs.Written.{Wrote}

-- no reply has these two statuses
never_sink : (r : Reply) → status_of r ≡ status.SinkFault → ⊥
never_sink (reply.Report true text) e = cc
never_sink (reply.Report false text) e = cc
never_sink (reply.Summary true text) e = cc
never_sink (reply.Summary false text) e = cc
never_sink reply.Accepted e = cc
never_sink (reply.Refused refusal) e = cc
never_sink (reply.Limit limit) e = cc
never_sink (reply.DiskFault repo) e = cc
never_sink (reply.Damaged repo disk place) e = cc
never_sink reply.Words e = cc
never_sink reply.SourceFault e = cc
never_sink reply.Legal e = cc
never_sink (reply.Disagrees at) e = cc
never_sink (reply.NoReport line) e = cc

never_memory : (r : Reply) → status_of r ≡ status.NoMemory → ⊥
never_memory (reply.Report true text) e = cc
never_memory (reply.Report false text) e = cc
never_memory (reply.Summary true text) e = cc
never_memory (reply.Summary false text) e = cc
never_memory reply.Accepted e = cc
never_memory (reply.Refused refusal) e = cc
never_memory (reply.Limit limit) e = cc
never_memory (reply.DiskFault repo) e = cc
never_memory (reply.Damaged repo disk place) e = cc
never_memory reply.Words e = cc
never_memory reply.SourceFault e = cc
never_memory reply.Legal e = cc
never_memory (reply.Disagrees at) e = cc
never_memory (reply.NoReport line) e = cc

-- where the sink failed it counted that
pub rose_of : (r : Result Reply NoMemory) (had taken : Option (List ℕ)) (before after : ℕ) (s : Status) → Wrote r had taken before after s → s ≡ status.SinkFault → Rose before after
rose_of (Ok r) had taken before after s (inl whole) is = absurd (never_sink r (sym whole.0 ∙ is))
rose_of (Ok r) had taken before after s (inr part) is = part.1.1
rose_of (Err e) had taken before after s none is = absurd (let no : status.NoMemory ≡ status.SinkFault = sym none.0 ∙ is in cc)

-- where memory was not there it took nothing
pub nothing_of : (r : Result Reply NoMemory) (had taken : Option (List ℕ)) (before after : ℕ) (s : Status) → Wrote r had taken before after s → s ≡ status.NoMemory → taken ≡ had
nothing_of (Ok r) had taken before after s (inl whole) is = absurd (never_memory r (sym whole.0 ∙ is))
nothing_of (Ok r) had taken before after s (inr part) is = absurd (let no : status.SinkFault ≡ status.NoMemory = sym part.0 ∙ is in cc)
nothing_of (Err e) had taken before after s none is = none.1

-- ---- what is true of what was to be written is true of what was

pub ok_same : (written made : Result Reply NoMemory) (r : Reply) → made ≡ Ok r → IfOk written (λ w. w ≡ r) → IfOk written (λ w. made ≡ Ok w)
ok_same (Ok w) made r is same = is ∙ ap (λ (v : Reply). Ok v) (sym same)
ok_same (Err e) made r is same = tt

pub said_of : (made written : Result Reply NoMemory) (Of : Reply → Type 0) → IfOk written (λ r. made ≡ Ok r) → IfOk made Of → IfOk written Of
said_of made (Ok r) Of same says = subst (λ (m : Result Reply NoMemory). IfOk m Of) same says
said_of made (Err e) Of same says = tt

pub refuses_of : (made written : Result Reply NoMemory) → IfOk written (λ r. made ≡ Ok r) → RefusesBy written → RefusesBy made
refuses_of made (Ok r) same refuses = subst (λ (m : Result Reply NoMemory). RefusesBy m) (sym same) refuses
refuses_of made (Err e) same refuses = absurd refuses

pub tells_of : (made written : Result Reply NoMemory) → IfOk written (λ r. made ≡ Ok r) → TellsRunBy written → TellsRunBy made
tells_of made (Ok r) same tells = subst (λ (m : Result Reply NoMemory). TellsRunBy m) (sym same) tells
tells_of made (Err e) same tells = absurd tells
