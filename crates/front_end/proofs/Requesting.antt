-- What is held behind a call that sends a transaction, or has it decided.
use Rattle.client_cache.specs.Copies.{Contents, kept, seen}
use Rattle.client_cache.specs.Pages.{same_name}
use Rattle.client_state.proofs.Moving.{fewer_among}
use Rattle.client_state.proofs.Pending.{written_there}
use Rattle.client_state.specs.Calling.{CopiesRefused, upto_in}
use Rattle.client_state.specs.Causes.{cause_behind}
use Rattle.client_state.specs.Learning.{links_learnt}
use Rattle.client_state.specs.Moving.{HoldsLess, InSession, KeepsMade, KeepsTry, Learns, Loses}
use Rattle.client_state.specs.Participants.{sent_of}
use Rattle.client_state.specs.Pending.{AsksBehind, HasStopped, IsAsking, IsWrittenIn, NonePending, Pending, asked_at}
use Rattle.client_state.specs.Sending.{IsOfSession}
use Rattle.client_state.specs.Stepping.{AsksWhereStopped}
use Rattle.client_state.specs.Writing.{WritesThere}
use Rattle.client_state.specs.declared.held.Held.{Held}
use Rattle.client_state.specs.declared.link.Link.{Link}
use Rattle.client_state.specs.declared.requests.Sending.{Sending}
use Rattle.client_state.specs.declared.transaction.Sent.{Sent}
use Rattle.client_state.specs.declared.transaction.Transaction.{Transaction}
use Rattle.log_entries.specs.declared.request.Request.{Request}
use Rattle.session_outbox.specs.declared.answers.At.{At}
use Rattle.paused_eval.specs.Copies.{AreAmong}
use Rattle.std.proofs.Common.{List, ap, cond, inl, inr, refl, subst, sym, ◌≡◌, ◌∙◌, ℕ}
use Rattle.std.specs.Prelude.{None, Some, slice_get}
use Rattle.thor_value.specs.declared.names.Oref.{Oref}
use Rattle.thor_value.specs.declared.values.Obj.{Obj}
use Rattle.repo_refusals.specs.declared.refusal.Refusal.TheVariants as refused
use Rattle.repo_refusals.specs.declared.refusal.Refusal.{Refusal}

-- ---- what nothing is learnt from

-- a call that stopped
pub has_stopped_learns : (k : Refusal) (repo : ℕ) (h : Held) → HasStopped k → Learns k repo h h
has_stopped_learns (refused.Reason r) repo h stopped = absurd stopped
has_stopped_learns (refused.Down n) repo h stopped = absurd stopped
has_stopped_learns (refused.Stopped n) repo h stopped = record { left = h.cache.cache; links = refl; kept_so = λ x. refl; fewer = λ x. inl refl }
has_stopped_learns (refused.Damaged n place) repo h stopped = absurd stopped
has_stopped_learns refused.NoMemory repo h stopped = absurd stopped

-- the client asks for the verdict on what a call that stopped had sent, and on nothing else
pub stopped_where : (k : Refusal) (sent : Sent) (z : Pending) → HasStopped k → z ≡ IsAsking sent 0 → AsksWhereStopped k sent z
stopped_where (refused.Reason r) sent z stopped e = absurd stopped
stopped_where (refused.Down n) sent z stopped e = absurd stopped
stopped_where (refused.Stopped n) sent z stopped e = e
stopped_where (refused.Damaged n place) sent z stopped e = absurd stopped
stopped_where refused.NoMemory sent z stopped e = absurd stopped

pub other_where : (k : Refusal) (sent : Sent) (z : Pending) → (HasStopped k → ⊥) → z ≡ NonePending → AsksWhereStopped k sent z
other_where (refused.Reason r) sent z other e = e
other_where (refused.Down n) sent z other e = e
other_where (refused.Stopped n) sent z other e = absurd (other tt)
other_where (refused.Damaged n place) sent z other e = e
other_where refused.NoMemory sent z other e = e

pub asks_behind : (s : Sending) (k : Refusal) (sent : Sent) (before after : Held) (z : Pending) (left : Transaction) → AsksWhereStopped k sent z → sent ≡ sent_of s.request.tx s.at left → InSession s.at before → WritesThere s.at.repo s.request.writes before.cache.cache
    → (IsWrittenIn s.at before → HasStopped k → IsWrittenIn s.at after) → AsksBehind s k z after
asks_behind s (refused.Reason r) sent before after z left asks is joined wrote stays = inl asks
asks_behind s (refused.Down n) sent before after z left asks is joined wrote stays = inl asks
asks_behind s (refused.Stopped n) sent before after z left asks is joined wrote stays = inr (ap asked_at (asks ∙ ap (λ (x : Sent). IsAsking x 0) is), tt, stays (written_there s.at s.request.writes before joined wrote) tt)
asks_behind s (refused.Damaged n place) sent before after z left asks is joined wrote stays = inl asks
asks_behind s refused.NoMemory sent before after z left asks is joined wrote stays = inl asks

-- a refusal that is no cause
pub no_cause_learns : (k : Refusal) (repo : ℕ) (h : Held) → cause_behind k repo ≡ None → Learns k repo h h
no_cause_learns (refused.Reason r) repo h none = cc
no_cause_learns (refused.Down n) repo h none = cc
no_cause_learns (refused.Stopped n) repo h none = cc
no_cause_learns (refused.Damaged n place) repo h none = cc
no_cause_learns refused.NoMemory repo h none = record { left = h.cache.cache; links = refl; kept_so = λ x. refl; fewer = λ x. inl refl }

-- want of memory loses no session
pub no_memory_loses : (repo : ℕ) (h : Held) → Loses refused.NoMemory repo h h
no_memory_loses repo h = record { left = h.cache.cache; links = refl; kept_so = λ x. refl; fewer = λ x. inl refl }

-- ---- what is kept

pub keeps_then : (a b c : Held) → KeepsTry a b → c ≡ record b { floor = c.floor; learnt = c.learnt } → KeepsTry a c
keeps_then a b c k rest = (ap (λ (h : Held). h.client) rest ∙ k.0, ap (λ (h : Held). h.links.items) rest ∙ k.1, subst (λ (d : Contents). AreAmong (seen a.cache.cache) (kept d)) (sym (ap (λ (h : Held). h.cache.cache) rest)) k.2)

module _ (a b : Held) (rest : b ≡ record a { floor = b.floor }) where
  pub made_then : (oref : Oref) (made : Obj) (c d : Held) → KeepsMade oref made b c → HoldsLess c d → KeepsMade oref made a d
  made_then oref made c d k less = (
    less.0 ∙ (k.0 ∙ ap (λ (h : Held). h.client) rest),
    less.1 ∙ (k.1 ∙ ap (λ (h : Held). h.links.items) rest),
    subst (λ (e : Contents). AreAmong (λ x. cond (same_name oref x) (Some made) (kept e x)) (kept d.cache.cache)) (ap (λ (h : Held). h.cache.cache) rest) (fewer_among (λ x. cond (same_name oref x) (Some made) (kept b.cache.cache x)) (kept c.cache.cache) (kept d.cache.cache) k.2 less.2),
  )

  pub learns_from : (k : Refusal) (repo : ℕ) (c : Held) → Learns k repo b c → Learns k repo a c
  learns_from k repo c l = record {
    left = l.left;
    links = l.links ∙ ap (λ (h : Held). links_learnt k repo h.links.items) rest;
    kept_so = subst (λ (d : Contents). CopiesRefused k repo a.links.items d l.left) (ap (λ (h : Held). h.cache.cache) rest) (subst (λ (ls : List Link). CopiesRefused k repo ls b.cache.cache l.left) (ap (λ (h : Held). h.links.items) rest) l.kept_so);
    fewer = l.fewer;
  }

-- ---- sessions

-- a request that names the session of a call, and acknowledges what was taken there
pub of_call : (links : List Link) (at : At) (q : Request) → q.session ≡ at.session → q.upto ≡ upto_in (slice_get links at.repo) → IsOfSession links (record { at = at; request = q })
of_call links at q session upto = record { session = session; upto = λ h. upto }
