-- What is proved of the sessions of a trace, and of what is answered about transactions.
use Rattle.log_entries.specs.declared.entry.Entry.TheVariants.{Life}
use Rattle.spec_trace.specs.Calls.{Settled, Undecided, asked, is_kept, last_session, next_page}
use Rattle.spec_history.specs.History.{Base, IsCommitted, Known, is_undecided, known_by, state}
use Rattle.spec_history.specs.Requests.{has_written}
use Rattle.spec_trace.specs.Session.{Session, session, session_lives, unanswered}
use Rattle.spec_trace.specs.Trace.{Item, M, entries}
use Rattle.spec_trace.specs.declared.mark.Mark.TheVariants as the
use Rattle.std.specs.List.{list_any, slice_get}
use Rattle.std.specs.Option.{IsSomeAnd}
use Rattle.std.specs.Prelude.{IsTrue, List, None, Some, false, length, true, ℕ, ◌<◌, ◌↔◌, ◌≡◌, ◌≤◌, ◌⊎◌}
use Rattle.thor_value.specs.FiniteMap.{get, values}
use Rattle.thor_value.specs.Names.{same_ts}
use Rattle.thor_value.specs.declared.names.Oref.{Oref}
use Rattle.thor_value.specs.declared.names.Ts.{Ts}
use Rattle.thor_value.specs.declared.values.Obj.{Obj}

-- The sessions of a trace.
pub record SessionsAreNumbered (b : Base) (T : List Item) : Type 0 where
  -- their numbers aren't above the last one, so there is none of the next
  pub known : (s : ℕ) (v : Session) → session b T s ≡ Some v → s ≤ last_session T
  pub fresh : (s : ℕ) → last_session T < s → session b T s ≡ None
  -- no client connects under one number twice
  pub once : (m n s c d : ℕ) → slice_get T m ≡ Some (M (the.Connected s c)) → slice_get T n ≡ Some (M (the.Connected s d)) → m ≡ n
  -- each one began where there was an entry
  pub began : (s : ℕ) (v : Session) → session b T s ≡ Some v → (0 < v.began) × (v.began ≤ length (entries T))
  -- no Life came since one began that is live
  pub lives : (s : ℕ) (v : Session) (m n : ℕ) → session b T s ≡ Some v → session_lives v ≡ true → slice_get (entries T) m ≡ Some (Life n) → m < v.began

-- What a coordinator answers about a transaction t agrees with its history.
pub record AnswersAgree (b : Base) (T : List Item) (t : Ts) : Type 0 where
  -- undecided exactly where it is so, and this repository coordinates it
  pub undecided : (asked b T t ≡ Undecided) ↔ ((is_undecided (known_by b (entries T) t) ≡ true) × (t.repo ≡ b.repo))
  -- committed only where it is so, or was the base's last single commit of a client
  pub committed : asked b T t ≡ Settled true → IsSomeAnd (known_by b (entries T) t) (λ o. IsCommitted o.fate) ⊎ IsTrue (list_any (same_ts t) (values b.alone))
  -- aborted never where it committed here and its decision is kept
  pub aborted : asked b T t ≡ Settled false → is_kept b T t ≡ false

-- The pages of what a trace comes to were granted: they are below the next page.
pub record PagesAreGranted (b : Base) (T : List Item) : Type 0 where
  pub objects : (x : Oref) (o : Obj) → get (state b (entries T)).objects x ≡ Some o → x.page < next_page b T
  -- also those of what an undecided transaction wrote
  pub written : (t : Ts) (o : Known) (x : Oref) → known_by b (entries T) t ≡ Some o → has_written o.request x ≡ true → x.page < next_page b T

-- Why a session isn't live: a Life came since it began, its client has connected anew, or its client has left more news
-- unacknowledged than the base allows.
pub data IsGoneBy (b : Base) (T : List Item) (s : ℕ) (v : Session) : Type 0 where
  ByLife : (m n : ℕ) → slice_get (entries T) m ≡ Some (Life n) → v.began ≤ m → IsGoneBy b T s v
  ByNewer : (m n : ℕ) → slice_get T m ≡ Some (M (the.Connected n v.client)) → s < n → IsGoneBy b T s v
  BySilence : (n : ℕ) → b.silence ≡ Some n → n < unanswered v → IsGoneBy b T s v
