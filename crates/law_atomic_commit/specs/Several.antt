-- Several repositories: how a transaction stands at each of them, when it has committed, and what
-- two-phase commit keeps.
use Rattle.log_entries.specs.declared.entry.Entry.{Entry}
use Rattle.log_entries.specs.declared.request.Request.{Request}
use Rattle.spec_history.specs.Checking.{is_committed}
use Rattle.spec_history.specs.History.{Aborted, Base, IsCommitted, Lives, Known, known_by}
use Rattle.spec_history.specs.Participants.{takes_part}
use Rattle.spec_history.specs.Requests.{is_upgrade}
use Rattle.spec_history.specs.Sound.{sound}
use Rattle.spec_trace.specs.Trace.{Item, entries}
use Rattle.std.specs.Prelude.{Bool, List, None, Option, Some, [], cond, false, nat_eq, true, ℕ, ◌++◌, ◌<◌, ◌∷◌, ◌≡◌, ◌≤◌}
use Rattle.thor_value.specs.declared.names.Ts.{Ts}

-- The repositories of a run, with what each began with and its history, by their numbers.
pub record Several : Type 0 where
  pub repos : ℕ
  pub base : ℕ → Base
  pub history : ℕ → List Entry

-- how t stands at the repository r
abbrev pub part : Several → ℕ → Ts → Option Known
part S r t = known_by (S.base r) (S.history r) t

abbrev pub is_committed_part : Option Known → Bool
is_committed_part None = false
is_committed_part (Some o) = is_committed o.fate

-- whether t has committed: at its coordinator
abbrev pub committed : Several → Ts → Bool
committed S t = is_committed_part (part S t.repo t)

-- t has committed, and stands so at its coordinator
pub record HasCommitted (S : Several) (t : Ts) (w : Known) : Type 0 where
  pub there : part S t.repo t ≡ Some w
  pub commits : IsCommitted w.fate

-- Each history is sound, each repository has its own number and knows how many there are. There is none past
-- the last.
pub record AreSound (S : Several) : Type 0 where
  pub each : (r : ℕ) → sound (S.base r) (S.history r)
  pub numbered : (r : ℕ) → r < S.repos → (S.base r).repo ≡ r
  pub counted : (r : ℕ) → r < S.repos → (S.base r).repos ≡ S.repos
  pub outside : (r : ℕ) → S.repos ≤ r → S.history r ≡ []

-- What two-phase commit keeps.
pub record IsAtomic (S : Several) : Type 0 where
  -- what is known anywhere is known at its coordinator
  pub known : (r : ℕ) (t : Ts) (o : Known) → part S r t ≡ Some o → (w : Known) × (part S t.repo t ≡ Some w)
  -- what committed is known at each participant
  pub everywhere : (r : ℕ) (t : Ts) (w : Known) → HasCommitted S t w → takes_part t.repo w.request r ≡ true → (o : Known) × (part S r t ≡ Some o)
  -- what is committed anywhere committed at its coordinator
  pub agreed : (r : ℕ) (t : Ts) (o w : Known) → part S r t ≡ Some o → IsCommitted o.fate → part S t.repo t ≡ Some w → IsCommitted w.fate
  -- what is aborted anywhere is aborted at its coordinator
  pub given_up : (r : ℕ) (t : Ts) (o w : Known) → part S r t ≡ Some o → o.fate ≡ Aborted → part S t.repo t ≡ Some w → w.fate ≡ Aborted

-- The request q at the repository r is of the same transaction as p at n.
pub record AreAlike (r : ℕ) (q : Request) (n : ℕ) (p : Request) : Type 0 where
  pub who : q.who ≡ p.who
  pub kind : q.kind ≡ p.kind
  pub fresh : q.fresh ≡ p.fresh
  pub answer : q.answer ≡ p.answer
  pub participants : (m : ℕ) → takes_part r q m ≡ takes_part n p m

-- The requests of a transaction are alike at all repositories.
abbrev pub Alike : Several → Type 0
Alike S = (r : ℕ) (t : Ts) (o w : Known) → part S r t ≡ Some o → part S t.repo t ≡ Some w → AreAlike r o.request t.repo w.request

-- ---- what follows

-- A transaction that has committed is undecided or committed at each participant, and aborted at none.
abbrev pub AllParts : Several → Type 0
AllParts S = (r : ℕ) (t : Ts) (w : Known) → HasCommitted S t w → takes_part t.repo w.request r ≡ true → (o : Known) × (part S r t ≡ Some o) × Lives o.fate

-- The least of a transaction's participants coordinates it.
abbrev pub CoordinatorsAreLeast : Several → Type 0
CoordinatorsAreLeast S = (t : Ts) (w : Known) → part S t.repo t ≡ Some w → (n : ℕ) → takes_part t.repo w.request n ≡ true → t.repo ≤ n

-- All repositories take part in an upgrade that stands anywhere.
abbrev pub UpgradesAreEverywhere : Several → Type 0
UpgradesAreEverywhere S = (r : ℕ) (t : Ts) (o : Known) → part S r t ≡ Some o → is_upgrade o.request ≡ true → (n : ℕ) → n < S.repos → takes_part r o.request n ≡ true

-- ---- repositories with their traces

-- The repositories of a run, with what each began with and its trace, by their numbers.
pub record Repositories : Type 0 where
  pub repos : ℕ
  pub base : ℕ → Base
  pub trace : ℕ → List Item

-- the histories of their traces
abbrev pub histories : Repositories → Several
histories R = record { repos = R.repos; base = R.base; history = λ r. entries (R.trace r) }

-- with one more item in the trace of r
abbrev pub with_item : Repositories → ℕ → Item → Repositories
with_item R r i = record R { trace = λ n. cond (nat_eq n r) (R.trace n ++ i ∷ []) (R.trace n) }
