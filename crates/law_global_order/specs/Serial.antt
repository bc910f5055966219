-- The commits of several repositories as one serial history: each runs, by rising timestamp, on what those
-- before it left. (Serial execution in timestamp order: Adya and others, SIGMOD 1995.) What it is to run is a
-- test here, so that it holds of any.
use Rattle.law_atomic_commit.specs.Several.{HasCommitted, Several, part}
use Rattle.log_entries.specs.declared.request.Request.{Request}
use Rattle.spec_history.specs.History.{Known, objects_at, state}
use Rattle.spec_history.specs.Requests.{has_read, text_of}
use Rattle.std.specs.List.{fold}
use Rattle.std.specs.Prelude.{Bool, List, Some, [], take, true, ℕ, ◌++◌, ◌<◌, ◌≡◌, ◌∷◌}
use Rattle.thor_value.specs.FiniteMap.{get, overwrite}
use Rattle.thor_value.specs.declared.names.Oref.{Oref}
use Rattle.thor_value.specs.declared.names.Ts.{Ts}
use Rattle.law_global_order.specs.Whole.{Commit, Objects, whole}

-- What several repositories have together: the stored objects, due or not, and the texts of the installed
-- upgrades.
pub record Joined : Type 0 where
  pub objects : Objects
  pub texts : List (List ℕ)

-- the objects have at each name of a repository what that repository has there
abbrev pub Joins : ℕ → (ℕ → Objects) → Objects → Type 0
Joins repos objects all = (x : Oref) → x.repo < repos → get all x ≡ get (objects x.repo) x

-- what there is behind a transaction
abbrev pub next : Joined → Request → Joined
next L q = record { objects = overwrite L.objects q.writes; texts = L.texts ++ text_of q.kind }

-- what there is behind these transactions
abbrev pub after_commits : Joined → List Commit → Joined
after_commits L es = fold (λ N e. next N e.1) L es

-- It has all that t met at its participants: what it read, and the installed upgrades.
pub record HasMet (S : Several) (t : Ts) (L : Joined) : Type 0 where
  pub objects : (r : ℕ) (o : Known) (x : Oref) → part S r t ≡ Some o → has_read o.request x ≡ true → get L.objects x ≡ get (objects_at (S.base r) (S.history r) o.place) x
  pub texts : (r : ℕ) (o : Known) → part S r t ≡ Some o → (state (S.base r) (take o.place (S.history r))).texts ≡ L.texts

-- `does L q` says whether q, run on L, reads, writes and answers what it says. Each committed transaction does
-- so on all that has what it met.
abbrev pub AllRest : Several → (Joined → Request → Bool) → Type 0
AllRest S does = (t : Ts) (w : Known) → HasCommitted S t w → (L : Joined) → HasMet S t L → does L (whole S t w.request) ≡ true

-- each of these transactions, run in turn from L on, does what it says
abbrev pub IsSerial : (Joined → Request → Bool) → Joined → List Commit → Type 0
IsSerial does L [] = Unit {0}
IsSerial does L (e ∷ es) = (does L e.1 ≡ true) × IsSerial does (next L e.1) es

-- what the repositories began with
abbrev pub bases : Several → ℕ → Objects
bases S r = (S.base r).objects

-- all repositories began with the same upgrades
abbrev pub BeganWith : Several → List (List ℕ) → Type 0
BeganWith S texts = (r : ℕ) → r < S.repos → (S.base r).texts ≡ texts
