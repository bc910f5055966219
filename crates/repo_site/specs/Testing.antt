-- What a repository tests of a call that its own state can't vouch for. A request that fails a test is none of a rightful
-- client.
use Rattle.cached_sets.specs.Meaning.{has_page}
use Rattle.log_entries.specs.declared.request.Request.{Request}
use Rattle.repo_core.specs.Shown.{Shown}
use Rattle.repo_sessions.specs.Sessions.{is_live}
use Rattle.spec_history.specs.Participants.{takes_part}
use Rattle.spec_history.specs.Requests.{is_upgrade}
use Rattle.std.specs.List.{AllByRecursion, list_any}
use Rattle.std.specs.Prelude.{Some, [], length, nat_eq, true, ℕ, ◌<◌, ◌∷◌, ◌≡◌, ◌≢◌, ◌≤◌}
use Rattle.thor_value.specs.FiniteMap.{get}
use Rattle.thor_value.specs.declared.values.Answer.TheVariants.{Ints}

-- The participants of a request to the repository n, of so many: it, and others that there are; the least coordinates.
pub record TakesPart (n repos : ℕ) (q : Request) : Type 0 where
  pub others : AllByRecursion (λ r. (r < repos) × (r ≢ n)) q.others
  pub coordinator : list_any (nat_eq q.tx.repo) (n ∷ q.others) ≡ true
  pub itself : q.tx.repo ≤ n
  pub least : AllByRecursion (λ r. q.tx.repo ≤ r) q.others

-- It speaks of objects of the repository n, and what it wrote has its epoch as version.
pub record SpeaksOf (n : ℕ) (q : Request) : Type 0 where
  pub here : AllByRecursion (λ x. x.repo ≡ n) q.ros
  pub versions : AllByRecursion (λ w. w.1.ver ≡ q.epoch) q.writes

-- It reads, writes and creates nothing, and answers nothing. All of so many repositories take part in it.
pub record IsBare (n repos : ℕ) (q : Request) : Type 0 where
  pub reads : q.ros ≡ []
  pub writes : q.writes ≡ []
  pub creates : q.fresh ≡ []
  pub answers : q.answer ≡ Ints []
  pub wide : (r : ℕ) → r < repos → takes_part n q r ≡ true

-- It is bare where it is an upgrade.
abbrev pub IsBareUpgrade : ℕ → ℕ → Request → Type 0
IsBareUpgrade n repos q = is_upgrade q ≡ true → IsBare n repos q

-- It comes from the client of the session s, which knows no place that isn't there. A transaction that the repository
-- coordinates was drawn in its present life, and what it wrote lies on pages that were granted, and that the session has.
pub record ComesFrom (x : Shown) (s : ℕ) (q : Request) : Type 0 where
  pub alive : q.tx.repo ≡ x.held.repo → q.tx.life ≡ x.held.life
  pub client : get x.memory.sessions.clients s ≡ Some q.who.client
  pub upto : q.upto ≤ length x.trace.history
  pub granted : AllByRecursion (λ w. w.0.page < x.held.next_grant) q.writes
  pub paged : AllByRecursion (λ w. has_page x.memory.sessions.sets s w.0.page ≡ true) q.writes

-- A request of the session s has passed all tests at the repository x, of so many.
pub record IsTested (x : Shown) (repos s : ℕ) (q : Request) : Type 0 where
  pub parts : TakesPart x.held.repo repos q
  pub speaks : SpeaksOf x.held.repo q
  pub bare : IsBareUpgrade x.held.repo repos q
  pub comes : ComesFrom x s q

-- The same, where the session is live: a request of one that isn't is refused.
pub record IsTestedIf (x : Shown) (repos s : ℕ) (q : Request) : Type 0 where
  pub tested : is_live x.memory.sessions s ≡ true → IsTested x repos s q
