-- Which repositories take part in a transaction.
use Rattle.log_entries.specs.declared.request.Request.{Request}
use Rattle.spec_history.specs.History.{Base}
use Rattle.std.specs.List.{AllByRecursion, list_any, range_with_len}
use Rattle.std.specs.Prelude.{Bool, IsTrue, [], nat_eq, ℕ, ◌<◌, ◌≡◌, ◌≢◌, ◌≤◌, ◌∷◌}
use Rattle.thor_value.specs.declared.values.Answer.TheVariants.{Ints}

-- whether n takes part in the transaction that has the request q at the repository r
abbrev pub takes_part : ℕ → Request → ℕ → Bool
takes_part r q n = list_any (nat_eq n) (r ∷ q.others)

-- The participants of a request's transaction: this repository, and others that there are. The least of
-- them coordinates it.
pub record HasParticipants (b : Base) (q : Request) : Type 0 where
  pub others : AllByRecursion (λ n. (n < b.repos) × (n ≢ b.repo)) q.others
  pub coordinator : IsTrue (takes_part b.repo q q.tx.repo)
  pub least : AllByRecursion (λ n. q.tx.repo ≤ n) (b.repo ∷ q.others)

-- q's transaction has this one participant, which is its coordinator
abbrev pub IsAlone : Base → Request → Type 0
IsAlone b q = (q.others ≡ []) × (q.tx.repo ≡ b.repo)

-- q's transaction has other participants
abbrev pub IsShared : Request → Type 0
IsShared q = q.others ≢ []

-- What the request of an upgrade is: it reads, writes and creates nothing, and answers nothing. All
-- repositories take part in it. (What it does to objects is done later, one object at a time: Boyapati and
-- others, OOPSLA 2003.)
pub record IsBareUpgrade (b : Base) (q : Request) : Type 0 where
  pub reads : q.ros ≡ []
  pub writes : q.writes ≡ []
  pub creates : q.fresh ≡ []
  pub answers : q.answer ≡ Ints []
  pub wide : AllByRecursion (λ n. IsTrue (takes_part b.repo q n)) (range_with_len 0 b.repos)
