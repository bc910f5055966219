-- One more entry at one of the repositories, and what its call knows of the others.
use Rattle.log_entries.specs.declared.entry.Entry.TheVariants.{Decided, Finished, Life, One, Prepared, Upgraded}
use Rattle.log_entries.specs.declared.entry.Entry.{Entry}
use Rattle.spec_history.specs.History.{Aborted, Base, Known, state}
use Rattle.spec_history.specs.Participants.{takes_part}
use Rattle.spec_history.specs.Sound.{owes}
use Rattle.law_atomic_commit.specs.Several.{AreAlike, HasCommitted, Several, part}
use Rattle.std.specs.Prelude.{Bool, None, Some, [], cond, false, nat_eq, true, ℕ, ◌++◌, ◌<◌, ◌≡◌, ◌∷◌, ◌⊎◌}
use Rattle.thor_value.specs.declared.names.Ts.{Ts}

-- with one more entry at r
abbrev pub grown : Several → ℕ → Entry → Several
grown S r e = record S { history = λ n. cond (nat_eq n r) (S.history n ++ e ∷ []) (S.history n) }

-- what the sender of a decision of t at its coordinator r knows
abbrev pub MayDecide : Several → ℕ → Ts → Bool → Type 0
-- each participant has prepared it
MayDecide S r t true = (w : Known) × (part S r t ≡ Some w) × ((n : ℕ) → takes_part r w.request n ≡ true → (o : Known) × (part S n t ≡ Some o))
MayDecide S r t false = Unit {0}

-- what one who finishes t elsewhere knows
abbrev pub MayFinish : Several → Ts → Bool → Type 0
-- its coordinator has decided so
MayFinish S t true = (w : Known) × HasCommitted S t w
MayFinish S t false = (w : Known) × (part S t.repo t ≡ Some w) × (w.fate ≡ Aborted)

-- what the call that makes the entry knows of the other repositories
abbrev pub MayCome : Several → ℕ → Entry → Type 0
MayCome S r (Life n) = Unit {0}
MayCome S r (One q) = Unit {0}
-- r is the coordinator, or the coordinator has prepared its part, and they are alike
MayCome S r (Prepared q) =
    (q.tx.repo ≡ r)
    ⊎ ((w : Known) × (part S q.tx.repo q.tx ≡ Some w) × AreAlike r q q.tx.repo w.request)
MayCome S r (Decided t c) = MayDecide S r t c
-- an earlier run left it, so nothing of it stands here; or it may be finished
MayCome S r (Finished t c) = (part S r t ≡ None) ⊎ MayFinish S t c
MayCome S r (Upgraded q) = Unit {0}

-- r is a repository, its history owes nothing for the entry, and its call knows what it has to know
pub record Continues (S : Several) (r : ℕ) (e : Entry) : Type 0 where
  pub within : r < S.repos
  pub owed : owes (S.base r) (state (S.base r) (S.history r)) e
  pub may : MayCome S r e

-- where nothing has come
abbrev pub opened_at : ℕ → (ℕ → Base) → Several
opened_at repos base = record { repos = repos; base = base; history = λ r. [] }
