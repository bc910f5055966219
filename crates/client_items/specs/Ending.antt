-- Whether a step ends a try, and how the items end by what a step has come to (this project's).
use Rattle.client_items.specs.Courses.{Course, Settles, who_behind}
use Rattle.client_items.specs.Falling.{IsLeft}
use Rattle.client_items.specs.declared.attempts.Attempts.{Attempts}
use Rattle.client_items.specs.declared.news.News.{News}
use Rattle.client_items.specs.declared.news.News.TheVariants as news
use Rattle.client_items.specs.declared.news.Settled.{Settled}
use Rattle.serial_model.specs.declared.outcomes.Cause.{Cause}
use Rattle.serial_model.specs.declared.outcomes.Ended.{Ended}
use Rattle.serial_model.specs.declared.outcomes.ItemOutcome.TheVariants.{Refused, Unknown}
use Rattle.serial_model.specs.declared.outcomes.ItemOutcome.{ItemOutcome}
use Rattle.std.specs.Prelude.{Bool, Some, [], false, length, slice_get, true, ℕ, ◌+◌, ◌++◌, ◌<◌, ◌∷◌, ◌≡◌, ◌≤◌, ◌⊎◌}

-- whether the try that ran, or that would have begun, has ended without a commit
abbrev pub ends_try : News → Bool
ends_try news.Nothing = false
ends_try (news.TryEnded cause) = true
ends_try (news.Ended outcome) = false
ends_try (news.Settled settled) = false

-- the next item has ended so, in the try with this number
pub record EndsIn (tries : ℕ) (outcome : ItemOutcome) (old new : Course) : Type 0 where
  pub left : length old.ended < old.count
  pub last : Ended
  pub who : last.who ≡ who_behind old.client (length old.ended)
  pub grown : new ≡ record old { ended = old.ended ++ last ∷ [] }
  pub tries_is : last.tries ≡ tries
  pub outcome_is : last.outcome ≡ outcome

-- the same in any try
pub record EndsAs (outcome : ItemOutcome) (old new : Course) : Type 0 where
  pub tries : ℕ
  pub ends : EndsIn tries outcome old new

-- The next item is refused for this. It has had as many tries as an item has.
pub record IsRefused (each : ℕ) (cause : Cause) (old new : Course) : Type 0 where
  pub tries : ℕ
  pub ends : EndsIn tries (Refused cause) old new
  pub spent : each ≤ tries

-- The item of the index, which was Unknown by this transaction, has ended so.
pub record SettlesAs (settled : Settled) (old new : Course) : Type 0 where
  pub settles : Settles old new
  pub index_is : settled.index ≡ settles.place + 1
  pub tx_is : settles.tx ≡ settled.ts
  pub outcome_is : settles.outcome ≡ settled.outcome

-- The item of the index is held as Unknown by this transaction.
pub record IsHeldSo (settled : Settled) (c : Course) : Type 0 where
  pub place : ℕ
  pub index_is : settled.index ≡ place + 1
  pub was : Ended
  pub there : slice_get c.ended place ≡ Some was
  pub unknown : was.outcome ≡ Unknown settled.ts

-- What a client's course becomes by what a step has come to, where an item has so many tries: nothing changes, or an item ends
-- just so.
abbrev pub GoesBy : ℕ → News → Course → Course → Type 0
GoesBy each news.Nothing old new = new ≡ old
GoesBy each (news.TryEnded cause) old new = (new ≡ old) ⊎ IsRefused each cause old new
GoesBy each (news.Ended outcome) old new = (new ≡ old) ⊎ EndsAs outcome old new
GoesBy each (news.Settled settled) old new = (new ≡ old) ⊎ SettlesAs settled old new

-- Which item has to end by what a step has come to, behind these tries: where an item is left, the next one, and behind the
-- end of a try only where that was its last; one that is held as Unknown by the transaction that was settled.
abbrev pub EndsBy : Attempts → News → Course → Course → Type 0
EndsBy a news.Nothing old new = Unit {0}
EndsBy a (news.TryEnded cause) old new = a.each ≤ a.tried + 1 → IsLeft old → IsRefused a.each cause old new
EndsBy a (news.Ended outcome) old new = IsLeft old → EndsAs outcome old new
EndsBy a (news.Settled settled) old new = IsHeldSo settled old → SettlesAs settled old new
