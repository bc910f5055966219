-- Whether the entry of an item, where it has one, is what its outcome says.
use Rattle.std.specs.Ordering.{nat_cmp}
use Rattle.std.specs.Prelude.{◌≡◌, ◌+◌, ◌<◌, ◌≤◌, ℕ, List, [], ◌∷◌, length, take, drop, Option, None, Some}
use Rattle.thor_value.specs.FiniteMap.{Map}
use Rattle.thor_value.specs.declared.values.Answer.TheVariants as answer
use Rattle.serial_model.specs.declared.entries.Did.{Did}
use Rattle.serial_model.specs.declared.entries.What.{What}
use Rattle.serial_model.specs.declared.outcomes.Ended.{Ended}
use Rattle.serial_model.specs.declared.outcomes.ItemOutcome.{ItemOutcome}
use Rattle.serial_model.specs.declared.outcomes.ItemOutcome.TheVariants.{Done, Upgraded, Faulted, Refused, Unknown}
use Rattle.top_history_check.specs.Places.{found}

abbrev pub Tells : Option Did → ItemOutcome → Type 0
Tells (Some d) (Done ts ints) = (d.ts ≡ ts) × (d.number ≡ 0) × (d.answer ≡ answer.Ints ints)
Tells (Some d) (Faulted ts fault) = (d.ts ≡ ts) × (d.number ≡ 0) × (d.answer ≡ answer.Fault fault)
Tells (Some d) (Upgraded ts number) = (d.ts ≡ ts) × (d.number ≡ number) × (d.answer ≡ answer.Ints [])
Tells (Some d) (Refused cause) = ⊥
Tells (Some d) (Unknown tx) = d.ts ≡ tx
Tells None (Done ts ints) = ⊥
Tells None (Faulted ts fault) = ⊥
Tells None (Upgraded ts number) = ⊥
Tells None (Refused cause) = Unit {0}
Tells None (Unknown tx) = Unit {0}

-- the outcome is that of an item, and its entry is what it says
abbrev pub IsTold : Map nat_cmp ℕ → List Did → ℕ → ℕ → Ended → Type 0
IsTold places history client n e = (e.who ≡ record { client = client; index = n }) × Tells (found places history e.who) e.outcome

-- the outcomes are those of a client's items, the first of which has the number n
abbrev pub AreTold : Map nat_cmp ℕ → List Did → ℕ → ℕ → List Ended → Type 0
AreTold places history client n [] = Unit {0}
AreTold places history client n (e ∷ es) = IsTold places history client n e × AreTold places history client (n + 1) es

-- the outcomes from a place on begin with those of a client's items
pub record AreNext (places : Map nat_cmp ℕ) (history : List Did) (client : ℕ) (items : List What) (ends : List Ended) (used : ℕ) : Type 0 where
  pub few : length items < 4294967295
  pub enough : used + length items ≤ length ends
  pub told : AreTold places history client 1 (take (length items) (drop used ends))
