-- The last item of each client in a history.
use Rattle.std.specs.List.{AllByRecursion}
use Rattle.std.specs.Ordering.{nat_cmp}
use Rattle.std.specs.Prelude.{◌≡◌, ◌<◌, ◌≤◌, ℕ, List, Option, None, Some}
use Rattle.thor_value.specs.FiniteMap.{Map, get}
use Rattle.serial_model.specs.Outcomes.{AreInClientOrder}
use Rattle.serial_model.specs.declared.entries.Did.{Did}

-- no entry of the client has a greater index than this
abbrev pub IsGreatest : List Did → ℕ → Option ℕ → Type 0
IsGreatest history client None = AllByRecursion (λ d. d.who.client ≡ client → ⊥) history
IsGreatest history client (Some index) = AllByRecursion (λ d. d.who.client ≡ client → d.who.index ≤ index) history

-- The history is in client order, and these are the last items of its clients.
pub record EndsWith (last : Map nat_cmp ℕ) (history : List Did) : Type 0 where
  pub in_order : AreInClientOrder history
  pub greatest : (client : ℕ) → IsGreatest history client (get last client)

-- an entry may come where the last one of its client has a lesser index
abbrev pub IsAbove : Option ℕ → ℕ → Type 0
IsAbove None index = Unit {0}
IsAbove (Some last) index = last < index
