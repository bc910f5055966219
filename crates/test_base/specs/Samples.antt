-- Two small namings, on which the tests run. This project's.
use Rattle.std.specs.Prelude.{◌≡◌, ℕ, Option, Some, None, [], length, slice_get}
use Rattle.std.specs.Option.{option_map}
use Rattle.atomic_table.specs.Seated.{TableId}
use Rattle.atomic_table.specs.declared.shared.Seat.{Seat}
use Rattle.seen_board.specs.declared.knowledge.View.{View}
use Rattle.seen_board.specs.Clauses.{history}
use Rattle.seen_board.specs.Meaning.{Lasts, Meaning, stays_at}

-- All items are numbers that the opening put there
abbrev pub opened : Meaning ℕ ℕ
opened = record {
  makes = λ c r p i. ⊥;
  free = λ before i. Unit {0};
  shows = λ before i. None;
  justified = λ histories c. Unit {0};
}

pub opened_lasts : Lasts opened
opened_lasts ls ms c begins just = just

-- An item is of the opening, or has a client and the number that it put. A call has a client, the place at which it puts, and the number; it is justified behind an item of the opening
abbrev pub puts : Meaning (Option (ℕ × ℕ)) (ℕ × ℕ × ℕ)
puts = record {
  makes = λ c r p i. (c.1 ≡ p) × (i ≡ Some (c.0, c.2));
  free = λ before i. i ≡ None;
  shows = λ before i. option_map (λ (e : ℕ × ℕ). e.0) i;
  justified = λ histories c. slice_get (histories 0) 0 ≡ Some None;
}

pub puts_last : Lasts puts
puts_last ls ms c begins just = stays_at (ls 0) (ms 0) 0 None (begins 0) just

-- The seats of an owner and of a client, both of this table, before and after so many rounds
module _ {S I C : Type 0} where
  abbrev pub IsReady : TableId → ℕ → Seat S (View I C) → Seat S (View I C) → Type 0
  IsReady z repo owner pass = (owner.table_id ≡ z) × (pass.table_id ≡ z) × (history owner repo ≡ [])

  abbrev pub HasWorked : TableId → ℕ → ℕ → Seat S (View I C) → Seat S (View I C) → Type 0
  HasWorked z rounds repo owner pass = (owner.table_id ≡ z) × (pass.table_id ≡ z) × (length (history owner repo) ≡ rounds)
