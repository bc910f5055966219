-- What each kind of step does to a view, and what it tells.
use Rattle.std.specs.Prelude.{◌≡◌, ℕ, ◌≤◌, Some, List, [], length, slice_get, slice_index}
use mathlib.Core.Option.{some}
use Rattle.atomic_table.specs.Table.{Me, Step}
use Rattle.seen_board.specs.declared.knowledge.Made.{Made}
use Rattle.seen_board.specs.declared.knowledge.View.{View}
use Rattle.seen_board.specs.Knowledge.{Coherent, LiesIn, all_unowned, at, both, nothing, with_call, with_item}
use Rattle.seen_board.specs.Meaning.{Meaning}
use Rattle.seen_board.specs.Rows.{first_of, put, rest_of}
use Rattle.seen_board.specs.Rule.{newcomer}

module _ {I C : Type 0} where
  -- without the first repository that it owns, and a new seat that owns that one
  abbrev pub given_repo : View I C → View I C
  given_repo v = record v { knows = record { items = record { owned = rest_of v.knows.items.owned; lists = v.knows.items.lists }; calls = v.knows.calls } }

  abbrev pub owner_of : View I C → View I C
  owner_of v = newcomer (first_of v.knows.items.owned) []

  -- the same for the first client
  abbrev pub given_client : View I C → View I C
  given_client v = record v { knows = record { items = v.knows.items; calls = record { owned = rest_of v.knows.calls.owned; lists = v.knows.calls.lists } } }

  abbrev pub client_of : View I C → View I C
  client_of v = newcomer [] (first_of v.knows.calls.owned)

  abbrev pub grown : View I C → ℕ → Made I → View I C
  grown v r m = record v { knows = with_item v.knows r m }

  abbrev pub sent : View I C → ℕ → C → View I C
  sent v k c = record v { knows = with_call v.knows k c }

  abbrev pub met : View I C → ℕ → ℕ → View I C
  met v r n = record v { reached = put 0 v.reached r n }

  -- what was seen, and nothing owned
  abbrev pub copied : View I C → View I C
  copied v = record { knows = all_unowned v.knows; reached = v.reached; mine = nothing [] []; theirs = nothing [] [] }

  -- the two are put together, and are still there to be compared
  abbrev pub joined : View I C → View I C → View I C
  joined v w = record { knows = both v.knows w.knows; reached = v.reached; mine = v.knows; theirs = w.knows }

  abbrev pub compared : View I C → View I C
  compared v = record { knows = v.knows; reached = v.reached; mine = nothing [] []; theirs = nothing [] [] }

  -- nothing is left to be compared
  abbrev pub IsCalm : View I C → Type 0
  IsCalm v = (v.mine ≡ nothing [] []) × (v.theirs ≡ nothing [] [])

  module _ {S : Type 0} where
    -- the item that stands next in what the step says is now known
    abbrev pub Grew : Meaning I C → (S → List I) → Step S → Me S (View I C) → ℕ → Me S (View I C) → Type 0
    Grew w items s v n u = (u.1 ≡ v.1) × ((k : S) (x : I) → s.said ≡ some k → slice_get (items k) s.first ≡ Some x → (m : Made I) × (m.item ≡ x) × (u.0 ≡ grown v.0 s.word m)) × Coherent w u.0.knows

    -- the client has one call more
    abbrev pub Sent : Meaning I C → ℕ → C → Me S (View I C) → Me S (View I C) → Type 0
    Sent w k c v u = (u ≡ (sent v.0 k c, v.1)) × Coherent w u.0.knows

    -- the history has that length, which isn't below what was seen
    abbrev pub Met : Step S → Me S (View I C) → ℕ → Me S (View I C) → Type 0
    Met s v n w = (w ≡ (met v.0 s.word n, v.1)) × (length (at v.0.knows.items s.word) ≤ n) × (slice_index v.0.reached s.word ≤ n)

    -- each of the two that were put together lies within what is known now
    abbrev pub Compared : Meaning I C → Me S (View I C) → Me S (View I C) → Type 0
    Compared w v u = (u ≡ (compared v.0, v.1)) × LiesIn v.0.mine v.0.knows × LiesIn v.0.theirs v.0.knows × Coherent w v.0.knows
