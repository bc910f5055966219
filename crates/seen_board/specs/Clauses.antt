-- The words in which the calls of the board say what a seat knows.
use Rattle.std.specs.Prelude.{◌≡◌, ℕ, ◌<◌, Some, List, [], ◌∷◌, ◌++◌, length, slice_get, slice_index}
use Rattle.atomic_table.specs.Seated.{TableId}
use Rattle.atomic_table.specs.declared.shared.Seat.{Seat}
use Rattle.seen_board.specs.declared.knowledge.Knowledge.{Knowledge}
use Rattle.seen_board.specs.declared.knowledge.Made.{Made}
use Rattle.seen_board.specs.declared.knowledge.View.{View}
use Rattle.seen_board.specs.Knowledge.{MayAdd, at, items_of}
use Rattle.seen_board.specs.Meaning.{Meaning}
use Rattle.seen_board.specs.Rows.{IsLonger}

module _ {S I C : Type 0} where
  abbrev pub knowledge : Seat S (View I C) → Knowledge I C
  knowledge p = p.me.0.knows

  -- what the seat has seen of a repository's history
  abbrev pub history : Seat S (View I C) → ℕ → List (Made I)
  history p r = at p.me.0.knows.items r

  -- what the seat has seen of the calls that a client sent
  abbrev pub calls_of : Seat S (View I C) → ℕ → List C
  calls_of p k = at p.me.0.knows.calls k

  -- how long the seat found each repository's history to be, when it last looked
  abbrev pub looks : Seat S (View I C) → List ℕ
  looks p = p.me.0.reached

  -- the same of one repository
  abbrev pub reached : Seat S (View I C) → ℕ → ℕ
  reached p r = slice_index p.me.0.reached r

  -- a seat of this table that has seen nothing
  abbrev pub IsFresh : TableId → Seat S (View I C) → Type 0
  IsFresh z p = (p.table_id ≡ z) × ((r : ℕ) → history p r ≡ []) × ((k : ℕ) → calls_of p k ≡ [])

module _ {I C : Type 0} where
  -- the two know the same, whatever they own
  abbrev pub IsCopy : Knowledge I C → Knowledge I C → Type 0
  IsCopy g h = ((r : ℕ) → at h.items r ≡ at g.items r) × ((k : ℕ) → at h.calls k ≡ at g.calls k)

  -- of each history and of each client's calls, the longer list of two is kept, and both begin it
  pub record Learnt (g h kept : Knowledge I C) : Type 0 where
    pub items : (r : ℕ) → IsLonger (at g.items r) (at h.items r) (at kept.items r)
    pub calls : (k : ℕ) → IsLonger (at g.calls k) (at h.calls k) (at kept.calls k)

  -- what might stand next in a history still may
  abbrev pub StillMay : Meaning I C → ℕ → Knowledge I C → Knowledge I C → Type 0
  StillMay w r g h = (m : Made I) → MayAdd w g r m → MayAdd w h r m

  -- the next of these items may stand next in the history
  abbrev pub MayGrow : Meaning I C → List I → Knowledge I C → ℕ → Type 0
  MayGrow w items h r = (m : Made I) × (slice_get items (length (at h.items r)) ≡ Some m.item) × MayAdd w h r m

  -- The call of client k makes the item behind this history, makes none at an earlier place of it, and the item shows no other client
  pub record MakesNext (w : Meaning I C) (c : C) (k r : ℕ) (l : List (Made I)) (x : I) : Type 0 where
    pub makes : w.makes c r (length l) x
    pub first : (p : ℕ) (y : I) → p < length l → w.makes c r p y → ⊥
    pub shows : (j : ℕ) → w.shows (items_of l) x ≡ Some j → k ≡ j

-- one of these items more: the one that stands behind those that were there
abbrev pub Added : {I : Type 0} → List I → List (Made I) → List (Made I) → Type 0
Added {I} items xs ys = (m : Made I) × (slice_get items (length xs) ≡ Some m.item) × (ys ≡ xs ++ m ∷ [])
