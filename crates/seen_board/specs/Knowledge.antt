-- What one seat knows: of each repository's history a beginning, and of each client's calls a
-- beginning, which belong together. This project's.
use Rattle.std.specs.Prelude.{◌≡◌, ℕ, ◌<◌, Bool, true, Some, List, [], ◌∷◌, ◌++◌, map, take, length, slice_get, slice_index_or}
use mathlib.Core.List.{IsPrefix}
use Rattle.seen_board.specs.declared.knowledge.Family.{Family}
use Rattle.seen_board.specs.declared.knowledge.Knowledge.{Knowledge}
use Rattle.seen_board.specs.declared.knowledge.Made.{Made}
use Rattle.seen_board.specs.declared.knowledge.Maker.TheVariants.{Call, Nobody}
use Rattle.seen_board.specs.Meaning.{Meaning}
use Rattle.seen_board.specs.Rows.{put, longers, among}

module _ {A : Type 0} where
  -- the list of a number
  abbrev pub at : Family A → ℕ → List A
  at h r = slice_index_or h.lists r []

  abbrev pub owns : Family A → ℕ → Bool
  owns h r = among r h.owned

  -- empty lists, and these owned
  abbrev pub empty : List ℕ → Family A
  empty owned = record { owned = owned; lists = [] }

  -- the same lists, and none of them owned
  abbrev pub unowned : Family A → Family A
  unowned h = record { owned = []; lists = h.lists }

  -- one more at the end of a list
  abbrev pub longer_by : Family A → ℕ → A → Family A
  longer_by h r x = record { owned = h.owned; lists = put [] h.lists r (at h r ++ x ∷ []) }

  -- what both own, and the longer of two lists
  abbrev pub together : Family A → Family A → Family A
  together g h = record { owned = g.owned ++ h.owned; lists = longers g.lists h.lists }

  -- the lists of g begin those of h, and what g owns h owns, with the same list
  pub record Within (g h : Family A) : Type 0 where
    pub begins : (r : ℕ) → IsPrefix (at g r) (at h r)
    pub owned : (r : ℕ) → owns g r ≡ true → owns h r ≡ true
    pub whole : (r : ℕ) → owns g r ≡ true → at g r ≡ at h r

-- the items alone, without what made them
abbrev pub items_of : {I : Type 0} → List (Made I) → List I
items_of l = map (λ m. m.item) l

-- an item that was made by a client's call, which has this place among the calls that the client sent
abbrev pub made_by : {I : Type 0} → ℕ → ℕ → I → Made I
made_by client place x = record { item = x; by = Call client place }

module _ {I C : Type 0} where
  -- the histories, without what made their items
  abbrev pub histories : Knowledge I C → ℕ → List I
  histories h r = items_of (at h.items r)

  -- nothing seen, and these owned
  abbrev pub nothing : List ℕ → List ℕ → Knowledge I C
  nothing repos clients = record { items = empty repos; calls = empty clients }

  abbrev pub both : Knowledge I C → Knowledge I C → Knowledge I C
  both g h = record { items = together g.items h.items; calls = together g.calls h.calls }

  abbrev pub all_unowned : Knowledge I C → Knowledge I C
  all_unowned h = record { items = unowned h.items; calls = unowned h.calls }

  abbrev pub with_item : Knowledge I C → ℕ → Made I → Knowledge I C
  with_item h r m = record { items = longer_by h.items r m; calls = h.calls }

  abbrev pub with_call : Knowledge I C → ℕ → C → Knowledge I C
  with_call h k c = record { items = h.items; calls = longer_by h.calls k c }

  -- all that g has lies within h
  abbrev pub LiesIn : Knowledge I C → Knowledge I C → Type 0
  LiesIn g h = Within g.items h.items × Within g.calls h.calls

  module _ (w : Meaning I C) where
    -- An item that shows a client was made by a call of that client. Such items stand in the order of the calls, at most one for each call
    pub record InOrder (l : List (Made I)) : Type 0 where
      pub by_whom : (p : ℕ) (m : Made I) (k : ℕ) → slice_get l p ≡ Some m → w.shows (items_of (take p l)) m.item ≡ Some k → (i : ℕ) × (m.by ≡ Call k i)
      pub rises : (p q : ℕ) (m n : Made I) (k i j : ℕ) → p < q → slice_get l p ≡ Some m → slice_get l q ≡ Some n
          → w.shows (items_of (take p l)) m.item ≡ Some k → w.shows (items_of (take q l)) n.item ≡ Some k → m.by ≡ Call k i → n.by ≡ Call k j → i < j

    -- The item behind these needs no call; or it was made by a call, which was sent, and makes it at this place
    abbrev pub Covered : Knowledge I C → ℕ → List (Made I) → Made I → Type 0
    Covered h r before m = (m.by ≡ Nobody → w.free (items_of before) m.item)
        × ((k i : ℕ) → m.by ≡ Call k i → (c : C) × (slice_get (at h.calls k) i ≡ Some c) × w.makes c r (length before) m.item)

    -- Each item is covered by the calls that are known as sent, each of those calls is justified by the histories as they are known, and the items that show a client are in the order of its calls
    pub record Coherent (h : Knowledge I C) : Type 0 where
      pub covered : (r p : ℕ) (m : Made I) → slice_get (at h.items r) p ≡ Some m → Covered h r (take p (at h.items r)) m
      pub justified : (k i : ℕ) (c : C) → slice_get (at h.calls k) i ≡ Some c → w.justified (histories h) c
      pub ordered : (r : ℕ) → InOrder (at h.items r)

    -- Where the item behind these shows a client, a call of that client made it, which comes behind those that made the client's items before
    abbrev pub Follows : List (Made I) → Made I → Type 0
    Follows l m = (k : ℕ) → w.shows (items_of l) m.item ≡ Some k
        → (i : ℕ) × (m.by ≡ Call k i) × ((p : ℕ) (n : Made I) (j : ℕ) → slice_get l p ≡ Some n → w.shows (items_of (take p l)) n.item ≡ Some k → n.by ≡ Call k j → j < i)

    -- the item may stand next in the history
    abbrev pub MayAdd : Knowledge I C → ℕ → Made I → Type 0
    MayAdd h r m = Covered h r (at h.items r) m × Follows (at h.items r) m
