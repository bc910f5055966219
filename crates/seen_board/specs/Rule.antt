-- The rule of the board: what holds between any two steps, whoever made them.
use Rattle.std.specs.Prelude.{◌≡◌, ℕ, ◌≤◌, true, List, [], length, slice_index}
use mathlib.Core.Option.{some}
use mathlib.Core.List.{IsPrefix}
use lib.ListN.{get_elem?}
use Rattle.atomic_table.specs.Table.{State}
use Rattle.seen_board.specs.declared.knowledge.Family.{Family}
use Rattle.seen_board.specs.declared.knowledge.Knowledge.{Knowledge}
use Rattle.seen_board.specs.declared.knowledge.Made.{Made}
use Rattle.seen_board.specs.declared.knowledge.View.{View}
use Rattle.seen_board.specs.Knowledge.{Coherent, at, nothing, owns}
use Rattle.seen_board.specs.Meaning.{Meaning}
use Rattle.seen_board.specs.Rows.{from}

-- the lists as they are, and the seat that owns each
pub record Whole (A : Type 0) : Type 0 where
  pub list : ℕ → List A
  pub owner : ℕ → ℕ

-- the histories of all repositories, and the calls of all clients
pub record Everything (I C : Type 0) : Type 0 where
  pub items : Whole (Made I)
  pub calls : Whole C

-- the lists of a seat begin those that there are, and those that it owns are whole
pub record Holds {A : Type 0} (all : Whole A) (seat : ℕ) (h : Family A) : Type 0 where
  pub begins : (r : ℕ) → IsPrefix (at h r) (all.list r)
  pub whole : (r : ℕ) → owns h r ≡ true → (seat ≡ all.owner r) × (at h r ≡ all.list r)

module _ {I C : Type 0} where
  pub record HoldsBoth (all : Everything I C) (seat : ℕ) (h : Knowledge I C) : Type 0 where
    pub items : Holds all.items seat h.items
    pub calls : Holds all.calls seat h.calls

  -- what the view of one seat says is so
  pub record Fits (w : Meaning I C) (all : Everything I C) (seat : ℕ) (v : View I C) : Type 0 where
    pub knows : HoldsBoth all seat v.knows
    pub coherent : Coherent w v.knows
    pub reached : (r : ℕ) → slice_index v.reached r ≤ length (all.items.list r)
    pub mine : HoldsBoth all seat v.mine
    pub theirs : HoldsBoth all seat v.theirs

  -- There is one history for each repository and one list of calls for each client. Each word is the length of its history, and each view fits
  pub record Consistent {S : Type 0} (w : Meaning I C) (repos : ℕ) (s : State S (View I C)) : Type 0 where
    pub all : Everything I C
    pub wide : length s.words ≡ repos
    pub words : (r : ℕ) → slice_index s.words r ≡ length (all.items.list r)
    pub each : (seat : ℕ) (v : View I C) → get_elem? s.views seat ≡ some v → Fits w all seat v

  -- a view that has seen nothing, and owns these
  abbrev pub newcomer : List ℕ → List ℕ → View I C
  newcomer repos clients = record { knows = nothing repos clients; reached = []; mine = nothing [] []; theirs = nothing [] [] }

  -- the view of the first seat, which owns all repositories and all clients
  abbrev pub first_view : ℕ → ℕ → View I C
  first_view repos clients = newcomer (from repos 0) (from clients 0)
