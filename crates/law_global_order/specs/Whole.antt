-- The transactions of several repositories as wholes: what each read and wrote at all its participants,
-- which of them have committed, and what they leave.
use Rattle.law_atomic_commit.specs.Several.{HasCommitted, Several, committed, part}
use Rattle.log_entries.specs.declared.request.Request.{Request}
use Rattle.spec_history.specs.History.{Known, is_open, state}
use Rattle.spec_history.specs.Requests.{text_of}
use Rattle.std.specs.List.{flat_map, fold, range_with_len}
use Rattle.std.specs.Prelude.{List, None, Option, Some, [], cond, nat_eq, ℕ, ◌&&◌, ◌++◌, ◌∷◌, ◌≡◌}
use Rattle.thor_value.specs.FiniteMap.{IsSorted, Map, empty, get, overwrite}
use Rattle.thor_value.specs.Names.{oref_cmp, ts_cmp}
use Rattle.thor_value.specs.declared.names.Oref.{Oref}
use Rattle.thor_value.specs.declared.names.Ts.{Ts}
use Rattle.thor_value.specs.declared.values.Obj.{Obj}

-- objects by their names
abbrev pub Objects : Type 0
Objects = Map oref_cmp Obj

-- ---- the whole of a transaction

-- what a transaction that stands so at a repository read there
abbrev pub ros_in : Option Known → List Oref
ros_in None = []
ros_in (Some o) = o.request.ros

-- and what it wrote there
abbrev pub writes_in : Option Known → List (Oref × Obj)
writes_in None = []
writes_in (Some o) = o.request.writes

-- The transaction t, whose request at its coordinator is q, with what it read and wrote at all its
-- participants.
abbrev pub whole : Several → Ts → Request → Request
whole S t q = record q {
  ros = flat_map (λ n. ros_in (part S n t)) (t.repo ∷ q.others);
  writes = flat_map (λ n. writes_in (part S n t)) (t.repo ∷ q.others);
}

-- ---- the commits

-- a transaction that has committed, as a whole, with its timestamp
abbrev pub Commit : Type 0
Commit = Ts × Request

abbrev pub committed_among : Several → ℕ → List (Ts × Known) → List Commit
committed_among S r [] = []
committed_among S r (p ∷ ps) = cond (nat_eq p.0.repo r && committed S p.0) ((p.0, whole S p.0 p.1.request) ∷ committed_among S r ps) (committed_among S r ps)

-- the committed transactions that r coordinates
abbrev pub committed_at : Several → ℕ → List Commit
committed_at S r = committed_among S r (state (S.base r) (S.history r)).known.pairs

-- the transactions that have committed, each as a whole, by their timestamps
abbrev pub commits : Several → Map ts_cmp Request
commits S = overwrite empty (flat_map (committed_at S) (range_with_len 0 S.repos))

-- What the commits are: they rise, each has committed and is a whole, and all that have committed are
-- among them.
pub record AreTheCommits (S : Several) (m : Map ts_cmp Request) : Type 0 where
  pub rise : IsSorted m
  pub stand : (t : Ts) (q : Request) → get m t ≡ Some q → (w : Known) × HasCommitted S t w × (q ≡ whole S t w.request)
  pub all : (t : Ts) (w : Known) → HasCommitted S t w → get m t ≡ Some (whole S t w.request)

-- ---- what commits leave

-- the objects of r, with what each of these transactions wrote there, in turn
abbrev pub stored : Several → List Commit → ℕ → Objects
stored S es r = fold (λ m e. overwrite m (writes_in (part S r e.0))) (S.base r).objects es

abbrev pub open_writes_in : Option Known → List (Oref × Obj)
open_writes_in None = []
open_writes_in (Some o) = cond (is_open o.fate) o.request.writes []

-- the objects that the history of r comes to, with what those of these transactions wrote there that are
-- undecided at r
abbrev pub finished : Several → List Commit → ℕ → Objects
finished S es r = fold (λ m e. overwrite m (open_writes_in (part S r e.0))) (state (S.base r) (S.history r)).objects es

abbrev pub open_text_in : Option Known → List (List ℕ)
open_text_in None = []
open_text_in (Some o) = cond (is_open o.fate) (text_of o.request.kind) []

-- the texts of the upgrades that the history of r comes to, with those of these transactions that are undecided at r
abbrev pub finished_texts : Several → List Commit → ℕ → List (List ℕ)
finished_texts S es r = fold (λ us e. us ++ open_text_in (part S r e.0)) (state (S.base r) (S.history r)).texts es
