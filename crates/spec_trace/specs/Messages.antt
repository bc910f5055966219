-- What is proved of the messages to a session, each as one statement. The functions of `session_laws`
-- have them as their clauses.
use Rattle.spec_trace.specs.Session.{Invalid, Notice, Session, bound, place_of, upto_of}
use Rattle.std.specs.List.{fold, slice_get}
use Rattle.std.specs.Prelude.{List, Some, [], ℕ, ◌<◌, ◌↔◌, ◌∷◌, ◌≡◌, ◌≤◌}
use Rattle.thor_value.specs.declared.names.Oref.{Oref}

-- The places of the messages don't fall: the first one's isn't below a, and each further one's isn't
-- below what the one before it makes known.
abbrev pub InOrder : ℕ → List Notice → Type 0
InOrder a [] = Unit {0}
InOrder a (m ∷ ms) = (a ≤ place_of m) × InOrder (bound m) ms

-- A session v, where its repository has n entries.
pub record KeepsOrder (v : Session) (n : ℕ) : Type 0 where
  pub began : v.began ≤ n
  pub rise : InOrder v.began v.sent
  -- nothing makes a place known that isn't there
  pub below : fold (λ k m. bound m) v.began v.sent ≤ n

-- Which messages of a session wait is told by their places and what the client knows.
pub record WaitsByPlace (v : Session) : Type 0 where
  pub taken : (i : ℕ) (m : Notice) → slice_get v.sent i ≡ Some m → i < v.taken → bound m ≤ upto_of v
  pub waits : (i : ℕ) (m : Notice) → slice_get v.sent i ≡ Some m → v.taken ≤ i → upto_of v ≤ place_of m
  -- an invalidation waits exactly where it was sent and isn't known
  pub invalid : (i : ℕ) (names : List Oref) (k : ℕ) → slice_get v.sent i ≡ Some (Invalid names k) → (v.taken ≤ i) ↔ (upto_of v ≤ k)
