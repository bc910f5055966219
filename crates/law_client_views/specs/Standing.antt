-- What a repository's state tells a client of what is unsettled, and what restarts make of its trace.
use Rattle.client_port.specs.Views.{Calm, Halted, MayCome, Unsettled}
use Rattle.law_repo_runs.specs.Restarting.{MayTake, StaysPending}
use Rattle.law_repo_runs.specs.Standing.{Down, Phase, Torn, Up}
use Rattle.log_entries.specs.declared.entry.Entry.TheVariants.{Life}
use Rattle.log_entries.specs.declared.entry.Entry.{Entry}
use Rattle.spec_history.specs.History.{Base}
use Rattle.spec_trace.specs.Gaps.{maker}
use Rattle.spec_trace.specs.Trace.{E, Item, item_at}
use Rattle.std.specs.Prelude.{Bool, List, None, Option, Some, [], cond, false, nat_eq, ℕ, ◌++◌, ◌∷◌, ◌≡◌, ◌⊎◌}

-- whether the client is c
abbrev pub is_client : ℕ → Option ℕ → Bool
is_client c None = false
is_client c (Some d) = nat_eq d c

-- What is unsettled of the client c, of a repository whose trace is T and which stands so: the entry that was being written, where
-- c's call made it.
abbrev pub unsettled_of : Base → ℕ → List Item → Phase → Unsettled
unsettled_of b c T Up = Calm
unsettled_of b c T (Down None) = Halted
unsettled_of b c T (Down (Some e)) = cond (is_client c (maker b T (E e))) (MayCome e) Halted
unsettled_of b c T Torn = Halted

-- A restart of a repository that stands as p with the trace T: it comes up, or it fails behind what it has taken, or it takes
-- nothing. It stands as q with the trace S then.
pub data Restarts (p : Phase) (T : List Item) (q : Phase) (S : List Item) : Type 0 where
  ComesUp : (taken : Option Entry) (n : ℕ) → MayTake p taken → q ≡ Up → S ≡ (T ++ item_at taken) ++ E (Life n) ∷ [] → Restarts p T q S
  FailsBehind : (taken : Option Entry) (n : ℕ) → MayTake p taken → (q ≡ Down None) ⊎ (q ≡ Down (Some (Life n))) → S ≡ T ++ item_at taken → Restarts p T q S
  TakesNone : StaysPending p q → S ≡ T → Restarts p T q S

-- Another's call, or a flush or a checkpoint, stops it while it writes an entry or none; or it is torn.
abbrev pub Stops : Base → ℕ → List Item → Phase → Type 0
Stops b c T Up = ⊥
Stops b c T (Down None) = Unit {0}
Stops b c T (Down (Some e)) = is_client c (maker b T (E e)) ≡ false
Stops b c T Torn = Unit {0}
