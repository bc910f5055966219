-- How repositories stand at their places while a store is opened, and with what they begin.
use Rattle.class_defs.specs.declared.store.Setup.{Setup}
use Rattle.cluster_core.specs.declared.plan.Start.TheVariants as start
use Rattle.cluster_core.specs.declared.plan.Start.{Start}
use Rattle.cluster_core.specs.declared.seat.Seat.TheVariants.{Closed, Open}
use Rattle.cluster_core.specs.declared.seat.Seat.{Seat}
use Rattle.disk_trait.specs.Disks.{Disks}
use Rattle.repo_opening.specs.Recovered.{IsRecovered}
use Rattle.cluster_port.specs.Begun.{base_of, is_settled, new_base}
use Rattle.cluster_port.specs.Run.{Run, no_base}
use Rattle.cluster_port.specs.Sited.{IsLeftOf, IsRightTrace, Sited}
use Rattle.repo_state.specs.declared.held.Held.{Held}
use Rattle.repo_trace.specs.declared.trace.Trace.{Trace}
use Rattle.spec_history.specs.History.{Base}
use Rattle.std.specs.List.{slice_get}
use Rattle.std.specs.Prelude.{Bool, List, None, Option, Some, [], false, length, suc, true, ℕ, ◌&&◌, ◌∷◌, ◌≡◌}
use Rattle.store_opening.specs.declared.closed.Closed.TheVariants as found
use Rattle.store_opening.specs.declared.closed.Closed as closed
use Rattle.store_opening.specs.declared.found.Found.{Found}

-- a repository that is open stands at the place of its number
abbrev pub IsSeatedAt : {P O : Type 0} → ℕ → Seat P O → Type 0
IsSeatedAt n (Closed c) = Unit {0}
IsSeatedAt n (Open s) = s.number ≡ n

-- the same from the place n on
abbrev pub AreSeated : {P O : Type 0} → ℕ → List (Seat P O) → Type 0
AreSeated n [] = Unit {0}
AreSeated n (x ∷ xs) = IsSeatedAt n x × AreSeated (suc n) xs

abbrev pub IsOpen : {P O : Type 0} → Seat P O → Type 0
IsOpen (Closed c) = ⊥
IsOpen (Open s) = Unit {0}

abbrev pub AreOpen : {P O : Type 0} → List (Seat P O) → Type 0
AreOpen [] = Unit {0}
AreOpen (x ∷ xs) = IsOpen x × AreOpen xs

-- repositories stand at the places of their numbers, from n on
abbrev pub AreNumbered : ℕ → List Sited → Type 0
AreNumbered n [] = Unit {0}
AreNumbered n (x ∷ xs) = (x.number ≡ n) × AreNumbered (suc n) xs

-- what was recorded at the repositories from the place n on is right by their bases
abbrev pub AreRight : Run → ℕ → List Trace → Type 0
AreRight run n [] = Unit {0}
AreRight run n (t ∷ ts) = IsRightTrace run n t × AreRight run (suc n) ts

-- what the disks of the parts from the place n on say is what was recorded there
abbrev pub AreLeft : {P : Type 0} → (P → Disks) → Run → ℕ → List P → List Trace → Type 0
AreLeft disks run n [] [] = Unit {0}
AreLeft disks run n [] (t ∷ ts) = ⊥
AreLeft disks run n (p ∷ ps) [] = ⊥
AreLeft disks run n (p ∷ ps) (t ∷ ts) = IsLeftOf run n (disks p) t × AreLeft disks run (suc n) ps ts

-- ---- the run that is opened

-- the base of one of so many repositories, by what was found at its place
abbrev pub base_at : {P : Type 0} → ℕ → Option (closed.Closed P) → Base
base_at repos None = no_base
base_at repos (Some (found.Parts p)) = no_base
base_at repos (Some (found.Fresh p)) = no_base
base_at repos (Some (found.Known k)) = base_of repos k.recovered.state

-- nothing has still to be settled at the place n
abbrev pub is_settled_at : {P : Type 0} → ℕ → closed.Closed P → Bool
is_settled_at n (found.Parts p) = false
is_settled_at n (found.Fresh p) = false
is_settled_at n (found.Known k) = is_settled n k.recovered.state

-- the same from the place n on
abbrev pub are_settled : {P : Type 0} → ℕ → List (closed.Closed P) → Bool
are_settled n [] = true
are_settled n (c ∷ cs) = is_settled_at n c && are_settled (suc n) cs

-- What is opened, by what was found of the repositories, and what it is opened with: new repositories by a setup, with a buffer of so
-- many bytes, or those that are stored. Those have bases where nothing has still to be settled of any of them.
abbrev pub run_of : {P : Type 0} → List (closed.Closed P) → ℕ → Start → Run
run_of places mob (start.Setup setup) = record { repos = length places; base = λ r. new_base r (length places) setup mob; based = true }
run_of places mob start.Stored = record { repos = length places; base = λ r. base_at (length places) (slice_get places r); based = are_settled 0 places }

-- The base of the run is read off what was recovered, and nothing has still to be settled, where each has a base.
abbrev pub IsBegunBy : Run → ℕ → ℕ → Held → Type 0
IsBegunBy run repos n h = run.based ≡ true → (run.base n ≡ base_of repos h) × (is_settled n h ≡ true)

-- What was recovered at the place n, of so many, is that of the run.
abbrev pub IsBegun : {P : Type 0} → Run → ℕ → ℕ → closed.Closed P → Type 0
IsBegun run repos n (found.Parts p) = Unit {0}
IsBegun run repos n (found.Fresh p) = Unit {0}
IsBegun run repos n (found.Known k) = IsBegunBy run repos n k.recovered.state

-- the same from the place n on
abbrev pub AreBegun : {P : Type 0} → Run → ℕ → ℕ → List (closed.Closed P) → Type 0
AreBegun run repos n [] = Unit {0}
AreBegun run repos n (c ∷ cs) = IsBegun run repos n c × AreBegun run repos (suc n) cs

-- With what was found of the repositories a run begins: each is stored as the run says, or new as it says, from this setup.
pub record Begins {P : Type 0} (run : Run) (places : List (closed.Closed P)) (mob : ℕ) (s : Start) : Type 0 where
  pub stored : s ≡ start.Stored → AreBegun run (length places) 0 places
  pub new : (setup : Setup) → s ≡ start.Setup setup → (n : ℕ) → run.based ≡ true → run.base n ≡ new_base n (length places) setup mob

abbrev pub BeginsOver : {P : Type 0} → {g : _} → Run → Found P g → Start → Type 0
BeginsOver run found s = Begins run found.places.items found.mob s

-- what is opened by what was found
abbrev pub run_found : {P : Type 0} → {g : _} → Found P g → Start → Run
run_found found s = run_of found.places.items found.mob s

-- ---- what stands on the disks

-- the repository was recovered, as what the log of these disks stands for
abbrev pub IsRecoveredAt : {P : Type 0} → (P → Disks) → closed.Closed P → Type 0
IsRecoveredAt disks (found.Parts p) = ⊥
IsRecoveredAt disks (found.Fresh p) = ⊥
IsRecoveredAt disks (found.Known k) = IsRecovered (disks k.parts) k.recovered

abbrev pub AreRecovered : {P : Type 0} → (P → Disks) → List (closed.Closed P) → Type 0
AreRecovered disks [] = Unit {0}
AreRecovered disks (c ∷ cs) = IsRecoveredAt disks c × AreRecovered disks cs

-- the repository 0 is fresh, so the store is new
abbrev pub IsNew : {P : Type 0} → List (closed.Closed P) → Type 0
IsNew [] = Unit {0}
IsNew (found.Parts p ∷ cs) = ⊥
IsNew (found.Fresh p ∷ cs) = Unit {0}
IsNew (found.Known k ∷ cs) = ⊥

-- what was found is what lies on these disks, where it is opened so
abbrev pub IsFound : {P : Type 0} → (P → Disks) → List (closed.Closed P) → Start → Type 0
IsFound disks places (start.Setup setup) = IsNew places
IsFound disks places start.Stored = AreRecovered disks places

abbrev pub IsFoundIn : {P : Type 0} → {g : _} → (P → Disks) → Found P g → Start → Type 0
IsFoundIn disks found s = IsFound disks found.places.items s
