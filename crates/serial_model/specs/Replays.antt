-- What replaying a history tells (this project's).
use Rattle.std.specs.Prelude.{◌≡◌, ℕ, suc, ◌+◌, ◌<◌, ◌≤◌, nat_le, Bool, true, false, ◌&&◌, List, [], ◌∷◌, length, take, Option, Some, None, Result, Ok, Err}
use Rattle.std.specs.List.{list_all}
use Rattle.thor_value.specs.Names.{Before}
use Rattle.thor_value.specs.declared.names.Ts.{Ts}
use Rattle.class_defs.specs.Applied.{applied, number_of}
use Rattle.class_defs.specs.declared.store.Plain.{Plain}
use Rattle.class_defs.specs.declared.store.Root.{Root}
use Rattle.class_defs.specs.declared.store.Schema.{Schema}
use Rattle.class_defs.specs.declared.store.Schemas.{Schemas}
use Rattle.class_defs.specs.declared.store.UpgradedSchema.{UpgradedSchema}
use Rattle.class_defs.specs.declared.upgrades.Upgrade.{Upgrade}
use Rattle.method_eval.specs.declared.view.View.{View}
use Rattle.class_defs.specs.Epochs.{schema_of}
use Rattle.serial_model.specs.History.{after, after_doing, IsLegal, IsLegalDoing}
use Rattle.serial_model.specs.Whole.{IsOfItsEpoch, plain}
use Rattle.serial_model.specs.declared.entries.Did.{Did}
use Rattle.serial_model.specs.declared.entries.What.{What}
use Rattle.serial_model.specs.declared.replaying.ReplayError.{ReplayError}
use Rattle.serial_model.specs.declared.replaying.ReplayError.TheVariants.{NotLegal, NoMemory}

-- The schemas of epochs as upgrades make them: a class has a number of 16 bits, and no class was named by an upgrade
-- behind the epoch.
pub record AreMade (s : Schemas) : Type 0 where
  pub few : (n : ℕ) → length (schema_of s n).classes ≤ 65536
  pub past : (n c : ℕ) → number_of (schema_of s n).upgraded c ≤ n

-- the same as a test of one schema: it has few classes, and no number above the epoch's
abbrev pub is_made : Schema → ℕ → Bool
is_made schema n = nat_le (length schema.classes) 65536 && list_all (λ k. nat_le k n) schema.upgraded

-- of those behind upgrades, the first of which has this number
abbrev pub made_from : ℕ → List UpgradedSchema → Bool
made_from n [] = true
made_from n (u ∷ us) = is_made u.schema n && made_from (n + 1) us

-- and of all
abbrev pub are_made : Schemas → Bool
are_made s = is_made s.first 0 && made_from 1 s.upgraded

-- each schema but the first is the one before it with an upgrade
abbrev pub AreApplied : Schemas → Type 0
AreApplied s = (k : ℕ) → k < length s.upgraded → (u : Upgrade) × (schema_of s (suc k) ≡ applied (schema_of s k) u)

-- ---- one entry

-- a timestamp is above the one before it, where there is one
abbrev pub IsAbove : Option Ts → Ts → Type 0
IsAbove None ts = Unit {0}
IsAbove (Some before) ts = Before before ts

-- the timestamp of the last entry
abbrev pub last_ts : List Did → Option Ts
last_ts [] = None
last_ts (d ∷ []) = Some d.ts
last_ts (d ∷ e ∷ ds) = last_ts (e ∷ ds)

-- An item was applied as an entry's: it is legal on the store of the old view, and the new view has the store behind
-- it. Where it wasn't applied it isn't legal there.
abbrev pub AppliesDoing : Schemas → Did → What → List Root → View → Bool → View → Type 0
AppliesDoing s d what roots old true new =
    IsLegalDoing s (plain roots old) d what × (plain roots new ≡ after_doing s (plain roots old) d what) × IsOfItsEpoch new
AppliesDoing s d what roots old false new = ¬ IsLegalDoing s (plain roots old) d what

-- ---- a history

-- The entry at a place is the first that isn't legal: those before it are a legal history, and with it they aren't.
pub record IsFirstNotLegal (s : Schemas) (history : List Did) (store : Plain) (index : ℕ) : Type 0 where
  pub within : index < length history
  pub before : IsLegal s (take index history) store
  pub with_it : ¬ IsLegal s (take (index + 1) history) store
  pub whole : ¬ IsLegal s history store

-- Replaying gives the store behind the history where it is legal, and else the first entry that isn't.
abbrev pub Replays : Schemas → List Did → Plain → Result Plain ReplayError → Type 0
Replays s history store (Ok end) = IsLegal s history store × (end ≡ after s history store)
Replays s history store (Err (NotLegal index)) = IsFirstNotLegal s history store index
Replays s history store (Err NoMemory) = Unit {0}
