-- Legal histories: serial execution in timestamp order (Adya and others, SIGMOD 1995). The code never keeps such a
-- list and runs it: it keeps queues, copies and logs.
use Rattle.std.specs.Prelude.{◌≡◌, ◌+◌, Bool, true, not, ◌&&◌, List, [], ◌∷◌, Option, Some, option_and_then, option_map, unwrap_or, IsSomeAnd}
use Rattle.std.specs.List.{list_any}
use Rattle.thor_value.specs.FiniteMap.{has}
use Rattle.thor_value.specs.Names.{Before, same_oref}
use Rattle.thor_value.specs.declared.names.Oref.{Oref}
use Rattle.thor_value.specs.declared.values.Answer.TheVariants as answer
use Rattle.class_defs.specs.Epochs.{classes_of, schema_at, upgrade_to}
use Rattle.class_defs.specs.Run as run
use Rattle.class_defs.specs.UpgradeLinesAside.{upgrade_on_line_1}
use Rattle.class_defs.specs.Upgrades.{up}
use Rattle.class_defs.specs.declared.statements.Stmt.{Stmt}
use Rattle.class_defs.specs.declared.store.Plain.{Plain}
use Rattle.class_defs.specs.declared.store.Schemas.{Schemas}
use Rattle.class_defs.specs.declared.upgrades.Upgrade.{Upgrade}
use Rattle.serial_model.specs.declared.entries.Did.{Did}
use Rattle.serial_model.specs.declared.entries.What.{What}
use Rattle.serial_model.specs.declared.entries.What.TheVariants.{Tx, Upgrade as UpgradeItem}

-- what the run of a transaction gives on a store, where its epoch has a schema
abbrev pub run_on : Schemas → Plain → List Stmt → List Oref → Option run.Ran
run_on s store tx names = option_and_then (λ schema. run.run schema tx store names) (schema_at s store.epoch)

-- whether a name is neither in the store nor among others
abbrev pub is_new : Plain → Oref → List Oref → Bool
is_new store x others = not (has store.objects x) && not (list_any (same_oref x) others)

-- names of which none stands twice and none is in the store
abbrev pub are_fresh : Plain → List Oref → Bool
are_fresh store [] = true
are_fresh store (x ∷ xs) = is_new store x xs && are_fresh store xs

-- A transaction has the number 0, takes names that are fresh, and gives the answer of its run.
pub record IsLegalTx (s : Schemas) (store : Plain) (d : Did) (tx : List Stmt) : Type 0 where
  pub number : d.number ≡ 0
  pub fresh : are_fresh store d.fresh ≡ true
  pub answer : IsSomeAnd (run_on s store tx d.fresh) (λ r. r.answer ≡ d.answer)

-- An upgrade creates nothing and answers nothing, and is the one that leads to the next epoch, which is its number. Lines
-- don't count: a store keeps the text of an upgrade, which doesn't tell them.
pub record IsLegalUpgrade (s : Schemas) (store : Plain) (d : Did) (u : Upgrade) : Type 0 where
  pub number : d.number ≡ store.epoch + 1
  pub fresh : d.fresh ≡ []
  pub answer : d.answer ≡ answer.Ints []
  pub upgrade : option_map upgrade_on_line_1 (upgrade_to s d.number) ≡ Some (upgrade_on_line_1 u)

abbrev pub IsLegalDoing : Schemas → Plain → Did → What → Type 0
IsLegalDoing s store d (Tx tx) = IsLegalTx s store d tx
IsLegalDoing s store d (UpgradeItem u) = IsLegalUpgrade s store d u

-- an entry is legal on the store after those before it
abbrev pub IsLegalEntry : Schemas → Plain → Did → Type 0
IsLegalEntry s store d = IsLegalDoing s store d d.what

abbrev pub after_doing : Schemas → Plain → Did → What → Plain
after_doing s store d (Tx tx) = unwrap_or (option_map (λ r. r.store) (run_on s store tx d.fresh)) store
after_doing s store d (UpgradeItem u) = up (classes_of s store.epoch) (classes_of s (store.epoch + 1)) u store

-- the store behind an entry: the run's for a transaction, and for an upgrade that in which all objects are transformed
abbrev pub after_entry : Schemas → Plain → Did → Plain
after_entry s store d = after_doing s store d d.what

-- the store behind a history
abbrev pub after : Schemas → List Did → Plain → Plain
after s [] store = store
after s (d ∷ ds) store = after s ds (after_entry s store d)

-- each entry is legal on the store after those before it
abbrev pub AreLegal : Schemas → List Did → Plain → Type 0
AreLegal s [] store = Unit {0}
AreLegal s (d ∷ ds) store = IsLegalEntry s store d × AreLegal s ds (after_entry s store d)

-- the timestamps strictly rise
abbrev pub Rise : List Did → Type 0
Rise [] = Unit {0}
Rise (d ∷ []) = Unit {0}
Rise (d ∷ e ∷ ds) = Before d.ts e.ts × Rise (e ∷ ds)

-- a legal history from a store
pub record IsLegal (s : Schemas) (history : List Did) (store : Plain) : Type 0 where
  pub rising : Rise history
  pub each : AreLegal s history store
