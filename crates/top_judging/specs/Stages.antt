-- What a plan comes to before its run, stage by stage (this project's): its script, and a store on which the script breaks no
-- rule. Where it doesn't come to that, what is replied.
use Rattle.class_defs.specs.declared.declarations.Declarations.{Declarations}
use Rattle.class_defs.specs.declared.store.Plain.{Plain}
use Rattle.class_defs.specs.declared.store.Schemas.{Schemas}
use Rattle.outside.specs.Faults.{Rose}
use Rattle.repo_opening.specs.declared.unopened.Unopened.TheVariants as why
use Rattle.repo_opening.specs.declared.unopened.Unopened.{Unopened}
use Rattle.outside.specs.Streams.{IsMoreThan}
use Rattle.script_parse.specs.Script.{HasFew, IsRefusedText, IsWritten}
use Rattle.script_parse.specs.declared.refusal.Refusal.{Refusal}
use Rattle.script_parse.specs.declared.refusal.Refusal.TheVariants as refusals
use Rattle.script_parse.specs.declared.script.Script.{Script}
use Rattle.serial_model.specs.Replays.{AreMade}
use Rattle.std.specs.Prelude.{◌≡◌, ◌⊎◌, ◌≤◌, ℕ, List, Option, Some, None, length}
use Rattle.store_opening.specs.Reading.{IsOpened, schemas_in}
use Rattle.store_opening.specs.declared.found.Store.{Store}
use Rattle.top_reply.specs.declared.reply.Reply.{Reply}
use Rattle.top_reply.specs.declared.reply.Reply.TheVariants as reply
use Rattle.top_statement.specs.Opening.{DiskBytes, IsAccepted}
use Rattle.top_statement.specs.Top.{BreaksUnder, IsOverFound, IsOverScript, IsWithinLimits, Told, WasRead}
use Rattle.top_words.specs.declared.command.Plan.{Plan}

-- ---- the script

-- these bytes are this script, and it has no more clients and events than a script may have
pub record IsRead (bytes : List ℕ) (script : Script) : Type 0 where
  pub written : IsWritten bytes script
  pub few : HasFew script.setup
  pub clients : length script.clients ≤ 64
  pub events : length script.events ≤ 1000000

-- what is replied to a script that passes a limit of its own
abbrev pub RepliesOver : Script → Reply → Type 0
RepliesOver script r = (limit : ℕ) × ((r ≡ reply.Limit limit) × IsOverScript script limit)

-- what is replied to bytes that are no script, and to those of one that passes a limit
abbrev pub RepliesText : List ℕ → Reply → Type 0
RepliesText bytes r =
    ((refusal : Refusal) × ((r ≡ reply.Refused refusal) × IsRefusedText bytes refusal))
    ⊎ ((script : Script) × (IsWritten bytes script × RepliesOver script r))

-- the source was read to its end, and gave this script
pub record IsReadFrom (before after : Told) (script : Script) : Type 0 where
  pub bytes : List ℕ
  pub was : WasRead before.left after.left bytes
  pub read : IsRead bytes script

-- what is replied where the source gave none
abbrev pub RepliesUnread : Told → Told → Reply → Type 0
RepliesUnread before after r =
    ((bytes : List ℕ) × (WasRead before.left after.left bytes × RepliesText bytes r))
    ⊎ (((r ≡ reply.Limit 8388608) × IsMoreThan 8388608 before.left)
    ⊎ ((r ≡ reply.SourceFault) × Rose before.faults after.faults))

-- ---- the store

-- the schemas are those of the store that was found, where the script has no setup
abbrev pub HasSchemas : Option Declarations → Store → Schemas → Type 0
HasSchemas (Some setup) store base = Unit {0}
HasSchemas None store base = schemas_in store ≡ Some base

-- a setup goes with a fresh store, and a script without one with a store that is open
abbrev pub FitsStore : Option Declarations → Store → Type 0
FitsStore (Some setup) store = schemas_in store ≡ None
FitsStore None store = (base : Schemas) × (schemas_in store ≡ Some base)

abbrev pub MisfitsStore : Option Declarations → Store → Type 0
MisfitsStore (Some setup) store = (base : Schemas) × (schemas_in store ≡ Some base)
MisfitsStore None store = schemas_in store ≡ None

-- a script that breaks no rule on the store that was found, with these schemas
pub record IsJudged (plan : Plan) (script : Script) (store : Store) (base : Schemas) : Type 0 where
  pub accepted : IsAccepted plan.repos script base
  pub made : AreMade base
  pub within : IsWithinLimits script
  pub fits : FitsStore script.setup store
  pub schemas : HasSchemas script.setup store base

-- what is replied to a script that breaks a rule on a store with these schemas
abbrev pub RepliesRule : Plan → Script → Schemas → Reply → Type 0
RepliesRule plan script base r = (refusal : Refusal) × ((r ≡ reply.Refused refusal) × (IsWithinLimits script × BreaksUnder base plan.repos script refusal))

-- what is replied to a script that doesn't go with the store, or breaks a rule on it
abbrev pub RepliesRefused : Plan → Script → Store → Reply → Type 0
RepliesRefused plan script store r =
    ((r ≡ reply.Refused refusals.Setup) × (IsWithinLimits script × MisfitsStore script.setup store))
    ⊎ (FitsStore script.setup store × ((base : Schemas) × (HasSchemas script.setup store base × RepliesRule plan script base r)))

-- and to one that passes a limit with the store
abbrev pub RepliesUnjudged : DiskBytes → Plan → Script → Store → Reply → Type 0
RepliesUnjudged DiskReads plan script store r =
    ((limit : ℕ) × ((r ≡ reply.Limit limit) × IsOverFound DiskReads script store limit))
    ⊎ RepliesRefused plan script store r

-- what is replied where a store couldn't be read
abbrev pub RepliesUnopened : Reply → Type 0
RepliesUnopened r = ((repo : ℕ) × (r ≡ reply.DiskFault repo)) ⊎ ((repo disk place : ℕ) × (r ≡ reply.Damaged repo disk place))

-- the reply that tells why
abbrev pub RepliesWhy : Unopened → Reply → Type 0
RepliesWhy (why.Failed repo) r = r ≡ reply.DiskFault repo
RepliesWhy (why.Damaged repo disk place) r = r ≡ reply.Damaged repo disk place
RepliesWhy why.NoMemory r = ⊥

-- what is replied where one was read and couldn't be opened then: a disk failed
abbrev pub RepliesUnsettled : Reply → Type 0
RepliesUnsettled r = (repo : ℕ) × (r ≡ reply.DiskFault repo)

-- where the script has no setup, the opened store is the one for which the disks stand
abbrev pub IsOpenedAs : List (ℕ → List ℕ) → Option Declarations → Schemas → Plain → Type 0
IsOpenedAs images (Some setup) base store = Unit {0}
IsOpenedAs images None base store = IsOpened images base store
