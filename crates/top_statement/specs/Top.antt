-- What the program replies (this project's): for each reply what is true where it is given.
use Rattle.std.specs.Prelude.{◌≡◌, ◌⊎◌, ◌+◌, ℕ, Bool, List, Option, None, Some, length, map, ◌≤◌, ◌<◌}
use Rattle.script_bank.specs.Bank.{script_text}
use Rattle.outside.specs.Faults.{Rose}
use Rattle.outside.specs.Streams.{IsAtEnd, IsMoreThan, Took}
use Rattle.audit_check.specs.declared.audited.Audited.{Audited}
use Rattle.audit_check.specs.declared.disagreement.Disagreement.{Disagreement}
use Rattle.class_defs.specs.declared.declarations.Declarations.{Declarations}
use Rattle.class_defs.specs.declared.store.Schemas.{Schemas}
use Rattle.script_check.specs.Judging.{BreaksRule}
use Rattle.script_check.specs.Upgrading.{last_schema, upgrades_of}
use Rattle.script_parse.specs.Script.{IsRefusedText, IsWritten}
use Rattle.script_parse.specs.declared.refusal.Refusal.{Refusal}
use Rattle.script_parse.specs.declared.refusal.Refusal.TheVariants as refusal
use Rattle.script_parse.specs.declared.script.Script.{Script}
use Rattle.store_opening.specs.Limits.{HasCountAbove, HasLifeAbove}
use Rattle.store_opening.specs.Reading.{epochs_in}
use Rattle.store_opening.specs.Unsound.{IsNoStore}
use Rattle.store_opening.specs.declared.found.Store.{Store}
use Rattle.top_statement.specs.Audits.{DisagreesAt, IsNoReport, IsTrueReport, audited_of, report_part, script_part}
use Rattle.top_statement.specs.Opening.{AreSpelledBy, DiskBytes, FitsDisks, FreshBytes, IsAccepted, IsBase, IsStoredBy, MisfitsDisks, OneOfDisks, first_schemas}
use Rattle.top_statement.specs.Reports.{IsReport}
use Rattle.top_statement.specs.Telling.{TellsRun}
use Rattle.top_words.specs.Words.{plan_of}
use Rattle.top_words.specs.declared.command.Command.{Command}
use Rattle.top_words.specs.declared.command.Command.TheVariants.{Audit, Check, Play, Run, Gen}
use Rattle.top_words.specs.declared.command.Plan.{Plan}
use Rattle.top_reply.specs.Lines.{line_of}
use Rattle.top_reply.specs.declared.Line.{Line}
use Rattle.top_reply.specs.declared.form.Form.{Form}
use Rattle.top_reply.specs.declared.form.Form.TheVariants as form
use Rattle.top_reply.specs.declared.reply.Reply.{Reply}
use Rattle.top_reply.specs.declared.reply.Reply.TheVariants as reply
use Rattle.top_reply.specs.declared.running.Running.{Running}
use Rattle.top_reply.specs.declared.running.Running.TheVariants.{InTurn, OnThreads}

-- ---- what is read

-- what a source tells: the bytes that it has left, where it tells them, and how many faults it counted
pub record Told : Type 0 where
  pub left : Option (List ℕ)
  pub faults : ℕ

-- what a source tells now, by what its trait tells
abbrev pub told_by : {S : Type 0} → (S → Option (List ℕ)) → (S → ℕ) → S → Told
told_by left faults source = record { left = left source; faults = faults source }

-- the source was read to its end, and these were all its bytes, where it tells them; they are no more than a script
-- may have
pub record WasRead (before after : Option (List ℕ)) (bytes : List ℕ) : Type 0 where
  pub took : Took before bytes after
  pub at_end : IsAtEnd after
  pub short : length bytes ≤ 8388608

-- where a script comes from: it is all that the source gives, or what stands there before the first byte 30; or it is the
-- generated one of a number
pub data Origin : Type 0 where
  Whole : Origin
  Front : Origin
  Generated : ℕ → Origin

abbrev pub origin_of : Command → Origin
origin_of Check = Whole
origin_of Play = Whole
origin_of Run = Whole
origin_of (Gen n) = Generated n
origin_of Audit = Front

abbrev pub IsFromSource : Origin → Type 0
IsFromSource Whole = Unit {0}
IsFromSource Front = Unit {0}
IsFromSource (Generated n) = ⊥

-- the command reads its script from the source
abbrev pub Reads : Command → Type 0
Reads command = IsFromSource (origin_of command)

-- The bytes that are taken for a script: the source is read to its end, and they are its bytes, or those before the first byte 30;
-- or they are those of the generated one, and the source is as it was.
abbrev pub HasBytes : Origin → ℕ → Told → Told → List ℕ → Type 0
HasBytes Whole repos before after bytes = WasRead before.left after.left bytes
HasBytes Front repos before after bytes = (whole : List ℕ) × (WasRead before.left after.left whole × (bytes ≡ script_part whole))
HasBytes (Generated n) repos before after bytes = (after ≡ before) × (bytes ≡ script_text n repos)

-- how a command tells a run, where it makes one
abbrev pub form_of : Command → Option Form
form_of Check = None
form_of Play = Some form.Report
form_of Run = Some form.Report
form_of (Gen n) = Some form.Summary
form_of Audit = None

-- how a command performs a run, where it makes one
abbrev pub running_of : Command → Running
running_of Check = InTurn
running_of Play = InTurn
running_of Run = OnThreads
running_of (Gen n) = InTurn
running_of Audit = InTurn

-- which bytes the disks give of the store to which a command takes its script: those of the parts, or for an audit those of a fresh one
abbrev pub disks_for : Command → DiskBytes → DiskBytes
disks_for Check DiskReads = DiskReads
disks_for Play DiskReads = DiskReads
disks_for Run DiskReads = DiskReads
disks_for (Gen n) DiskReads = DiskReads
disks_for Audit DiskReads = FreshBytes

-- these bytes were taken for a script, and this is true of them
pub record OfBytes (plan : Plan) (before after : Told) (Of : List ℕ → Type 0) : Type 0 where
  pub bytes : List ℕ
  pub has : HasBytes (origin_of plan.command) plan.repos before after bytes
  pub says : Of bytes

-- they are this script, and this is true of it
pub record OfScript (plan : Plan) (before after : Told) (Of : Script → Type 0) : Type 0 where
  pub script : Script
  pub bytes : List ℕ
  pub has : HasBytes (origin_of plan.command) plan.repos before after bytes
  pub written : IsWritten bytes script
  pub says : Of script

-- ---- limits

-- at most 64 clients, at most 1,000,000 events, and at most 1,000 upgrades
pub record IsWithinLimits (script : Script) : Type 0 where
  pub clients : length script.clients ≤ 64
  pub events : length script.events ≤ 1000000
  pub upgrades : length (upgrades_of script.clients) ≤ 1000

-- The command is `audit`. The source was read to its end, and its bytes before the first byte 30 are a script with a setup that
-- breaks no rule on the store that this opens; and this is true of what a report is judged by, and of the bytes behind that byte.
pub record OfReport (plan : Plan) (before after : Told) (Of : Audited → Option (List ℕ) → Type 0) : Type 0 where
  pub audits : plan.command ≡ Audit
  pub bytes : List ℕ
  pub was : WasRead before.left after.left bytes
  pub script : Script
  pub written : IsWritten (script_part bytes) script
  pub within : IsWithinLimits script
  pub setup : Declarations
  pub has_setup : script.setup ≡ Some setup
  pub accepted : IsAccepted plan.repos script (first_schemas setup)
  pub says : Of (audited_of setup script) (report_part bytes)

-- ---- which plan

-- the words are a plan for so many repositories
pub record IsPlan (words : List (List ℕ)) (count : ℕ) (plan : Plan) : Type 0 where
  pub words_are : plan_of words ≡ Some plan
  pub repos_are : plan.repos ≡ count

-- the words are no plan, or one for another number of repositories
abbrev pub IsNoPlan : List (List ℕ) → ℕ → Type 0
IsNoPlan words count = (plan : Plan) → IsPlan words count plan → ⊥

-- a plan that is handed in, for as many repositories as there are
pub record IsHanded (handed : Plan) (count : ℕ) (plan : Plan) : Type 0 where
  pub same : plan ≡ handed
  pub repos_are : plan.repos ≡ count

-- or for another number of them
abbrev pub IsForOthers : Plan → ℕ → Type 0
IsForOthers plan count = (plan.repos ≡ count) → ⊥

-- there is a plan like this, and this is true by it
pub record ByPlan (Like : Plan → Type 0) (Of : Plan → Type 0) : Type 0 where
  pub plan : Plan
  pub is : Like plan
  pub says : Of plan

-- ---- the limit that is passed

-- the first limit of a script's own that is passed
abbrev pub IsOverScript : Script → ℕ → Type 0
IsOverScript script limit =
    ((64 < length script.clients) × (limit ≡ 64))
    ⊎ ((length script.clients ≤ 64) × (1000000 < length script.events) × (limit ≡ 1000000))

-- A limit of a store that is passed as it is opened: on upgrades, those of the script included; on the lives of its repositories; on
-- the sequences of their logs and the entries of their histories.
abbrev pub IsOverFound : DiskBytes → Script → Store → ℕ → Type 0
IsOverFound DiskReads script store limit =
    ((limit ≡ 1000) × (1000 < epochs_in store + length (upgrades_of script.clients)))
    ⊎ (((limit ≡ 4290000000) × OneOfDisks DiskReads (HasLifeAbove 4290000000))
    ⊎ ((limit ≡ 2305843009213693952) × OneOfDisks DiskReads (HasCountAbove 2305843009213693952)))

-- The store that the disks hold passes it, and the script passes none of its own.
pub record IsOverStore (DiskReads : DiskBytes) (script : Script) (limit : ℕ) : Type 0 where
  pub clients : length script.clients ≤ 64
  pub events : length script.events ≤ 1000000
  pub store : Store
  pub stored : IsStoredBy DiskReads store
  pub over : IsOverFound DiskReads script store limit

-- the first limit that is passed
abbrev pub IsOverLimit : DiskBytes → Script → ℕ → Type 0
IsOverLimit DiskReads script limit = IsOverScript script limit ⊎ IsOverStore DiskReads script limit

-- the source has more bytes than a script may have
abbrev pub IsTooLong : Command → Told → ℕ → Type 0
IsTooLong command before limit = Reads command × (IsMoreThan 8388608 before.left × (limit ≡ 8388608))

-- ---- what is true of a plan's script, by the reply

-- the command tells runs in this form, and the text is that of the script's run
abbrev pub IsRunOf : DiskBytes → Form → Plan → Script → Bool → List ℕ → Type 0
IsRunOf DiskReads f plan script finished text = (form_of plan.command ≡ Some f) × (IsWithinLimits script × (FitsDisks DiskReads script.setup × IsReport DiskReads (running_of plan.command) f plan.repos script finished text))

-- the command is `check`, and the script breaks no rule on the store that was found
abbrev pub IsCheckOf : DiskBytes → Plan → Script → Type 0
IsCheckOf DiskReads plan script = (plan.command ≡ Check) × (IsWithinLimits script × (FitsDisks DiskReads script.setup × ((base : Schemas) × (IsAccepted plan.repos script base × AreSpelledBy DiskReads script.setup base))))

-- it breaks a rule on a store with these schemas
abbrev pub BreaksUnder : Schemas → ℕ → Script → Refusal → Type 0
BreaksUnder base repos script r = IsBase script.setup base × BreaksRule (last_schema base) repos script r

-- it breaks a rule on the store
abbrev pub BreaksOn : DiskBytes → ℕ → Script → Refusal → Type 0
BreaksOn DiskReads repos script r = (base : Schemas) × (AreSpelledBy DiskReads script.setup base × BreaksUnder base repos script r)

-- A script is refused where it has no setup and the store is fresh, or has one and the store isn't; else where it breaks a rule
-- on the store.
abbrev pub IsRefused : DiskBytes → ℕ → Script → Refusal → Type 0
IsRefused DiskReads repos script r = ((r ≡ refusal.Setup) × MisfitsDisks DiskReads script.setup) ⊎ (FitsDisks DiskReads script.setup × BreaksOn DiskReads repos script r)

abbrev pub IsRefusalOf : DiskBytes → Plan → Script → Refusal → Type 0
IsRefusalOf DiskReads plan script r = IsWithinLimits script × IsRefused DiskReads plan.repos script r

-- disks whose reads give these bytes hold no store: this is what is wrong at this place of them
pub record HoldNoStore (DiskReads : DiskBytes) (repo disk place : ℕ) : Type 0 where
  pub each : (images : List (ℕ → List ℕ)) → DiskReads images → IsNoStore images repo disk place

-- a reply to a script that was read: what is true of it
abbrev pub RepliesTo : DiskBytes → Plan → Script → Reply → Type 0
RepliesTo DiskReads plan script (reply.Report finished text) = IsRunOf DiskReads form.Report plan script finished text
RepliesTo DiskReads plan script (reply.Summary finished text) = IsRunOf DiskReads form.Summary plan script finished text
RepliesTo DiskReads plan script reply.Accepted = IsCheckOf DiskReads plan script
RepliesTo DiskReads plan script (reply.Refused r) = IsRefusalOf DiskReads plan script r
RepliesTo DiskReads plan script (reply.Limit limit) = IsOverLimit DiskReads script limit
RepliesTo DiskReads plan script (reply.DiskFault repo) = Unit {0}
RepliesTo DiskReads plan script (reply.Damaged repo disk place) = HoldNoStore DiskReads repo disk place
RepliesTo DiskReads plan script reply.Words = ⊥
RepliesTo DiskReads plan script reply.SourceFault = ⊥
RepliesTo DiskReads plan script reply.Legal = ⊥
RepliesTo DiskReads plan script (reply.Disagrees at) = ⊥
RepliesTo DiskReads plan script (reply.NoReport line) = ⊥

-- ---- what is said, reply by reply

-- the text is that of a run of the script, told in this form
abbrev pub SaysRun : DiskBytes → Form → (Plan → Type 0) → Told → Told → Bool → List ℕ → Type 0
SaysRun DiskReads f Like before after finished text = ByPlan Like (λ plan. OfScript plan before after (λ script. IsRunOf DiskReads f plan script finished text))

-- the script breaks no rule
abbrev pub SaysAccepted : DiskBytes → (Plan → Type 0) → Told → Told → Type 0
SaysAccepted DiskReads Like before after = ByPlan Like (λ plan. OfScript plan before after (λ script. IsCheckOf DiskReads plan script))

-- the bytes are no script, or the script is refused
abbrev pub SaysRefused : DiskBytes → (Plan → Type 0) → Told → Told → Refusal → Type 0
SaysRefused DiskReads Like before after r = ByPlan Like (λ plan. OfBytes plan before after (λ bytes. IsRefusedText bytes r) ⊎ OfScript plan before after (λ script. IsRefusalOf (disks_for plan.command DiskReads) plan script r))

-- the script passes this limit, or the store does, or the source
abbrev pub SaysLimit : DiskBytes → (Plan → Type 0) → Told → Told → ℕ → Type 0
SaysLimit DiskReads Like before after limit = ByPlan Like (λ plan. OfScript plan before after (λ script. IsOverLimit (disks_for plan.command DiskReads) script limit) ⊎ IsTooLong plan.command before limit)

-- a disk of a repository failed while the store was opened; the bytes are a script
abbrev pub SaysDisk : (Plan → Type 0) → Told → Told → ℕ → Type 0
SaysDisk Like before after repo = ByPlan Like (λ plan. OfScript plan before after (λ script. Unit {0}))

-- a disk of a repository has bytes that are no store's, at this place; the bytes are a script
abbrev pub SaysDamaged : DiskBytes → (Plan → Type 0) → Told → Told → ℕ → ℕ → ℕ → Type 0
SaysDamaged DiskReads Like before after repo disk place = ByPlan Like (λ plan. OfScript plan before after (λ script. HoldNoStore DiskReads repo disk place))

-- there is no such plan; the source is as it was
abbrev pub SaysWords : Type 0 → Told → Told → Type 0
SaysWords NoPlan before after = NoPlan × (after ≡ before)

-- the command reads the source, which failed, and counted that
abbrev pub SaysSource : (Plan → Type 0) → Told → Told → Type 0
SaysSource Like before after = ByPlan Like (λ plan. Reads plan.command × Rose before.faults after.faults)

-- the report is true of the script: it tells one legal serial history of the script's items, which answers each of them once and
-- each client's in its order
abbrev pub SaysLegal : (Plan → Type 0) → Told → Told → Type 0
SaysLegal Like before after = ByPlan Like (λ plan. OfReport plan before after IsTrueReport)

-- the report isn't true of the script, and this is its first line that isn't
abbrev pub SaysDisagrees : (Plan → Type 0) → Told → Told → Disagreement → Type 0
SaysDisagrees Like before after at = ByPlan Like (λ plan. OfReport plan before after (λ a part. DisagreesAt a part at))

-- what stands behind the script is no report, and stops to be one on this line
abbrev pub SaysNoReport : (Plan → Type 0) → Told → Told → ℕ → Type 0
SaysNoReport Like before after line = ByPlan Like (λ plan. OfReport plan before after (λ a part. IsNoReport part line))

-- What is true where the program gives a reply, where there is a plan like this, or none.
abbrev pub Says : DiskBytes → (Plan → Type 0) → Type 0 → Told → Told → Reply → Type 0
Says DiskReads Like NoPlan before after (reply.Report finished text) = SaysRun DiskReads form.Report Like before after finished text
Says DiskReads Like NoPlan before after (reply.Summary finished text) = SaysRun DiskReads form.Summary Like before after finished text
Says DiskReads Like NoPlan before after reply.Accepted = SaysAccepted DiskReads Like before after
Says DiskReads Like NoPlan before after (reply.Refused r) = SaysRefused DiskReads Like before after r
Says DiskReads Like NoPlan before after (reply.Limit limit) = SaysLimit DiskReads Like before after limit
Says DiskReads Like NoPlan before after (reply.DiskFault repo) = SaysDisk Like before after repo
Says DiskReads Like NoPlan before after (reply.Damaged repo disk place) = SaysDamaged DiskReads Like before after repo disk place
Says DiskReads Like NoPlan before after reply.Words = SaysWords NoPlan before after
Says DiskReads Like NoPlan before after reply.SourceFault = SaysSource Like before after
Says DiskReads Like NoPlan before after reply.Legal = SaysLegal Like before after
Says DiskReads Like NoPlan before after (reply.Disagrees at) = SaysDisagrees Like before after at
Says DiskReads Like NoPlan before after (reply.NoReport line) = SaysNoReport Like before after line

-- ---- a run of which the lines are known

-- The text is that of the script's run, and its history has these lines: they are its entries, without the items that these performed.
pub record IsRunOfLines (lines : List Line) (DiskReads : DiskBytes) (f : Form) (plan : Plan) (script : Script) (finished : Bool) (text : List ℕ) : Type 0 where
  pub told : IsRunOf DiskReads f plan script finished text
  pub has : map line_of told.1.1.1.run.history ≡ lines

-- the reply tells such a run
abbrev pub RepliesLines : List Line → DiskBytes → Plan → Script → Reply → Type 0
RepliesLines lines DiskReads plan script (reply.Report finished text) = IsRunOfLines lines DiskReads form.Report plan script finished text
RepliesLines lines DiskReads plan script (reply.Summary finished text) = IsRunOfLines lines DiskReads form.Summary plan script finished text
RepliesLines lines DiskReads plan script reply.Accepted = ⊥
RepliesLines lines DiskReads plan script (reply.Refused refusal) = ⊥
RepliesLines lines DiskReads plan script (reply.Limit limit) = ⊥
RepliesLines lines DiskReads plan script (reply.DiskFault repo) = ⊥
RepliesLines lines DiskReads plan script (reply.Damaged repo disk place) = ⊥
RepliesLines lines DiskReads plan script reply.Words = ⊥
RepliesLines lines DiskReads plan script reply.SourceFault = ⊥
RepliesLines lines DiskReads plan script reply.Legal = ⊥
RepliesLines lines DiskReads plan script (reply.Disagrees at) = ⊥
RepliesLines lines DiskReads plan script (reply.NoReport line) = ⊥

-- Where the reply tells a run, it is one of the script that was read, and its history has these lines.
abbrev pub SaysLines : List Line → DiskBytes → (Plan → Type 0) → Told → Told → Reply → Type 0
SaysLines lines DiskReads Like before after r = TellsRun r → ByPlan Like (λ plan. OfScript plan before after (λ script. RepliesLines lines DiskReads plan script r))
