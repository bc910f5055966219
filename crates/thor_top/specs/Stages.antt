-- A run that is to be made, and what is replied of it (this project's).
use Rattle.class_defs.specs.declared.store.Schemas.{Schemas}
use Rattle.cluster_threads.specs.declared.Finished.{Finished}
use Rattle.cluster_threads.specs.declared.Ran.{Ran}
use Rattle.repo_trace.specs.declared.trace.Trace.{Trace}
use Rattle.script_check.specs.Upgrading.{extended, upgrades_of}
use Rattle.script_parse.specs.declared.script.Script.{Script}
use Rattle.std.specs.Prelude.{◌≡◌, ◌⊎◌, ℕ, Bool, Err, IsOk, List, Ok, Result, Some, []}
use Rattle.thor_top.specs.declared.expected.Expected.{Expected}
use Rattle.thor_value.specs.FiniteMap.{IsSorted}
use Rattle.top_judging.specs.Stages.{RepliesUnsettled}
use Rattle.top_reply.specs.Replies.{run_reply}
use Rattle.top_reply.specs.Reports.{IsReported, IsReportedWith}
use Rattle.top_reply.specs.declared.Line.{Line}
use Rattle.top_reply.specs.declared.form.Form.{Form}
use Rattle.top_reply.specs.declared.reply.Reply.{Reply}
use Rattle.top_reply.specs.declared.running.Running.{Running}
use Rattle.top_statement.specs.Opening.{AreSpelledBy, DiskBytes, FitsDisks, IsAccepted, IsOfDisks, IsStore}
use Rattle.top_statement.specs.Reports.{IsReport}
use Rattle.top_statement.specs.Top.{ByPlan, IsWithinLimits, OfScript, Told, form_of, running_of}
use Rattle.top_words.specs.declared.command.Command.{Command}
use Rattle.top_words.specs.declared.command.Command.TheVariants.{Audit, Check, Gen, Play, Run}
use Rattle.top_words.specs.declared.command.Plan.{Plan}

-- Whatever is replied of a run of which this is expected says so.
pub record Foretells (Says : Reply → Type 0) (e : Expected) : Type 0 where
  pub sorted : IsSorted e.opened.store.objects
  pub says : (r : Reply) → IsReported e.running e.form e.opened.schemas e.opened.store e.script r → Says r

-- What is replied of a run of which this is expected: its report, or that the store couldn't be opened.
abbrev pub IsToldOf : Expected → Reply → Type 0
IsToldOf e r = IsReported e.running e.form e.opened.schemas e.opened.store e.script r ⊎ RepliesUnsettled r

-- its report, of a run with these lines
abbrev pub IsToldWith : List Line → Expected → Reply → Type 0
IsToldWith lines e r = IsReportedWith lines e.running e.form e.opened.schemas e.opened.store e.script r

-- What is expected of a run of this script: it is told as the plan's command says, and compared with what is opened of the disks.
pub record Awaits (DiskReads : DiskBytes) (plan : Plan) (f : Form) (script : Script) (e : Expected) : Type 0 where
  pub base : Schemas
  pub running : e.running ≡ running_of plan.command
  pub form : e.form ≡ f
  pub same : e.script ≡ script
  pub schemas : e.opened.schemas ≡ extended base (upgrades_of script.clients)
  pub accepted : IsAccepted plan.repos script base
  pub spelled : AreSpelledBy DiskReads script.setup base
  pub store_is : IsStore script.setup base e.opened.store
  pub of_disks : IsOfDisks DiskReads script.setup base e.opened.store

-- the same, of a script that keeps the limits and goes with the disks, in the form of the command
pub record IsAwaited (DiskReads : DiskBytes) (plan : Plan) (script : Script) (e : Expected) : Type 0 where
  pub form : Form
  pub tells : form_of plan.command ≡ Some form
  pub within : IsWithinLimits script
  pub fits : FitsDisks DiskReads script.setup
  pub awaits : Awaits DiskReads plan form script e

-- the same, of the script that was read
abbrev pub IsAwaitedBy : DiskBytes → (Plan → Type 0) → Told → Told → Expected → Type 0
IsAwaitedBy DiskReads Like before after e = ByPlan Like (λ plan. OfScript plan before after (λ script. IsAwaited DiskReads plan script e))

-- the traces of a run; none where memory wasn't there
abbrev pub TracesOf : {E : Type 0} → Result Ran E → List Trace → Type 0
TracesOf (Ok ran) traces = traces ≡ ran.traces
TracesOf (Err e) traces = traces ≡ []

-- the same of a store that may not have been opened
abbrev pub AreTracesOf : {P E : Type 0} → Result (Finished P) E → List Trace → Type 0
AreTracesOf (Ok finished) traces = TracesOf finished.ran traces
AreTracesOf (Err e) traces = traces ≡ []

-- a run was made
abbrev pub WasMade : {P E : Type 0} → Result (Finished P) E → Type 0
WasMade (Ok finished) = IsOk finished.ran
WasMade (Err e) = ⊥

-- the reply tells, in this form, a run of an accepted script
abbrev pub RepliesRun : DiskBytes → Running → Form → ℕ → Script → Reply → Type 0
RepliesRun DiskReads running f repos script r = (finished : Bool) × ((text : List ℕ) × ((r ≡ run_reply f finished text) × IsReport DiskReads running f repos script finished text))

-- the command is performed on one thread
abbrev pub IsInTurn : Command → Type 0
IsInTurn Check = Unit {0}
IsInTurn Play = Unit {0}
IsInTurn Run = ⊥
IsInTurn (Gen n) = Unit {0}
IsInTurn Audit = Unit {0}

-- the command takes a script to the store of the parts
abbrev pub IsForStore : Command → Type 0
IsForStore Check = Unit {0}
IsForStore Play = Unit {0}
IsForStore Run = Unit {0}
IsForStore (Gen n) = Unit {0}
IsForStore Audit = ⊥

-- the command runs a script
abbrev pub IsPlayed : Command → Type 0
IsPlayed command = (f : Form) × (Some f ≡ form_of command)
