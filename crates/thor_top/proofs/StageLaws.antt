-- A run that is to be made, and what is replied of it.
use Rattle.class_defs.specs.declared.declarations.Declarations.{Declarations}
use Rattle.class_defs.specs.declared.store.Plain.{Plain}
use Rattle.class_defs.specs.declared.store.Schemas.{Schemas}
use Rattle.script_check.specs.Upgrading.{extended, upgrades_of}
use Rattle.script_parse.specs.declared.script.Script.{Script}
use Rattle.std.proofs.Common.{◌≡◌, Err, IfOk, List, Ok, Option, Result, Some, None, inl, inr, refl, subst, sym, ℕ, ◌∙◌}
use Rattle.std.specs.Prelude.{Bool, IfSome}
use Rattle.store_opening.specs.Reading.{IsStoredIn}
use Rattle.store_opening.specs.declared.found.Store.{Store}
use Rattle.thor_top.specs.Stages.{Foretells, IsForStore, IsPlayed, RepliesRun}
use Rattle.thor_top.specs.declared.expected.Expected.{Expected}
use Rattle.thor_value.specs.FiniteMap.{IsSorted}
use Rattle.thor_value.specs.declared.memory.NoMemory.{NoMemory}
use Rattle.top_judging.specs.Origins.{IsScriptFor}
use Rattle.top_judging.specs.Stages.{IsOpenedAs, RepliesUnsettled}
use Rattle.top_judging.specs.declared.stored.OpenedStore.{OpenedStore}
use Rattle.top_reply.specs.Replies.{run_reply}
use Rattle.top_reply.specs.Reports.{IsReported}
use Rattle.top_reply.specs.declared.form.Form.{Form}
use Rattle.top_reply.specs.declared.form.Form.TheVariants as form
use Rattle.top_reply.specs.declared.reply.Reply.{Reply}
use Rattle.top_reply.specs.declared.running.Running.{Running}
use Rattle.top_reply.specs.declared.untold.Untold.{Untold}
use Rattle.top_statement.specs.Kept.{Refuses, RefusesBy, WritesNothing}
use Rattle.top_statement.specs.Opening.{AreSpelledBy, DiskBytes, FitsDisks, IsAccepted, IsOfDisks, IsStore, IsStoredBy}
use Rattle.top_statement.specs.Top.{IsWithinLimits, RepliesTo, Told, form_of, origin_of, running_of}
use Rattle.top_words.specs.declared.command.Command.{Command}
use Rattle.top_words.specs.declared.command.Command.TheVariants.{Audit, Check, Gen, Play, Run}
use Rattle.top_words.specs.declared.command.Plan.{Plan}

pub prepared_as : {B E : Type 0} (images : List (ℕ → List ℕ)) (setup : Option Declarations) (base : Schemas) (found : Option OpenedStore) (opened : OpenedStore) (second : Result B E) (r : Result (OpenedStore × B) E) → found ≡ Some opened
    → IfSome found (λ o. IsOpenedAs images setup base o.store) → IfOk r (λ made. (made.0 ≡ opened) × (second ≡ Ok made.1)) → IfOk r (λ made. IsOpenedAs images setup base made.0.store)
prepared_as images setup base found opened second (Ok made) is h both =
    let at : IsOpenedAs images setup base opened.store = subst (λ (o : Option OpenedStore). IfSome o (λ p. IsOpenedAs images setup base p.store)) is h in
    subst (λ (o : OpenedStore). IsOpenedAs images setup base o.store) (sym both.0) at
prepared_as images setup base found opened second (Err e) is h both = tt

-- ---- by the command

pub ok_always : {A E : Type 0} (r : Result A E) (P : Type 0) → P → IfOk r (λ _. P)
ok_always (Ok a) P p = p
ok_always (Err e) P p = tt

pub no_form : (c : Command) → IsForStore c → None ≡ form_of c → c ≡ Check
no_form Check store is = refl
no_form Play store is = absurd (let no : None ≡ Some form.Report = is in cc)
no_form Run store is = absurd (let no : None ≡ Some form.Report = is in cc)
no_form (Gen n) store is = absurd (let no : None ≡ Some form.Summary = is in cc)
no_form Audit store is = absurd store

-- a command that has a script takes it to the store
pub for_store : (c : Command) (repos : ℕ) (before after : Told) (script : Script) → IsScriptFor (origin_of c) repos before after script → IsForStore c
for_store Check repos before after script from = tt
for_store Play repos before after script from = tt
for_store Run repos before after script from = tt
for_store (Gen n) repos before after script from = tt
for_store Audit repos before after script from = from

-- a run that is told in the form of its command is replied to the script
pub run_replies : (D : DiskBytes) (plan : Plan) (script : Script) (f : Form) → Some f ≡ form_of plan.command → IsWithinLimits script → FitsDisks D script.setup → (r : Reply) → RepliesRun D (running_of plan.command) f plan.repos script r → RepliesTo D plan script r
run_replies D plan script form.Report is within fits r told = subst (λ (w : Reply). RepliesTo D plan script w) (sym told.1.1.0) (sym is, (within, (fits, told.1.1.1)))
run_replies D plan script form.Summary is within fits r told = subst (λ (w : Reply). RepliesTo D plan script w) (sym told.1.1.0) (sym is, (within, (fits, told.1.1.1)))

-- ---- what a run writes: neither a run nor a store that couldn't be opened refuses anything

run_refuses : (f : Form) (finished : Bool) (text : List ℕ) → Refuses (run_reply f finished text) → ⊥
run_refuses form.Report finished text refuses = refuses
run_refuses form.Summary finished text refuses = refuses

told_refuses : (running : Running) (f : Form) (schemas : Schemas) (store : Plain) (script : Script) (r : Result Reply NoMemory) → IfOk r (IsReported running f schemas store script) → RefusesBy r → ⊥
told_refuses running f schemas store script (Ok w) told refuses = run_refuses f told.0 told.1.0 (subst (λ (v : Reply). Refuses v) told.1.1.0 refuses)
told_refuses running f schemas store script (Err e) told refuses = refuses

unsettled_refuses : (r : Result Reply NoMemory) → IfOk r RepliesUnsettled → RefusesBy r → ⊥
unsettled_refuses (Ok w) failed refuses = subst (λ (v : Reply). Refuses v) failed.1 refuses
unsettled_refuses (Err e) failed refuses = refuses

no_refusal : (c : Command) (r : Result Reply NoMemory) → IsPlayed c → (RefusesBy r → ⊥) → WritesNothing c r → ⊥
no_refusal c r played none (inl is) = let no : Some played.0 ≡ None = played.1 ∙ is in cc
no_refusal c r played none (inr refuses) = none refuses

pub told_writes : (c : Command) (running : Running) (f : Form) (schemas : Schemas) (store : Plain) (script : Script) (r : Result Reply NoMemory) → IsPlayed c → IfOk r (IsReported running f schemas store script) → WritesNothing c r → ⊥
told_writes c running f schemas store script r played told = no_refusal c r played (told_refuses running f schemas store script r told)

pub unsettled_writes : (c : Command) (r : Result Reply NoMemory) → IsPlayed c → IfOk r RepliesUnsettled → WritesNothing c r → ⊥
unsettled_writes c r played failed = no_refusal c r played (unsettled_refuses r failed)

-- ---- a run that is to be made

-- where what was found is what the disks hold, what is opened of it is the store for which they stand
pub of_disks : (D : DiskBytes) (setup : Option Declarations) (base : Schemas) (store : Store) (opened : Plain) → IsStoredBy D store
    → ((images : List (ℕ → List ℕ)) → IsStoredIn images store → IsOpenedAs images setup base opened) → IsOfDisks D setup base opened
of_disks D (Some setup) base store opened stored is = tt
of_disks D None base store opened stored is = λ images reads. is images (stored.each images reads)

reported_run : (D : DiskBytes) (running : Running) (f : Form) (repos : ℕ) (script : Script) (base : Schemas) (store : Plain) → IsAccepted repos script base → AreSpelledBy D script.setup base → IsStore script.setup base store → IsOfDisks D script.setup base store
    → (r : Reply) → IsReported running f (extended base (upgrades_of script.clients)) store script r → RepliesRun D running f repos script r
reported_run D running f repos script base store accepted spelled is disks r told =
    (told.0, (told.1.0, (told.1.1.0, record { base = base; store = store; accepted = accepted; spelled = spelled; store_is = is; of_disks = disks; run = told.1.1.1 })))

-- what is expected of a run on the opened store foretells what is replied of it
pub foretells_run : (D : DiskBytes) (repos : ℕ) (base : Schemas) (e : Expected) → IsAccepted repos e.script base → AreSpelledBy D e.script.setup base → e.opened.schemas ≡ extended base (upgrades_of e.script.clients)
    → IsStore e.script.setup base e.opened.store → IsOfDisks D e.script.setup base e.opened.store → IsSorted e.opened.store.objects → Foretells (RepliesRun D e.running e.form repos e.script) e
foretells_run D repos base e accepted spelled schemas is disks sorted = record {
  sorted = sorted;
  says = λ r reported. reported_run D e.running e.form repos e.script base e.opened.store accepted spelled is disks r
      (subst (λ (w : Schemas). IsReported e.running e.form w e.opened.store e.script r) schemas reported);
}

pub foretells_map : (P Q : Reply → Type 0) (e : Expected) → ((r : Reply) → P r → Q r) → Foretells P e → Foretells Q e
foretells_map P Q e f foretells = record { sorted = foretells.sorted; says = λ r reported. f r (foretells.says r reported) }

-- ---- a run that was made

-- what is true of what is told of a run is true of what is replied of it
pub replied_of : (told : Result Reply Untold) (r : Result Reply NoMemory) (Of : Reply → Type 0) → IfOk r (λ w. told ≡ Ok w) → IfOk told Of → IfOk r Of
replied_of told (Ok w) Of same says = subst (λ (t : Result Reply Untold). IfOk t Of) same says
replied_of told (Err e) Of same says = tt
