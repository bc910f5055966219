-- The history that is told of a run is what its repositories have committed, by their traces.
use Rattle.class_defs.specs.declared.store.Schemas.{Schemas}
use Rattle.cluster_threads.specs.Committed.{committed_lines}
use Rattle.cluster_threads.specs.declared.Finished.{Finished}
use Rattle.cluster_threads.specs.declared.Ran.{Ran}
use Rattle.repo_trace.specs.declared.trace.Trace.{Trace}
use Rattle.script_check.specs.Upgrading.{extended, upgrades_of}
use Rattle.script_parse.specs.declared.script.Script.{Script}
use Rattle.std.proofs.Common.{◌≡◌, ◌∙◌, Err, IfOk, List, Ok, Result, Some, ap, subst, sym, ℕ}
use Rattle.std.specs.Prelude.{Bool, IsOk, false, true}
use Rattle.thor_top.specs.Stages.{AreTracesOf, IsAwaited, IsAwaitedBy, IsToldWith, TracesOf, WasMade}
use Rattle.thor_top.specs.declared.expected.Expected.{Expected}
use Rattle.thor_value.specs.declared.memory.NoMemory.{NoMemory}
use Rattle.top_judging.proofs.StageLaws.{has_script}
use Rattle.top_judging.specs.Origins.{IsScriptFor}
use Rattle.top_reply.specs.Replies.{run_reply}
use Rattle.top_reply.specs.Reports.{IsRunWith}
use Rattle.top_reply.specs.declared.Line.{Line}
use Rattle.top_reply.specs.declared.form.Form.{Form}
use Rattle.top_reply.specs.declared.form.Form.TheVariants as form
use Rattle.top_reply.specs.declared.reply.Reply.{Reply}
use Rattle.top_reply.specs.declared.running.Running.{Running}
use Rattle.top_statement.specs.Opening.{DiskBytes}
use Rattle.top_statement.specs.Telling.{TellsNoRun, TellsRunBy}
use Rattle.top_statement.specs.Top.{IsRunOfLines, RepliesLines, SaysLines, Told, form_of, origin_of, running_of}
use Rattle.top_words.specs.declared.command.Plan.{Plan}

-- ---- the lines of a run that was made

module _ (reply : Result Reply NoMemory) (traces : List Trace) (e : Expected) where
  told_ran : {E : Type 0} (ran : Result Ran E) → IsOk ran → TracesOf ran traces → IfOk ran (λ r. IfOk reply (IsToldWith r.lines e)) → IfOk ran (λ r. r.lines ≡ committed_lines r.traces) → IfOk reply (IsToldWith (committed_lines traces) e)
  told_ran (Err x) made is told same = absurd (let no : false ≡ true = made in cc)
  told_ran (Ok r) made is told same = subst (λ (ls : List Line). IfOk reply (IsToldWith ls e)) (same ∙ ap committed_lines (sym is)) told

  pub told_made : {P E : Type 0} (played : Result (Finished P) E) → WasMade played → AreTracesOf played traces → IfOk played (λ f. IfOk f.ran (λ r. IfOk reply (IsToldWith r.lines e))) → IfOk played (λ f. IfOk f.ran (λ r. r.lines ≡ committed_lines r.traces)) → IfOk reply (IsToldWith (committed_lines traces) e)
  told_made (Err x) made is told same = absurd made
  told_made (Ok f) made is told same = told_ran f.ran made is told same

-- ---- what was expected of it

module _ (lines : List Line) (D : DiskBytes) (plan : Plan) (script : Script) (e : Expected) where
  run_of : IsAwaited D plan script e → (finished : Bool) (text : List ℕ) → IsRunWith lines e.running e.form e.opened.schemas e.opened.store e.script finished text → IsRunOfLines lines D e.form plan script finished text
  run_of a finished text told =
      let x = a.awaits in
      let schemas : Schemas = extended x.base (upgrades_of script.clients) in
      let tells : form_of plan.command ≡ Some e.form = a.tells ∙ ap (λ (f : Form). Some f) (sym x.form) in
      let first : IsRunWith lines (running_of plan.command) e.form e.opened.schemas e.opened.store e.script finished text = subst (λ (r : Running). IsRunWith lines r e.form e.opened.schemas e.opened.store e.script finished text) x.running told in
      let second : IsRunWith lines (running_of plan.command) e.form schemas e.opened.store e.script finished text = subst (λ (s : Schemas). IsRunWith lines (running_of plan.command) e.form s e.opened.store e.script finished text) x.schemas first in
      let third : IsRunWith lines (running_of plan.command) e.form schemas e.opened.store script finished text = subst (λ (s : Script). IsRunWith lines (running_of plan.command) e.form schemas e.opened.store s finished text) x.same second in
      record {
        told = (tells, (a.within, (a.fits, record { base = x.base; store = e.opened.store; accepted = x.accepted; spelled = x.spelled; store_is = x.store_is; of_disks = x.of_disks; run = third.run })));
        has = third.has;
      }

  by_form : (f : Form) (finished : Bool) (text : List ℕ) → IsRunOfLines lines D f plan script finished text → RepliesLines lines D plan script (run_reply f finished text)
  by_form form.Report finished text told = told
  by_form form.Summary finished text told = told

  replies_lines : IsAwaited D plan script e → (r : Reply) → IsToldWith lines e r → RepliesLines lines D plan script r
  replies_lines a r told = subst (λ (w : Reply). RepliesLines lines D plan script w) (sym told.1.1.0) (by_form e.form told.0 told.1.0 (run_of a told.0 told.1.0 told.1.1.1))

-- ---- what is said of it

module _ (lines : List Line) (D : DiskBytes) (Like : Plan → Type 0) (before after : Told) where
  pub said_lines : (e : Expected) → IsAwaitedBy D Like before after e → (r : Result Reply NoMemory) → (TellsRunBy r → IfOk r (IsToldWith lines e)) → IfOk r (SaysLines lines D Like before after)
  said_lines e b (Err x) told = tt
  said_lines e b (Ok w) told = λ tells. record {
    plan = b.plan;
    is = b.is;
    says = record { script = b.says.script; bytes = b.says.bytes; has = b.says.has; written = b.says.written; says = replies_lines lines D b.plan b.says.script e b.says.says w (told tells) };
  }

  pub none_said : (r : Result Reply NoMemory) → TellsNoRun r → IfOk r (SaysLines lines D Like before after)
  none_said (Err x) none = tt
  none_said (Ok w) none = λ tells. absurd (none tells)

  pub other_lines : (Other : Plan → Type 0) → ((p : Plan) → Other p → Like p) → (r : Result Reply NoMemory) → IfOk r (SaysLines lines D Other before after) → IfOk r (SaysLines lines D Like before after)
  other_lines Other f (Err x) says = tt
  other_lines Other f (Ok w) says = λ tells. let b = says tells in record { plan = b.plan; is = f b.plan b.is; says = b.says }

pub awaited_by : (D : DiskBytes) (Like : Plan → Type 0) (plan : Plan) → Like plan → (before after : Told) (script : Script) → IsScriptFor (origin_of plan.command) plan.repos before after script → (e : Expected) → IsAwaited D plan script e → IsAwaitedBy D Like before after e
awaited_by D Like plan is before after script from e a =
    let had = has_script D Like (Unit {0}) plan is before after (origin_of plan.command) script from in
    record { plan = plan; is = is; says = record { script = script; bytes = had.0; has = had.1.0; written = had.1.1; says = a } }
