use Rattle.std.proofs.Common.{IfOk, Ok, Result, subst, sym, ℕ, ◌∙◌, ◌≡◌}
use Rattle.store_opening.specs.Failing.{FailsAt}
use Rattle.store_opening.specs.Reading.{ReadAll}
use Rattle.thor_value.specs.declared.memory.NoMemory.{NoMemory}
use Rattle.top_judging.proofs.DiskLaws.{why_disk}
use Rattle.top_judging.proofs.StageLaws.{err_map, ok_map, unjudged_replies, unopened_replies}
use Rattle.top_judging.proofs.TellingLaws.{none_tell, unjudged_tells, unopened_tells}
use Rattle.top_judging.specs.Stages.{RepliesUnjudged, RepliesUnopened, RepliesWhy}
use Rattle.repo_opening.specs.declared.unopened.Unopened.TheVariants.{Damaged}
use Rattle.top_reply.specs.declared.reply.Reply.TheVariants.{DiskFault}
use Rattle.top_reply.specs.declared.reply.Reply.{Reply}
use Rattle.top_statement.specs.Opening.{IsStoredBy}
use Rattle.top_statement.specs.Telling.{TellsNoRun}
use Rattle.top_statement.specs.Top.{HoldNoStore, RepliesTo}
use Rattle.top_judging.proofs.finding.find.Goals as goal

pub returns-in-Ok-clause-reply : goal.returns-in-Ok-clause-reply
returns-in-Ok-clause-reply g c =
    let D = ReadAll g.P.Parts.disks c.args.parts.items in
    let plan = c.args.plan.now in
    let script = c.args.script.now in
    let store = c.in-Ok.found.store in
    let stored : IsStoredBy D store = record { each = c.in-Ok.ensures.stored; spelled = c.in-Ok.ensures.spelled } in
    err_map c.judged_on.result (λ a. IfOk a.reply (RepliesUnjudged D plan script store)) (λ a. IfOk a.reply (RepliesTo D plan script))
    (λ a. ok_map a.reply (RepliesUnjudged D plan script store) (RepliesTo D plan script) (unjudged_replies D plan script store stored c.requires.clients c.requires.events))
    (c.judged_on.ensures.reply c.args.parts.items c.in-Ok.ensures.found)

pub returns-in-Err-clause-reply : goal.returns-in-Err-clause-reply
returns-in-Err-clause-reply g c =
    let D = ReadAll g.P.Parts.disks c.args.parts.items in
    let plan = c.args.plan.now in
    let script = c.args.script.now in
    let none : (repo disk place : ℕ) → c.in-Err.field-0.why ≡ Damaged repo disk place → HoldNoStore D repo disk place = λ repo disk place is. record { each = λ images reads. c.in-Err.ensures.damaged images repo disk place reads is } in
    subst (λ (q : Result Reply NoMemory). IfOk q (RepliesTo D plan script)) (sym c.unplayed.ensures.reply)
    (ok_map c.unopened.result (RepliesWhy c.in-Err.field-0.why) (RepliesTo D plan script) (unopened_replies D plan script c.in-Err.field-0.why none) c.unopened.ensures.told)

pub returns-in-Ok-clause-untold : goal.returns-in-Ok-clause-untold
returns-in-Ok-clause-untold g c =
    let D = ReadAll g.P.Parts.disks c.args.parts.items in
    let unjudged = RepliesUnjudged D c.args.plan.now c.args.script.now c.in-Ok.found.store in
    err_map c.judged_on.result (λ a. IfOk a.reply unjudged) (λ a. TellsNoRun a.reply)
    (λ a. none_tell a.reply unjudged (unjudged_tells D c.args.plan.now c.args.script.now c.in-Ok.found.store))
    (c.judged_on.ensures.reply c.args.parts.items c.in-Ok.ensures.found)

pub returns-in-Err-clause-untold : goal.returns-in-Err-clause-untold
returns-in-Err-clause-untold g c =
    subst (λ (q : Result Reply NoMemory). TellsNoRun q) (sym c.unplayed.ensures.reply)
    (none_tell c.unopened.result RepliesUnopened unopened_tells c.unopened.ensures.replied)

pub returns-in-Ok-clause-failed : goal.returns-in-Ok-clause-failed
returns-in-Ok-clause-failed g c = λ repo.
    err_map c.judged_on.result (λ a. a.reply ≡ Ok (DiskFault repo) → ⊥) (λ a. a.reply ≡ Ok (DiskFault repo) → FailsAt g.P.Parts.disks c.args.parts.items a.parts.items repo)
    (λ a never is. absurd (never is)) (c.judged_on.ensures.never c.args.parts.items repo c.in-Ok.ensures.found)

pub returns-in-Err-clause-failed : goal.returns-in-Err-clause-failed
returns-in-Err-clause-failed g c = λ repo is.
    rw c.unplayed.ensures.parts (c.in-Err.ensures.failed repo (why_disk c.in-Err.field-0.why c.unopened.result repo c.unopened.ensures.told (sym c.unplayed.ensures.reply ∙ is)))
