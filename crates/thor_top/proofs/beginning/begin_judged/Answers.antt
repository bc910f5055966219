use Rattle.std.proofs.Common.{IfOk, sym}
use Rattle.store_opening.specs.Reading.{ReadAll}
use Rattle.thor_top.proofs.StageLaws.{foretells_map, no_form, ok_always, run_replies, unsettled_writes}
use Rattle.thor_top.specs.Stages.{Awaits, Foretells, IsAwaited, IsPlayed, RepliesRun}
use Rattle.top_judging.proofs.StageLaws.{err_map, fits_disks, ok_map, unsettled_replies}
use Rattle.top_judging.specs.Stages.{RepliesUnsettled}
use Rattle.top_statement.specs.Top.{RepliesTo, running_of}
use Rattle.top_judging.proofs.TellingLaws.{none_tell, unsettled_tells}
use Rattle.top_statement.specs.Telling.{TellsNoRun}
use Rattle.thor_top.proofs.beginning.begin_judged.Goals as goal

pub returns-in-Some-clause-foretells : goal.returns-in-Some-clause-foretells
returns-in-Some-clause-foretells g c = λ given stored.
    let D = ReadAll g.P.Parts.disks given in
    let plan = c.args.plan.now in
    let form = c.in-Some.form in
    let run_told = RepliesRun D (running_of plan.command) form plan.repos c.args.script in
    let fits = fits_disks D c.args.script.setup c.args.judged.found.store stored c.requires.judged.fits in
    let replied = RepliesTo D plan c.args.script in
    ok_map c.run_on.result (λ run. Foretells run_told run.expected) (λ run. Foretells replied run.expected)
    (λ run. foretells_map run_told replied run.expected (run_replies D plan c.args.script form c.in-Some.ensures c.requires.judged.within fits))
    (c.run_on.ensures.foretells given stored)

pub returns-in-Some-clause-played : goal.returns-in-Some-clause-played
returns-in-Some-clause-played g c = ok_always c.run_on.result (IsPlayed c.args.plan.now.command) (c.in-Some.form, c.in-Some.ensures)

pub returns-in-Some-clause-reply : goal.returns-in-Some-clause-reply
returns-in-Some-clause-reply g c = λ given stored.
    let D = ReadAll g.P.Parts.disks given in
    let plan = c.args.plan.now in
    err_map c.run_on.result (λ a. IfOk a.reply RepliesUnsettled) (λ a. IfOk a.reply (RepliesTo D plan c.args.script))
    (λ a. ok_map a.reply RepliesUnsettled (RepliesTo D plan c.args.script) (unsettled_replies D plan c.args.script)) c.run_on.ensures.reply

pub returns-in-Some-clause-kept : goal.returns-in-Some-clause-kept
returns-in-Some-clause-kept g c = λ given has.
    err_map c.run_on.result (λ a. IfOk a.reply RepliesUnsettled) _
    (λ a failed. λ writes. absurd (unsettled_writes c.args.plan.now.command a.reply (c.in-Some.form, c.in-Some.ensures) failed writes)) c.run_on.ensures.reply

pub checked-answered-requires-clause-command : goal.checked-answered-requires-clause-command
checked-answered-requires-clause-command g c = no_form c.args.plan.now.command c.requires.store c.in-None.ensures

pub returns-in-None-clause-kept : goal.returns-in-None-clause-kept
returns-in-None-clause-kept g c = λ given has writes. c.checked-answered.ensures.same given has

pub returns-in-Some-clause-untold : goal.returns-in-Some-clause-untold
returns-in-Some-clause-untold g c =
    err_map c.run_on.result (λ a. IfOk a.reply RepliesUnsettled) (λ a. TellsNoRun a.reply)
    (λ a. none_tell a.reply RepliesUnsettled unsettled_tells) c.run_on.ensures.reply

pub returns-in-Some-clause-awaited : goal.returns-in-Some-clause-awaited
returns-in-Some-clause-awaited g c = λ given stored.
    let D = ReadAll g.P.Parts.disks given in
    let plan = c.args.plan.now in
    let form = c.in-Some.form in
    let fits = fits_disks D c.args.script.setup c.args.judged.found.store stored c.requires.judged.fits in
    ok_map c.run_on.result (λ run. Awaits D plan form c.args.script run.expected) (λ run. IsAwaited D plan c.args.script run.expected)
    (λ run awaits. record { form = form; tells = sym c.in-Some.ensures; within = c.requires.judged.within; fits = fits; awaits = awaits }) (c.run_on.ensures.awaits given stored)
