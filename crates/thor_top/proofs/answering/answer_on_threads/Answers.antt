use Rattle.cluster_threads.specs.Committed.{committed_lines}
use Rattle.std.proofs.Common.{vec_len}
use Rattle.store_opening.specs.Reading.{ReadAll}
use Rattle.thor_top.proofs.HistoryLaws.{told_says, told_writes_not}
use Rattle.thor_top.proofs.LineLaws.{none_said, said_lines}
use Rattle.top_statement.specs.Top.{IsHanded, Told, told_by}
use Rattle.thor_top.proofs.answering.answer_on_threads.Goals as goal

pub returns-in-Ok-clause-reply : goal.returns-in-Ok-clause-reply
returns-in-Ok-clause-reply g c = told_says _ c.in-Ok.found_run.expected c.run_on_threads.result.reply c.in-Ok.ensures.foretells c.in-Ok.ensures.fails c.run_on_threads.ensures.reply

pub returns-in-Ok-clause-kept : goal.returns-in-Ok-clause-kept
returns-in-Ok-clause-kept g c = λ writes. absurd (told_writes_not c.args.plan.now.command c.in-Ok.found_run.expected c.run_on_threads.result.reply c.in-Ok.ensures.played c.run_on_threads.ensures.reply writes)

pub run_on_threads-requires-clause-sorted : goal.run_on_threads-requires-clause-sorted
run_on_threads-requires-clause-sorted g c κs within = c.in-Ok.ensures.foretells.sorted

pub returns-in-Ok-clause-committed : goal.returns-in-Ok-clause-committed
returns-in-Ok-clause-committed g c =
    let before : Told = told_by g.S.Source.left g.S.Source.faults c.args.source.now in
    let after : Told = told_by g.S.Source.left g.S.Source.faults c.begin.new.source in
    said_lines (committed_lines c.run_on_threads.result.traces) (ReadAll g.P.Parts.disks c.args.parts.items) (IsHanded c.args.plan.now (vec_len c.args.parts)) before after c.in-Ok.found_run.expected c.in-Ok.ensures.awaited c.run_on_threads.result.reply c.run_on_threads.ensures.committed

pub returns-in-Err-clause-committed : goal.returns-in-Err-clause-committed
returns-in-Err-clause-committed g c =
    let before : Told = told_by g.S.Source.left g.S.Source.faults c.args.source.now in
    let after : Told = told_by g.S.Source.left g.S.Source.faults c.begin.new.source in
    none_said (committed_lines c.in-Err.answered.traces) (ReadAll g.P.Parts.disks c.args.parts.items) (IsHanded c.args.plan.now (vec_len c.args.parts)) before after c.in-Err.answered.reply c.in-Err.ensures.untold

pub returns-in-Ok-clause-failed : goal.returns-in-Ok-clause-failed
returns-in-Ok-clause-failed g c = λ repo is. c.run_on_threads.ensures.failed c.args.parts.items repo c.in-Ok.ensures.called is
