use Rattle.std.proofs.Common.{Result, inl, subst, sym, vec_len, ◌∙◌}
use Rattle.cluster_threads.specs.Committed.{committed_lines}
use Rattle.store_opening.specs.Reading.{ReadAll}
use Rattle.thor_top.proofs.HistoryLaws.{told_says, told_writes_not}
use Rattle.thor_top.proofs.LineLaws.{none_said, said_lines}
use Rattle.thor_value.specs.declared.memory.NoMemory.{NoMemory}
use Rattle.top_reply.specs.declared.reply.Reply.{Reply}
use Rattle.top_statement.specs.Telling.{TellsNoRun, TellsRunBy}
use Rattle.top_statement.specs.Top.{IsHanded, Told, told_by}
use Rattle.thor_top.proofs.answering.answer_in_turn.Goals as goal

pub returns-in-Ok-clause-reply : goal.returns-in-Ok-clause-reply
returns-in-Ok-clause-reply g c = told_says _ c.in-Ok.found_run.expected c.run_in_turn.result.reply c.in-Ok.ensures.foretells c.in-Ok.ensures.fails c.run_in_turn.ensures.reply

pub returns-in-Ok-clause-kept : goal.returns-in-Ok-clause-kept
returns-in-Ok-clause-kept g c = λ writes. absurd (told_writes_not c.args.plan.now.command c.in-Ok.found_run.expected c.run_in_turn.result.reply c.in-Ok.ensures.played c.run_in_turn.ensures.reply writes)

pub returns-in-Ok-clause-histories : goal.returns-in-Ok-clause-histories
returns-in-Ok-clause-histories g c = c.run_in_turn.ensures.histories c.args.parts.items c.in-Ok.ensures.found

pub returns-in-Err-clause-histories : goal.returns-in-Err-clause-histories
returns-in-Err-clause-histories g c = inl c.untold.ensures.traces

pub run_in_turn-requires : goal.run_in_turn-requires
run_in_turn-requires g c = c.in-Ok.ensures.foretells.sorted

pub returns-in-Ok-clause-reported : goal.returns-in-Ok-clause-reported
returns-in-Ok-clause-reported g c = c.run_in_turn.ensures.reported c.args.parts.items c.in-Ok.ensures.found

pub returns-in-Err-clause-reported : goal.returns-in-Err-clause-reported
returns-in-Err-clause-reported g c = λ tells. absurd (c.in-Err.ensures.untold (subst (λ (q : Result Reply NoMemory). TellsRunBy q) c.untold.ensures.reply tells))

pub returns-in-Ok-clause-committed : goal.returns-in-Ok-clause-committed
returns-in-Ok-clause-committed g c =
    let before : Told = told_by g.S.Source.left g.S.Source.faults c.args.source.now in
    let after : Told = told_by g.S.Source.left g.S.Source.faults c.begin.new.source in
    said_lines (committed_lines c.run_in_turn.result.traces) (ReadAll g.P.Parts.disks c.args.parts.items) (IsHanded c.args.plan.now (vec_len c.args.parts)) before after c.in-Ok.found_run.expected c.in-Ok.ensures.awaited c.run_in_turn.result.reply c.run_in_turn.ensures.committed

pub returns-in-Err-clause-committed : goal.returns-in-Err-clause-committed
returns-in-Err-clause-committed g c =
    let before : Told = told_by g.S.Source.left g.S.Source.faults c.args.source.now in
    let after : Told = told_by g.S.Source.left g.S.Source.faults c.begin.new.source in
    none_said (committed_lines c.untold.result.traces) (ReadAll g.P.Parts.disks c.args.parts.items) (IsHanded c.args.plan.now (vec_len c.args.parts)) before after c.untold.result.reply (subst (λ (q : Result Reply NoMemory). TellsNoRun q) (sym c.untold.ensures.reply) c.in-Err.ensures.untold)

pub returns-in-Ok-clause-failed : goal.returns-in-Ok-clause-failed
returns-in-Ok-clause-failed g c = λ repo is. c.run_in_turn.ensures.failed c.args.parts.items repo c.in-Ok.ensures.called is

pub returns-in-Err-clause-failed : goal.returns-in-Err-clause-failed
returns-in-Err-clause-failed g c = λ repo is. rw c.untold.ensures.parts (c.in-Err.ensures.failed repo (sym c.untold.ensures.reply ∙ is))

pub returns-in-Ok-clause-left : goal.returns-in-Ok-clause-left
returns-in-Ok-clause-left g c = c.run_in_turn.ensures.left c.args.parts.items c.in-Ok.ensures.found

pub returns-in-Err-clause-left : goal.returns-in-Err-clause-left
returns-in-Err-clause-left g c = λ tells. absurd (c.in-Err.ensures.untold (subst (λ (q : Result Reply NoMemory). TellsRunBy q) c.untold.ensures.reply tells))
