use Rattle.cluster_threads.specs.Committed.{committed_lines}
use Rattle.std.proofs.Common.{Err, IfOk, Result, inl, refl, subst, sym, vec_len}
use Rattle.store_opening.specs.Reading.{ReadAll}
use Rattle.thor_top.proofs.HistoryLaws.{one_in_turn}
use Rattle.thor_top.proofs.LineLaws.{none_said, other_lines}
use Rattle.thor_top.proofs.ReplyLaws.{audit_writes, check_writes, handed_is, no_words, one_audit, one_check, words_say, writes_nothing}
use Rattle.thor_value.specs.declared.memory.NoMemory.{NoMemory}
use Rattle.top_judging.proofs.DiskLaws.{err_disk, other_disk}
use Rattle.top_judging.proofs.StageLaws.{ok_map}
use Rattle.top_reply.specs.declared.reply.Reply.TheVariants.{Words as TheWords}
use Rattle.top_reply.specs.declared.reply.Reply.{Reply}
use Rattle.top_statement.specs.Top.{IsForOthers, IsHanded, IsNoPlan, IsPlan, Says, Told, told_by}
use Rattle.top_words.specs.Words.{Gives, plan_of}
use Rattle.top_words.specs.declared.command.WordsFault.{WordsFault}
use Rattle.top_statement.specs.Telling.{TellsNoRun, TellsRunBy}
use Rattle.thor_top.proofs.answering.answer.Goals as goal

pub returns-in-Ok-clause-reply : goal.returns-in-Ok-clause-reply
returns-in-Ok-clause-reply g c =
    let D = ReadAll g.P.Parts.disks c.args.parts.items in
    let words = c.args.words.now in
    let plan = c.in-Ok.plan in
    let count = vec_len c.args.parts in
    let before : Told = told_by g.S.Source.left g.S.Source.faults c.args.source.now in
    let after : Told = told_by g.S.Source.left g.S.Source.faults c.answer_plan.new.source in
    ok_map c.answer_plan.result.reply (Says D (IsHanded plan count) (IsForOthers plan count) before after) (Says D (IsPlan words count) (IsNoPlan words count) before after)
    (words_say D words count plan before after c.in-Ok.ensures) c.answer_plan.ensures.reply

pub returns-in-Ok-clause-kept : goal.returns-in-Ok-clause-kept
returns-in-Ok-clause-kept g c = λ refuses. c.answer_plan.ensures.kept (writes_nothing c.in-Ok.plan.command c.answer_plan.result.reply refuses)

pub returns-in-Ok-clause-checked : goal.returns-in-Ok-clause-checked
returns-in-Ok-clause-checked g c = λ p is check. c.answer_plan.ensures.kept (check_writes c.in-Ok.plan.command c.answer_plan.result.reply (one_check c.args.words.now c.in-Ok.plan p c.in-Ok.ensures is check))

pub returns-in-Ok-clause-audited : goal.returns-in-Ok-clause-audited
returns-in-Ok-clause-audited g c = λ p is audit. c.answer_plan.ensures.kept (audit_writes c.in-Ok.plan.command c.answer_plan.result.reply (one_audit c.args.words.now c.in-Ok.plan p c.in-Ok.ensures is audit))

pub returns-in-Ok-clause-histories : goal.returns-in-Ok-clause-histories
returns-in-Ok-clause-histories g c = λ p is turn. c.answer_plan.ensures.histories (one_in_turn c.args.words.now c.in-Ok.plan p c.in-Ok.ensures is turn)

pub returns-in-Err-Words-clause-histories : goal.returns-in-Err-Words-clause-histories
returns-in-Err-Words-clause-histories g c = λ p is turn. inl c.untouched.ensures.traces

pub returns-in-Err-NoMemory-clause-histories : goal.returns-in-Err-NoMemory-clause-histories
returns-in-Err-NoMemory-clause-histories g c = λ p is turn. inl c.untouched-in-Err-NoMemory.ensures.traces

pub returns-in-Err-Words-clause-reply : goal.returns-in-Err-Words-clause-reply
returns-in-Err-Words-clause-reply g c =
    let D = ReadAll g.P.Parts.disks c.args.parts.items in
    let words = c.args.words.now in
    let count = vec_len c.args.parts in
    let before : Told = told_by g.S.Source.left g.S.Source.faults c.args.source.now in
    let none = subst (λ (f : WordsFault). Gives (plan_of words) (Err f)) c.in-Err-Words.field-0-is c.in-Err-Words.ensures in
    subst (λ (q : Result Reply NoMemory). IfOk q (Says D (IsPlan words count) (IsNoPlan words count) before before)) (sym c.untouched.ensures.reply) (no_words words count none, refl)

pub returns-in-Ok-clause-reported : goal.returns-in-Ok-clause-reported
returns-in-Ok-clause-reported g c = λ p is turn. c.answer_plan.ensures.reported (one_in_turn c.args.words.now c.in-Ok.plan p c.in-Ok.ensures is turn)

pub returns-in-Err-Words-clause-reported : goal.returns-in-Err-Words-clause-reported
returns-in-Err-Words-clause-reported g c = λ p is turn tells. absurd (subst (λ (q : Result Reply NoMemory). TellsRunBy q) c.untouched.ensures.reply tells)

pub returns-in-Err-NoMemory-clause-reported : goal.returns-in-Err-NoMemory-clause-reported
returns-in-Err-NoMemory-clause-reported g c = λ p is turn tells. absurd (subst (λ (q : Result Reply NoMemory). TellsRunBy q) c.untouched-in-Err-NoMemory.ensures.reply tells)

pub returns-in-Ok-clause-committed : goal.returns-in-Ok-clause-committed
returns-in-Ok-clause-committed g c =
    let D = ReadAll g.P.Parts.disks c.args.parts.items in
    let words = c.args.words.now in
    let plan = c.in-Ok.plan in
    let count = vec_len c.args.parts in
    let before : Told = told_by g.S.Source.left g.S.Source.faults c.args.source.now in
    let after : Told = told_by g.S.Source.left g.S.Source.faults c.answer_plan.new.source in
    other_lines (committed_lines c.answer_plan.result.traces) D (IsPlan words count) before after (IsHanded plan count) (handed_is words count plan c.in-Ok.ensures) c.answer_plan.result.reply
    c.answer_plan.ensures.committed

pub returns-in-Err-Words-clause-committed : goal.returns-in-Err-Words-clause-committed
returns-in-Err-Words-clause-committed g c =
    let before : Told = told_by g.S.Source.left g.S.Source.faults c.args.source.now in
    none_said (committed_lines c.untouched.result.traces) (ReadAll g.P.Parts.disks c.args.parts.items) (IsPlan c.args.words.now (vec_len c.args.parts)) before before c.untouched.result.reply (subst (λ (q : Result Reply NoMemory). TellsNoRun q) (sym c.untouched.ensures.reply) (λ tells. tells))

pub returns-in-Err-NoMemory-clause-committed : goal.returns-in-Err-NoMemory-clause-committed
returns-in-Err-NoMemory-clause-committed g c =
    let before : Told = told_by g.S.Source.left g.S.Source.faults c.args.source.now in
    none_said (committed_lines c.untouched-in-Err-NoMemory.result.traces) (ReadAll g.P.Parts.disks c.args.parts.items) (IsPlan c.args.words.now (vec_len c.args.parts)) before before c.untouched-in-Err-NoMemory.result.reply (subst (λ (q : Result Reply NoMemory). TellsNoRun q) (sym c.untouched-in-Err-NoMemory.ensures.reply) (λ tells. tells))

pub returns-in-Ok-clause-left : goal.returns-in-Ok-clause-left
returns-in-Ok-clause-left g c = λ p is turn. c.answer_plan.ensures.left (one_in_turn c.args.words.now c.in-Ok.plan p c.in-Ok.ensures is turn)

pub returns-in-Err-Words-clause-left : goal.returns-in-Err-Words-clause-left
returns-in-Err-Words-clause-left g c = λ p is turn tells. absurd (subst (λ (q : Result Reply NoMemory). TellsRunBy q) c.untouched.ensures.reply tells)

pub returns-in-Err-NoMemory-clause-left : goal.returns-in-Err-NoMemory-clause-left
returns-in-Err-NoMemory-clause-left g c = λ p is turn tells. absurd (subst (λ (q : Result Reply NoMemory). TellsRunBy q) c.untouched-in-Err-NoMemory.ensures.reply tells)

pub returns-in-Err-Words-clause-failed : goal.returns-in-Err-Words-clause-failed
returns-in-Err-Words-clause-failed g c = λ repo is. absurd (other_disk c.untouched.result.reply TheWords repo c.untouched.ensures.reply (λ t. t) is)

pub returns-in-Err-NoMemory-clause-failed : goal.returns-in-Err-NoMemory-clause-failed
returns-in-Err-NoMemory-clause-failed g c = λ repo is. absurd (err_disk c.untouched-in-Err-NoMemory.result.reply _ repo c.untouched-in-Err-NoMemory.ensures.reply is)
