use Rattle.std.proofs.Common.{IfOk, Result, arith, refl, subst, sym, vec_len, ◌∙◌, ◌≡◌}
use Rattle.store_opening.specs.Reading.{ReadAll}
use Rattle.thor_top.proofs.LineLaws.{awaited_by}
use Rattle.thor_top.proofs.StageLaws.{for_store, foretells_map, ok_always}
use Rattle.thor_top.specs.Stages.{Foretells, IsAwaited, IsAwaitedBy}
use Rattle.thor_value.specs.declared.memory.NoMemory.{NoMemory}
use Rattle.top_judging.proofs.DiskLaws.{no_disk, other_disk, unread_for_disk}
use Rattle.top_reply.specs.declared.reply.Reply.TheVariants.{Words as TheWords}
use Rattle.top_judging.proofs.StageLaws.{err_map, none_says, ok_map, script_says, unsettled_replies}
use Rattle.top_judging.specs.Stages.{RepliesUnsettled}
use Rattle.top_judging.specs.Origins.{RepliesUnreadFor}
use Rattle.top_reply.specs.declared.reply.Reply.{Reply}
use Rattle.top_statement.specs.Top.{IsForOthers, IsHanded, RepliesTo, Says, Told, origin_of, told_by}
use Rattle.top_judging.proofs.TellingLaws.{none_tell, unread_for_tells}
use Rattle.top_statement.specs.Telling.{TellsNoRun}
use Rattle.thor_top.proofs.beginning.begin.Goals as goal

pub returns-then-not-are_parts_of-clause-reply : goal.returns-then-not-are_parts_of-clause-reply
returns-then-not-are_parts_of-clause-reply g c =
    let D = ReadAll g.P.Parts.disks c.args.parts.items in
    let plan = c.args.plan.now in
    let count = vec_len c.args.parts in
    let before : Told = told_by g.S.Source.left g.S.Source.faults c.args.source.now in
    let other : IsForOthers plan count = λ e. c.if-not-are_parts_of.ensures.other refl (omega (arith, e, c.as_slice.ensures.len)) in
    subst (λ (q : Result Reply NoMemory). IfOk q (Says D (IsHanded plan count) (IsForOthers plan count) before before)) (sym c.untouched.ensures.reply) (other, refl)

pub returns-in-Ok-clause-foretells : goal.returns-in-Ok-clause-foretells
returns-in-Ok-clause-foretells g c =
    let D = ReadAll g.P.Parts.disks c.args.parts.items in
    let plan = c.args.plan.now in
    let count = vec_len c.args.parts in
    let before : Told = told_by g.S.Source.left g.S.Source.faults c.args.source.now in
    let after : Told = told_by g.S.Source.left g.S.Source.faults c.script_of.new.source in
    let same = c.if-not-are_parts_of.ensures.same refl in
    let repos : plan.repos ≡ count = omega (arith, same, c.as_slice.ensures.len) in
    let handed : IsHanded plan count plan = record { same = refl; repos_are = repos } in
    let replied = RepliesTo D plan c.in-Ok.script in
    let says = Says D (IsHanded plan count) (IsForOthers plan count) before after in
    ok_map c.begin_script.result (λ run. Foretells replied run.expected) (λ run. Foretells says run.expected)
    (λ run. foretells_map replied says run.expected (script_says D (IsHanded plan count) (IsForOthers plan count) plan handed before after c.in-Ok.script c.in-Ok.ensures.script))
    c.begin_script.ensures.foretells

pub returns-in-Ok-clause-awaited : goal.returns-in-Ok-clause-awaited
returns-in-Ok-clause-awaited g c =
    let D = ReadAll g.P.Parts.disks c.args.parts.items in
    let plan = c.args.plan.now in
    let count = vec_len c.args.parts in
    let before : Told = told_by g.S.Source.left g.S.Source.faults c.args.source.now in
    let after : Told = told_by g.S.Source.left g.S.Source.faults c.script_of.new.source in
    let same = c.if-not-are_parts_of.ensures.same refl in
    let repos : plan.repos ≡ count = omega (arith, same, c.as_slice.ensures.len) in
    let handed : IsHanded plan count plan = record { same = refl; repos_are = repos } in
    ok_map c.begin_script.result (λ run. IsAwaited D plan c.in-Ok.script run.expected) (λ run. IsAwaitedBy D (IsHanded plan count) before after run.expected)
    (λ run. awaited_by D (IsHanded plan count) plan handed before after c.in-Ok.script c.in-Ok.ensures.script run.expected)
    c.begin_script.ensures.awaited

pub returns-in-Ok-clause-fails : goal.returns-in-Ok-clause-fails
returns-in-Ok-clause-fails g c =
    let D = ReadAll g.P.Parts.disks c.args.parts.items in
    let plan = c.args.plan.now in
    let count = vec_len c.args.parts in
    let before : Told = told_by g.S.Source.left g.S.Source.faults c.args.source.now in
    let after : Told = told_by g.S.Source.left g.S.Source.faults c.script_of.new.source in
    let same = c.if-not-are_parts_of.ensures.same refl in
    let repos : plan.repos ≡ count = omega (arith, same, c.as_slice.ensures.len) in
    let handed : IsHanded plan count plan = record { same = refl; repos_are = repos } in
    ok_always c.begin_script.result ((w : Reply) → RepliesUnsettled w → Says D (IsHanded plan count) (IsForOthers plan count) before after w)
    (λ w failed. script_says D (IsHanded plan count) (IsForOthers plan count) plan handed before after c.in-Ok.script c.in-Ok.ensures.script w (unsettled_replies D plan c.in-Ok.script w failed))

pub returns-in-Ok-clause-reply : goal.returns-in-Ok-clause-reply
returns-in-Ok-clause-reply g c =
    let D = ReadAll g.P.Parts.disks c.args.parts.items in
    let plan = c.args.plan.now in
    let count = vec_len c.args.parts in
    let before : Told = told_by g.S.Source.left g.S.Source.faults c.args.source.now in
    let after : Told = told_by g.S.Source.left g.S.Source.faults c.script_of.new.source in
    let same = c.if-not-are_parts_of.ensures.same refl in
    let repos : plan.repos ≡ count = omega (arith, same, c.as_slice.ensures.len) in
    let handed : IsHanded plan count plan = record { same = refl; repos_are = repos } in
    let replied = RepliesTo D plan c.in-Ok.script in
    let says = Says D (IsHanded plan count) (IsForOthers plan count) before after in
    err_map c.begin_script.result (λ a. IfOk a.reply replied) (λ a. IfOk a.reply says)
    (λ a. ok_map a.reply replied says (script_says D (IsHanded plan count) (IsForOthers plan count) plan handed before after c.in-Ok.script c.in-Ok.ensures.script))
    c.begin_script.ensures.reply

pub returns-in-Err-clause-reply : goal.returns-in-Err-clause-reply
returns-in-Err-clause-reply g c =
    let D = ReadAll g.P.Parts.disks c.args.parts.items in
    let plan = c.args.plan.now in
    let count = vec_len c.args.parts in
    let before : Told = told_by g.S.Source.left g.S.Source.faults c.args.source.now in
    let after : Told = told_by g.S.Source.left g.S.Source.faults c.script_of.new.source in
    let same = c.if-not-are_parts_of.ensures.same refl in
    let repos : plan.repos ≡ count = omega (arith, same, c.as_slice.ensures.len) in
    let handed : IsHanded plan count plan = record { same = refl; repos_are = repos } in
    let says = Says D (IsHanded plan count) (IsForOthers plan count) before after in
    subst (λ (q : Result Reply NoMemory). IfOk q says) (sym c.untouched-in-Err.ensures.reply)
    (ok_map c.in-Err.reply (RepliesUnreadFor (origin_of plan.command) plan before after) says (none_says D (IsHanded plan count) (IsForOthers plan count) plan handed before after) c.in-Err.ensures.reply)

pub begin_script-requires-clause-store : goal.begin_script-requires-clause-store
begin_script-requires-clause-store g c =
    let before : Told = told_by g.S.Source.left g.S.Source.faults c.args.source.now in
    let after : Told = told_by g.S.Source.left g.S.Source.faults c.script_of.new.source in
    for_store c.args.plan.now.command c.args.plan.now.repos before after c.in-Ok.script c.in-Ok.ensures.script

pub returns-then-not-are_parts_of-clause-untold : goal.returns-then-not-are_parts_of-clause-untold
returns-then-not-are_parts_of-clause-untold g c = subst (λ (q : Result Reply NoMemory). TellsNoRun q) (sym c.untouched.ensures.reply) (λ tells. tells)

pub returns-in-Err-clause-untold : goal.returns-in-Err-clause-untold
returns-in-Err-clause-untold g c =
    let plan = c.args.plan.now in
    let before : Told = told_by g.S.Source.left g.S.Source.faults c.args.source.now in
    let after : Told = told_by g.S.Source.left g.S.Source.faults c.script_of.new.source in
    subst (λ (q : Result Reply NoMemory). TellsNoRun q) (sym c.untouched-in-Err.ensures.reply)
    (none_tell c.in-Err.reply (RepliesUnreadFor (origin_of plan.command) plan before after) (unread_for_tells (origin_of plan.command) plan before after) c.in-Err.ensures.reply)

pub returns-in-Err-clause-failed : goal.returns-in-Err-clause-failed
returns-in-Err-clause-failed g c = λ repo is.
    let plan = c.args.plan.now in
    let before : Told = told_by g.S.Source.left g.S.Source.faults c.args.source.now in
    let after : Told = told_by g.S.Source.left g.S.Source.faults c.script_of.new.source in
    absurd (no_disk c.in-Err.reply (RepliesUnreadFor (origin_of plan.command) plan before after) repo (unread_for_disk (origin_of plan.command) plan before after) c.in-Err.ensures.reply (sym c.untouched-in-Err.ensures.reply ∙ is))

pub returns-then-not-are_parts_of-clause-failed : goal.returns-then-not-are_parts_of-clause-failed
returns-then-not-are_parts_of-clause-failed g c = λ repo is. absurd (other_disk c.untouched.result.reply TheWords repo c.untouched.ensures.reply (λ t. t) is)
