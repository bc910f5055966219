use Rattle.std.proofs.Common.{◌≡◌, ◌∙◌, None, ap, sym}
use Rattle.script_check.specs.Judging.{own_told}
use Rattle.script_check.specs.Upgrading.{blocks_of, upgrades_fault, upgrades_of}
use Rattle.script_check.proofs.JudgingLaws.{all_kept, is_told, setup_keeps}
use Rattle.script_check.proofs.judging.judge.Goals as goal

pub upgrades_fault-requires-clause-sound : goal.upgrades_fault-requires-clause-sound
upgrades_fault-requires-clause-sound c =
    setup_keeps c.args.schema.now c.args.repos c.args.script.now
    (is_told c.args.schema.now c.args.repos c.args.script.now c.in_ok-rule.rule c.event_fault-event.result _ c.told.result None c.in_ok-rule.ensures c.len.ensures c.event_fault-event.ensures c.told.ensures c.in_default.is)

pub returns-in-None : goal.returns-in-None
returns-in-None c =
    let told = is_told c.args.schema.now c.args.repos c.args.script.now c.in_ok-rule.rule c.event_fault-event.result _ c.told.result None c.in_ok-rule.ensures c.len.ensures c.event_fault-event.ensures c.told.ensures c.in_default.is in
    let own : own_told c.args.schema.now c.args.repos c.args.script.now ≡ None =
    ap (λ clients. upgrades_fault c.args.schema.now c.args.repos (upgrades_of clients) (blocks_of clients)) (sym c.as_slice.ensures) ∙ sym c.in_ok-fault.ensures ∙ c.in-None.is in
    record { judged = all_kept c.args.schema.now c.args.repos c.args.script.now told own }
