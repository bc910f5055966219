use Rattle.std.proofs.Common.{◌≡◌, subst, sym, ◌∙◌, Option, Some}
use Rattle.thor_value.specs.declared.values.Answer.{Answer}
use Rattle.class_defs.specs.Epochs.{schema_at}
use Rattle.serial_model.specs.Replaying.{RanOn}
use Rattle.serial_model.proofs.Applied.{tx_by_answer, tx_undefined}
use Rattle.serial_model.proofs.applying.apply_tx.Goals as goal

pub returns-in-Some-2 : goal.returns-in-Some-2
returns-in-Some-2 c = λ roots.
    let is : schema_at c.args.schemas.now c.args.view.now.epoch ≡ Some c.in-Some.schema.now = sym c.in-Some.ensures in
    let ran = subst (λ (o : Option Answer). RanOn c.in-Some.schema.now c.args.tx.now c.args.entry.now.fresh roots c.args.view.now o c.run_on_current.new.view) c.in-Some-2.is (c.in_ok-answer.ensures.ran roots) in
    tx_by_answer c.args.schemas.now c.in-Some.schema.now c.args.entry.now c.args.tx.now roots c.args.view.now c.run_on_current.new.view c.in-Some-2.answer c.same.result
    is c.if-entry-ne0.false (sym (c.are_fresh.ensures roots) ∙ c.if-not-are_fresh.false) ran c.same.ensures (c.in_ok-answer.ensures.versions c.requires.versions)

pub returns-in-None : goal.returns-in-None
returns-in-None c = λ roots.
    let is : schema_at c.args.schemas.now c.args.view.now.epoch ≡ Some c.in-Some.schema.now = sym c.in-Some.ensures in
    let ran = subst (λ (o : Option Answer). RanOn c.in-Some.schema.now c.args.tx.now c.args.entry.now.fresh roots c.args.view.now o c.run_on_current.new.view) c.in-None.is (c.in_ok-answer.ensures.ran roots) in
    tx_undefined c.args.schemas.now c.in-Some.schema.now c.args.entry.now c.args.tx.now roots c.args.view.now is ran.0
