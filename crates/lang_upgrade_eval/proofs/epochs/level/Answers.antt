use Rattle.std.proofs.Common.{◌≡◌, ◌∙◌, arith, ap, subst, sym}
use Rattle.std.specs.Prelude.{is_some}
use Rattle.lang_upgrade_eval.proofs.LevelFound.{NoneLag, is_there, level_found, level_whole, none_at_first, none_behind}
use Rattle.lang_upgrade_eval.proofs.epochs.level.Goals as goal

pub loop-before-init : goal.loop-before-init
loop-before-init c = none_at_first c.args.schemas.now c.args.class c.args.ver

pub returns-then-is_some : goal.returns-then-is_some
returns-then-is_some c =
    let named = sym (ap is_some c.next_of.ensures) ∙ is_there c.next_of.result ∙ sym c.is_some.ensures ∙ c.if-is_some.true in
    level_found c.args.schemas.now c.args.epoch c.args.class c.args.ver c.loop-before.before c.loop-before.invariant
    c.loop-before.auto.before (omega (arith, c.loop-before-test.true)) named

pub loop-before-preserved : goal.loop-before-preserved
loop-before-preserved c =
    let unnamed = sym (ap is_some c.next_of.ensures) ∙ is_there c.next_of.result ∙ sym c.is_some.ensures ∙ c.if-is_some.false in
    none_behind c.args.schemas.now c.args.class c.args.ver c.loop-before.before c.loop-before.invariant unnamed

pub returns : goal.returns
returns c =
    let end : c.loop-before.before ≡ c.args.epoch = omega (arith, c.loop-before.auto.before-end c.requires, c.loop-before-test.false) in
    level_whole c.args.schemas.now c.args.epoch c.args.class c.args.ver
    (subst (NoneLag c.args.schemas.now c.args.class c.args.ver) end c.loop-before.invariant)
