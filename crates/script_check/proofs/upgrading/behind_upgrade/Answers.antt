use Rattle.std.proofs.Common.{sym, ◌∙◌}
use Rattle.std.proofs.lemmas.Result.{err_from_is_err_and}
use Rattle.ownership_check.proofs.Behind.{as_many}
use Rattle.script_check.specs.Upgrading.{blocks_of}
use Rattle.script_check.proofs.OutsideLaws.{breaks_there, fails_alone, leads_there}
use Rattle.script_check.proofs.upgrading.behind_upgrade.Goals as goal

pub returns-in_err-behind : goal.returns-in_err-behind
returns-in_err-behind c =
    let p = err_from_is_err_and c.from_residual.result c.from_residual.ensures.1 in
    let fails = fails_alone c.args.schema.now.schema c.args.schema.now.repos c.args.upgrade.now (blocks_of c.args.all.now) c.in_err-behind.field-0.0 c.in_err-behind.ensures.broken in
    rw (p.1, p.2) fails

pub items_fault-requires : goal.items_fault-requires
items_fault-requires c = rw (c.in_ok-behind.ensures.schema, as_many c.args.schema.now.schema c.args.upgrade.now) c.requires.0

pub returns-in-None : goal.returns-in-None
returns-in-None c =
    let b = c.in_ok-behind.ensures in
    leads_there c.args.schema.now.schema c.args.schema.now.repos c.args.upgrade.now (blocks_of c.args.all.now) c.in_ok-behind.behind b.sound b.schema b.repos (sym c.in-None.is ∙ c.in_ok-items_fault.ensures)

pub returns-in-Some : goal.returns-in-Some
returns-in-Some c =
    let b = c.in_ok-behind.ensures in
    breaks_there c.args.schema.now.schema c.args.schema.now.repos c.args.upgrade.now (blocks_of c.args.all.now) c.in_ok-behind.behind b.sound b.schema b.repos c.in-Some.field-0 (sym c.in-Some.is ∙ c.in_ok-items_fault.ensures)
