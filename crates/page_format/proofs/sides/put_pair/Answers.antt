use Rattle.std.proofs.Common.{subst, sym}
use Rattle.std.specs.Result.{is_ok}
use Rattle.page_format.specs.Sides.{SidesFit}
use Rattle.page_format.proofs.Places.{fit_put, fit_chosen}
use Rattle.page_format.proofs.sides.put_pair.Goals as goal

pub returns-in-Ok-clause-fit : goal.returns-in-Ok-clause-fit
returns-in-Ok-clause-fit c =
    let fit = subst SidesFit (sym c.as_slice.ensures.value) c.requires.fit in
    rw (← c.as_slice.ensures.value) (subst SidesFit (sym (c.in-Ok.ensures.found.put c.args.side)) (fit_put c.as_slice.result.now c.args.page c.args.side fit c.ranges.page.fits c.requires.side))

pub returns-in-Err-clause-fit : goal.returns-in-Err-clause-fit
returns-in-Err-clause-fit c =
    let fit = subst SidesFit (sym c.as_slice.ensures.value) c.requires.fit in
    let more = subst SidesFit (sym (c.in-Err.ensures.absent.put c.args.side)) (fit_put c.as_slice.result.now c.args.page c.args.side fit c.ranges.page.fits c.requires.side) in
    fit_chosen (is_ok c.insert.result) c.insert.new.self.items _ _ c.insert.ensures.items (rw (← c.as_slice.ensures.value) more) c.requires.fit
