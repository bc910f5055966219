use Rattle.class_defs.specs.Stored.{Objects}
use Rattle.std.proofs.Common.{IsErrOf, ◌≡◌, rules}
use Rattle.store_check.specs.Fits.{TellsFit, stored_under}
use Rattle.store_check.specs.declared.fitting.Fitting.TheVariants.{Fits}
use Rattle.store_opening.proofs.Holding.{ok_at}
use Rattle.store_opening.proofs.Misfits.{on_ok_at}
use Rattle.store_opening.proofs.Told.{fits_same, unfit_same}
use Rattle.store_opening.specs.Joined.{read_states}
use Rattle.store_opening.specs.OpenedStore.{joined, roots_of}
use Rattle.store_opening.specs.declared.misfit.Misfit.TheVariants.{Of}
use Rattle.store_opening.proofs.fit.check_together.Goals as goal

pub returns-in_err-held-clause-misfit : goal.returns-in_err-held-clause-misfit
returns-in_err-held-clause-misfit c = λ r is.
    let states = read_states c.args.store.now in
    let made : c.in_ok-schemas.objects ≡ joined states c.args.paged = ok_at c.joined-joined.result c.in_ok-schemas.objects (λ (o : Objects). o ≡ joined states c.args.paged) c.in_ok-schemas.ensures.made.1 c.joined-joined.ensures in
    let wrong : IsErrOf c.check_objects-checked.result (Of r) = search rules in
    unfit_same states c.args.paged c.in_ok-schemas.objects made c.in_ok-schemas.schemas c.args.schemas c.in_ok-schemas.ensures.made.0 r (c.check_objects-checked.ensures.misfit r wrong)

pub returns-clause-fits : goal.returns-clause-fits
returns-clause-fits c =
    let states = read_states c.args.store.now in
    let s = c.in_ok-schemas.schemas in
    let made : c.in_ok-schemas.objects ≡ joined states c.args.paged = ok_at c.joined-joined.result c.in_ok-schemas.objects (λ (o : Objects). o ≡ joined states c.args.paged) c.in_ok-schemas.ensures.made.1 c.joined-joined.ensures in
    fits_same states c.args.paged c.in_ok-schemas.objects made s c.args.schemas c.in_ok-schemas.ensures.made.0
    (on_ok_at c.check_objects-checked.result c.in_ok-held.field-0-1 (TellsFit s (stored_under s c.in_ok-schemas.objects (roots_of states)) Fits) c.in_ok-held.ensures.made.1 c.check_objects-checked.ensures.fits)
