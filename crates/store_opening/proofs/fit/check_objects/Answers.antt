use Rattle.class_defs.specs.declared.store.Root.{Root}
use Rattle.std.proofs.Common.{List, inl, subst}
use Rattle.store_check.specs.Fits.{TellsFit, stored_under}
use Rattle.store_check.specs.declared.fitting.Fitting.TheVariants.{Unfit}
use Rattle.store_opening.proofs.Told.{of_same}
use Rattle.store_opening.proofs.fit.check_objects.Goals as goal

pub returns-in-Unfit-clause-misfit : goal.returns-in-Unfit-clause-misfit
returns-in-Unfit-clause-misfit c = λ r is.
    let s = c.args.schemas.now in
    let objects = c.args.objects.now in
    let here : TellsFit s (stored_under s objects c.in-Some.roots.now) (Unfit c.in-Unfit.oref) = subst (TellsFit s (stored_under s objects c.in-Some.roots.now)) c.in-Unfit.is c.in_ok-fits.ensures in
    inl (c.in-Unfit.oref, (of_same c.in-Unfit.oref.repo r is, subst (λ (rs : List Root). TellsFit s (stored_under s objects rs) (Unfit c.in-Unfit.oref)) c.in-Some.ensures here))
