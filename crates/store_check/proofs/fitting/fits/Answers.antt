use Rattle.store_check.proofs.Verdict.{told_by, verdict}
use Rattle.store_check.proofs.fitting.fits.Goals as goal
use Rattle.store_check.specs.Fits.{TellsFit, stored_under}
use Rattle.std.proofs.Common.{subst, ◌∙◌}

pub returns-in-Some : goal.returns-in-Some
returns-in-Some c =
    subst (λ u. TellsFit c.args.schemas.now (stored_under c.args.schemas.now c.args.objects.now c.args.roots.now) (verdict u)) c.in-Some.is
    (told_by c.args.schemas.now c.args.objects.now c.args.roots.now c.in_ok-namings.namings c.in_ok-ways.ways c.as_slice-3.result.now c.least_name-found.result c.least_root.result
    c.in_ok-namings.ensures (c.as_slice-3.ensures ∙ c.in_ok-names.ensures) c.in_ok-ways.ensures c.least_name-found.ensures c.least_root.ensures)

pub returns : goal.returns
returns c =
    subst (λ u. TellsFit c.args.schemas.now (stored_under c.args.schemas.now c.args.objects.now c.args.roots.now) (verdict u)) c.in-None.is
    (told_by c.args.schemas.now c.args.objects.now c.args.roots.now c.in_ok-namings.namings c.in_ok-ways.ways c.as_slice-3.result.now c.least_name-found.result c.least_root.result
    c.in_ok-namings.ensures (c.as_slice-3.ensures ∙ c.in_ok-names.ensures) c.in_ok-ways.ensures c.least_name-found.ensures c.least_root.ensures)
