use Rattle.class_defs.specs.Stored.{Objects}
use Rattle.repo_opening.specs.declared.unopened.Unopened.TheVariants.{Damaged}
use Rattle.std.proofs.Common.{IsErrOf, Ok, ap, length, rules, subst, ◌∙◌, ◌≡◌}
use Rattle.store_opening.proofs.Holding.{fit_is, ok_at, stored_is, whole_of}
use Rattle.store_opening.specs.Fitting.{FitTogether, IsMisfit}
use Rattle.store_opening.specs.Joined.{read_states}
use Rattle.store_opening.specs.OpenedStore.{joined, roots_of}
use Rattle.store_opening.proofs.found.open_store.Goals as goal

pub returns-clause-stored : goal.returns-clause-stored
returns-clause-stored c = λ images stand puts.
    let states = read_states c.args.reads.now in
    let objects : c.in_ok-roots.checked.1 ≡ joined states c.args.paged =
    ok_at c.check_store.result c.in_ok-roots.checked (λ checked. checked.1 ≡ joined states c.in_ok-paged.paged) (ok_at c.fitted-fit.result c.in_ok-roots.checked (λ checked. c.check_store.result ≡ Ok checked) c.in_ok-roots.ensures.made.1 c.fitted-fit.ensures.ok) c.check_store.ensures.objects ∙ ap (λ m. joined states m) c.in_ok-paged.ensures.made.0 in
    let epoch : c.in-Ok.epoch ≡ length c.in_ok-roots.checked.0.upgraded = c.in-Ok.ensures.1 ∙ c.len.ensures in
    let roots : c.in_ok-roots.roots ≡ roots_of states =
    c.in_ok-roots.ensures.made.0 ∙ ok_at c.roots_of.result c.in_ok-paged.roots (λ roots. roots ≡ roots_of states) c.in_ok-paged.ensures.made.1 c.roots_of.ensures in
    stored_is images states c.args.paged _ stand puts objects epoch roots

pub returns-clause-spelled : goal.returns-clause-spelled
returns-clause-spelled c = λ images stand.
    let states = read_states c.args.reads.now in
    let together : FitTogether states c.in_ok-paged.paged c.in_ok-roots.checked.0 =
    ok_at c.check_store.result c.in_ok-roots.checked (λ checked. FitTogether states c.in_ok-paged.paged checked.0) (ok_at c.fitted-fit.result c.in_ok-roots.checked (λ checked. c.check_store.result ≡ Ok checked) c.in_ok-roots.ensures.made.1 c.fitted-fit.ensures.ok) c.check_store.ensures.fits in
    record { states = states; each = stand; spelled = together.spelled }

pub returns-clause-fit : goal.returns-clause-fit
returns-clause-fit c = λ images stand puts.
    let states = read_states c.args.reads.now in
    let together : FitTogether states c.in_ok-paged.paged c.in_ok-roots.checked.0 =
    ok_at c.check_store.result c.in_ok-roots.checked (λ checked. FitTogether states c.in_ok-paged.paged checked.0) (ok_at c.fitted-fit.result c.in_ok-roots.checked (λ checked. c.check_store.result ≡ Ok checked) c.in_ok-roots.ensures.made.1 c.fitted-fit.ensures.ok) c.check_store.ensures.fits in
    fit_is images states c.args.paged c.in_ok-roots.checked.0 (whole_of images states c.args.paged stand puts)
    (subst (λ (m : Objects). FitTogether states m c.in_ok-roots.checked.0) c.in_ok-paged.ensures.made.0 together)

pub returns-in_err-roots-clause-damaged : goal.returns-in_err-roots-clause-damaged
returns-in_err-roots-clause-damaged c = λ r d place is.
    let wrong : IsErrOf c.fitted-fit.result (Damaged r d place) = search rules in
    let told = c.fitted-fit.ensures.damaged r d place wrong in
    (told.0, subst (λ (m : Objects). IsMisfit (read_states c.args.reads.now) m r) c.in_ok-paged.ensures.made.0 (c.check_store.ensures.misfit r told.1))
