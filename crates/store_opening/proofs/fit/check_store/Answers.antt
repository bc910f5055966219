use Rattle.class_defs.specs.Stored.{Objects}
use Rattle.class_defs.specs.declared.store.Schemas.{Schemas}
use Rattle.std.proofs.Common.{IsErrOf, List, rules, subst, ◌∙◌, ◌≡◌}
use Rattle.store_opening.proofs.Fitting.{from_behind, from_more}
use Rattle.store_opening.proofs.Holding.{ok_at}
use Rattle.store_opening.proofs.Misfits.{on_ok_at}
use Rattle.store_opening.proofs.Told.{all_together}
use Rattle.store_opening.specs.Fitting.{AreSchemasOf, FailsFrom, IsUnfit, PassFrom}
use Rattle.store_opening.specs.Joined.{read_states}
use Rattle.store_opening.specs.declared.misfit.Misfit.TheVariants.{Of}
use Rattle.thor_value.specs.FiniteMap.{keys}
use Rattle.thor_value.specs.declared.names.Oref.{Oref}
use Rattle.store_opening.proofs.fit.check_store.Goals as goal

pub returns-in_err-paged-2-clause-misfit : goal.returns-in_err-paged-2-clause-misfit
returns-in_err-paged-2-clause-misfit c = λ r is.
    let states = read_states c.args.store.now in
    let named : c.as_slice.result.now ≡ keys c.args.paged = c.as_slice.ensures ∙ ok_at c.names-names.result c.in_ok-paged.names (λ ns. ns ≡ keys c.args.paged) c.in_ok-paged.ensures.made.1 c.names-names.ensures in
    let wrong : IsErrOf c.check_separate-separate.result (Of r) = search rules in
    from_more states (keys c.args.paged) states r (λ _. ⊥) (λ schemas. IsUnfit states c.args.paged schemas r) (λ _ no. absurd no)
    (subst (λ (ns : List Oref). FailsFrom states ns states r (λ _. ⊥)) named (c.check_separate-separate.ensures.misfit r wrong))

pub returns-clause-misfit : goal.returns-clause-misfit
returns-clause-misfit c = λ r is.
    let states = read_states c.args.store.now in
    let named : c.as_slice.result.now ≡ keys c.args.paged = c.as_slice.ensures ∙ ok_at c.names-names.result c.in_ok-paged.names (λ ns. ns ≡ keys c.args.paged) c.in_ok-paged.ensures.made.1 c.names-names.ensures in
    let paged : c.in_ok-paged-2.paged ≡ c.args.paged = c.in_ok-paged-2.ensures.made.0 ∙ c.in_ok-paged.ensures.made.0 in
    let spelled = ok_at c.check_separate-separate.result c.in_ok-paged-2.schemas (λ (s : Schemas). AreSchemasOf states s) c.in_ok-paged-2.ensures.made.1 c.check_separate-separate.ensures.schemas in
    let passed = subst (λ (ns : List Oref). PassFrom states ns states) named (on_ok_at c.check_separate-separate.result c.in_ok-paged-2.schemas (PassFrom states c.as_slice.result.now states) c.in_ok-paged-2.ensures.made.1 c.check_separate-separate.ensures.passed) in
    from_behind states (keys c.args.paged) states r (λ schemas. IsUnfit states c.args.paged schemas r) c.in_ok-paged-2.schemas spelled passed
    (subst (λ (m : Objects). IsUnfit states m c.in_ok-paged-2.schemas r) paged (c.check_together.ensures.misfit r is))

pub returns-clause-fits : goal.returns-clause-fits
returns-clause-fits c =
    let states = read_states c.args.store.now in
    let named : c.as_slice.result.now ≡ keys c.args.paged = c.as_slice.ensures ∙ ok_at c.names-names.result c.in_ok-paged.names (λ ns. ns ≡ keys c.args.paged) c.in_ok-paged.ensures.made.1 c.names-names.ensures in
    let paged : c.in_ok-paged-2.paged ≡ c.args.paged = c.in_ok-paged-2.ensures.made.0 ∙ c.in_ok-paged.ensures.made.0 in
    let spelled = ok_at c.check_separate-separate.result c.in_ok-paged-2.schemas (λ (s : Schemas). AreSchemasOf states s) c.in_ok-paged-2.ensures.made.1 c.check_separate-separate.ensures.schemas in
    let passed = subst (λ (ns : List Oref). PassFrom states ns states) named (on_ok_at c.check_separate-separate.result c.in_ok-paged-2.schemas (PassFrom states c.as_slice.result.now states) c.in_ok-paged-2.ensures.made.1 c.check_separate-separate.ensures.passed) in
    all_together c.check_together.result states c.args.paged c.in_ok-paged-2.paged c.in_ok-paged-2.schemas paged spelled passed c.check_together.ensures.schemas c.check_together.ensures.fits c.check_together.ensures.keeps
