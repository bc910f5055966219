use Rattle.class_defs.specs.declared.store.Schemas.{Schemas}
use Rattle.std.proofs.Common.{IsErrOf, ap, rules, subst, sym, ◌∙◌, ◌≡◌, ◌∷◌}
use Rattle.store_opening.proofs.Fitting.{failed_first, passed_first, spelled_first, unspelled_first}
use Rattle.store_opening.proofs.Misfits.{on_ok_at}
use Rattle.store_opening.proofs.Numbering.{first_member}
use Rattle.store_opening.specs.Fitting.{ArePassed, AreSchemasOf, members_from}
use Rattle.store_opening.specs.Joined.{read_states, state_of}
use Rattle.store_opening.specs.Standing.{member_of, members_of}
use Rattle.store_opening.specs.declared.misfit.Misfit.TheVariants.{Of}
use Rattle.store_opening.proofs.fit.check_separate.Goals as goal

pub returns-in_err-schemas-clause-misfit : goal.returns-in_err-schemas-clause-misfit
returns-in_err-schemas-clause-misfit c = λ r is.
    let states = read_states c.args.store.now in
    let parts : c.in_ok-standing.standing.items ≡ c.in-Some.first.now ∷ c.in-Some.others.now = sym c.as_slice.ensures.value ∙ c.in-Some.ensures.cases.0 in
    let member = first_member c.args.store.now c.in_ok-standing.standing.items c.in-Some.first.now c.in-Some.others.now parts c.in_ok-standing.ensures in
    let wrong : IsErrOf c.read_schemas.result (Of r) = search rules in
    let told = c.read_schemas.ensures.misfit r wrong in
    unspelled_first states c.args.names.now (member_of c.in-Some.first.now) (members_of c.in-Some.others.now) states r (λ _. ⊥) member told.0 told.1

pub returns-in_err-schemas-2-clause-misfit : goal.returns-in_err-schemas-2-clause-misfit
returns-in_err-schemas-2-clause-misfit c = λ r is.
    let states = read_states c.args.store.now in
    let parts : c.in_ok-standing.standing.items ≡ c.in-Some.first.now ∷ c.in-Some.others.now = sym c.as_slice.ensures.value ∙ c.in-Some.ensures.cases.0 in
    let member = first_member c.args.store.now c.in_ok-standing.standing.items c.in-Some.first.now c.in-Some.others.now parts c.in_ok-standing.ensures in
    let all : members_of c.as_slice-2.result.now ≡ members_from 0 states = ap members_of c.as_slice-2.ensures.value ∙ c.in_ok-standing.ensures.members in
    let wrong : IsErrOf c.check_each-checked.result (Of r) = search rules in
    failed_first states c.args.names.now (member_of c.in-Some.first.now) (members_of c.in-Some.others.now) states (members_of c.as_slice-2.result.now) r (λ _. ⊥) c.in_ok-schemas.schemas member all
    c.in_ok-schemas.ensures.spelled (c.check_each-checked.ensures.misfit r wrong)

pub returns-clause-schemas : goal.returns-clause-schemas
returns-clause-schemas c =
    let states = read_states c.args.store.now in
    let parts : c.in_ok-standing.standing.items ≡ c.in-Some.first.now ∷ c.in-Some.others.now = sym c.as_slice.ensures.value ∙ c.in-Some.ensures.cases.0 in
    let member = first_member c.args.store.now c.in_ok-standing.standing.items c.in-Some.first.now c.in-Some.others.now parts c.in_ok-standing.ensures in
    subst (λ (s : Schemas). AreSchemasOf states s) (sym c.in_ok-schemas-2.ensures.made.0)
    (spelled_first states c.args.names.now (member_of c.in-Some.first.now) (members_of c.in-Some.others.now) states c.in_ok-schemas.schemas member c.in_ok-schemas.ensures.spelled)

pub returns-clause-passed : goal.returns-clause-passed
returns-clause-passed c =
    let states = read_states c.args.store.now in
    let parts : c.in_ok-standing.standing.items ≡ c.in-Some.first.now ∷ c.in-Some.others.now = sym c.as_slice.ensures.value ∙ c.in-Some.ensures.cases.0 in
    let member = first_member c.args.store.now c.in_ok-standing.standing.items c.in-Some.first.now c.in-Some.others.now parts c.in_ok-standing.ensures in
    let all : members_of c.as_slice-2.result.now ≡ members_from 0 states = ap members_of c.as_slice-2.ensures.value ∙ c.in_ok-standing.ensures.members in
    passed_first states c.args.names.now (member_of c.in-Some.first.now) (members_of c.in-Some.others.now) states (members_of c.as_slice-2.result.now) member all
    (on_ok_at c.check_each-checked.result c.in_ok-schemas-2.field-0-1
    (ArePassed states c.args.names.now (state_of c.in-Some.first.now.read.now) (members_of c.in-Some.others.now) (members_of c.as_slice-2.result.now))
    c.in_ok-schemas-2.ensures.made.1 c.check_each-checked.ensures.passed)
