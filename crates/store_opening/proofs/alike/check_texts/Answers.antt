use Rattle.std.proofs.Common.{IsErrOf, rules}
use Rattle.store_opening.proofs.Told.{unread}
use Rattle.store_opening.specs.declared.misfit.Misfit.TheVariants.{Of}
use Rattle.store_opening.proofs.alike.check_texts.Goals as goal

pub returns-in_err-schemas-clause-misfit : goal.returns-in_err-schemas-clause-misfit
returns-in_err-schemas-clause-misfit c = λ r is.
    let wrong : IsErrOf c.read_schemas.result (Of r) = search rules in
    let told = c.read_schemas.ensures.misfit r wrong in
    (told.0, unread c.args.store.now c.args.first.now c.args.other.now c.has_texts_of.result c.requires.first c.requires.other c.has_texts_of.ensures c.if-has_texts_of.false told.1)
