use Rattle.std.proofs.Common.{ap, ◌∙◌, sym}
use Rattle.std.proofs.lemmas.Bool.Decides.{Decides-int_eq}
use Rattle.std.proofs.lemmas.Slice.Eq.{slice_eq-Decides}
use Rattle.thor_value.specs.declared.values.Answer.TheVariants.{Ints}
use Rattle.top_history_check.proofs.answers.is_ints.Goals as goal

pub returns-in-Ints : goal.returns-in-Ints
returns-in-Ints c = λ same.
    c.in-Ints.is ∙ ap Ints (sym c.as_slice.ensures ∙ (slice_eq-Decides Decides-int_eq c.as_slice.result.now c.as_slice-in-Ints.result.now c.eq.result c.eq.ensures).0 same ∙ c.as_slice-in-Ints.ensures)
