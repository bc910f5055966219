use Rattle.std.proofs.Common.{List, ap, ◌≡◌, ◌∙◌, sym, ℤ}
use Rattle.std.proofs.lemmas.Bool.Decides.{Decides-int_eq}
use Rattle.std.proofs.lemmas.Slice.Eq.{slice_eq-Decides}
use Rattle.thor_value.specs.declared.values.Answer.TheVariants.{Ints}
use Rattle.audit_check.proofs.items.is_ints.Goals as goal

one_list : (xs ys : List ℤ) → Ints xs ≡ Ints ys → xs ≡ ys
one_list xs ys e = cc

pub returns-in-Ints : goal.returns-in-Ints
returns-in-Ints c =
    let tells = slice_eq-Decides Decides-int_eq c.as_slice.result.now c.as_slice-in-Ints.result.now c.eq.result c.eq.ensures in (
      λ same. c.in-Ints.is ∙ ap Ints (sym c.as_slice.ensures ∙ tells.0 same ∙ c.as_slice-in-Ints.ensures),
      λ is. tells.1 (c.as_slice.ensures ∙ one_list _ _ (sym c.in-Ints.is ∙ is) ∙ sym c.as_slice-in-Ints.ensures),
    )
