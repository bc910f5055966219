-- The outcomes of a client stay in the order of its items.
use Rattle.client_items.proofs.Places.{end_cases, end_length, set_cases}
use Rattle.client_items.specs.Courses.{Course, IsInOrder, who_behind}
use Rattle.serial_model.specs.declared.outcomes.Ended.{Ended}
use Rattle.std.proofs.Common.{[], ap, arith, inl, inr, length, sym, ℕ, ◌++◌, ◌<◌, ◌≡◌, ◌∙◌, ◌∷◌}
use Rattle.std.proofs.lemmas.List.{length-set}
use Rattle.std.specs.List.{slice_get}
use Rattle.std.specs.Prelude.{Some, slice_set}

-- the next item has ended
pub one_more : (c : Course) (e : Ended) → IsInOrder c → length c.ended < c.count → e.who ≡ who_behind c.client (length c.ended)
    → IsInOrder (record c { ended = c.ended ++ e ∷ [] })
one_more c e h left who = record {
  few = h.few;
  within = rw (end_length c.ended e) (omega arith);
  whose = λ n f g. elim (end_cases c.ended e f n g) [
    | inl p ↦ h.whose n f p
    | inr p ↦ ap (λ x. x.who) p.1 ∙ who ∙ ap (who_behind c.client) (sym p.0)
  ];
}

-- the outcome of one that had ended is another
pub one_set : (c : Course) (i : ℕ) (was e : Ended) → IsInOrder c → slice_get c.ended i ≡ Some was → e.who ≡ was.who
    → IsInOrder (record c { ended = slice_set c.ended i e })
one_set c i was e h there who = record {
  few = h.few;
  within = rw (length-set c.ended i e) h.within;
  whose = λ n f g. elim (set_cases c.ended i e f n g) [
    | inl p ↦ h.whose n f p
    | inr p ↦ ap (λ x. x.who) p.1 ∙ who ∙ h.whose i was there ∙ ap (who_behind c.client) (sym p.0)
  ];
}
