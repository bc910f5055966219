use Rattle.std.proofs.Common.{Some, option_map, ap, sym, ◌∙◌}
use Rattle.class_defs.proofs.Levels.{due_by_last, due_is, lags_to_level}
use Rattle.law_lazy_upgrade.proofs.Values.{get-each, value_stays}
use Rattle.class_defs.specs.Eager.{value}
use Rattle.law_lazy_upgrade.proofs.lazy.undue_objects_stay.Goals as goal

pub returns : goal.returns
returns c = record {
  level = λ s m e k o h. value_stays s m k o (lags_to_level s e k o h);
  undue = λ s m e o h. value_stays s m e o (sym (due_is s e o) ∙ h);
  eager = λ s L x o is h.
      get-each (value s L.objects L.epoch) L.objects x ∙ ap (option_map (value s L.objects L.epoch)) is
      ∙ ap Some (value_stays s L.objects L.epoch o (sym (due_is s L.epoch o) ∙ h));
  alone = λ s m n e k o h. value_stays s m k o (lags_to_level s e k o h) ∙ sym (value_stays s n k o (lags_to_level s e k o h));
  due = due_is;
  last = due_by_last;
}
