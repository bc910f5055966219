use Rattle.class_defs.specs.Eager.{eager}
use Rattle.law_serializability.proofs.Checked.{runs_checked}
use Rattle.law_serializability.proofs.Reopening.{reopened}
use Rattle.law_serializability.proofs.Serial.{serial_all}
use Rattle.law_serializability.proofs.laws.the_next_opening_goes_on.Goals as goal
use Rattle.law_serializability.specs.WholeHistory.{stored_map}
use Rattle.std.proofs.Common.{ap, subst, sym, ◌∙◌}
use Rattle.law_lazy_history.specs.Standing.{MapFits}
use Rattle.law_global_order.proofs.Listing.{listed}
use Rattle.law_global_order.specs.Serial.{Joined}
use Rattle.law_global_order.specs.Whole.{commits}

pub returns : goal.returns
returns c = record {
  joined = λ S L N sd at al first here some end. reopened S sd at al L first here some N end;
  store = λ s items roots S L N sd at al rests first here fits checked some end.
      ap (λ (M : Joined). eager s (stored_map roots M)) (reopened S sd at al L first here some N end)
      ∙ sym (serial_all s items roots S sd at al L first rests (λ done rest t w c h is rest_on fit. runs_checked s items roots S sd at al L first checked here done rest t w c h rest_on fits.keeps fit) fits (commits S).pairs (listed S sd)).1;
  fits = λ s items roots S L N sd at al rests first here fits checked some end.
      subst (λ (M : Joined). MapFits s (stored_map roots M)) (sym (reopened S sd at al L first here some N end))
      (serial_all s items roots S sd at al L first rests (λ done rest t w c h is rest_on fit. runs_checked s items roots S sd at al L first checked here done rest t w c h rest_on fits.keeps fit) fits (commits S).pairs (listed S sd)).2;
}
