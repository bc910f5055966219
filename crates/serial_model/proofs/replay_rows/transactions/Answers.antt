use Rattle.std.proofs.Common.{arith, refl}
use Rattle.class_defs.specs.Run.{execute_all, run}
use Rattle.class_defs.specs.Statements.{block_of}
use Rattle.class_defs.specs.Upgrades.{up}
use Rattle.serial_model.proofs.replay_rows.transactions.Goals as goal

pub returns : goal.returns
unfolding up run execute_all block_of
returns c = record {
  none = record { rising = tt; each = tt };
  two_that_rise = record { rising = (refl, tt); each = (record { number = refl; fresh = refl; answer = refl }, (record { number = refl; fresh = refl; answer = refl }, tt)) };
  before_and_behind_an_upgrade = record {
    rising = (refl, (refl, tt));
    each = (record { number = refl; fresh = refl; answer = refl }, (record { number = refl; fresh = refl; answer = refl; upgrade = refl }, (record { number = refl; fresh = refl; answer = refl }, tt)));
  };
  two_at_one_time = λ h. let e = h.rising.0 in cc;
  two_that_fall = λ h. let e = h.rising.0 in cc;
  with_a_number = λ h. let e = h.each.0.number in absurd (omega arith);
  with_another_answer = λ h. let e = h.each.0.answer in cc;
  with_a_name_that_it_does_not_take = λ h. h.each.0.answer;
  past_the_last_epoch = λ h. h.each.0.answer;
  with_a_name_that_is_there = λ h. let e = h.each.0.fresh in cc;
}
