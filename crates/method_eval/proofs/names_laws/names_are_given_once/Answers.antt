use Rattle.method_eval.proofs.Given.{drop_sound, grant_sound, next_new, next_sound, next_stays, none_sound, reset_sound, spend_sound, spend_spent, spend_stays}
use Rattle.method_eval.proofs.names_laws.names_are_given_once.Goals as goal

pub returns : goal.returns
returns c = record {
  begins = none_sound;
  granted = grant_sound;
  goes_on = λ n repo s. (next_sound n repo s, reset_sound n s, spend_sound n s, drop_sound n repo s);
  new = next_new;
  stays = λ n repo page x h. (h, next_stays n repo x h, h, spend_stays n x h, h);
  spent = spend_spent;
}
