use Rattle.law_renaming.proofs.RenamedEnds.{runs_same, stand_ins_named}
use Rattle.law_renaming.proofs.renaming.runs_differ_in_names_alone.Goals as goal

pub returns : goal.returns
returns c = record {
  same = λ w tx fresh names stand_in others other_stand_in r q m n unused t u is other_is named other_named. runs_same w fresh unused tx names
      stand_in others other_stand_in r q m n t u is other_is named other_named;
  stand_ins = λ w tx fresh names r m unused t is. stand_ins_named w fresh unused tx names r m t is;
}
