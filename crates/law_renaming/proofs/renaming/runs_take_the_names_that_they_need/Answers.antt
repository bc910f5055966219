use Rattle.std.specs.Prelude.{Ok, refl}
use Rattle.law_renaming.proofs.RenamedStores.{created_takeable, defined_again, taken_in_order}
use Rattle.law_renaming.proofs.renaming.runs_take_the_names_that_they_need.Goals as goal

pub returns : goal.returns
returns c = record {
  defined = λ schema tx store fresh at_hand flow m unused t is. defined_again schema tx store fresh unused at_hand t (Ok flow) m is tt flow refl;
  takeable = λ schema tx store fresh at_hand outcome m unused t is named. created_takeable schema tx store fresh unused at_hand t outcome m is named;
  in_order = λ schema tx store fresh at_hand outcome m repo unused t is named all. taken_in_order schema tx store fresh unused at_hand t outcome m is
      named repo all;
}
