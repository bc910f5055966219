use Rattle.law_renaming.proofs.RenamedStores.{defined_too, defined_with}
use Rattle.law_renaming.proofs.renaming.runs_are_defined_for_names_at_hand.Goals as goal

pub returns : goal.returns
returns c = record {
  created = λ schema tx store fresh at_hand outcome m unused t undefined objects is named. defined_with schema tx store fresh unused at_hand t outcome
      m undefined objects is named;
  defined = λ schema tx store fresh names r at_hand outcome m unused t u defined is named. defined_too schema tx store fresh unused names r t defined
      at_hand u outcome m is named;
}
