use Rattle.law_renaming.proofs.RenamedAtHand.{names_found, names_stay}
use Rattle.law_renaming.proofs.renaming.names_at_hand_last.Goals as goal

pub returns : goal.returns
returns c = record {
  without = λ schema tx store at_hand r h defined. names_stay schema tx store at_hand h r defined;
  created = λ schema tx store at_hand outcome m h undefined objects is named. names_found schema tx store at_hand h outcome m is named
      undefined objects;
}
