use Rattle.law_renaming.proofs.RenamedStores.{defined_same}
use Rattle.law_renaming.proofs.renaming.answers_hang_on_no_names.Goals as goal

pub returns : goal.returns
returns c = record {
  same = λ schema tx store fresh names others r q unused t u is other_is. defined_same schema tx store fresh unused names others r
      q t u is other_is;
}
