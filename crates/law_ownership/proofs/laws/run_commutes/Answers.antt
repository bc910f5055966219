use Rattle.law_ownership.proofs.Apart.{apart, commutes, runs_alike}
use Rattle.law_ownership.proofs.laws.run_commutes.Goals as goal

pub returns : goal.returns
returns c = record {
  stored = λ s N schema repos tx names r h undue M same. runs_alike s N schema repos tx names r h undue M same;
  apart = λ s N schema repos tx names r ws h undue is. apart s N schema repos tx names r h undue ws is;
  behind = λ s N schema repos tx names r ws h undue is sorted. commutes s N schema repos tx names r h undue ws is sorted;
}
