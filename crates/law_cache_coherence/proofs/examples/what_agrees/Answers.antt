use Rattle.law_cache_coherence.proofs.examples.what_agrees.Goals as goal
use Rattle.spec_history.specs.Examples.{at}
use Rattle.std.proofs.Common.{false, refl, true, ◌≡◌}

pub returns : goal.returns
returns c = record {
  unanswered = record { kept = λ t w is done. let f : false ≡ true = done in cc; led = λ calm on t o is own done. let f : false ≡ true = on in cc };
  counted = λ a. let f : false ≡ true = a.led (at 1) _ refl refl tt in cc;
}
