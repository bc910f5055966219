-- What the next opening finds: what the repositories come to once each has finished what has committed. (That a run
-- begins with all settled that earlier runs left is this project's.)
use Rattle.law_atomic_commit.specs.Several.{Several}
use Rattle.law_serializability.specs.Resting.{AreHere}
use Rattle.std.specs.Prelude.{ℕ, ◌<◌, ◌≡◌}
use Rattle.thor_value.specs.FiniteMap.{IsSorted}
use Rattle.law_global_order.specs.Serial.{Joined, Joins}
use Rattle.law_global_order.specs.Whole.{commits, finished, finished_texts}

-- N is what the repositories have together, as one finite map, once each has finished what has committed.
pub record IsReopening (S : Several) (N : Joined) : Type 0 where
  pub objects : Joins S.repos (finished S (commits S).pairs) N.objects
  pub sorted : IsSorted N.objects
  pub here : AreHere S N
  pub texts : (r : ℕ) → r < S.repos → finished_texts S (commits S).pairs r ≡ N.texts
