-- What the example of local histories left can open.
use Rattle.spec_history.specs.Examples.{recovered}
use Rattle.spec_history.specs.Opening.{left_by, with_left_texts}
use Rattle.law_reopening.specs.Recovering.{CanOpen}
use Rattle.std.proofs.Common.{Bool, arith, refl, true}
use Rattle.std.specs.List.Sorted.{IsStrictlySortedBy}
use Rattle.std.specs.Prelude.{false, length, ◌≤◌}

few : (commits : Bool) → length (with_left_texts recovered.texts (left_by recovered.repo (λ t. commits) recovered.prepared)) ≤ 1000
few true = omega arith
few false = omega arith

pub left_can_open : (commits : Bool) → CanOpen recovered (λ t. commits)
unfolding IsStrictlySortedBy
left_can_open commits = record {
  number = omega arith;
  repos = omega arith;
  life = omega arith;
  count = omega arith;
  epoch = few commits;
  pages = omega arith;
  sorted = (tt, tt);
  objects = (record { here = refl; page = omega arith; version = omega arith }, tt);
  roots = ((λ e. refl), tt);
  alone = tt;
  prepared = (record { named = refl; writes = (record { here = refl; page = omega arith; version = omega arith }, tt) }, tt);
}
