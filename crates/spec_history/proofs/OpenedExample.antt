-- The bases of the examples are bases.
use Rattle.spec_history.specs.Examples.{home, left_over}
use Rattle.spec_history.specs.Opening.{IsBase}
use Rattle.std.proofs.Common.{Bool, arith, refl, true}
use Rattle.std.specs.List.Sorted.{IsStrictlySortedBy}
use Rattle.std.specs.Prelude.{false}

pub home_is : IsBase home
unfolding IsStrictlySortedBy
home_is = record {
  number = omega arith;
  repos = omega arith;
  life = omega arith;
  count = omega arith;
  epoch = omega arith;
  pages = omega arith;
  sorted = ((refl, tt), (tt, tt));
  objects = (record { here = refl; page = omega arith; version = omega arith }, (record { here = refl; page = omega arith; version = omega arith }, tt));
  roots = ((λ e. refl), ((λ e. refl), ((λ e. absurd (omega (arith, e))), tt)));
  alone = tt;
  left = tt;
}

pub left_is : (commits : Bool) → IsBase (left_over commits)
unfolding IsStrictlySortedBy
left_is true = record {
  number = omega arith;
  repos = omega arith;
  life = omega arith;
  count = omega arith;
  epoch = omega arith;
  pages = omega arith;
  sorted = (tt, tt);
  objects = (record { here = refl; page = omega arith; version = omega arith }, tt);
  roots = ((λ e. refl), tt);
  alone = tt;
  left = (record { named = refl; elsewhere = λ e. cc; counted = λ e f. cc }, tt);
}
left_is false = record {
  number = omega arith;
  repos = omega arith;
  life = omega arith;
  count = omega arith;
  epoch = omega arith;
  pages = omega arith;
  sorted = (tt, tt);
  objects = (record { here = refl; page = omega arith; version = omega arith }, tt);
  roots = ((λ e. refl), tt);
  alone = tt;
  left = (record { named = refl; elsewhere = λ e. cc; counted = λ e. cc }, tt);
}
