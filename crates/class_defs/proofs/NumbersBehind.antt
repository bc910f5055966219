-- That no number of a schema behind an upgrade is above the upgrade's.
use Rattle.std.proofs.Common.{◌≤◌, arith, Bool, true, false, cond, List, [], ◌∷◌, max, ℕ, zero, suc, is_some}
use Rattle.std.proofs.Math.Nat.{le-max_left, le-max_right}
use Rattle.class_defs.specs.Applied.{highest, number_of, numbers_behind, said_of}
use Rattle.class_defs.specs.declared.classes.Class.{Class}
use Rattle.class_defs.specs.declared.upgrades.Upgrade.{Upgrade}

module _ (u : Upgrade) (n : ℕ) where
  within : (b : Bool) (k h : ℕ) → k ≤ n → h ≤ n → max (cond b n k) h ≤ n
  within true k h below rest = at_most n h rest
    where
      at_most : (a b : ℕ) → b ≤ a → max a b ≤ a
      at_most a b h = omega (arith, h)
  within false k h below rest = both k h n below rest
    where
      both : (a b c : ℕ) → a ≤ c → b ≤ c → max a b ≤ c
      both a b c h g = omega (arith, h, g)

  -- no number is above the upgrade's
  pub highest_below : (ds : List Class) (ks : List ℕ) → highest ks ≤ n → highest (numbers_behind u n ds ks) ≤ n
  highest_below [] ks h = omega arith
  highest_below (d ∷ ds) [] h = within (is_some (said_of u d)) zero _ (omega arith) (highest_below ds [] h)
  highest_below (d ∷ ds) (k ∷ ks) h =
      let first = le-max_left k (highest ks) in
      let rest = le-max_right k (highest ks) in
      within (is_some (said_of u d)) k _ (omega (arith, first, h)) (highest_below ds ks (omega (arith, rest, h)))

-- a number of a list is at most its highest
pub number_below : (ks : List ℕ) (c : ℕ) → number_of ks c ≤ highest ks
number_below [] c = omega arith
number_below (k ∷ ks) zero = le-max_left k (highest ks)
number_below (k ∷ ks) (suc c) = let below = number_below ks c in let more = le-max_right k (highest ks) in omega (arith, below, more)
