-- Names of objects that were made, in order.
use Rattle.class_defs.proofs.SameNames.{one_name, same_itself}
use Rattle.std.proofs.Common.{Bool, List, [], ap, arith, cond, false, length, refl, true, ℕ, ◌+◌, ◌++◌, ◌<◌, ◌≡◌, ◌∙◌, ◌∷◌}
use Rattle.std.specs.Prelude.{None, Option, Some, find, is_some}
use Rattle.thor_value.specs.Names.{same_oref}
use Rattle.thor_value.specs.declared.names.Oref.{Oref}

-- whether a name is among these
abbrev pub is_among : List Oref → Oref → Bool
is_among xs x = is_some (find (same_oref x) xs)

-- the place of a name among these
pub age : List Oref → Oref → ℕ
age [] x = 0
age (y ∷ ys) x = cond (same_oref x y) 0 (1 + age ys x)

found : (b : Bool) (y : Oref) (o : Option Oref) → b ≡ true → is_some (cond b (Some y) o) ≡ true
found true y o e = refl
found false y o e = cc

further : (b : Bool) (y : Oref) (o : Option Oref) → is_some o ≡ true → is_some (cond b (Some y) o) ≡ true
further true y o e = refl
further false y o e = e

-- more names behind
pub among-more : (xs ys : List Oref) (x : Oref) → is_among xs x ≡ true → is_among (xs ++ ys) x ≡ true
among-more [] ys x h = cc
among-more (z ∷ xs) ys x h = by (same_oref x z) h (among-more xs ys x)
  where
    by : (b : Bool) → is_some (cond b (Some z) (find (same_oref x) xs)) ≡ true → (is_among xs x ≡ true → is_among (xs ++ ys) x ≡ true)
        → is_some (cond b (Some z) (find (same_oref x) (xs ++ ys))) ≡ true
    by true h more = refl
    by false h more = more h

pub among-new : (xs : List Oref) (x : Oref) → is_among (xs ++ x ∷ []) x ≡ true
among-new [] x = found (same_oref x x) x None (same_itself x)
among-new (z ∷ xs) x = further (same_oref x z) z (find (same_oref x) (xs ++ x ∷ [])) (among-new xs x)

-- who is among these and one more is among these or is that one
pub among-cases : (xs : List Oref) (z x : Oref) (b : Bool) → is_among xs x ≡ b → is_among (xs ++ z ∷ []) x ≡ true → b ≡ false → x ≡ z
among-cases [] z x b is h e = by (same_oref x z) refl h
  where
    by : (c : Bool) → same_oref x z ≡ c → is_some (cond c (Some z) None) ≡ true → x ≡ z
    by true k h = one_name x z true k refl
    by false k h = cc
among-cases (y ∷ ys) z x b is h e = by (same_oref x y) (is ∙ e) h (among-cases ys z x (is_among ys x) refl)
  where
    by : (c : Bool) → is_some (cond c (Some y) (find (same_oref x) ys)) ≡ false → is_some (cond c (Some y) (find (same_oref x) (ys ++ z ∷ []))) ≡ true
        → (is_among (ys ++ z ∷ []) x ≡ true → is_among ys x ≡ false → x ≡ z) → x ≡ z
    by true k h more = cc
    by false k h more = more h k

pub age-more : (xs ys : List Oref) (x : Oref) → is_among xs x ≡ true → age (xs ++ ys) x ≡ age xs x
unfolding age
age-more [] ys x h = cc
age-more (z ∷ xs) ys x h = by (same_oref x z) h (age-more xs ys x)
  where
    by : (b : Bool) → is_some (cond b (Some z) (find (same_oref x) xs)) ≡ true → (is_among xs x ≡ true → age (xs ++ ys) x ≡ age xs x)
        → cond b 0 (1 + age (xs ++ ys) x) ≡ cond b 0 (1 + age xs x)
    by true h more = refl
    by false h more = ap (λ n. 1 + n) (more h)

pub age-less : (xs : List Oref) (x : Oref) → is_among xs x ≡ true → age xs x < length xs
unfolding age
age-less [] x h = cc
age-less (z ∷ xs) x h = by (same_oref x z) h (age-less xs x)
  where
    by : (b : Bool) → is_some (cond b (Some z) (find (same_oref x) xs)) ≡ true → (is_among xs x ≡ true → age xs x < length xs)
        → cond b 0 (1 + age xs x) < length (z ∷ xs)
    by true h more = omega arith
    by false h more = let l = more h in omega (arith, l)

pub age-new : (xs : List Oref) (x : Oref) → is_among xs x ≡ false → age (xs ++ x ∷ []) x ≡ length xs
unfolding age
age-new [] x h = ap (λ (b : Bool). cond b 0 1) (same_itself x)
age-new (z ∷ xs) x h = by (same_oref x z) h (age-new xs x)
  where
    by : (b : Bool) → is_some (cond b (Some z) (find (same_oref x) xs)) ≡ false → (is_among xs x ≡ false → age (xs ++ x ∷ []) x ≡ length xs)
        → cond b 0 (1 + age (xs ++ x ∷ []) x) ≡ length (z ∷ xs)
    by true h more = cc
    by false h more = let e = more h in omega (arith, e)
