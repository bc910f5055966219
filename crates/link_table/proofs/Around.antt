-- What stands beside a key in a list of keys, where one more comes last and where one leaves.
use Rattle.link_table.specs.Nodes.{is_key}
use Rattle.link_table.specs.Pairs.{next_after, first}
use Rattle.link_table.specs.Tables.{before_from, ends_of, first_key, if_there, joined, last_key, without}
use Rattle.std.proofs.Common.{ap, refl, sym, ◌∙◌}
use Rattle.std.specs.List.{AllByRecursion, IsDistinct, last_or, list_any}
use Rattle.std.specs.Prelude.{Bool, List, None, Option, Some, [], cond, false, nat_eq, not, true, ℕ, ◌++◌, ◌∷◌, ◌≡◌, ◌||◌}
use Rattle.std.proofs.lemmas.Bool.{eq-eqb, eqb-true}

-- ---- keys that a list has not

-- k is none of the keys
abbrev pub Misses : ℕ → List ℕ → Type 0
Misses k ks = AllByRecursion (λ j. nat_eq j k ≡ false) ks

-- k is one of the keys
abbrev pub has_key : ℕ → List ℕ → Bool
has_key k ks = list_any (λ j. nat_eq j k) ks

pub flip : (a b : ℕ) → nat_eq a b ≡ false → nat_eq b a ≡ false
flip a b h = by (nat_eq b a) refl
  where
    by : (t : Bool) → nat_eq b a ≡ t → t ≡ false
    by false e = refl
    by true e = let s : nat_eq a b ≡ true = eq-eqb a b (sym (eqb-true b a e)) in cc

-- a key that differs from each of those that k is above
apart : (x k : ℕ) → (ks : List ℕ) → AllByRecursion (λ y. nat_eq x y ≡ false) ks → nat_eq x k ≡ true → Misses k ks
apart x k [] h e = tt
apart x k (y ∷ ys) h e =
    let is : x ≡ k = eqb-true x k e in
    let f : nat_eq k y ≡ false = rw is at h.0 in
    (flip k y f, apart x k ys h.1 e)

-- ---- looks into lists

none_first : (x : ℕ) (ks : List ℕ) → Misses x ks → is_key (first ks) x ≡ false
none_first x [] h = refl
none_first x (y ∷ ys) h = h.0

pub none_last : (x : ℕ) (o : Option ℕ) (ks : List ℕ) → is_key o x ≡ false → Misses x ks → is_key (last_or o ks) x ≡ false
none_last x o [] e h = e
none_last x o (y ∷ ys) e h = none_last x (Some y) ys h.0 h.1

pub none_behind : (x j : ℕ) (ks : List ℕ) → Misses x ks → is_key (next_after ks j) x ≡ false
none_behind x j [] h = refl
none_behind x j (y ∷ ys) h = by (nat_eq y j) (none_behind x j ys h.1)
  where
    by : (t : Bool) → is_key (next_after ys j) x ≡ false → is_key (cond t (first ys) (next_after ys j)) x ≡ false
    by true more = none_first x ys h.1
    by false more = more

none_before : (x j : ℕ) (o : Option ℕ) (ks : List ℕ) → is_key o x ≡ false → Misses x ks → is_key (before_from o ks j) x ≡ false
none_before x j o [] e h = refl
none_before x j o (y ∷ ys) e h = by (nat_eq y j) (none_before x j (Some y) ys h.0 h.1)
  where
    by : (t : Bool) → is_key (before_from (Some y) ys j) x ≡ false → is_key (cond t o (before_from (Some y) ys j)) x ≡ false
    by true more = e
    by false more = more

pub no_before : (x j : ℕ) (ks : List ℕ) → Misses x ks → is_key (before_from None ks j) x ≡ false
no_before x j ks h = none_before x j None ks refl h

pub no_last : (x : ℕ) (ks : List ℕ) → Misses x ks → is_key (last_or None ks) x ≡ false
no_last x ks h = none_last x None ks refl h

-- ---- one more key, which comes last

pub behind_new : (ks : List ℕ) (n : ℕ) → Misses n ks → next_after (ks ++ n ∷ []) n ≡ None
behind_new [] n h = by (nat_eq n n)
  where
    by : (t : Bool) → cond t (first []) (next_after [] n) ≡ None
    by true = refl
    by false = refl
behind_new (x ∷ xs) n h = rw h.0 (behind_new xs n h.1)

before_new_from : (o : Option ℕ) (ks : List ℕ) (n : ℕ) → Misses n ks → before_from o (ks ++ n ∷ []) n ≡ last_or o ks
before_new_from o [] n h = let e : nat_eq n n ≡ true = eq-eqb n n refl in rw e refl
before_new_from o (x ∷ xs) n h = rw h.0 (before_new_from (Some x) xs n h.1)

pub before_new : (ks : List ℕ) (n : ℕ) → Misses n ks → before_from None (ks ++ n ∷ []) n ≡ last_or None ks
before_new ks n h = before_new_from None ks n h

before_old_from : (o : Option ℕ) (ks : List ℕ) (n k : ℕ) → nat_eq n k ≡ false → before_from o (ks ++ n ∷ []) k ≡ before_from o ks k
before_old_from o [] n k e = rw e refl
before_old_from o (x ∷ xs) n k e = ap (cond (nat_eq x k) o) (before_old_from (Some x) xs n k e)

pub before_old : (ks : List ℕ) (n k : ℕ) → nat_eq n k ≡ false → before_from None (ks ++ n ∷ []) k ≡ before_from None ks k
before_old ks n k e = before_old_from None ks n k e

behind_old_from : (o : Option ℕ) (ks : List ℕ) (n k : ℕ) → IsDistinct nat_eq ks → nat_eq n k ≡ false → is_key o k ≡ false → next_after (ks ++ n ∷ []) k ≡ cond (is_key (last_or o ks) k) (Some n) (next_after ks k)
unfolding IsDistinct
behind_old_from o [] n k d e f = rw (e, f) refl
behind_old_from o (x ∷ xs) n k d e f = by (nat_eq x k) refl (behind_old_from (Some x) xs n k d.1 e)
  where
    here : (ys : List ℕ) → AllByRecursion (λ y. nat_eq x y ≡ false) ys → nat_eq x k ≡ true → first (ys ++ n ∷ []) ≡ cond (is_key (last_or (Some x) ys) k) (Some n) (first ys)
    here [] a g = rw g refl
    here (y ∷ ys) a g =
        let m : Misses k (y ∷ ys) = apart x k (y ∷ ys) a g in
        let l : is_key (last_or (Some y) ys) k ≡ false = none_last k (Some y) ys m.0 m.1 in
        rw l refl

    by : (t : Bool) → nat_eq x k ≡ t
        → (nat_eq x k ≡ false → next_after (xs ++ n ∷ []) k ≡ cond (is_key (last_or (Some x) xs) k) (Some n) (next_after xs k))
        → cond t (first (xs ++ n ∷ [])) (next_after (xs ++ n ∷ []) k) ≡ cond (is_key (last_or (Some x) xs) k) (Some n) (cond t (first xs) (next_after xs k))
    by true g more = here xs d.0 g
    by false g more = more g

pub behind_old : (ks : List ℕ) (n k : ℕ) → IsDistinct nat_eq ks → nat_eq n k ≡ false → next_after (ks ++ n ∷ []) k ≡ cond (is_key (last_or None ks) k) (Some n) (next_after ks k)
behind_old ks n k d e = behind_old_from None ks n k d e refl

-- ---- the ends

last_is : (o : Option ℕ) (ks : List ℕ) (n : ℕ) → last_or o (ks ++ n ∷ []) ≡ Some n
last_is o [] n = refl
last_is o (x ∷ xs) n = last_is (Some x) xs n

some_last : (x : ℕ) (ks : List ℕ) → (y : ℕ) × (last_or (Some x) ks ≡ Some y)
some_last x [] = (x, refl)
some_last x (y ∷ ys) = some_last y ys

pub first_of_ends : (ks : List ℕ) → first_key (ends_of ks) ≡ first ks
first_of_ends [] = refl
first_of_ends (x ∷ xs) = let l = some_last x xs in let e : last_or (Some x) xs ≡ Some l.0 = l.1 in rw e refl

pub last_of_ends : (ks : List ℕ) → last_key (ends_of ks) ≡ last_or None ks
last_of_ends [] = refl
last_of_ends (x ∷ xs) = let l = some_last x xs in let e : last_or (Some x) xs ≡ Some l.0 = l.1 in rw e refl

pub joined_ends : (ks : List ℕ) (n : ℕ) → Some (joined (ends_of ks) n) ≡ ends_of (ks ++ n ∷ [])
joined_ends [] n = refl
joined_ends (x ∷ xs) n =
    let l = some_last x xs in
    let e : last_or (Some x) xs ≡ Some l.0 = l.1 in
    let f : last_or (Some x) (xs ++ n ∷ []) ≡ Some n = last_is (Some x) xs n in
    rw (e, f) refl

-- ---- a key that leaves

pub without_none : (ks : List ℕ) (n : ℕ) → Misses n ks → without ks n ≡ ks
without_none [] n h = refl
without_none (x ∷ xs) n h = rw h.0 (ap (λ (ys : List ℕ). x ∷ ys) (without_none xs n h.1))

behind_rest_from : (o : Option ℕ) (ks : List ℕ) (n k : ℕ) → IsDistinct nat_eq ks → nat_eq n k ≡ false → is_key o k ≡ false → next_after (without ks n) k ≡ cond (is_key (before_from o ks n) k) (next_after ks n) (next_after ks k)
unfolding IsDistinct
behind_rest_from o [] n k d e f = refl
behind_rest_from o (x ∷ xs) n k d e f = by (nat_eq x n) (nat_eq x k) refl refl (behind_rest_from (Some x) xs n k d.1 e)
  where
    next_but : (ys : List ℕ) → IsDistinct nat_eq ys → AllByRecursion (λ y. nat_eq x y ≡ false) ys → nat_eq x k ≡ true → first (without ys n) ≡ cond (is_key (before_from (Some x) ys n) k) (next_after ys n) (first ys)
    next_but [] b a g = refl
    next_but (y ∷ ys) b a g = at (nat_eq y n) refl
      where
        at : (t : Bool) → nat_eq y n ≡ t → first (cond (not t) (y ∷ without ys n) (without ys n)) ≡ cond (is_key (cond t (Some x) (before_from (Some y) ys n)) k) (cond t (first ys) (next_after ys n)) (Some y)
        at true h = rw g (ap first (without_none ys n (apart y n ys b.0 h)))
        at false h =
            let m : Misses k (y ∷ ys) = apart x k (y ∷ ys) a g in
            let l : is_key (before_from (Some y) ys n) k ≡ false = none_before k n (Some y) ys m.0 m.1 in
            rw l refl

    by : (s t : Bool) → nat_eq x n ≡ s → nat_eq x k ≡ t
        → (nat_eq x k ≡ false → next_after (without xs n) k ≡ cond (is_key (before_from (Some x) xs n) k) (next_after xs n) (next_after xs k))
        → next_after (cond (not s) (x ∷ without xs n) (without xs n)) k ≡ cond (is_key (cond s o (before_from (Some x) xs n)) k) (cond s (first xs) (next_after xs n)) (cond t (first xs) (next_after xs k))
    by true true g h more = let a : x ≡ n = eqb-true x n g in let b : nat_eq n k ≡ true = rw a at h in cc
    by true false g h more = rw f (ap (λ (ys : List ℕ). next_after ys k) (without_none xs n (apart x n xs d.0 g)))
    by false true g h more = rw h (next_but xs d.1 d.0 h)
    by false false g h more = rw h (more h)

pub behind_rest : (ks : List ℕ) (n k : ℕ) → IsDistinct nat_eq ks → nat_eq n k ≡ false → next_after (without ks n) k ≡ cond (is_key (before_from None ks n) k) (next_after ks n) (next_after ks k)
behind_rest ks n k d e = behind_rest_from None ks n k d e refl

before_rest_from : (o : Option ℕ) (ks : List ℕ) (n k : ℕ) → IsDistinct nat_eq ks → nat_eq n k ≡ false → before_from o (without ks n) k ≡ cond (is_key (next_after ks n) k) (before_from o ks n) (before_from o ks k)
unfolding IsDistinct
before_rest_from o [] n k d e = refl
before_rest_from o (x ∷ xs) n k d e = by (nat_eq x n) (nat_eq x k) refl refl (before_rest_from (Some x) xs n k d.1 e)
  where
    second : (ys : List ℕ) → before_from o ys k ≡ cond (is_key (first ys) k) o (before_from (Some x) ys k)
    second [] = refl
    second (y ∷ ys) = at (nat_eq y k)
      where
        at : (t : Bool) → cond t o (before_from (Some y) ys k) ≡ cond t o (cond t (Some x) (before_from (Some y) ys k))
        at true = refl
        at false = refl

    by : (s t : Bool) → nat_eq x n ≡ s → nat_eq x k ≡ t
        → before_from (Some x) (without xs n) k ≡ cond (is_key (next_after xs n) k) (before_from (Some x) xs n) (before_from (Some x) xs k)
        → before_from o (cond (not s) (x ∷ without xs n) (without xs n)) k ≡ cond (is_key (cond s (first xs) (next_after xs n)) k) (cond s o (before_from (Some x) xs n)) (cond t o (before_from (Some x) xs k))
    by true true g h more = let a : x ≡ n = eqb-true x n g in let b : nat_eq n k ≡ true = rw a at h in cc
    by true false g h more = rw (without_none xs n (apart x n xs d.0 g)) (second xs)
    by false true g h more = let l : is_key (next_after xs n) k ≡ false = none_behind k n xs (apart x k xs d.0 h) in rw (h, l) refl
    by false false g h more = rw h more

pub before_rest : (ks : List ℕ) (n k : ℕ) → IsDistinct nat_eq ks → nat_eq n k ≡ false → before_from None (without ks n) k ≡ cond (is_key (next_after ks n) k) (before_from None ks n) (before_from None ks k)
before_rest ks n k d e = before_rest_from None ks n k d e

-- ---- the ends without it

there : (x n : ℕ) (ks : List ℕ) (a b : Option ℕ) → has_key n ks ≡ true → if_there (before_from (Some x) ks n) a b ≡ a
there x n [] a b h = cc
there x n (y ∷ ys) a b h = by (nat_eq y n) h (there y n ys a b)
  where
    by : (t : Bool) → (t || has_key n ys) ≡ true → (has_key n ys ≡ true → if_there (before_from (Some y) ys n) a b ≡ a) → if_there (cond t (Some x) (before_from (Some y) ys n)) a b ≡ a
    by true g more = refl
    by false g more = more g

pub first_rest : (ks : List ℕ) (n : ℕ) → IsDistinct nat_eq ks → has_key n ks ≡ true → first (without ks n) ≡ if_there (before_from None ks n) (first ks) (next_after ks n)
unfolding IsDistinct
first_rest [] n d h = cc
first_rest (x ∷ xs) n d h = by (nat_eq x n) refl h
  where
    by : (t : Bool) → nat_eq x n ≡ t → (t || has_key n xs) ≡ true → first (cond (not t) (x ∷ without xs n) (without xs n)) ≡ if_there (cond t None (before_from (Some x) xs n)) (Some x) (cond t (first xs) (next_after xs n))
    by true g h = ap first (without_none xs n (apart x n xs d.0 g))
    by false g h = sym (there x n xs (Some x) (next_after xs n) h)

last_rest_from : (o : Option ℕ) (ks : List ℕ) (n : ℕ) → IsDistinct nat_eq ks → has_key n ks ≡ true → last_or o (without ks n) ≡ if_there (next_after ks n) (last_or o ks) (before_from o ks n)
unfolding IsDistinct
last_rest_from o [] n d h = cc
last_rest_from o (x ∷ xs) n d h = by (nat_eq x n) refl h (last_rest_from (Some x) xs n d.1)
  where
    second : (ys : List ℕ) → last_or o ys ≡ if_there (first ys) (last_or (Some x) ys) o
    second [] = refl
    second (y ∷ ys) = refl

    by : (t : Bool) → nat_eq x n ≡ t → (t || has_key n xs) ≡ true
        → (has_key n xs ≡ true → last_or (Some x) (without xs n) ≡ if_there (next_after xs n) (last_or (Some x) xs) (before_from (Some x) xs n))
        → last_or o (cond (not t) (x ∷ without xs n) (without xs n)) ≡ if_there (cond t (first xs) (next_after xs n)) (last_or (Some x) xs) (cond t o (before_from (Some x) xs n))
    by true g h more = ap (last_or o) (without_none xs n (apart x n xs d.0 g)) ∙ second xs
    by false g h more = more h

pub last_rest : (ks : List ℕ) (n : ℕ) → IsDistinct nat_eq ks → has_key n ks ≡ true → last_or None (without ks n) ≡ if_there (next_after ks n) (last_or None ks) (before_from None ks n)
last_rest ks n d h = last_rest_from None ks n d h
