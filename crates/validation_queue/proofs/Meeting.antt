-- Where a request and a member meet is told by two walks, over what the one read and the other wrote.
use Rattle.std.proofs.Common.{◌≡◌, Bool, List, [], ◌∷◌, ap, find, refl, sym, ◌∙◌, subst, cond, true, false}
use Rattle.std.proofs.lemmas.Bool.{or_right}
use Rattle.std.specs.List.Sorted.{IsStrictlySortedBy}
use Rattle.std.specs.List.{AllByRecursion}
use Rattle.std.specs.Ordering.{is_eq, is_lt, ordering_reverse}
use Rattle.std.specs.Prelude.{None, Option, Some, ◌&&◌, ◌||◌}
use Rattle.std.specs.declared.cmp.Ordering.TheVariants.{Equal, Greater, Less}
use Rattle.std.specs.declared.cmp.Ordering.{Ordering}
use Rattle.thor_value.proofs.NameOrders.{oref_exact, oref_total}
use Rattle.thor_value.specs.Names.{oref_cmp, same_oref}
use Rattle.thor_value.specs.declared.names.Oref.{Oref}
use Rattle.validation_queue.proofs.Ordered.{below_all, itself}
use Rattle.validation_queue.proofs.Walking.{not_among}
use Rattle.validation_queue.specs.Clashes.{meets_at}
use Rattle.validation_queue.specs.Names.{IsInOrder, Rises, is_among, least_of}
use Rattle.validation_queue.specs.declared.member.Member.{Member}

-- ---- either of two tests

-- what is found is above what all are above
found_above : (x : Oref) (p : Oref → Bool) (xs : List Oref) → AllByRecursion (λ y. oref_cmp x y ≡ Less) xs → (z : Oref) → find p xs ≡ Some z → oref_cmp x z ≡ Less
found_above x p [] h z e = cc
found_above x p (y ∷ ys) h z e = by (p y) e (found_above x p ys h.1 z)
  where
    by : (t : Bool) → cond t (Some y) (find p ys) ≡ Some z → (find p ys ≡ Some z → oref_cmp x z ≡ Less) → oref_cmp x z ≡ Less
    by true f more = let g : y ≡ z = cc in subst (λ (w : Oref). oref_cmp x w ≡ Less) g h.0
    by false f more = more f

least_left : (x : Oref) (o : Option Oref) → ((z : Oref) → o ≡ Some z → oref_cmp x z ≡ Less) → Some x ≡ least_of (Some x) o
least_left x None h = refl
least_left x (Some z) h = let e : oref_cmp x z ≡ Less = h z refl in rw e refl

least_right : (x : Oref) (o : Option Oref) → ((z : Oref) → o ≡ Some z → oref_cmp x z ≡ Less) → Some x ≡ least_of o (Some x)
least_right x None h = refl
least_right x (Some z) h =
    let e : oref_cmp z x ≡ Greater = oref_total.antisymm z x ∙ ap ordering_reverse (h z refl) in
    rw e refl

least_same : (x : Oref) → Some x ≡ least_of (Some x) (Some x)
least_same x = by (is_lt (oref_cmp x x))
  where
    by : (t : Bool) → Some x ≡ cond t (Some x) (Some x)
    by true = refl
    by false = refl

either : (p q : Oref → Bool) (xs : List Oref) → Rises xs → find (λ x. p x || q x) xs ≡ least_of (find p xs) (find q xs)
unfolding IsStrictlySortedBy
either p q [] h = refl
either p q (x ∷ xs) h = by (p x) (q x) (either p q xs h.1)
  where
    by : (s t : Bool) → find (λ x. p x || q x) xs ≡ least_of (find p xs) (find q xs)
        → cond (s || t) (Some x) (find (λ x. p x || q x) xs) ≡ least_of (cond s (Some x) (find p xs)) (cond t (Some x) (find q xs))
    by true true e = least_same x
    by true false e = least_left x (find q xs) (found_above x q xs h.0)
    by false true e = least_right x (find p xs) (found_above x p xs h.0)
    by false false e = e

-- ---- names among names

none_pass : (r : Oref → Bool) (xs : List Oref) → find (λ x. is_among [] x && r x) xs ≡ None
none_pass r [] = refl
none_pass r (x ∷ xs) = none_pass r xs

-- names above a name don't look at it
above : (y : Oref) (ys : List Oref) (r : Oref → Bool) (zs : List Oref) → AllByRecursion (λ z. oref_cmp y z ≡ Less) zs → find (λ z. is_among (y ∷ ys) z && r z) zs ≡ find (λ z. is_among ys z && r z) zs
above y ys r [] h = refl
above y ys r (z ∷ zs) h =
    let e : oref_cmp z y ≡ Greater = oref_total.antisymm z y ∙ ap ordering_reverse h.0 in
    rw (e, above y ys r zs h.1) refl

equal : (o : Ordering) → is_eq o ≡ true → o ≡ Equal
equal Equal h = refl
equal Less h = cc
equal Greater h = cc

-- the names of ws that are among x and xs are among xs, where all of ws are above x
within_rest : (x : Oref) (xs ws : List Oref) → AllByRecursion (λ y. oref_cmp x y ≡ Less) ws → ((z : Oref) → is_among ws z ≡ true → is_among (x ∷ xs) z ≡ true) → (z : Oref) → is_among ws z ≡ true → is_among xs z ≡ true
within_rest x xs ws a h z m = by (same_oref z x) refl (h z m)
  where
    by : (t : Bool) → same_oref z x ≡ t → (t || is_among xs z) ≡ true → is_among xs z ≡ true
    by true e f =
        let same : z ≡ x = oref_exact z x (equal (oref_cmp z x) e) in
        let none : is_among ws z ≡ false = ap (is_among ws) same ∙ not_among x ws a in
        let g : true ≡ false = sym m ∙ none in cc
    by false e f = f

-- the first of both is the same
first_same : (r : Oref → Bool) (x y : Oref) (xs ys : List Oref) → x ≡ y → AllByRecursion (λ z. oref_cmp x z ≡ Less) xs → AllByRecursion (λ z. oref_cmp y z ≡ Less) ys → ((z : Oref) → is_among (y ∷ ys) z ≡ true → is_among (x ∷ xs) z ≡ true)
    → (((z : Oref) → is_among ys z ≡ true → is_among xs z ≡ true) → find (λ z. is_among ys z && r z) xs ≡ find r ys) → find (λ z. is_among (y ∷ ys) z && r z) (x ∷ xs) ≡ find r (y ∷ ys)
first_same r x y xs ys same h k w more = subst (λ (z : Oref). find (λ u. is_among (z ∷ ys) u && r u) (x ∷ xs) ≡ find r (z ∷ ys)) same (by (r x))
  where
    low : AllByRecursion (λ z. oref_cmp x z ≡ Less) ys
    low = subst (λ (z : Oref). AllByRecursion (λ u. oref_cmp z u ≡ Less) ys) (sym same) k

    rest : find (λ z. is_among (x ∷ ys) z && r z) xs ≡ find r ys
    rest = above x ys r xs h ∙ more (within_rest x xs ys low (λ z m. w z (or_right (same_oref z y) (is_among ys z) m)))

    there : (t : Bool) → (is_among (x ∷ ys) x && t) ≡ t
    there t = ap (λ (a : Bool). a && t) (itself x (is_among ys x))

    by : (t : Bool) → cond (is_among (x ∷ ys) x && t) (Some x) (find (λ z. is_among (x ∷ ys) z && r z) xs) ≡ cond t (Some x) (find r ys)
    by t = ap (λ (a : Bool). cond a (Some x) (find (λ z. is_among (x ∷ ys) z && r z) xs)) (there t) ∙ ap (cond t (Some x)) rest

-- the names of xs that are among ws and pass are those of ws that pass, where all of ws are among xs
among : (r : Oref → Bool) (xs ws : List Oref) → Rises xs → Rises ws → ((z : Oref) → is_among ws z ≡ true → is_among xs z ≡ true) → find (λ x. is_among ws x && r x) xs ≡ find r ws
unfolding IsStrictlySortedBy
among r xs [] h k w = none_pass r xs
among r [] (y ∷ ys) h k w = let e : false ≡ true = w y (itself y (is_among ys y)) in cc
among r (x ∷ xs) (y ∷ ys) h k w = by (oref_cmp x y) refl (λ ws. among r xs ws h.1)
  where
    by : (o : Ordering) → oref_cmp x y ≡ o → ((ws : List Oref) → Rises ws → ((z : Oref) → is_among ws z ≡ true → is_among xs z ≡ true) → find (λ z. is_among ws z && r z) xs ≡ find r ws) → find (λ z. is_among (y ∷ ys) z && r z) (x ∷ xs) ≡ find r (y ∷ ys)
    by Equal e more = first_same r x y xs ys (oref_exact x y e) h.0 k.0 w (more ys k.1)
    by Less e more =
        let all : AllByRecursion (λ z. oref_cmp x z ≡ Less) (y ∷ ys) = (e, below_all x y ys e k.0) in
        ap (λ (t : Bool). cond (t && r x) (Some x) (find (λ z. is_among (y ∷ ys) z && r z) xs)) (not_among x (y ∷ ys) all)
        ∙ more (y ∷ ys) k (within_rest x xs (y ∷ ys) all w)
    by Greater e more =
        let l : oref_cmp y x ≡ Less = oref_total.antisymm y x ∙ ap ordering_reverse e in
        let none : is_among (x ∷ xs) y ≡ false = not_among y (x ∷ xs) (l, below_all y x xs l h.0) in
        let there : is_among (x ∷ xs) y ≡ true = w y (itself y (is_among ys y)) in
        let f : true ≡ false = sym there ∙ none in cc

-- the first name at which a request and a member meet
pub meeting : (read written : List Oref) (m : Member) → IsInOrder read written → least_of (find (is_among m.written) read) (find (is_among m.read) written) ≡ find (meets_at written m) read
meeting read written m h =
    sym (either (is_among m.written) (λ x. is_among written x && is_among m.read x) read h.reads_rise
    ∙ ap (least_of (find (is_among m.written) read)) (among (is_among m.read) read written h.reads_rise h.writes_rise h.within))
