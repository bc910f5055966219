-- Lists by membership, lists of commits by rising timestamps, and what a list of writes leaves at a name.
use Rattle.law_atomic_commit.specs.Several.{HasCommitted, Several}
use Rattle.spec_history.proofs.Commits.{get-writes}
use Rattle.spec_history.proofs.Meeting.{not_both_ways, not_same, three_ways}
use Rattle.spec_history.specs.History.{Known}
use Rattle.std.proofs.Common.{Bool, List, [], ap, arith, false, inl, inr, refl, subst, suc, sym, true, zero, ℕ, ◌+◌, ◌++◌, ◌<◌, ◌≡◌, ◌≢◌, ◌≤◌, ◌∙◌, ◌∷◌}
use Rattle.std.proofs.lemmas.Bool.Decides.{eqb_tells}
use Rattle.std.specs.List.{AllPairs, Contains, filter, flat_map, fold, range_with_len}
use Rattle.std.specs.Option.{option_or}
use Rattle.std.specs.Prelude.{None, Option, Some, cond, is_some, ◌⊎◌}
use Rattle.thor_value.proofs.NameOrders.{not_before_itself}
use Rattle.thor_value.specs.FiniteMap.{empty, get, overwrite}
use Rattle.thor_value.specs.Names.{Before, oref_cmp}
use Rattle.thor_value.specs.declared.names.Oref.{Oref}
use Rattle.thor_value.specs.declared.names.Ts.{Ts}
use Rattle.thor_value.specs.declared.values.Obj.{Obj}
use Rattle.law_global_order.specs.Whole.{Commit, Objects, whole}

abbrev pub Es : Type 0
Es = List Commit

abbrev pub In : {X : Type 0} → X → List X → Type 0
In x [] = ⊥
In x (y ∷ ys) = (y ≡ x) ⊎ In x ys

abbrev pub AllAfter : Ts → Es → Type 0
AllAfter t [] = Unit {0}
AllAfter t (e ∷ es) = Before t e.0 × AllAfter t es

abbrev pub Rising : Es → Type 0
Rising [] = Unit {0}
Rising (e ∷ es) = AllAfter e.0 es × Rising es

-- the list has the committed transactions, each as a whole, by rising timestamps
pub record Lists (S : Several) (es : Es) : Type 0 where
  pub rise : Rising es
  pub stand : (e : Commit) → In e es → (w : Known) × HasCommitted S e.0 w × (e.1 ≡ whole S e.0 w.request)
  pub all : (t : Ts) (w : Known) → HasCommitted S t w → In (t, whole S t w.request) es

pub here : {X : Type 0} (done rest : List X) (e : X) → In e (done ++ e ∷ rest)
here [] rest e = inl refl
here (d ∷ ds) rest e = inr (here ds rest e)

-- ---- lists by rising timestamp

pub after-all : (t : Ts) (es : Es) (f : Commit) → AllAfter t es → In f es → Before t f.0
after-all t [] f h i = absurd i
after-all t (e ∷ es) f h (inl is) = subst (λ (g : Commit). Before t g.0) is h.0
after-all t (e ∷ es) f h (inr i) = after-all t es f h.1 i

-- what stands in front is before
pub in-front : (done rest : Es) (e f : Commit) → Rising (done ++ e ∷ rest) → In f done → Before f.0 e.0
in-front [] rest e f h i = absurd i
in-front (d ∷ ds) rest e f h (inl is) = subst (λ (g : Commit). Before g.0 e.0) is (here ds h.0)
  where
    here : (ds : Es) → AllAfter d.0 (ds ++ e ∷ rest) → Before d.0 e.0
    here [] g = g.0
    here (x ∷ xs) g = here xs g.1
in-front (d ∷ ds) rest e f h (inr i) = in-front ds rest e f h.1 i

-- what is before stands in front
pub is-front : (done rest : Es) (e f : Commit) → Rising (done ++ e ∷ rest) → In f (done ++ e ∷ rest) → Before f.0 e.0 → In f done
is-front [] rest e f h (inl is) b = absurd (not_before_itself e.0 (subst (λ (g : Commit). Before g.0 e.0) (sym is) b))
is-front [] rest e f h (inr i) b = absurd (not_both_ways e.0 f.0 (after-all e.0 rest f h.0 i) b)
is-front (d ∷ ds) rest e f h (inl is) b = inl is
is-front (d ∷ ds) rest e f h (inr i) b = inr (is-front ds rest e f h.1 i b)

pub rising-front : (done rest : Es) → Rising (done ++ rest) → Rising done
rising-front [] rest h = tt
rising-front (d ∷ ds) rest h = (front ds h.0, rising-front ds rest h.1)
  where
    front : (ds : Es) → AllAfter d.0 (ds ++ rest) → AllAfter d.0 ds
    front [] g = tt
    front (x ∷ xs) g = (g.0, front xs g.1)

pub in-all : (done rest : Es) (f : Commit) → In f done → In f (done ++ rest)
in-all [] rest f i = absurd i
in-all (d ∷ ds) rest f (inl e) = inl e
in-all (d ∷ ds) rest f (inr i) = inr (in-all ds rest f i)

-- ---- membership

pub to-in : {X : Type 0} (xs : List X) (x : X) → Contains xs x → In x xs
to-in [] x (k, l, e) = absurd (omega arith)
to-in (y ∷ ys) x (zero, l, e) = inl e
to-in (y ∷ ys) x (suc k, l, e) = inr (to-in ys x (k, omega arith, e))

pub from-in : {X : Type 0} (xs : List X) (x : X) → In x xs → Contains xs x
from-in [] x i = absurd i
from-in (y ∷ ys) x (inl e) = (zero, omega arith, e)
from-in (y ∷ ys) x (inr i) = let k = from-in ys x i in (suc k.0, omega (arith, k.1), k.2)

pub in-filter : {X : Type 0} (p : X → Bool) (xs : List X) (x : X) → In x xs → p x ≡ true → In x (filter p xs)
in-filter p [] x i h = absurd i
in-filter p (y ∷ ys) x i h = by (p y) refl (λ j. in-filter p ys x j h) i
  where
    by : (k : Bool) → p y ≡ k → (In x ys → In x (filter p ys)) → In x (y ∷ ys) → In x (cond k (y ∷ filter p ys) (filter p ys))
    by true e more (inl is) = inl is
    by true e more (inr j) = inr (more j)
    by false e more (inl is) = let f : p y ≡ true = ap p is ∙ h in cc
    by false e more (inr j) = more j

pub of-filter : {X : Type 0} (p : X → Bool) (xs : List X) (x : X) → In x (filter p xs) → In x xs × (p x ≡ true)
of-filter p [] x i = absurd i
of-filter p (y ∷ ys) x i = by (p y) refl (λ j. of-filter p ys x j) i
  where
    by : (k : Bool) → p y ≡ k → (In x (filter p ys) → In x ys × (p x ≡ true)) → In x (cond k (y ∷ filter p ys) (filter p ys)) → In x (y ∷ ys) × (p x ≡ true)
    by true e more (inl is) = (inl is, ap p (sym is) ∙ e)
    by true e more (inr j) = let k = more j in (inr k.0, k.1)
    by false e more j = let k = more j in (inr k.0, k.1)

-- R holds of each and each later one
abbrev pub AllLater : {X : Type 0} → (X → X → Type 0) → List X → Type 0
AllLater R [] = Unit {0}
AllLater {X} R (x ∷ xs) = ((y : X) → In y xs → R x y) × AllLater R xs

pub from-pairs : {X : Type 0} (R : X → X → Type 0) (xs : List X) → AllPairs R xs → AllLater R xs
from-pairs R [] h = tt
from-pairs R (x ∷ xs) h = (
  (λ y i. let k = from-in xs y i in subst (R x) k.2 (h zero (suc k.0) y (omega arith) (omega (arith, k.1)))),
  from-pairs R xs (λ i j d l m. h (suc i) (suc j) d (omega (arith, l)) (omega (arith, m))),
)

-- ---- lists of lists

pub in-left : {X : Type 0} (xs ys : List X) (x : X) → In x xs → In x (xs ++ ys)
in-left [] ys x i = absurd i
in-left (z ∷ xs) ys x (inl e) = inl e
in-left (z ∷ xs) ys x (inr i) = inr (in-left xs ys x i)

pub in-right : {X : Type 0} (xs ys : List X) (x : X) → In x ys → In x (xs ++ ys)
in-right [] ys x i = i
in-right (z ∷ xs) ys x i = inr (in-right xs ys x i)

pub of-both : {X : Type 0} (xs ys : List X) (x : X) → In x (xs ++ ys) → In x xs ⊎ In x ys
of-both [] ys x i = inr i
of-both (z ∷ xs) ys x (inl e) = inl (inl e)
of-both (z ∷ xs) ys x (inr i) = elim (of-both xs ys x i) [ inl j ↦ inl (inr j) | inr j ↦ inr j ]

pub in-flat : {X : Type 0} (f : ℕ → List X) (ns : List ℕ) (n : ℕ) (x : X) → In n ns → In x (f n) → In x (flat_map f ns)
in-flat f [] n x i j = absurd i
in-flat f (m ∷ ns) n x (inl e) j = in-left (f m) (flat_map f ns) x (subst (λ k. In x (f k)) (sym e) j)
in-flat f (m ∷ ns) n x (inr i) j = in-right (f m) (flat_map f ns) x (in-flat f ns n x i j)

pub of-flat : {X : Type 0} (f : ℕ → List X) (ns : List ℕ) (x : X) → In x (flat_map f ns) → (n : ℕ) × In x (f n)
of-flat f [] x i = absurd i
of-flat f (m ∷ ns) x i = elim (of-both (f m) (flat_map f ns) x i) [ inl j ↦ (m, j) | inr j ↦ of-flat f ns x j ]

next : (a k : ℕ) → a ≤ k → a ≢ k → a + 1 ≤ k
next a k l h = by (three_ways a k)
  where
    by : (a < k) ⊎ ((a ≡ k) ⊎ (k < a)) → a + 1 ≤ k
    by (inl m) = omega (arith, m)
    by (inr (inl e)) = absurd (h e)
    by (inr (inr m)) = absurd (omega (arith, l, m))

pub range-has : (a n k : ℕ) → a ≤ k → k < a + n → In k (range_with_len a n)
range-has a zero k l m = absurd (omega (arith, l, m))
range-has a (suc n) k l m = elim (eqb_tells a k) [
  | inl e ↦ inl e.1
  | inr e ↦ inr (range-has (a + 1) n k (next a k l e.1) (omega (arith, l, m)))
]

-- ---- what some writes leave at a name

-- what these writes leave at x by themselves
abbrev pub put_at : List (Oref × Obj) → Oref → Option Obj
put_at kvs x = get {R = oref_cmp} (overwrite empty kvs) x

pub unput : (o : Option Obj) → is_some o ≡ false → o ≡ None
unput None e = refl
unput (Some v) e = cc

pub there-put : (o : Option Obj) → is_some o ≡ true → (v : Obj) × (o ≡ Some v)
there-put None e = cc
there-put (Some v) e = (v, refl)

module _ (W : Commit → List (Oref × Obj)) where
  pub none-wrote : (M : Objects) (es : Es) (x : Oref) → ((f : Commit) → In f es → is_some (put_at (W f) x) ≡ false) → get (fold (λ m e. overwrite m (W e)) M es) x ≡ get M x
  none-wrote M [] x h = refl
  none-wrote M (e ∷ es) x h =
      none-wrote (overwrite M (W e)) es x (λ f i. h f (inr i))
      ∙ get-writes x M (W e)
      ∙ ap (λ (o : Option Obj). option_or o (get M x)) (unput (put_at (W e) x) (h e (inl refl)))

  pub last-wrote : (M : Objects) (es : Es) (x : Oref) (f : Commit) (v : Obj) → Rising es → In f es → put_at (W f) x ≡ Some v → ((g : Commit) → In g es → is_some (put_at (W g) x) ≡ true → (g.0 ≡ f.0) ⊎ Before g.0 f.0) → get (fold (λ m e. overwrite m (W e)) M es) x ≡ Some v
  last-wrote M [] x f v r i w h = absurd i
  last-wrote M (e ∷ es) x f v r (inl is) w h =
      none-wrote (overwrite M (W e)) es x (λ g i. by g i (is_some (put_at (W g) x)) refl)
      ∙ get-writes x M (W e)
      ∙ ap (λ (o : Option Obj). option_or o (get M x)) (ap (λ (p : Commit). put_at (W p) x) is ∙ w)
    where
      late : (g : Commit) → Before e.0 g.0 → e.0 ≡ f.0 → (g.0 ≡ f.0) ⊎ Before g.0 f.0 → ⊥
      late g b same (inl k) = not_same e.0 g.0 b (same ∙ sym k)
      late g b same (inr k) = not_both_ways e.0 g.0 b (subst (λ (t : Ts). Before g.0 t) (sym same) k)

      by : (g : Commit) → In g es → (t : Bool) → is_some (put_at (W g) x) ≡ t → t ≡ false
      by g i true k = absurd (late g (after-all e.0 es g r.0 i) (ap (λ (p : Commit). p.0) is) (h g (inr i) k))
      by g i false k = refl
  last-wrote M (e ∷ es) x f v r (inr i) w h = last-wrote (overwrite M (W e)) es x f v r.1 i w (λ g j. h g (inr j))
