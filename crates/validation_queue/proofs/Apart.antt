-- Where one list of names ends before the other begins, no name is in both.
use Rattle.std.proofs.Common.{◌≡◌, List, [], ◌∷◌, ◌++◌, ap, find, map, refl, sym, ◌∙◌, subst, true, false}
use Rattle.std.proofs.lemmas.List.{map-append}
use Rattle.std.specs.List.Sorted.{IsStrictlySortedBy}
use Rattle.std.specs.List.{AllByRecursion}
use Rattle.std.specs.Ordering.{is_lt, ordering_reverse}
use Rattle.std.specs.Prelude.{None}
use Rattle.std.specs.declared.cmp.Ordering.TheVariants.{Equal, Greater, Less}
use Rattle.std.specs.declared.cmp.Ordering.{Ordering}
use Rattle.thor_value.proofs.NameOrders.{oref_total}
use Rattle.thor_value.specs.Names.{oref_cmp}
use Rattle.thor_value.specs.declared.names.Oref.{Oref}
use Rattle.validation_queue.proofs.Ordered.{below_all}
use Rattle.validation_queue.proofs.Walking.{not_among}
use Rattle.validation_queue.specs.Names.{Rises, is_among}

less : (o : Ordering) → is_lt o ≡ true → o ≡ Less
less Less h = refl
less Equal h = cc
less Greater h = cc

last_one : (P : Oref → Type 0) (xs : List Oref) (z : Oref) → AllByRecursion P (xs ++ z ∷ []) → P z
last_one P [] z h = h.0
last_one P (x ∷ xs) z h = last_one P xs z h.1

-- where the last of some names that rise is below y, all are
all_below : (y : Oref) (xs : List Oref) (z : Oref) → Rises (xs ++ z ∷ []) → oref_cmp z y ≡ Less → AllByRecursion (λ x. oref_cmp x y ≡ Less) (xs ++ z ∷ [])
unfolding IsStrictlySortedBy
all_below y [] z h e = (e, tt)
all_below y (x ∷ xs) z h e = (oref_total.trans x z y (last_one (λ u. oref_cmp x u ≡ Less) xs z h.0) e, all_below y xs z h.1 e)

none_behind : (y : Oref) (ys xs : List Oref) → Rises (y ∷ ys) → AllByRecursion (λ x. oref_cmp x y ≡ Less) xs → find (is_among (y ∷ ys)) xs ≡ None
unfolding IsStrictlySortedBy
none_behind y ys [] h a = refl
none_behind y ys (x ∷ xs) h a = rw (not_among x (y ∷ ys) (a.0, below_all x y ys a.0 h.0), none_behind y ys xs h a.1) refl

-- a name that is above all of some names isn't among them
not_among_lower : (x : Oref) (ys : List Oref) → AllByRecursion (λ y. oref_cmp y x ≡ Less) ys → is_among ys x ≡ false
not_among_lower x [] h = refl
not_among_lower x (y ∷ ys) h = let e : oref_cmp x y ≡ Greater = oref_total.antisymm x y ∙ ap ordering_reverse h.0 in rw e (not_among_lower x ys h.1)

all_lower : (x u : Oref) (ys : List Oref) → oref_cmp x u ≡ Less → AllByRecursion (λ y. oref_cmp y x ≡ Less) ys → AllByRecursion (λ y. oref_cmp y u ≡ Less) ys
all_lower x u [] e h = tt
all_lower x u (y ∷ ys) e h = (oref_total.trans y x u h.0 e, all_lower x u ys e h.1)

none_before : (x : Oref) (xs ys : List Oref) → AllByRecursion (λ u. oref_cmp x u ≡ Less) xs → AllByRecursion (λ y. oref_cmp y x ≡ Less) ys → find (is_among ys) xs ≡ None
none_before x [] ys a b = refl
none_before x (u ∷ us) ys a b = rw (not_among_lower u ys (all_lower x u ys a.0 b), none_before x us ys a.1 b) refl

none_from : (x : Oref) (xs ys : List Oref) → Rises (x ∷ xs) → AllByRecursion (λ y. oref_cmp y x ≡ Less) ys → find (is_among ys) (x ∷ xs) ≡ None
unfolding IsStrictlySortedBy
none_from x xs ys h b = rw (not_among_lower x ys b, none_before x xs ys h.0 b) refl

module _ {A : Type 0} (f : A → Oref) where
  pub ended : (xs rest : List A) (z : A) (ys more : List Oref) (y : Oref) → Rises (map f xs) → Rises ys → xs ≡ rest ++ z ∷ [] → ys ≡ y ∷ more → is_lt (oref_cmp (f z) y) ≡ true → find (is_among ys) (map f xs) ≡ None
  ended xs rest z ys more y h k is js e =
      let parts : map f xs ≡ map f rest ++ f z ∷ [] = ap (map f) is ∙ map-append f rest (z ∷ []) in
      let all : AllByRecursion (λ x. oref_cmp x y ≡ Less) (map f xs) = subst (AllByRecursion (λ x. oref_cmp x y ≡ Less)) (sym parts) (all_below y (map f rest) (f z) (subst Rises parts h) (less (oref_cmp (f z) y) e)) in
      subst (λ (ws : List Oref). find (is_among ws) (map f xs) ≡ None) (sym js) (none_behind y more (map f xs) (subst Rises js k) all)

  pub begun : (xs more : List A) (x : A) (ys rest : List Oref) (z : Oref) → Rises (map f xs) → Rises ys → xs ≡ x ∷ more → ys ≡ rest ++ z ∷ [] → is_lt (oref_cmp z (f x)) ≡ true → find (is_among ys) (map f xs) ≡ None
  begun xs more x ys rest z h k is js e =
      let all : AllByRecursion (λ y. oref_cmp y (f x) ≡ Less) ys = subst (AllByRecursion (λ y. oref_cmp y (f x) ≡ Less)) (sym js) (all_below (f x) rest z (subst Rises js k) (less (oref_cmp z (f x)) e)) in
      let parts : map f xs ≡ f x ∷ map f more = ap (map f) is in
      subst (λ (ws : List Oref). find (is_among ys) ws ≡ None) (sym parts) (none_from (f x) (map f more) ys (subst Rises parts h) all)
