-- Maps from keys in order, made of their pairs and looked up key by key.
use Rattle.std.proofs.Common.{◌≡◌, ℕ, ◌+◌, ◌<◌, ◌≤◌, length, map, take, get_or, cond, List, [], ◌∷◌, ◌++◌, refl, ap, sym, ◌∙◌, subst, Option, Some, append_assoc}
use Rattle.std.proofs.lemmas.Cmp.{tied_itself}
use Rattle.std.proofs.lemmas.List.{take_all, take_more, flat_map_more}
use Rattle.std.specs.BTreeMap.{insert_entry, is_at}
use Rattle.std.specs.Cmp.{IsTotalOrder}
use Rattle.std.specs.List.{AllByRecursion, fold, flat_map}
use Rattle.std.specs.List.Sorted.{IsStrictlySortedBy}
use Rattle.std.specs.Map.{keys_of, lookup}
use Rattle.std.specs.Ordering.{match_ordering, ordering_reverse, is_eq}
use Rattle.std.specs.declared.cmp.Ordering.{Ordering}
use Rattle.std.specs.declared.cmp.Ordering.TheVariants.{Less, Greater}
use Rattle.thor_value.specs.FiniteMap.{Map, IsSorted, get, insert, overwrite, empty}
use Rattle.serial_model.specs.Whole.{found}

module _ {K : Type 0} {R : K → K → Ordering} (o : IsTotalOrder R) where
  turned : (x y : K) → R x y ≡ Less → R y x ≡ Greater
  turned x y h = o.antisymm y x ∙ ap ordering_reverse h

-- the keys stay where values change
pub keys_kept : {K X Y : Type 0} (f : K × X → Y) (es : List (K × X)) → keys_of (map (λ p. (p.0, f p)) es) ≡ keys_of es
keys_kept f [] = refl
keys_kept {K = K} f (e ∷ es) = ap (λ (ks : List K). e.0 ∷ ks) (keys_kept f es)

-- and so does their order
pub order_kept : {K X Y : Type 0} (R : K → K → Ordering) (f : K × X → Y) (es : List (K × X)) (fs : List (K × Y)) → fs ≡ map (λ p. (p.0, f p)) es → IsStrictlySortedBy R (keys_of es) → IsStrictlySortedBy R (keys_of fs)
order_kept R f es fs is sorted = subst (IsStrictlySortedBy R) (sym (ap keys_of is ∙ keys_kept f es)) sorted

nothing_below : {K : Type 0} (ks : List K) → AllByRecursion (λ k. Unit {0}) ks
nothing_below [] = tt
nothing_below (k ∷ ks) = (tt, nothing_below ks)

module _ {K X : Type 0} {R : K → K → Ordering} (o : IsTotalOrder R) where
  -- a key above all goes behind them
  put_last : (front : List (K × X)) (k : K) (v : X) → AllByRecursion (λ y. R y k ≡ Less) (keys_of front) → insert_entry R front k v ≡ front ++ (k, v) ∷ []
  put_last [] k v h = refl
  put_last (e ∷ es) k v h =
      subst (λ (c : Ordering). match_ordering c ((k, v) ∷ e ∷ es) ((e.0, v) ∷ es) (e ∷ insert_entry R es k v) ≡ e ∷ (es ++ (k, v) ∷ [])) (sym (turned o e.0 k h.0))
      (ap (λ (fs : List (K × X)). e ∷ fs) (put_last es k v h.1))

  abbrev Below : List (K × X) → List K → Type 0
  Below front ks = AllByRecursion (λ k. AllByRecursion (λ y. R y k ≡ Less) (keys_of front)) ks

  one_more : (P : K → Type 0) (front : List (K × X)) (p : K × X) → AllByRecursion P (keys_of front) → P p.0 → AllByRecursion P (keys_of (front ++ p ∷ []))
  one_more P [] p h is = (is, tt)
  one_more P (e ∷ es) p h is = (h.0, one_more P es p h.1 is)

  below_more : (front : List (K × X)) (p : K × X) (ks : List K) → Below front ks → AllByRecursion (λ k. R p.0 k ≡ Less) ks → Below (front ++ p ∷ []) ks
  below_more front p [] h above = tt
  below_more front p (k ∷ ks) h above = (one_more (λ y. R y k ≡ Less) front p h.0 above.0, below_more front p ks h.1 above.1)

  put_each : (front ps : List (K × X)) → Below front (keys_of ps) → IsStrictlySortedBy R (keys_of ps) → fold (λ (n : Map R X) kv. insert n kv.0 kv.1) (record { pairs = front }) ps ≡ record { pairs = front ++ ps }
  unfolding IsStrictlySortedBy
  put_each front [] below sorted = ap (λ (es : List (K × X)). record { pairs = es }) (sym (append_nil front))
    where
      append_nil : (es : List (K × X)) → es ++ [] ≡ es
      append_nil [] = refl
      append_nil (e ∷ es) = ap (λ (fs : List (K × X)). e ∷ fs) (append_nil es)
  put_each front (p ∷ ps) below sorted =
      ap (λ (es : List (K × X)). fold (λ (n : Map R X) kv. insert n kv.0 kv.1) (record { pairs = es }) ps) (put_last front p.0 p.1 below.0)
      ∙ put_each (front ++ p ∷ []) ps (below_more front p (keys_of ps) below.1 sorted.0) sorted.1
      ∙ ap (λ (es : List (K × X)). record { pairs = es }) (append_assoc front (p ∷ []) ps)

  -- pairs in order, put in one behind the other, are the map
  pub put_all : (ps : List (K × X)) → IsStrictlySortedBy R (keys_of ps) → let m : Map R X = overwrite empty ps in m ≡ record { pairs = ps }
  put_all ps sorted = put_each [] ps (nothing_below (keys_of ps)) sorted

  -- what a look-up finds behind an entry that is below
  later : (e : K × X) (es : List (K × X)) (k : K) → R e.0 k ≡ Less → lookup (is_at (R k)) (e ∷ es) ≡ lookup (is_at (R k)) es
  later e es k h = subst (λ (c : Ordering). cond (is_eq c) (Some e.1) (lookup (is_at (R k)) es) ≡ lookup (is_at (R k)) es) (sym (turned o e.0 k h)) refl

  first : (e : K × X) (es : List (K × X)) → lookup (is_at (R e.0)) (e ∷ es) ≡ Some e.1
  first e es = subst (λ (c : Ordering). cond (is_eq c) (Some e.1) (lookup (is_at (R e.0)) es) ≡ Some e.1) (sym (tied_itself o e.0)) refl

  same_behind : (e : K × X) (es : List (K × X)) (ks : List K) → AllByRecursion (λ k. R e.0 k ≡ Less) ks
      → flat_map (λ k. found k (lookup (is_at (R k)) (e ∷ es))) ks ≡ flat_map (λ k. found k (lookup (is_at (R k)) es)) ks
  same_behind e es [] h = refl
  same_behind e es (k ∷ ks) h =
      ap (λ (f : Option X). found k f ++ flat_map (λ k. found k (lookup (is_at (R k)) (e ∷ es))) ks) (later e es k h.0)
      ∙ ap (λ (fs : List (K × X)). found k (lookup (is_at (R k)) es) ++ fs) (same_behind e es ks h.1)

  -- the keys with what is found at them are the pairs
  pub found_all : (es : List (K × X)) → IsStrictlySortedBy R (keys_of es) → flat_map (λ k. found k (lookup (is_at (R k)) es)) (keys_of es) ≡ es
  unfolding IsStrictlySortedBy
  found_all [] sorted = refl
  found_all (e ∷ es) sorted =
      ap (λ (f : Option X). found e.0 f ++ flat_map (λ k. found k (lookup (is_at (R k)) (e ∷ es))) (keys_of es)) (first e es)
      ∙ ap (λ (fs : List (K × X)). e ∷ fs) (same_behind e es (keys_of es) sorted.0 ∙ found_all es sorted.1)

  -- a key more, with what is found at it
  pub found_more : (m : Map R X) (ks : List K) (i : ℕ) (k d : K) (ps qs : List (K × X)) → i < length ks → k ≡ get_or ks i d → ps ≡ flat_map (λ k. found k (get m k)) (take i ks) → qs ≡ ps ++ found k (get m k) → qs ≡ flat_map (λ k. found k (get m k)) (take (i + 1) ks)
  found_more m ks i k d ps qs within is h e =
      e ∙ ap (λ (es : List (K × X)). es ++ found k (get m k)) h
      ∙ flat_map_more (λ k. found k (get m k)) [] (take i ks) k
      ∙ ap (λ (q : K). flat_map (λ k. found k (get m k)) (take i ks ++ q ∷ [])) is
      ∙ ap (flat_map (λ k. found k (get m k))) (sym (take_more ks i d within))

  -- all of them
  pub found_each : (m : Map R X) (ks : List K) (i : ℕ) (ps : List (K × X)) → IsSorted m → ks ≡ keys_of m.pairs → length ks ≤ i → ps ≡ flat_map (λ k. found k (get m k)) (take i ks) → ps ≡ m.pairs
  found_each m ks i ps sorted is past h =
      h ∙ ap (flat_map (λ k. found k (get m k))) (take_all i ks past ∙ is) ∙ found_all m.pairs sorted
