-- A map that gets back what it had at a key is the one before.
use Rattle.cached_sets.specs.Invalid.{replace}
use Rattle.std.proofs.Common.{◌≡◌, Bool, List, [], ◌∷◌, ap, cond, false, refl, subst, sym, true, ◌∙◌}
use Rattle.std.proofs.lemmas.Cmp.{eq_by_cmp_equiv, tied_itself}
use Rattle.std.proofs.lemmas.Map.Lookups.{CmpEqualImpliesEq}
use Rattle.std.proofs.lemmas.Map.{keys-set_value, lookup-set_value}
use Rattle.std.proofs.lemmas.Map.Views.{tells_apart}
use Rattle.std.specs.BTreeMap.{is_at}
use Rattle.std.specs.Cmp.{IsTotalOrder}
use Rattle.std.specs.List.Sorted.{IsStrictlySortedBy}
use Rattle.std.specs.Map.{lookup, remove_entry, set_value}
use Rattle.std.specs.Option.{IsSome}
use Rattle.std.specs.Ordering.{eq_by_cmp, is_eq}
use Rattle.std.specs.Prelude.{None, Some}
use Rattle.std.specs.declared.cmp.Ordering.TheVariants.{Equal, Greater, Less}
use Rattle.std.specs.declared.cmp.Ordering.{Ordering}
use Rattle.thor_value.proofs.FiniteMap.{IsSorted-insert, IsSorted-remove, get-insert, get-remove, same_map}
use Rattle.thor_value.specs.FiniteMap.{IsSorted, Map, get, insert, remove}

equal : (r : Ordering) → is_eq r ≡ true → r ≡ Equal
equal Equal h = refl
equal Less h = cc
equal Greater h = cc

module _ {K X : Type 0} (test : K → Bool) where
  -- no entry passes, and none is taken out
  pub remove_none : (es : List (K × X)) → lookup test es ≡ None → remove_entry test es ≡ es
  remove_none [] h = refl
  remove_none (e ∷ es) h = by (test e.0) h (remove_none es)
    where
      by : (t : Bool) → cond t (Some e.1) (lookup test es) ≡ None → (lookup test es ≡ None → remove_entry test es ≡ es) → cond t es (e ∷ remove_entry test es) ≡ e ∷ es
      by true g more = cc
      by false g more = ap (λ (fs : List (K × X)). e ∷ fs) (more g)

  -- another value and then the one before
  pub set_back : (es : List (K × X)) (v w : X) → lookup test es ≡ Some v → set_value test (set_value test es w) v ≡ es
  set_back [] v w h = cc
  set_back (e ∷ es) v w h = by (test e.0) refl h (set_back es v w)
    where
      by : (t : Bool) → test e.0 ≡ t → cond t (Some e.1) (lookup test es) ≡ Some v → (lookup test es ≡ Some v → set_value test (set_value test es w) v ≡ es)
          → set_value test (cond t ((e.0, w) ∷ es) (e ∷ set_value test es w)) v ≡ e ∷ es
      by true f g more = let a : e.1 ≡ v = cc in rw f (ap (λ (x : X). (e.0, x) ∷ es) (sym a))
      by false f g more = rw f (ap (λ (fs : List (K × X)). e ∷ fs) (more g))

  pub set_found : (es : List (K × X)) (v w : X) → lookup test es ≡ Some v → lookup test (set_value test es w) ≡ Some w
  set_found [] v w h = cc
  set_found (e ∷ es) v w h = by (test e.0) refl h (set_found es v w)
    where
      by : (t : Bool) → test e.0 ≡ t → cond t (Some e.1) (lookup test es) ≡ Some v → (lookup test es ≡ Some v → lookup test (set_value test es w) ≡ Some w)
          → lookup test (cond t ((e.0, w) ∷ es) (e ∷ set_value test es w)) ≡ Some w
      by true f g more = rw f refl
      by false f g more = rw f (more g)

  -- the value that is there
  pub set_same : (es : List (K × X)) (v : X) → lookup test es ≡ Some v → set_value test es v ≡ es
  set_same [] v h = cc
  set_same (e ∷ es) v h = by (test e.0) h (set_same es v)
    where
      by : (t : Bool) → cond t (Some e.1) (lookup test es) ≡ Some v → (lookup test es ≡ Some v → set_value test es v ≡ es) → cond t ((e.0, v) ∷ es) (e ∷ set_value test es v) ≡ e ∷ es
      by true g more = let a : e.1 ≡ v = cc in ap (λ (x : X). (e.0, x) ∷ es) (sym a)
      by false g more = ap (λ (fs : List (K × X)). e ∷ fs) (more g)

  pub set_none : (es : List (K × X)) (v : X) → lookup test es ≡ None → set_value test es v ≡ es
  set_none [] v h = refl
  set_none (e ∷ es) v h = by (test e.0) h (set_none es v)
    where
      by : (t : Bool) → cond t (Some e.1) (lookup test es) ≡ None → (lookup test es ≡ None → set_value test es v ≡ es) → cond t ((e.0, v) ∷ es) (e ∷ set_value test es v) ≡ e ∷ es
      by true g more = cc
      by false g more = ap (λ (fs : List (K × X)). e ∷ fs) (more g)

  pub set_twice : (es : List (K × X)) (v w : X) → set_value test (set_value test es v) w ≡ set_value test es w
  set_twice [] v w = refl
  set_twice (e ∷ es) v w = by (test e.0) refl (set_twice es v w)
    where
      by : (t : Bool) → test e.0 ≡ t → set_value test (set_value test es v) w ≡ set_value test es w
          → set_value test (cond t ((e.0, v) ∷ es) (e ∷ set_value test es v)) w ≡ cond t ((e.0, w) ∷ es) (e ∷ set_value test es w)
      by true f more = rw f refl
      by false f more = rw f (ap (λ (fs : List (K × X)). e ∷ fs) more)

itself : {K : Type 0} {R : K → K → Ordering} → IsTotalOrder R → (x : K) → eq_by_cmp R x x ≡ true
itself {R = R} o x = let e : R x x ≡ Equal = tied_itself o x in rw e refl

module _ {K X : Type 0} {R : K → K → Ordering} (o : IsTotalOrder R) (exact : CmpEqualImpliesEq R) where
  -- a new key comes and goes
  pub restored_new : (m : Map R X) (k : K) (v : X) → IsSorted m → get m k ≡ None → remove (insert m k v) k ≡ m
  restored_new m k v h n =
      same_map o exact _ _ (IsSorted-remove R (insert m k v) k (IsSorted-insert o m k v h)) h
      (λ q. get-remove o (insert m k v) k q (IsSorted-insert o m k v h) ∙ ap (cond (eq_by_cmp R k q) None) (get-insert o m k v q) ∙ by q (eq_by_cmp R k q) refl (eq_by_cmp R q k) refl)
    where
      by : (q : K) (s : Bool) → eq_by_cmp R k q ≡ s → (t : Bool) → eq_by_cmp R q k ≡ t → cond s None (cond t (Some v) (get m q)) ≡ get m q
      by q true e t f = let a : k ≡ q = tells_apart exact k q e in sym n ∙ ap (get m) a
      by q false e true f = let a : q ≡ k = tells_apart exact q k f in let b : eq_by_cmp R k k ≡ false = ap (eq_by_cmp R k) (sym a) ∙ e in let c : eq_by_cmp R k k ≡ true = itself o k in cc
      by q false e false f = refl

  -- a key gets another value and then the one before
  pub restored_old : (m : Map R X) (k : K) (v w : X) → IsSorted m → get m k ≡ Some w → replace (insert m k v) k w ≡ m
  restored_old m k v w h n =
      same_map o exact _ _ (subst (IsStrictlySortedBy R) (sym (keys-set_value (is_at (R k)) (insert m k v).pairs w)) (IsSorted-insert o m k v h)) h
      (λ q. lookup-set_value (eq_by_cmp_equiv o) (is_at (R k)) (λ x y t. (eq_by_cmp_equiv o).congr k x y t) q w (insert m k v).pairs there ∙ ap (cond (eq_by_cmp R k q) (Some w)) (get-insert o m k v q) ∙ by q (eq_by_cmp R k q) refl (eq_by_cmp R q k) refl)
    where
      there : IsSome (get (insert m k v) k)
      there = let a : get (insert m k v) k ≡ Some v = get-insert o m k v k ∙ ap (λ (t : Bool). cond t (Some v) (get m k)) (itself o k) in rw a refl

      by : (q : K) (s : Bool) → eq_by_cmp R k q ≡ s → (t : Bool) → eq_by_cmp R q k ≡ t → cond s (Some w) (cond t (Some v) (get m q)) ≡ get m q
      by q true e t f = let a : k ≡ q = tells_apart exact k q e in sym n ∙ ap (get m) a
      by q false e true f = let a : q ≡ k = tells_apart exact q k f in let b : eq_by_cmp R k k ≡ false = ap (eq_by_cmp R k) (sym a) ∙ e in let c : eq_by_cmp R k k ≡ true = itself o k in cc
      by q false e false f = refl
