-- What the lists of a table are behind each change of it.
use Rattle.std.proofs.Common.{◌≡◌, Bool, List, None, Option, Some, [], ◌∷◌, ap, cond, false, refl, subst, sym, true, ◌∙◌}
use Rattle.std.proofs.lemmas.Cmp.{eq_by_cmp_equiv}
use Rattle.std.proofs.lemmas.Map.Views.{tells_apart}
use Rattle.std.specs.BTreeMap.{insert_entry, is_at}
use Rattle.std.specs.List.{AllByRecursion}
use Rattle.std.specs.List.Sorted.{IsStrictlySortedBy}
use Rattle.std.specs.Map.{keys_of, lookup, remove_entry}
use Rattle.std.specs.Option.{option_and_then}
use Rattle.std.specs.Ordering.{eq_by_cmp}
use Rattle.std.specs.declared.cmp.Ordering.TheVariants.{Less}
use Rattle.thor_value.proofs.FiniteMap.{IsSorted-insert, IsSorted-remove, get-insert, get-remove, same_map}
use Rattle.thor_value.proofs.NameOrders.{ts_exact, ts_total}
use Rattle.thor_value.specs.FiniteMap.{IsSorted, Map, get, insert, remove}
use Rattle.thor_value.specs.Names.{ts_cmp}
use Rattle.thor_value.specs.declared.names.Ts.{Ts}
use Rattle.two_phase.specs.Lists.{before_those, those}
use Rattle.two_phase.specs.declared.transaction.Transaction.{Transaction}

none_above : {X : Type 0} (t : Ts) (es : List (Ts × X)) → AllByRecursion (λ y. ts_cmp t y ≡ Less) (keys_of es) → lookup (is_at (ts_cmp t)) es ≡ None
none_above t [] h = refl
none_above t (e ∷ es) h = rw h.0 (none_above t es h.1)

-- where a key isn't there, nothing is taken out
pub remove_absent : {X : Type 0} (t : Ts) (es : List (Ts × X)) → lookup (is_at (ts_cmp t)) es ≡ None → remove_entry (is_at (ts_cmp t)) es ≡ es
remove_absent t [] h = refl
remove_absent {X} t (e ∷ es) h = by_key (is_at (ts_cmp t) e.0) (remove_absent t es) h
  where
    by_key : (b : Bool) → (lookup (is_at (ts_cmp t)) es ≡ None → remove_entry (is_at (ts_cmp t)) es ≡ es) → cond b (Some e.1) (lookup (is_at (ts_cmp t)) es) ≡ None → cond b es (e ∷ remove_entry (is_at (ts_cmp t)) es) ≡ e ∷ es
    by_key true rest g = cc
    by_key false rest g = ap (λ (fs : List (Ts × X)). e ∷ fs) (rest g)

module _ {X : Type 0} (part : Transaction → Option X) where
  below_those : (P : Ts → Type 0) (es : List (Ts × Transaction)) → AllByRecursion P (keys_of es) → AllByRecursion P (keys_of (those part es))
  below_those P [] h = tt
  below_those P (e ∷ es) h = by_part (part e.1) (below_those P es h.1)
    where
      by_part : (o : Option X) → AllByRecursion P (keys_of (those part es)) → AllByRecursion P (keys_of (before_those e.0 o (those part es)))
      by_part (Some x) rest = (h.0, rest)
      by_part None rest = rest

  -- they rise, too
  pub sorted_those : (es : List (Ts × Transaction)) → IsStrictlySortedBy ts_cmp (keys_of es) → IsStrictlySortedBy ts_cmp (keys_of (those part es))
  unfolding IsStrictlySortedBy
  sorted_those [] h = tt
  sorted_those (e ∷ es) h = by_part (part e.1) (sorted_those es h.1)
    where
      by_part : (o : Option X) → IsStrictlySortedBy ts_cmp (keys_of (those part es)) → IsStrictlySortedBy ts_cmp (keys_of (before_those e.0 o (those part es)))
      by_part (Some x) rest = (below_those (λ y. ts_cmp e.0 y ≡ Less) es h.0, rest)
      by_part None rest = rest

  -- what a transaction has among them
  pub lookup_those : (t : Ts) (es : List (Ts × Transaction)) → IsStrictlySortedBy ts_cmp (keys_of es) → lookup (is_at (ts_cmp t)) (those part es) ≡ option_and_then part (lookup (is_at (ts_cmp t)) es)
  unfolding IsStrictlySortedBy
  lookup_those t [] h = refl
  lookup_those t (e ∷ es) h = by (part e.1) (is_at (ts_cmp t) e.0) refl refl (lookup_those t es h.1)
    where
      gone : is_at (ts_cmp t) e.0 ≡ true → lookup (is_at (ts_cmp t)) (those part es) ≡ None
      gone at = none_above t (those part es) (below_those (λ y. ts_cmp t y ≡ Less) es (subst (λ k. AllByRecursion (λ y. ts_cmp k y ≡ Less) (keys_of es)) (sym (tells_apart ts_exact t e.0 at)) h.0))

      by : (o : Option X) (b : Bool) → part e.1 ≡ o → is_at (ts_cmp t) e.0 ≡ b → lookup (is_at (ts_cmp t)) (those part es) ≡ option_and_then part (lookup (is_at (ts_cmp t)) es) → lookup (is_at (ts_cmp t)) (before_those e.0 o (those part es)) ≡ option_and_then part (cond b (Some e.1) (lookup (is_at (ts_cmp t)) es))
      by (Some x) true p at rest = rw at (sym p)
      by (Some x) false p at rest = rw at rest
      by None true p at rest = gone at ∙ sym p
      by None false p at rest = rest

  -- as a map
  abbrev pub among : Map ts_cmp Transaction → Map ts_cmp X
  among m = record { pairs = those part m.pairs }

  lookup_among : (m : Map ts_cmp Transaction) → IsSorted m → (t : Ts) → get (among m) t ≡ option_and_then part (get m t)
  lookup_among m h t = lookup_those t m.pairs h

  -- something is put
  pub those_put : (m : Map ts_cmp Transaction) (t : Ts) (k : Transaction) (x : X) → IsSorted m → part k ≡ Some x → those part (insert m t k).pairs ≡ insert_entry ts_cmp (those part m.pairs) t x
  those_put m t k x h is =
      let more : IsSorted (insert m t k) = IsSorted-insert ts_total m t k h in
      let e = same_map ts_total ts_exact (among (insert m t k)) (insert (among m) t x) (sorted_those _ more) (IsSorted-insert ts_total (among m) t x (sorted_those _ h)) (λ q.
      lookup_among (insert m t k) more q ∙ ap (option_and_then part) (get-insert ts_total m t k q) ∙ by q (eq_by_cmp ts_cmp q t) ∙ sym (get-insert ts_total (among m) t x q)) in
      ap (λ (n : Map ts_cmp X). n.pairs) e
    where
      by : (q : Ts) (b : Bool) → option_and_then part (cond b (Some k) (get m q)) ≡ cond b (Some x) (get (among m) q)
      by q true = is
      by q false = sym (lookup_among m h q)

  by_absence : (m : Map ts_cmp Transaction) → IsSorted m → (q : Ts) (b : Bool) → option_and_then part (cond b None (get m q)) ≡ cond b None (get (among m) q)
  by_absence m h q true = refl
  by_absence m h q false = sym (lookup_among m h q)

  -- what has nothing is put
  pub those_covered : (m : Map ts_cmp Transaction) (t : Ts) (k : Transaction) → IsSorted m → part k ≡ None → those part (insert m t k).pairs ≡ remove_entry (is_at (ts_cmp t)) (those part m.pairs)
  those_covered m t k h is =
      let more : IsSorted (insert m t k) = IsSorted-insert ts_total m t k h in
      let e = same_map ts_total ts_exact (among (insert m t k)) (remove (among m) t) (sorted_those _ more) (IsSorted-remove ts_cmp (among m) t (sorted_those _ h)) (λ q.
      lookup_among (insert m t k) more q ∙ ap (option_and_then part) (get-insert ts_total m t k q) ∙ by q (eq_by_cmp ts_cmp q t) ∙ by_absence m h q (eq_by_cmp ts_cmp q t) ∙ ap (λ b. cond b None (get (among m) q)) ((eq_by_cmp_equiv ts_total).symm q t) ∙ sym (get-remove ts_total (among m) t q (sorted_those _ h))) in
      ap (λ (n : Map ts_cmp X). n.pairs) e
    where
      by : (q : Ts) (b : Bool) → option_and_then part (cond b (Some k) (get m q)) ≡ option_and_then part (cond b None (get m q))
      by q true = is
      by q false = refl

  -- one is taken out
  pub those_removed : (m : Map ts_cmp Transaction) (t : Ts) → IsSorted m → those part (remove m t).pairs ≡ remove_entry (is_at (ts_cmp t)) (those part m.pairs)
  those_removed m t h =
      let less : IsSorted (remove m t) = IsSorted-remove ts_cmp m t h in
      let e = same_map ts_total ts_exact (among (remove m t)) (remove (among m) t) (sorted_those _ less) (IsSorted-remove ts_cmp (among m) t (sorted_those _ h)) (λ q.
      lookup_among (remove m t) less q ∙ ap (option_and_then part) (get-remove ts_total m t q h) ∙ by_absence m h q (eq_by_cmp ts_cmp t q) ∙ sym (get-remove ts_total (among m) t q (sorted_those _ h))) in
      ap (λ (n : Map ts_cmp X). n.pairs) e
