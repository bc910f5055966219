-- Writing a new value at a key that is there is putting the value at the key.
use Rattle.std.proofs.Common.{◌≡◌, List, [], ◌∷◌, ap, cond, refl, subst, true, ◌∙◌}
use Rattle.std.specs.BTreeMap.{insert_entry, is_at}
use Rattle.std.specs.Cmp.{IsTotalOrder}
use Rattle.std.specs.List.{AllByRecursion}
use Rattle.std.specs.List.Sorted.{IsStrictlySortedBy}
use Rattle.std.specs.Map.{keys_of, lookup, set_value}
use Rattle.std.specs.Option.{IsSome}
use Rattle.std.specs.Ordering.{is_eq, match_ordering}
use Rattle.std.specs.Prelude.{None, Option, Some}
use Rattle.std.specs.declared.cmp.Ordering.TheVariants.{Equal, Greater, Less}
use Rattle.std.specs.declared.cmp.Ordering.{Ordering}
use Rattle.thor_value.proofs.NameOrders.{ts_total}
use Rattle.thor_value.specs.Names.{ts_cmp}
use Rattle.thor_value.specs.declared.names.Ts.{Ts}
use Rattle.validation_queue.specs.Contents.{Contents, decide}
use Rattle.validation_queue.specs.declared.member.Member.{Member}

abbrev pub contents : Ts → List (Ts × Member) → Contents
contents threshold es = record { threshold = threshold; members = record { pairs = es } }

module _ {K X : Type 0} (R : K → K → Ordering) (o : IsTotalOrder R) where
  none_below : (k j : K) (es : List (K × X)) → R k j ≡ Less → AllByRecursion (λ y. R j y ≡ Less) (keys_of es) → lookup (is_at (R k)) es ≡ None
  none_below k j [] l h = refl
  none_below k j (e ∷ es) l h = let f : R k e.0 ≡ Less = o.trans k j e.0 l h.0 in rw f (none_below k j es l h.1)

  pub set_is_insert : (k : K) (w : X) (es : List (K × X)) → IsStrictlySortedBy R (keys_of es) → IsSome (lookup (is_at (R k)) es) → set_value (is_at (R k)) es w ≡ insert_entry R es k w
  unfolding IsStrictlySortedBy
  set_is_insert k w [] h s = cc
  set_is_insert k w (e ∷ es) h s = by (R k e.0) refl (λ t. set_is_insert k w es h.1 t)
    where
      by : (r : Ordering) → R k e.0 ≡ r → (IsSome (lookup (is_at (R k)) es) → set_value (is_at (R k)) es w ≡ insert_entry R es k w) → cond (is_eq r) ((e.0, w) ∷ es) (e ∷ set_value (is_at (R k)) es w) ≡ match_ordering r ((k, w) ∷ e ∷ es) ((e.0, w) ∷ es) (e ∷ insert_entry R es k w)
      by Less f more = let n : IsSome {T = X} None = subst (λ (v : Option X). IsSome v) (none_below k e.0 es f h.0) (subst (λ (r : Ordering). IsSome (cond (is_eq r) (Some e.1) (lookup (is_at (R k)) es))) f s) in cc
      by Equal f more = refl
      by Greater f more = ap (λ fs. e ∷ fs) (more (subst (λ (r : Ordering). IsSome (cond (is_eq r) (Some e.1) (lookup (is_at (R k)) es))) f s))

-- what a mark of a member that is there leaves
pub marked : (threshold : Ts) (es fs : List (Ts × Member)) (tx : Ts) (m : Member) → IsStrictlySortedBy ts_cmp (keys_of es) → lookup (is_at (ts_cmp tx)) es ≡ Some m → fs ≡ set_value (is_at (ts_cmp tx)) es (record m { decided = true }) → contents threshold fs ≡ decide (contents threshold es) tx true
marked threshold es fs tx m h is e =
    let w : Member = record m { decided = true } in
    let k : fs ≡ insert_entry ts_cmp es tx w = e ∙ set_is_insert ts_cmp ts_total tx w es h (rw is refl) in
    rw (is, k) refl
