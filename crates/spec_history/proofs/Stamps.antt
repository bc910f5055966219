-- The order of timestamps, and the later one of two.
use Rattle.spec_history.proofs.Meeting.{in_order, not_both_ways}
use Rattle.std.proofs.Common.{◌≡◌, ap, inl, inr, subst, sym, ◌∙◌, refl}
use Rattle.std.specs.Ordering.{match_ordering, ordering_reverse}
use Rattle.std.specs.declared.cmp.Ordering.TheVariants.{Equal, Greater, Less}
use Rattle.std.specs.declared.cmp.Ordering.{Ordering}
use Rattle.thor_value.proofs.NameOrders.{not_before_itself, ts_exact, ts_total}
use Rattle.thor_value.specs.Names.{AtMost, Before, later_of, ts_cmp}
use Rattle.thor_value.specs.declared.names.Ts.{Ts}

pub at_most_itself : (t : Ts) → AtMost t t
at_most_itself t = not_before_itself t

pub at_most_then : (t u v : Ts) → AtMost t u → AtMost u v → AtMost t v
at_most_then t u v h k e = elim (in_order u v) [
  | inl l ↦ h (ts_total.trans u v t l e)
  | inr m ↦ elim m [
    | inl same ↦ h (subst (λ w. Before w t) (sym same) e)
    | inr l ↦ k l
  ]
]

pub at_most_before : (t u v : Ts) → AtMost t u → Before u v → Before t v
at_most_before t u v h e = elim (in_order t u) [
  | inl l ↦ ts_total.trans t u v l e
  | inr m ↦ elim m [
    | inl same ↦ subst (λ w. Before w v) (sym same) e
    | inr l ↦ absurd (h l)
  ]
]

pub before_at_most : (t u : Ts) → Before t u → AtMost t u
before_at_most t u e k = not_both_ways t u e k

module _ (t u : Ts) where
  by_later : (P : Ts → Type 0) → (Before t u → P u) → ((t ≡ u) → P u) → (Before u t → P t) → P (later_of t u)
  by_later P less same greater = by_order (ts_cmp t u) refl
    where
      by_order : (o : Ordering) → ts_cmp t u ≡ o → P (match_ordering o u u t)
      by_order Less e = less e
      by_order Equal e = same (ts_exact t u e)
      by_order Greater e = greater (ts_total.antisymm u t ∙ ap ordering_reverse e)

  pub first_at_most : AtMost t (later_of t u)
  first_at_most = by_later (AtMost t) (λ e. before_at_most t u e) (λ e. subst (λ v. AtMost t v) e (at_most_itself t)) (λ e. at_most_itself t)

  pub second_at_most : AtMost u (later_of t u)
  second_at_most = by_later (AtMost u) (λ e. at_most_itself u) (λ e. at_most_itself u) (λ e. before_at_most u t e)

  pub later_at_most : (v : Ts) → AtMost t v → AtMost u v → AtMost (later_of t u) v
  later_at_most v h k = by_later (λ w. AtMost w v) (λ e. k) (λ e. k) (λ e. h)
