-- When two requests meet at an object, and the order of timestamps.
use Rattle.log_entries.specs.declared.request.Request.{Request}
use Rattle.spec_history.specs.Requests.{bars, has_read, has_written, is_upgrade, overwrites, reads_of, written}
use Rattle.std.proofs.Common.{◌≡◌, ◌<◌, ℕ, List, [], ◌∷◌, refl, ap, sym, ◌∙◌, subst, arith, inl, inr}
use Rattle.std.proofs.lemmas.Map.Made.{is_some-lookup}
use Rattle.std.proofs.lemmas.Map.Views.{tells_apart}
use Rattle.std.proofs.lemmas.Bool.{or_left}
use Rattle.std.specs.BTreeMap.{is_at}
use Rattle.std.specs.List.{list_any}
use Rattle.std.specs.Ordering.{ordering_reverse}
use Rattle.std.specs.Prelude.{Bool, true, false, ◌||◌, ◌⊎◌, IsTrue}
use Rattle.std.specs.declared.cmp.Ordering.TheVariants.{Less, Equal, Greater}
use Rattle.std.specs.declared.cmp.Ordering.{Ordering}
use Rattle.thor_value.proofs.NameOrders.{not_before_itself, oref_exact, ts_exact, ts_total}
use Rattle.thor_value.specs.FiniteMap.{keys}
use Rattle.thor_value.specs.Names.{Before, oref_cmp, same_oref, ts_cmp}
use Rattle.thor_value.specs.declared.names.Oref.{Oref}
use Rattle.thor_value.specs.declared.names.Ts.{Ts}

pub or_second : (x y : Bool) → y ≡ true → (x || y) ≡ true
or_second true y h = refl
or_second false y h = h

pub or_cases : (x y : Bool) → (x || y) ≡ true → (x ≡ true) ⊎ (y ≡ true)
or_cases true y h = inl refl
or_cases false y h = inr h

-- a test that holds of x holds of one of the names where x is one of them
pub any_at : (test : Oref → Bool) (x : Oref) (ys : List Oref) → list_any (same_oref x) ys ≡ true → test x ≡ true → list_any test ys ≡ true
any_at test x [] h t = h
any_at test x (y ∷ ys) h t = elim (or_cases (same_oref x y) (list_any (same_oref x) ys) h) [
  | inl e ↦ or_left (test y) (list_any test ys) (subst (λ z. test z ≡ true) (tells_apart oref_exact x y e) t)
  | inr r ↦ or_second (test y) (list_any test ys) (any_at test x ys r t)
]

-- q read x, and s wrote it
pub bars-reads : (q s : Request) (x : Oref) → IsTrue (has_read q x) → IsTrue (has_written s x) → IsTrue (bars q s)
bars-reads q s x r w = or_second (is_upgrade q || is_upgrade s) (reads_of q s) (any_at (has_written s) x q.ros r w)

-- q wrote x, and s read it
pub overwrites-reads : (q s : Request) (x : Oref) → IsTrue (has_written q x) → IsTrue (has_read s x) → IsTrue (overwrites q s)
overwrites-reads q s x w r = any_at (has_read s) x (keys (written q)) (sym (is_some-lookup (is_at (oref_cmp x)) (written q).pairs) ∙ w) r

pub bars-upgrade : (q s : Request) → IsTrue (is_upgrade q) → IsTrue (bars q s)
bars-upgrade q s u = or_left (is_upgrade q || is_upgrade s) (reads_of q s) (or_left (is_upgrade q) (is_upgrade s) u)

pub bars-behind_upgrade : (q s : Request) → IsTrue (is_upgrade s) → IsTrue (bars q s)
bars-behind_upgrade q s u = or_left (is_upgrade q || is_upgrade s) (reads_of q s) (or_second (is_upgrade q) (is_upgrade s) u)

-- ---- timestamps

pub not_both_ways : (s t : Ts) → Before s t → Before t s → ⊥
not_both_ways s t h k = let e = ts_total.antisymm s t in let f : ordering_reverse (ts_cmp t s) ≡ Greater = ap ordering_reverse k in cc

pub not_same : (s t : Ts) → Before s t → s ≡ t → ⊥
not_same s t h e = not_before_itself t (subst (λ r. Before r t) e h)

pub in_order : (s t : Ts) → Before s t ⊎ ((s ≡ t) ⊎ Before t s)
in_order s t = by_order (ts_cmp s t) refl
  where
    by_order : (o : Ordering) → ts_cmp s t ≡ o → Before s t ⊎ ((s ≡ t) ⊎ Before t s)
    by_order Less h = inl h
    by_order Equal h = inr (inl (ts_exact s t h))
    by_order Greater h = inr (inr (ts_total.antisymm t s ∙ ap ordering_reverse h))

pub three_ways : (m n : ℕ) → (m < n) ⊎ ((m ≡ n) ⊎ (n < m))
three_ways m n = grind arith
