-- The example of growth by others: all that the law asks.
use Rattle.log_entries.specs.declared.request.Request.{Request}
use Rattle.spec_history.proofs.Decided.{decides_sound}
use Rattle.spec_trace.specs.Current.{IsCurrent, NoPageWaits, OthersSince, RightAt}
use Rattle.spec_trace.specs.Exact.{exact}
use Rattle.spec_trace.specs.ExactExamples.{copy_of_x, fetched, nothing_committed, since_fetched}
use Rattle.spec_history.specs.Examples.{box, home, reading_x, setting_x, x}
use Rattle.spec_trace.specs.Gaps.{AreCurrent, GrowsByOthers}
use Rattle.spec_history.specs.History.{writers}
use Rattle.spec_history.specs.Requests.{has_written, written}
use Rattle.spec_trace.specs.Session.{Page, Session, begun, session}
use Rattle.spec_trace.specs.Trace.{entries}
use Rattle.spec_trace.proofs.ExactTraces.{exact_since}
use Rattle.std.proofs.Common.{Bool, [], arith, cond, false, inl, refl, subst, suc, sym, true, zero, ℕ, ◌++◌, ◌∷◌, ◌≡◌, ◌≤◌}
use Rattle.std.proofs.lemmas.List.Elements.{All-cons, All-nil}
use Rattle.std.proofs.lemmas.Map.Views.{tells_apart}
use Rattle.std.specs.Option.{IsSomeAnd}
use Rattle.std.specs.Ordering.{eq_by_cmp}
use Rattle.std.specs.Prelude.{None, Option, Some, nat_eq, ◌⊎◌}
use Rattle.std.specs.List.{slice_get}
use Rattle.thor_value.proofs.NameOrders.{oref_exact}
use Rattle.thor_value.specs.FiniteMap.{get, has}
use Rattle.thor_value.specs.Names.{oref_cmp}
use Rattle.thor_value.specs.declared.names.Oref.{Oref}
use Rattle.thor_value.specs.declared.values.Obj.{Obj}

abbrev session_of : Option Session → Session
session_of None = begun 2 0
session_of (Some v) = v

abbrev Other : Oref → Obj → ℕ × Request → Type 0
Other y o c = has_written c.1 y ≡ true → (nat_eq c.1.session 2 ≡ false) ⊎ ((get (written c.1) y ≡ Some o) × NoPageWaits (session_of (session home fetched 2)) y)

-- the page was taken
taken : (i k : ℕ) → 1 ≤ i → slice_get (Page 0 1 ∷ []) i ≡ Some (Page 0 k) → 1 ≤ k
taken zero k l e = absurd (low l)
  where
    low : 1 ≤ 0 → ⊥
    low h = omega arith
taken (suc i) k l e = cc

one_copy : (y : Oref) (o : Obj) → get copy_of_x y ≡ Some o → (y ≡ x) × (box 0 ≡ o)
one_copy y o is = by (eq_by_cmp oref_cmp y x) refl is
  where
    by : (t : Bool) → eq_by_cmp oref_cmp y x ≡ t → cond t (Some (box 0)) None ≡ Some o → (y ≡ x) × (box 0 ≡ o)
    by true k e = (tells_apart oref_exact y x k, cc)
    by false k e = cc

kept : exact home (fetched ++ since_fetched)
kept = exact_since

none_since : OthersSince 2 1 (writers home (entries fetched) x)
none_since = All-nil (λ c. 1 ≤ c.0 → nat_eq c.1.session 2 ≡ false)

right : IsSomeAnd (session home fetched 2) (λ v. RightAt home (entries fetched) 2 v x (box 0) 1)
right = record { unknown = omega arith; there = omega arith; cached = omega arith; value = refl; others = none_since; before = taken }

current : IsSomeAnd (session home fetched 2) (λ v. AreCurrent home fetched 2 v nothing_committed copy_of_x)
current y o is =
    let k = one_copy y o is in
    subst (λ z. IsSomeAnd (session home fetched 2) (λ v. IsCurrent home (entries fetched) 2 v nothing_committed z o × (has v.pages z.page ≡ true))) (sym k.0)
    (subst (λ u. IsSomeAnd (session home fetched 2) (λ v. IsCurrent home (entries fetched) 2 v nothing_committed x u × (has v.pages x.page ≡ true))) k.1 (inl (1, right), refl))

pub grows : IsSomeAnd (session home fetched 2) (λ v. GrowsByOthers home fetched since_fetched 2 v nothing_committed copy_of_x)
grows = record {
  owed = (decides_sound home (entries (fetched ++ since_fetched))).0 refl;
  kept = kept;
  before = refl;
  live = refl;
  step = record { taken = omega arith; acked = omega arith };
  others = ((λ e. cc), ((λ e. cc), ((λ e. cc), ((λ e. cc), tt))));
  none_aborted = λ t w is c. cc;
  own = λ y o is. All-cons (Other y o) (1, reading_x 1) ((2, setting_x 2 7) ∷ []) (λ w. inl refl) (All-cons (Other y o) (2, setting_x 2 7) [] (λ w. inl refl) (All-nil (Other y o)));
  current = current;
}
