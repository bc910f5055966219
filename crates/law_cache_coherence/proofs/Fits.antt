-- The examples of what fits.
use Rattle.law_cache_coherence.proofs.Committing.{some_at}
use Rattle.law_cache_coherence.specs.Examples.{awaiting, copy_of_x, keeping, newer_of_x, no_copy, page_waits}
use Rattle.law_cache_coherence.specs.Fitting.{Copies, FitsAt, KeepsUp, StaysRight}
use Rattle.spec_history.specs.Examples.{box, home, setting_x, x}
use Rattle.spec_history.specs.History.{objects_at, writers}
use Rattle.client_port.specs.Views.{Calm}
use Rattle.spec_trace.specs.Current.{IsCurrent, OthersSince, RightAt}
use Rattle.spec_trace.specs.ExactExamples.{fetched, nothing_committed}
use Rattle.spec_trace.specs.Session.{Invalid, Page, Session, session, session_lives, upto_of}
use Rattle.spec_trace.specs.SessionExamples.{invalid_taken, restarted, written_since}
use Rattle.spec_trace.specs.Trace.{Item, entries}
use Rattle.std.proofs.Common.{Bool, List, [], ap, arith, cond, false, inl, inr, refl, subst, suc, sym, true, zero, ℕ, ◌∙◌, ◌∷◌, ◌≡◌, ◌≤◌}
use Rattle.std.proofs.lemmas.List.Elements.{All-cons, All-nil}
use Rattle.std.proofs.lemmas.Map.Views.{tells_apart}
use Rattle.std.specs.Option.{IsSomeAnd}
use Rattle.std.specs.Prelude.{None, Option, Some, nat_eq, negsuc, pos, ℤ}
use Rattle.std.specs.List.{slice_get}
use Rattle.thor_value.proofs.NameOrders.{oref_exact}
use Rattle.thor_value.specs.FiniteMap.{get, has}
use Rattle.thor_value.specs.Names.{same_oref}
use Rattle.thor_value.specs.declared.names.Oref.{Oref}
use Rattle.thor_value.specs.declared.values.Obj.{Obj}
use Rattle.thor_value.specs.declared.values.Value.TheVariants.{Int, Null, Ref, Text}
use Rattle.thor_value.specs.declared.values.Value.{Value}

one_copy : (y : Oref) (o : Obj) → copy_of_x y ≡ Some o → (y ≡ x) × (box 0 ≡ o)
one_copy y o is = by (same_oref y x) refl is
  where
    by : (t : Bool) → same_oref y x ≡ t → cond t (Some (box 0)) None ≡ Some o → (y ≡ x) × (box 0 ≡ o)
    by true k e = (tells_apart oref_exact y x k, cc)
    by false k e = cc

-- a copy is current, and its page is the session's
abbrev Holds : List Item → Oref → Obj → Type 0
Holds T y o = IsSomeAnd (session home T 2) (λ v. IsCurrent home (entries T) 2 v nothing_committed y o × (has v.pages y.page ≡ true))

-- the one copy is of x
each_copy : (T : List Item) → Holds T x (box 0) → (y : Oref) (o : Obj) → copy_of_x y ≡ Some o → Holds T y o
each_copy T h y o is = let k = one_copy y o is in subst (λ z. Holds T z o) (sym k.0) (subst (Holds T x) k.1 h)

none_since : OthersSince 2 1 (writers home (entries fetched) x)
none_since = All-nil (λ c. 1 ≤ c.0 → nat_eq c.1.session 2 ≡ false)

-- the page was taken
page_taken : (i k : ℕ) → 1 ≤ i → slice_get (Page 0 1 ∷ []) i ≡ Some (Page 0 k) → 1 ≤ k
page_taken zero k l e = absurd (low l)
  where
    low : 1 ≤ 0 → ⊥
    low h = omega arith
page_taken (suc i) k l e = cc

right : IsSomeAnd (session home fetched 2) (λ v. RightAt home (entries fetched) 2 v x (box 0) 1)
right = record { unknown = omega arith; there = omega arith; cached = omega arith; value = refl; others = none_since; before = page_taken }

unsettled : {A : Type 0} → false ≡ true → A
unsettled e = cc

pub taken : FitsAt 2 home Calm fetched nothing_committed (keeping 1 copy_of_x)
taken = record {
  v = _;
  there = refl;
  own = refl;
  keeps = λ _ _. record {
    known = refl;
    step = record { taken = omega arith; acked = omega arith };
    asked = omega arith;
    copies = λ _. record {
      current = λ y o here is. each_copy fetched (inl (1, right), refl) y o is;
      own = λ y o d t w here own is. unsettled own.settled;
      pages = All-nil (StaysRight home (entries fetched) 2 nothing_committed);
    };
  };
}

since_then : OthersSince 2 1 (writers home (entries written_since) x)
since_then = All-cons (λ c. 1 ≤ c.0 → nat_eq c.1.session 2 ≡ false) (2, setting_x 2 7) [] (λ l. refl) (All-nil (λ c. 1 ≤ c.0 → nat_eq c.1.session 2 ≡ false))

taken_then : (i k : ℕ) → 1 ≤ i → slice_get (Page 0 1 ∷ Invalid (x ∷ []) 2 ∷ []) i ≡ Some (Page 0 k) → 1 ≤ k
taken_then zero k l e = absurd (low l)
  where
    low : 1 ≤ 0 → ⊥
    low h = omega arith
taken_then (suc zero) k l e = cc
taken_then (suc (suc i)) k l e = cc

right_then : IsSomeAnd (session home written_since 2) (λ v. RightAt home (entries written_since) 2 v x (box 0) 1)
right_then = record { unknown = omega arith; there = omega arith; cached = omega arith; value = refl; others = since_then; before = taken_then }

pub written : FitsAt 2 home Calm written_since nothing_committed (keeping 1 copy_of_x)
written = record {
  v = _;
  there = refl;
  own = refl;
  keeps = λ _ _. record {
    known = refl;
    step = record { taken = omega arith; acked = omega arith };
    asked = omega arith;
    copies = λ _. record {
      current = λ y o here is. each_copy written_since (inl (1, right_then), refl) y o is;
      own = λ y o d t w here own is. unsettled own.settled;
      pages = All-cons (StaysRight home (entries written_since) 2 nothing_committed) (Invalid (x ∷ []) 2) [] tt (All-nil (StaysRight home (entries written_since) 2 nothing_committed));
    };
  };
}

pub dropped : FitsAt 2 home Calm invalid_taken nothing_committed (keeping 3 no_copy)
dropped = record {
  v = _;
  there = refl;
  own = refl;
  keeps = λ _ _. record {
    known = refl;
    step = record { taken = omega arith; acked = omega arith };
    asked = omega arith;
    copies = λ _. record {
      current = λ y o here is. cc;
      own = λ y o d t w here own is. cc;
      pages = All-nil (StaysRight home (entries invalid_taken) 2 nothing_committed);
    };
  };
}

pub gone : FitsAt 2 home Calm restarted nothing_committed (keeping 1 copy_of_x)
gone = record { v = _; there = refl; own = refl; keeps = λ _ l. unsettled l }

-- ---- what doesn't fit

-- the number that an object's first field is
abbrev number_of : ℤ → ℕ
number_of (pos n) = n
number_of (negsuc n) = 0

abbrev first_of : List Value → ℕ
first_of [] = 0
first_of (Int z ∷ vs) = number_of z
first_of (Ref y ∷ vs) = 0
first_of (Null ∷ vs) = 0
first_of (Text w ∷ vs) = 0

abbrev number_in : Option Obj → ℕ
number_in None = 0
number_in (Some o) = first_of o.fields

not_written : Some (box 7) ≡ Some (box 0) → ⊥
not_written e = let f : ◌≡◌ {A = ℕ} 7 0 = ap number_in e in cc

three_one : ◌≡◌ {A = ℕ} 3 1 → ⊥
three_one e = cc

one_two : ◌≡◌ {A = ℕ} 1 2 → ⊥
one_two e = cc

-- what holds of a session of a trace
session_is : (T : List Item) (P : Session → Type 0) (upto : ℕ) (copies : Copies) (c : ℕ) (h : FitsAt c home Calm T nothing_committed (keeping upto copies)) → IsSomeAnd (session home T 2) P → P h.v
session_is T P upto copies c h p = some_at P (session home T 2) h.v h.there p

keeps_up : (T : List Item) (upto : ℕ) (copies : Copies) (c : ℕ) (h : FitsAt c home Calm T nothing_committed (keeping upto copies)) → IsSomeAnd (session home T 2) (λ v. session_lives v ≡ true) → KeepsUp home T nothing_committed h.v (keeping upto copies)
keeps_up T upto copies c h live = h.keeps refl (session_is T (λ v. session_lives v ≡ true) upto copies c h live)

pub early : ¬ FitsAt 2 home Calm written_since nothing_committed (keeping 3 no_copy)
early h =
    let k = keeps_up written_since 3 no_copy 2 h refl in
    let u : upto_of h.v ≡ 1 = session_is written_since (λ v. upto_of v ≡ 1) 3 no_copy 2 h refl in
    three_one (k.known ∙ u)

pub late : ¬ FitsAt 2 home Calm invalid_taken nothing_committed (keeping 1 no_copy)
late h =
    let k = keeps_up invalid_taken 1 no_copy 2 h refl in
    let u : upto_of h.v ≡ 3 = session_is invalid_taken (λ v. upto_of v ≡ 3) 1 no_copy 2 h refl in
    three_one (sym (k.known ∙ u))

pub other : ¬ FitsAt 1 home Calm fetched nothing_committed (keeping 1 copy_of_x)
other h =
    let u : h.v.client ≡ 2 = session_is fetched (λ v. v.client ≡ 2) 1 copy_of_x 1 h refl in
    one_two (sym h.own ∙ u)

pub stale : ¬ FitsAt 2 home Calm invalid_taken nothing_committed (keeping 3 copy_of_x)
stale h = by ((k.copies refl).current x (box 0) refl refl).0
  where
    k : KeepsUp home invalid_taken nothing_committed h.v (keeping 3 copy_of_x)
    k = keeps_up invalid_taken 3 copy_of_x 2 h refl

    u : upto_of h.v ≡ 3
    u = session_is invalid_taken (λ v. upto_of v ≡ 3) 3 copy_of_x 2 h refl

    only : (m : ℕ) → 3 ≤ m → m ≤ 3 → m ≡ 3
    only m l g = omega arith

    by : IsCurrent home (entries invalid_taken) 2 h.v nothing_committed x (box 0) → ⊥
    by (inl r) =
        let m : r.0 ≡ 3 = only r.0 (subst (λ (n : ℕ). n ≤ r.0) u r.1.unknown) r.1.there in
        not_written (ap (λ (n : ℕ). get (objects_at home (entries invalid_taken) n) x) (sym m) ∙ r.1.value)
    by (inr y) = unsettled y.2.settled

pub newer : ¬ FitsAt 2 home Calm page_waits nothing_committed (awaiting newer_of_x)
newer h = by ((k.copies refl).current x (box 7) refl refl).0
  where
    of_session : (P : Session → Type 0) → IsSomeAnd (session home page_waits 2) P → P h.v
    of_session P p = some_at P (session home page_waits 2) h.v h.there p

    k : KeepsUp home page_waits nothing_committed h.v (awaiting newer_of_x)
    k = h.keeps refl (of_session (λ v. session_lives v ≡ true) refl)

    u : upto_of h.v ≡ 1
    u = of_session (λ v. upto_of v ≡ 1) refl

    first : slice_get h.v.sent 0 ≡ Some (Page 0 1)
    first = of_session (λ v. slice_get v.sent 0 ≡ Some (Page 0 1)) refl

    none : h.v.taken ≡ 0
    none = of_session (λ v. v.taken ≡ 0) refl

    low : (n : ℕ) → n ≡ 0 → n ≤ 0
    low n e = omega arith

    only : (m : ℕ) → 1 ≤ m → m ≤ 1 → m ≡ 1
    only m l g = omega arith

    by : IsCurrent home (entries page_waits) 2 h.v nothing_committed x (box 7) → ⊥
    by (inl r) =
        let m : r.0 ≡ 1 = only r.0 (subst (λ (n : ℕ). n ≤ r.0) u r.1.unknown) (r.1.before 0 1 (low h.v.taken none) first) in
        not_written (sym (ap (λ (n : ℕ). get (objects_at home (entries page_waits) n) x) (sym m) ∙ r.1.value))
    by (inr y) = unsettled y.2.settled
