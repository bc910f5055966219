-- A client that takes a message.
use Rattle.law_cache_coherence.proofs.Passing.{same_client}
use Rattle.law_cache_coherence.specs.Fitting.{Copies, CopiesFit, FitsAt, KeepsUp, Kept, SameCopies, StaysRight, awaits_behind, behind_message, one_if, replies}
use Rattle.log_entries.specs.declared.entry.Entry.{Entry}
use Rattle.spec_history.specs.History.{Base, Known, objects_at, state}
use Rattle.spec_history.specs.Sound.{sound}
use Rattle.client_port.specs.Views.{Calm}
use Rattle.spec_trace.proofs.Sessions.{session-end}
use Rattle.spec_trace.proofs.Taken.{Took, after-mark, page-taken, step-taken, took}
use Rattle.spec_trace.proofs.Undecided.{current-taken}
use Rattle.spec_trace.specs.Current.{IsCurrent, IsOwnWrite, Takes, names_invalid}
use Rattle.spec_trace.specs.Session.{Grant, Invalid, Notice, Page, Session, Upgrade, bound, is_news, meet, move, place_of, session, session_lives, waiting}
use Rattle.spec_trace.specs.Trace.{Item, M, entries}
use Rattle.spec_trace.specs.declared.mark.Mark.TheVariants as the
use Rattle.std.proofs.Common.{Bool, List, [], ap, arith, cond, drop, false, inl, length, refl, subst, suc, sym, true, zero, ◌+◌, ◌++◌, ◌∙◌, ◌∷◌, ◌≡◌, ◌≤◌, ℕ}
use Rattle.std.proofs.Math.Numerals.{suc-eq-add-one}
use Rattle.std.proofs.lemmas.Bool.{eqb-true}
use Rattle.std.proofs.lemmas.List.Elements.{All-head, All-tail}
use Rattle.std.specs.List.{All, filter, list_any, slice_get}
use Rattle.std.specs.Option.{IsSomeAnd, is_some}
use Rattle.std.specs.Prelude.{None, Option, Some, nat_eq, not, ◌&&◌}
use Rattle.thor_value.specs.FiniteMap.{get, has}
use Rattle.thor_value.specs.Names.{same_oref}
use Rattle.thor_value.specs.declared.names.Oref.{Oref}
use Rattle.thor_value.specs.declared.names.Ts.{Ts}
use Rattle.thor_value.specs.declared.values.Obj.{Obj}

-- ---- the messages that wait

next_waits : (n : ℕ) (ms : List Notice) (m : Notice) → slice_get ms n ≡ Some m → drop n ms ≡ m ∷ drop (suc n) ms
next_waits n [] m h = cc
next_waits zero (x ∷ xs) m h = let e : x ≡ m = cc in ap (λ (y : Notice). y ∷ xs) e
next_waits (suc n) (x ∷ xs) m h = next_waits n xs m h

there_is : (o : Option ℕ) (P : ℕ → Type 0) → IsSomeAnd o P → is_some o ≡ true
there_is None P h = absurd h
there_is (Some n) P h = refl

-- ---- behind the message

module _ (c : ℕ) (b : Base) (T : List Item) (committed : Ts → Bool) (kept : Kept) (m : Notice) (sd : sound b (entries T)) (h : FitsAt c b Calm T committed kept) (live : session_lives h.v ≡ true) (message : slice_get h.v.sent h.v.taken ≡ Some m) where
  abbrev i : Item
  i = M (the.Took kept.session (place_of m))

  abbrev w : Session
  w = move b kept.session (state b (entries T)) i h.v

  there : session b (T ++ i ∷ []) kept.session ≡ Some w
  there = session-end b T i kept.session ∙ ap (λ (u : Option Session). meet b kept.session (state b (entries T)) u i) h.there

  takes : Takes b T kept.session h.v w (place_of m) m
  takes = record { before = h.there; live = live; message = message; after = there }

  abbrev t : Took h.v w m
  t = took b T kept.session h.v w (place_of m) m takes

  waits : waiting h.v ≡ m ∷ waiting w
  waits =
      next_waits h.v.taken h.v.sent m message
      ∙ ap (λ (n : ℕ). m ∷ drop n h.v.sent) (suc-eq-add-one h.v.taken ∙ sym t.taken)
      ∙ ap (λ (ms : List Notice). m ∷ drop w.taken ms) (sym t.sent)

  same : entries (T ++ i ∷ []) ≡ entries T
  same = after-mark b T (the.Took kept.session (place_of m))

  fewer : (asked : Bool) → length (replies h.v) ≤ one_if asked → length (replies w) ≤ one_if (awaits_behind m asked)
  fewer asked l = by (is_news m) (subst (λ (ms : List Notice). length (filter (λ k. not (is_news k)) ms) ≤ one_if asked) waits l)
    where
      one : (asked : Bool) (n : ℕ) → n + 1 ≤ one_if asked → n ≤ 0
      one true n l = omega arith
      one false n l = omega arith

      by : (x : Bool) → length (cond (not x) (m ∷ replies w) (replies w)) ≤ one_if asked → length (replies w) ≤ one_if (x && asked)
      by true l = l
      by false l = one asked (length (replies w)) (omega arith)

  -- ---- the copies

  module _ (f : CopiesFit b (entries T) kept.session h.v committed kept.copies) where
    first : StaysRight b (entries T) kept.session committed m
    first = All-head (StaysRight b (entries T) kept.session committed) m (waiting w) (subst (All (StaysRight b (entries T) kept.session committed)) waits f.pages)

    rest : All (StaysRight b (entries (T ++ i ∷ [])) kept.session committed) (waiting w)
    rest = subst (λ (H : List Entry). All (StaysRight b H kept.session committed) (waiting w)) (sym same) (All-tail (StaysRight b (entries T) kept.session committed) m (waiting w) (subst (All (StaysRight b (entries T) kept.session committed)) waits f.pages))

    abbrev Right : Oref → Obj → Type 0
    Right x o = IsCurrent b (entries (T ++ i ∷ [])) kept.session w committed x o × (has w.pages x.page ≡ true)

    still : (x : Oref) (o : Obj) → x.repo ≡ b.repo → names_invalid x m ≡ false → kept.copies x ≡ Some o → Right x o
    still x o here unnamed copy =
        let y = f.current x o here copy in
        (current-taken b T kept.session h.v w (place_of m) m committed x o takes unnamed sd y.0, ap (λ p. has p x.page) t.pages ∙ y.1)

module _ (c : ℕ) (b : Base) (T : List Item) (committed : Ts → Bool) (kept : Kept) (sd : sound b (entries T)) (h : FitsAt c b Calm T committed kept) (live : session_lives h.v ≡ true) where
  -- what is current behind the message
  current : (m : Notice) (message : slice_get h.v.sent h.v.taken ≡ Some m) (f : CopiesFit b (entries T) kept.session h.v committed kept.copies)
      → (x : Oref) (o : Obj) → x.repo ≡ b.repo → behind_message b (entries T) m kept.copies x ≡ Some o → Right c b T committed kept m sd h live message f x o
  current (Page page k) message f x o here copy = by (nat_eq x.page page) refl copy
    where
      by : (t : Bool) → nat_eq x.page page ≡ t → cond t (get (objects_at b (entries T) k) x) (kept.copies x) ≡ Some o → Right c b T committed kept (Page page k) sd h live message f x o
      by true e copy =
          let on : x.page ≡ page = eqb-true x.page page e in
          let r = page-taken b T kept.session h.v (w c b T committed kept (Page page k) sd h live message) k page k x o (takes c b T committed kept (Page page k) sd h live message) on copy (first c b T committed kept (Page page k) sd h live message f x on).0 in
          (inl (k, r), there_is (get (w c b T committed kept (Page page k) sd h live message).pages x.page) (λ n. n ≤ k) r.cached)
      by false e copy = still c b T committed kept (Page page k) sd h live message f x o here refl copy
  current (Grant page k) message f x o here copy = by (nat_eq x.page page) copy
    where
      by : (t : Bool) → cond t None (kept.copies x) ≡ Some o → Right c b T committed kept (Grant page k) sd h live message f x o
      by true copy = cc
      by false copy = still c b T committed kept (Grant page k) sd h live message f x o here refl copy
  current (Invalid names k) message f x o here copy = by (list_any (same_oref x) names) refl copy
    where
      by : (t : Bool) → list_any (same_oref x) names ≡ t → cond t None (kept.copies x) ≡ Some o → Right c b T committed kept (Invalid names k) sd h live message f x o
      by true e copy = cc
      by false e copy = still c b T committed kept (Invalid names k) sd h live message f x o here e copy
  current (Upgrade number k) message f x o here copy = still c b T committed kept (Upgrade number k) sd h live message f x o here refl copy

  own : (m : Notice) (message : slice_get h.v.sent h.v.taken ≡ Some m) (f : CopiesFit b (entries T) kept.session h.v committed kept.copies)
      → (x : Oref) (o d : Obj) (t : Ts) (p : Known) → x.repo ≡ b.repo → IsOwnWrite b (entries T) kept.session committed x d t p → behind_message b (entries T) m kept.copies x ≡ Some o → o ≡ d
  own (Page page k) message f x o d t p here wrote copy = by (nat_eq x.page page) refl copy
    where
      by : (q : Bool) → nat_eq x.page page ≡ q → cond q (get (objects_at b (entries T) k) x) (kept.copies x) ≡ Some o → o ≡ d
      by true e copy = absurd ((first c b T committed kept (Page page k) sd h live message f x (eqb-true x.page page e)).1 d t p wrote)
      by false e copy = f.own x o d t p here wrote copy
  own (Grant page k) message f x o d t p here wrote copy = by (nat_eq x.page page) copy
    where
      by : (q : Bool) → cond q None (kept.copies x) ≡ Some o → o ≡ d
      by true copy = cc
      by false copy = f.own x o d t p here wrote copy
  own (Invalid names k) message f x o d t p here wrote copy = by (list_any (same_oref x) names) copy
    where
      by : (q : Bool) → cond q None (kept.copies x) ≡ Some o → o ≡ d
      by true copy = cc
      by false copy = f.own x o d t p here wrote copy
  own (Upgrade number k) message f x o d t p here wrote copy = f.own x o d t p here wrote copy

  -- a client that has taken the message, and has made of its copies what it brings
  pub fits_taken : (m : Notice) → slice_get h.v.sent h.v.taken ≡ Some m → (copies : Copies) → (b.tells ≡ true → SameCopies b copies (behind_message b (entries T) m kept.copies))
      → FitsAt c b Calm (T ++ M (the.Took kept.session (place_of m)) ∷ []) committed (record { session = kept.session; upto = bound m; awaits = awaits_behind m kept.awaits; copies = copies })
  fits_taken m message copies become =
      let k : KeepsUp b T committed h.v kept = h.keeps refl live in
      record {
        v = w c b T committed kept m sd h live message;
        there = there c b T committed kept m sd h live message;
        own = same_client b kept.session (state b (entries T)) (i c b T committed kept m sd h live message) h.v ∙ h.own;
        keeps = λ _ _. record {
          known = sym (t c b T committed kept m sd h live message).upto;
          step = step-taken b T kept.session h.v (w c b T committed kept m sd h live message) (place_of m) m (takes c b T committed kept m sd h live message) k.step;
          asked = fewer c b T committed kept m sd h live message kept.awaits k.asked;
          copies = λ tells. record {
            current = λ x o here copy. current m message (k.copies tells) x o here (sym (become tells x here) ∙ copy);
            own = λ x o d u p here wrote copy. own m message (k.copies tells) x o d u p here
                (subst (λ (H : List Entry). IsOwnWrite b H kept.session committed x d u p) (same c b T committed kept m sd h live message) wrote)
                (sym (become tells x here) ∙ copy);
            pages = rest c b T committed kept m sd h live message (k.copies tells);
          };
        };
      }
