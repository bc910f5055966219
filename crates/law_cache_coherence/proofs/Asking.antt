-- A client that connects, and one that asks for a page.
use Rattle.law_cache_coherence.proofs.Passing.{IsFinishing, IsPassive, answers_in, behind, goes_on, keeps_on, list_of, same_client, was_live}
use Rattle.law_cache_coherence.specs.Fitting.{Copies, FitsAt, HoldsNone, Kept, NoneToFinish, StaysRight, one_if, replies}
use Rattle.log_entries.specs.declared.entry.Entry.{Entry}
use Rattle.spec_history.proofs.Growth.{length-state}
use Rattle.spec_history.specs.History.{Base, known_by, state, writers}
use Rattle.spec_history.specs.Sound.{sound}
use Rattle.client_port.specs.Views.{Calm}
use Rattle.spec_trace.proofs.Sessions.{session-end}
use Rattle.spec_trace.proofs.Taken.{after-mark}
use Rattle.spec_trace.proofs.Told.{writers-below}
use Rattle.spec_trace.specs.Current.{InStep, NoneAborted, OthersSince, is_taking}
use Rattle.spec_trace.specs.Session.{Grant, Invalid, Notice, Page, Upgrade, acked_after, begun, move, notice, session, upto_of}
use Rattle.spec_trace.specs.Trace.{Item, M, entries}
use Rattle.spec_trace.specs.declared.mark.Mark.TheVariants as the
use Rattle.spec_trace.specs.declared.mark.Mark.{Mark}
use Rattle.std.proofs.Common.{Bool, List, [], ap, arith, cond, false, length, refl, subst, sym, true, ◌++◌, ◌<◌, ◌∙◌, ◌∷◌, ◌≡◌, ◌≤◌, ℕ}
use Rattle.std.proofs.lemmas.Bool.Decides.{nat_tests}
use Rattle.std.proofs.lemmas.List.Elements.{All-cons, All-nil}
use Rattle.std.specs.List.{All}
use Rattle.std.specs.Option.{option_map}
use Rattle.std.specs.Prelude.{None, Option, Some, max, nat_eq}
use Rattle.thor_value.specs.declared.names.Oref.{Oref}
use Rattle.thor_value.specs.declared.names.Ts.{Ts}

pub same_number : (n : ℕ) → nat_eq n n ≡ true
same_number n = grind (arith, nat_tests)

zero_low : (n : ℕ) → 0 ≤ n
zero_low n = omega arith

-- a client of a new session, which holds nothing
pub fits_begun : (c : ℕ) (b : Base) (T : List Item) (committed : Ts → Bool) (s place : ℕ) (copies : Copies) → place ≡ length (entries T) → HoldsNone b copies
    → FitsAt c b Calm (T ++ M (the.Connected s c) ∷ []) committed (record { session = s; upto = place; awaits = false; copies = copies })
fits_begun c b T committed s place copies known none = record {
  v = begun c (state b (entries T)).length;
  there = session-end b T (M (the.Connected s c)) s ∙ ap (λ (t : Bool). cond t (Some (begun c (state b (entries T)).length)) (option_map (move b s (state b (entries T)) (M (the.Connected s c))) (session b T s))) (same_number s);
  own = refl;
  keeps = λ _ _. record {
    known = known ∙ sym (length-state b (entries T));
    step = record { taken = zero_low 0; acked = zero_low (state b (entries T)).length };
    asked = zero_low 0;
    copies = λ _. record {
      current = λ x o here copy. let e : None ≡ Some o = sym (none x here) ∙ copy in cc;
      own = λ x o d t w here own copy. let e : None ≡ Some o = sym (none x here) ∙ copy in cc;
      pages = All-nil (StaysRight b (entries (T ++ M (the.Connected s c) ∷ [])) s committed);
    };
  };
}

-- ---- marks

module _ (c : ℕ) (b : Base) (T : List Item) (committed : Ts → Bool) (kept : Kept) (m : Mark) (sd : sound b (entries T)) (none : NoneAborted b (entries T) committed) (h : FitsAt c b Calm T committed kept) where
  sd_then : sound b (entries (T ++ M m ∷ []))
  sd_then = subst (sound b) (sym (after-mark b T m)) sd

  none_then : NoneAborted b (entries (T ++ M m ∷ [])) committed
  none_then = subst (λ (H : List Entry). NoneAborted b H committed) (sym (after-mark b T m)) none

  -- a mark at which the session takes nothing and acknowledges no more than is known is passive
  passive_mark : is_taking kept.session (M m) ≡ false → acked_after kept.session h.v.acked (M m) ≤ upto_of h.v → IsPassive b T kept.session h.v committed (M m)
  passive_mark taking acked = record {
    taking = taking;
    acked = acked;
    commits = All-nil (λ c. nat_eq c.1.session kept.session ≡ true → IsFinishing b (entries T) committed c.1);
    fresh = λ t w is open' own settled none. let e : None ≡ Some w = sym none ∙ ap (λ (H : List Entry). known_by b H t) (sym (after-mark b T m)) ∙ is in cc;
  }

  pub fits_marked : is_taking kept.session (M m) ≡ false → acked_after kept.session h.v.acked (M m) ≡ h.v.acked → answers_in (notice b kept.session (state b (entries T)) h.v.pages (M m)) ≡ [] → FitsAt c b Calm (T ++ M m ∷ []) committed kept
  fits_marked taking acked plain = record {
    v = move b kept.session (state b (entries T)) (M m) h.v;
    there = behind b T (M m) kept.session h.v h.there taking;
    own = same_client b kept.session (state b (entries T)) (M m) h.v ∙ h.own;
    keeps = λ _ live.
        let k = h.keeps refl (was_live b kept.session (state b (entries T)) (M m) h.v live) in
        keeps_on b T (M m) kept.session h.v committed h.there (passive_mark taking (subst (λ (n : ℕ). n ≤ upto_of h.v) (sym acked) k.step.acked)) sd_then kept refl live plain none_then k;
  }

  -- an answer that was asked for
  pub fits_asked : is_taking kept.session (M m) ≡ false → kept.awaits ≡ false
      → (InStep h.v → kept.upto ≡ upto_of h.v → acked_after kept.session h.v.acked (M m) ≤ upto_of h.v)
      → (n : Notice) → notice b kept.session (state b (entries T)) h.v.pages (M m) ≡ Some n → StaysRight b (entries (T ++ M m ∷ [])) kept.session committed n
      → FitsAt c b Calm (T ++ M m ∷ []) committed (record kept { awaits = true })
  fits_asked taking idle acked n sends right = record {
    v = move b kept.session (state b (entries T)) (M m) h.v;
    there = behind b T (M m) kept.session h.v h.there taking;
    own = same_client b kept.session (state b (entries T)) (M m) h.v ∙ h.own;
    keeps = λ _ live.
        let k = h.keeps refl (was_live b kept.session (state b (entries T)) (M m) h.v live) in
        goes_on b T (M m) kept.session h.v committed h.there (passive_mark taking (acked k.step k.known)) sd_then kept true refl live
        (subst (λ (o : Option Notice). All (StaysRight b (entries (T ++ M m ∷ [])) kept.session committed) (list_of o)) (sym sends) (All-cons (StaysRight b (entries (T ++ M m ∷ [])) kept.session committed) n [] right (All-nil (StaysRight b (entries (T ++ M m ∷ [])) kept.session committed))))
        (few k.asked) none_then k;
  }
    where
      no_more : (ms : List Notice) → length ms ≤ 0 → ms ≡ []
      no_more [] l = refl
      no_more (x ∷ xs) l = absurd (omega arith)

      at_most : (o : Option Notice) → length (answers_in o) ≤ 1
      at_most None = omega arith
      at_most (Some (Page page k)) = omega arith
      at_most (Some (Grant page k)) = omega arith
      at_most (Some (Invalid names k)) = omega arith
      at_most (Some (Upgrade number k)) = omega arith

      few : length (replies h.v) ≤ one_if kept.awaits → length (replies h.v ++ answers_in (notice b kept.session (state b (entries T)) h.v.pages (M m))) ≤ 1
      few l =
          let e : replies h.v ≡ [] = no_more (replies h.v) (subst (λ (t : Bool). length (replies h.v) ≤ one_if t) idle l) in
          subst (λ (ms : List Notice). length (ms ++ answers_in (notice b kept.session (state b (entries T)) h.v.pages (M m))) ≤ 1) (sym e) (at_most (notice b kept.session (state b (entries T)) h.v.pages (M m)))

module _ (c : ℕ) (b : Base) (T : List Item) (committed : Ts → Bool) (kept : Kept) (sd : sound b (entries T)) (none : NoneAborted b (entries T) committed) (h : FitsAt c b Calm T committed kept) where
  -- none has written x at or behind the present place
  none_since : (H : List Entry) (x : Oref) → OthersSince kept.session (length H) (writers b H x)
  none_since H x = λ k d l g. absurd (too_low _ _ (writers-below b H x k d l) g)
    where
      too_low : (n m : ℕ) → n < m → m ≤ n → ⊥
      too_low n m p q = omega arith

  acks : (upto : ℕ) → upto ≡ kept.upto → InStep h.v → kept.upto ≡ upto_of h.v → cond (nat_eq kept.session kept.session) (max h.v.acked upto) h.v.acked ≤ upto_of h.v
  acks upto same step known = subst (λ (t : Bool). cond t (max h.v.acked upto) h.v.acked ≤ upto_of h.v) (sym (same_number kept.session)) (let l = step.acked in omega arith)

  -- the page is asked for
  pub fits_fetched : (page : ℕ) → kept.awaits ≡ false → NoneToFinish b (entries T) kept.session committed → FitsAt c b Calm (T ++ M (the.Fetched kept.session page kept.upto) ∷ []) committed (record kept { awaits = true })
  fits_fetched page idle settled =
      fits_asked c b T committed kept (the.Fetched kept.session page kept.upto) sd none h refl idle (acks kept.upto refl) (Page page (state b (entries T)).length)
      (ap (λ (t : Bool). cond t (Some (Page page (state b (entries T)).length)) None) (same_number kept.session))
      (λ x on. (
        subst (λ (n : ℕ). OthersSince kept.session n (writers b (entries (T ++ M (the.Fetched kept.session page kept.upto) ∷ [])) x)) (sym (length-state b (entries T)))
            (subst (λ (H : List Entry). OthersSince kept.session (length (entries T)) (writers b H x)) (sym (after-mark b T (the.Fetched kept.session page kept.upto))) (none_since (entries T) x)),
        λ d t w own.
            let is : known_by b (entries T) t ≡ Some w = ap (λ (H : List Entry). known_by b H t) (sym (after-mark b T (the.Fetched kept.session page kept.upto))) ∙ own.there in
            let e : false ≡ true = sym (settled t w is own.open' own.own) ∙ own.settled in cc,
      ))

  -- a page of names is asked for
  pub fits_granted : (page : ℕ) → kept.awaits ≡ false → FitsAt c b Calm (T ++ M (the.Granted kept.session page) ∷ []) committed (record kept { awaits = true })
  fits_granted page idle =
      fits_asked c b T committed kept (the.Granted kept.session page) sd none h refl idle (λ step known. step.acked) (Grant page (state b (entries T)).length)
      (ap (λ (t : Bool). cond t (Some (Grant page (state b (entries T)).length)) None) (same_number kept.session)) tt
