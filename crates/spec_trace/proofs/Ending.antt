-- Why a session isn't live: a Life, a newer session of its client, or news that its client left unacknowledged.
use Rattle.log_entries.specs.declared.entry.Entry.TheVariants.{Decided, Finished, Life, One, Prepared, Upgraded}
use Rattle.log_entries.specs.declared.entry.Entry.{Entry}
use Rattle.spec_history.proofs.Listed.{get_before, get_end}
use Rattle.spec_history.specs.History.{Base, state}
use Rattle.spec_trace.proofs.Exactness.{by_items, came-end, numbered}
use Rattle.spec_trace.proofs.Traces.{entries-append}
use Rattle.spec_trace.specs.Calls.{last_session}
use Rattle.spec_trace.specs.Exact.{ItemIsExact, exact}
use Rattle.spec_trace.specs.Session.{Ended, Live, Session, is_live, is_silent, lives_on, move, moved, or_retired, rested, retired, session, session_lives, unanswered}
use Rattle.spec_trace.specs.Sessions.{ByLife, ByNewer, BySilence, IsGoneBy}
use Rattle.spec_trace.specs.Trace.{E, Item, M, entries}
use Rattle.spec_trace.specs.declared.mark.Mark.TheVariants as the
use Rattle.std.proofs.Common.{Bool, List, [], ap, arith, cond, false, inl, inr, length, nat_eq, refl, subst, sym, true, ◌++◌, ◌<◌, ◌∙◌, ◌∷◌, ◌≡◌, ◌≤◌, ℕ}
use Rattle.std.proofs.lemmas.Bool.Decides.{nat_tests}
use Rattle.std.proofs.lemmas.Bool.{eqb-true}
use Rattle.std.proofs.lemmas.Option.{slice_get_within}
use Rattle.std.specs.List.{slice_get}
use Rattle.std.specs.Prelude.{None, Option, Some, nat_lt}

get_earlier : {X : Type 0} (xs ys : List X) (k : ℕ) (x : X) → slice_get xs k ≡ Some x → slice_get (xs ++ ys) k ≡ Some x
get_earlier xs ys k x h = get_before xs ys k (slice_get_within xs k x h) ∙ h

is_below : (m n : ℕ) → nat_lt m n ≡ true → m < n
is_below m n h = grind (arith, nat_tests)

module _ (b : Base) where
  abbrev HasCause : List Item → Type 0
  HasCause T = (s : ℕ) (v : Session) → session b T s ≡ Some v → session_lives v ≡ false → IsGoneBy b T s v

  -- a cause stays one
  stays : (T : List Item) (i : Item) (s : ℕ) (v : Session) → IsGoneBy b T s v → IsGoneBy b (T ++ i ∷ []) s (rested v i)
  stays T i s v (ByLife m n is l) =
      ByLife m n (ap (λ (H : List Entry). slice_get H m) (entries-append T (i ∷ [])) ∙ get_earlier (entries T) (entries (i ∷ [])) m (Life n) is) l
  stays T i s v (ByNewer m n is l) = ByNewer m n (get_earlier T (i ∷ []) m (M (the.Connected n v.client)) is) l
  stays T i s v (BySilence n f l) = BySilence n f l

  -- an item that ends a session of the client
  ends : (T : List Item) (i : Item) (s : ℕ) (w : Session) → ItemIsExact b T i → s ≤ last_session T → w.began ≤ length (entries T) → lives_on w.client i ≡ false → IsGoneBy b (T ++ i ∷ []) s w
  ends T (E (Life n)) s w x low began h =
      ByLife (length (entries T)) n (ap (λ (H : List Entry). slice_get H (length (entries T))) (entries-append T (E (Life n) ∷ [])) ∙ get_end (entries T) (Life n)) began
  ends T (E (One q)) s w x low began h = cc
  ends T (E (Prepared q)) s w x low began h = cc
  ends T (E (Decided t c)) s w x low began h = cc
  ends T (E (Finished t c)) s w x low began h = cc
  ends T (E (Upgraded q)) s w x low began h = cc
  ends T (M (the.Connected n c)) s w x low began h =
      let its : nat_eq c w.client ≡ true = by (nat_eq c w.client) h in
      let above : last_session T < n = x.0 in
      ByNewer (length T) n (subst (λ (k : ℕ). slice_get (T ++ M (the.Connected n c) ∷ []) (length T) ≡ Some (M (the.Connected n k))) (eqb-true c w.client its) (get_end T (M (the.Connected n c)))) (omega (arith, low, above))
    where
      by : (t : Bool) → cond t false true ≡ false → t ≡ true
      by true e = refl
      by false e = cc
  ends T (M (the.Fetched n page upto)) s w x low began h = cc
  ends T (M (the.Granted n page)) s w x low began h = cc
  ends T (M (the.Took n k)) s w x low began h = cc
  ends T (M (the.Drew n t)) s w x low began h = cc
  ends T (M (the.Forgot t)) s w x low began h = cc
  ends T (M (the.Refused n q r)) s w x low began h = cc

  -- more news than may be left
  too_many : (T : List Item) (s : ℕ) (w : Session) (o : Option ℕ) → b.silence ≡ o → is_silent o w ≡ true → IsGoneBy b T s (record w { stage = retired w.stage })
  too_many T s w None f e = cc
  too_many T s w (Some n) f e = BySilence n f (is_below n (unanswered w) e)

  -- a session that was live before the item
  was_live : (T : List Item) (i : Item) (s : ℕ) (v : Session) → ItemIsExact b T i → s ≤ last_session T → v.began ≤ length (entries T) → session_lives v ≡ true
      → session_lives (move b s (state b (entries T)) i v) ≡ false → IsGoneBy b (T ++ i ∷ []) s (move b s (state b (entries T)) i v)
  was_live T i s v x low began live gone =
      subst (IsGoneBy b (T ++ i ∷ []) s) (sym same) (by (is_silent b.silence w) refl (sym (ap session_lives same) ∙ gone))
    where
      w : Session
      w = moved b s (state b (entries T)) v i

      same : move b s (state b (entries T)) i v ≡ or_retired b w
      same = ap (λ (t : Bool). cond t (or_retired b w) (rested v i)) live

      unlive : (t : Bool) → is_live (cond t Live Ended) ≡ false → t ≡ false
      unlive true e = cc
      unlive false e = refl

      by : (t : Bool) → is_silent b.silence w ≡ t → session_lives (cond t (record w { stage = retired w.stage }) w) ≡ false → IsGoneBy b (T ++ i ∷ []) s (cond t (record w { stage = retired w.stage }) w)
      by true e h = too_many (T ++ i ∷ []) s w b.silence refl e
      by false e h = ends T i s w x low began (unlive (lives_on v.client i) h)

  moves_on : (T : List Item) (i : Item) → exact b T → HasCause T → ItemIsExact b T i → (s : ℕ) (v : Session) → session b T s ≡ Some v
      → session_lives (move b s (state b (entries T)) i v) ≡ false → IsGoneBy b (T ++ i ∷ []) s (move b s (state b (entries T)) i v)
  moves_on T i x before owed s v is gone = by (session_lives v) refl
    where
      by : (t : Bool) → session_lives v ≡ t → IsGoneBy b (T ++ i ∷ []) s (move b s (state b (entries T)) i v)
      by true l = was_live T i s v owed ((numbered b T x).known s v is) ((numbered b T x).began s v is).1 l gone
      by false l =
          subst (IsGoneBy b (T ++ i ∷ []) s) (sym (ap (λ (t : Bool). cond t (or_retired b (moved b s (state b (entries T)) v i)) (rested v i)) l)) (stays T i s v (before s v is l))

  grows : (T : List Item) (i : Item) → exact b T → HasCause T → ItemIsExact b T i → HasCause (T ++ i ∷ [])
  grows T i x before owed s w h gone = elim (came-end b T i s w h) [
    | inl a ↦ let no : true ≡ false = sym (ap session_lives a.2) ∙ gone in cc
    | inr a ↦ subst (IsGoneBy b (T ++ i ∷ []) s) (sym a.2) (moves_on T i x before owed s a.0 a.1 (sym (ap session_lives a.2) ∙ gone))
  ]

  pub ended_for_a_cause : (T : List Item) (s : ℕ) (v : Session) → exact b T → session b T s ≡ Some v → session_lives v ≡ false → IsGoneBy b T s v
  ended_for_a_cause T s v h = by_items b HasCause (λ s v h. cc) grows T h s v
