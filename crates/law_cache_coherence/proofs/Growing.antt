-- What a client keeps fits what others make of a trace, and what comes of stops and restarts.
use Rattle.law_cache_coherence.proofs.Other.{passive, plain, taking}
use Rattle.law_cache_coherence.proofs.Passing.{behind, keeps_on, same_client, was_live}
use Rattle.law_cache_coherence.specs.Fitting.{Agrees, FitsAt, Kept}
use Rattle.log_entries.specs.declared.entry.Entry.TheVariants.{Decided, Finished, Life, One, Prepared, Upgraded}
use Rattle.log_entries.specs.declared.entry.Entry.{Entry}
use Rattle.spec_history.proofs.Growth.{sound-beginning}
use Rattle.spec_history.proofs.Places.{stays}
use Rattle.spec_history.specs.History.{Aborted, Base, Committed, Fate, IsCommitted, Known, Open, State, state}
use Rattle.spec_history.specs.Laws.{FateStays, Stays}
use Rattle.spec_history.specs.Sound.{sound}
use Rattle.client_port.specs.Growing.{ComesBeside, ComesDown, Gains, GainsAll, Grew, MayHalt}
use Rattle.client_port.specs.Views.{Calm, Halted, MayCome, Unsettled}
use Rattle.spec_trace.proofs.Exactness.{exact-beginning, exact-owed, move-lives}
use Rattle.spec_trace.proofs.Outlived.{none-aborted-back}
use Rattle.spec_trace.proofs.Traces.{entries-append}
use Rattle.spec_trace.specs.Exact.{ItemIsExact, exact}
use Rattle.spec_trace.specs.Gaps.{maker}
use Rattle.spec_trace.specs.Session.{Session, move, session_lives}
use Rattle.spec_trace.specs.Trace.{E, Item, M, entries}
use Rattle.spec_trace.specs.Current.{is_taking}
use Rattle.spec_trace.specs.declared.mark.Mark.{Mark}
use Rattle.std.proofs.Common.{Bool, List, [], append_assoc, false, inl, inr, refl, subst, sym, true, ℕ, ◌++◌, ◌∙◌, ◌∷◌, ◌≡◌, ◌≢◌}
use Rattle.std.proofs.lemmas.List.{append-nil}
use Rattle.std.specs.Prelude.{Some}
use Rattle.thor_value.specs.declared.names.Ts.{Ts}

-- ---- outcomes

committed_on : (f g : Fate) → FateStays f g → IsCommitted f → IsCommitted g
committed_on Open g s h = absurd h
committed_on (Committed a) Open s h = s
committed_on (Committed a) (Committed at) s h = tt
committed_on (Committed a) Aborted s h = s
committed_on Aborted g s h = absurd h

-- what agrees with a history agrees with its beginning
pub agrees_before : (b : Base) (H more : List Entry) (s : ℕ) (committed : Ts → Bool) → sound b (H ++ more) → Agrees b (H ++ more) s committed → Agrees b H s committed
agrees_before b H more s committed sd a = record {
  kept = none-aborted-back b H more committed sd a.kept;
  led = λ t o is own done.
      let y = stays b H more sd t o is in
      let st : Stays o y.0 = y.2 in
      a.led t y.0 y.1 (sym_session o y.0 st own) (committed_on o.fate y.0.fate st.fate done);
}
  where
    sym_session : (o w : Known) → Stays o w → o.request.session ≡ s → w.request.session ≡ s
    sym_session o w st e = subst (λ r. r.session ≡ s) (sym st.request) e

module _ (c : ℕ) (b : Base) (committed : Ts → Bool) (kept : Kept) where
  -- ---- one more item

  grown_other : (T : List Item) (i : Item) → maker b T i ≢ Some c → ItemIsExact b T i → sound b (entries (T ++ i ∷ [])) → Agrees b (entries (T ++ i ∷ [])) kept.session committed
      → FitsAt c b Calm T committed kept → FitsAt c b Calm (T ++ i ∷ []) committed kept
  grown_other T i other k sd a h = record {
    v = move b kept.session (state b (entries T)) i h.v;
    there = behind b T i kept.session h.v h.there (taking b c T kept.session h.v committed h.there h.own i other k);
    own = same_client b kept.session (state b (entries T)) i h.v ∙ h.own;
    keeps = λ calm live.
        let before = h.keeps refl (was_live b kept.session (state b (entries T)) i h.v live) in
        keeps_on b T i kept.session h.v committed h.there (passive b c T kept.session h.v committed h.there h.own i other k before.step.acked sd a) sd kept refl live (plain b c T kept.session h.v committed h.there h.own i other) a.kept before;
  }

  -- no session is live behind a Life
  dead : (s : ℕ) (S : State) (n : ℕ) (v : Session) → session_lives (move b s S (E (Life n)) v) ≡ true → ⊥
  dead s S n v h = let x : false ≡ true = (move-lives b s S (E (Life n)) v h).1 in cc

  -- an item behind which nothing is said of the client
  grown_apart : (u w : Unsettled) (T : List Item) (i : Item) (h : FitsAt c b u T committed kept) → is_taking kept.session i ≡ false → (w ≡ Calm → session_lives (move b kept.session (state b (entries T)) i h.v) ≡ true → ⊥) → FitsAt c b w (T ++ i ∷ []) committed kept
  grown_apart u w T i h quiet f = record {
    v = move b kept.session (state b (entries T)) i h.v;
    there = behind b T i kept.session h.v h.there quiet;
    own = same_client b kept.session (state b (entries T)) i h.v ∙ h.own;
    keeps = λ k l. absurd (f k l);
  }

  grown_entry : (u w : Unsettled) (T : List Item) (e : Entry) (h : FitsAt c b u T committed kept) → (w ≡ Calm → session_lives (move b kept.session (state b (entries T)) (E e) h.v) ≡ true → ⊥) → FitsAt c b w (T ++ E e ∷ []) committed kept
  grown_entry u w T e h f = grown_apart u w T (E e) h refl f

  grown_mark : (u w x : Unsettled) (T : List Item) (m : Mark) (h : FitsAt c b u T committed kept) → ComesBeside b c T (M m) x w → (x ≡ Calm → ⊥) → ItemIsExact b T (M m) → FitsAt c b w (T ++ M m ∷ []) committed kept
  grown_mark u w x T m h g apart k = grown_apart u w T (M m) h (taking b c T kept.session h.v committed h.there h.own (M m) g.0 k) (λ z l. apart (sym g.1 ∙ z))

  -- what isn't calm
  coming_stays : (e : Entry) → MayCome e ≡ Calm → ⊥
  coming_stays e f = cc

  halted_stays : Halted ≡ Calm → ⊥
  halted_stays f = cc

  not_calm : (w x : Unsettled) → w ≡ x → (x ≡ Calm → ⊥) → w ≡ Calm → ⊥
  not_calm w x e f g = f (sym e ∙ g)

  come_down : (e d : Entry) (T : List Item) (w : Unsettled) → ComesDown b c e T d w → w ≡ Calm → ⊥
  come_down e d T w h = elim h [
    | inl own ↦ not_calm w Halted own.1 halted_stays
    | inr other ↦ not_calm w (MayCome e) other.1 (coming_stays e)
  ]

  -- where nothing is unsettled, and where an own call had stopped
  pub grown_one : (u w : Unsettled) (T : List Item) (i : Item) → Gains b c u T i w → ItemIsExact b T i → sound b (entries (T ++ i ∷ [])) → Agrees b (entries (T ++ i ∷ [])) kept.session committed
      → FitsAt c b u T committed kept → FitsAt c b w (T ++ i ∷ []) committed kept
  grown_one Calm w T i g k sd a h = subst (λ (x : Unsettled). FitsAt c b x (T ++ i ∷ []) committed kept) (sym g.1) (grown_other T i g.0 k sd a h)
  grown_one (MayCome e) w T (M m) g k sd a h = grown_mark (MayCome e) w (MayCome e) T m h g (coming_stays e) k
  grown_one (MayCome e) w T (E (Life n)) g k sd a h = grown_entry (MayCome e) w T (Life n) h (λ _ l. dead kept.session (state b (entries T)) n h.v l)
  grown_one (MayCome e) w T (E (One q)) g k sd a h = grown_entry (MayCome e) w T (One q) h (λ z l. come_down e (One q) T w g z)
  grown_one (MayCome e) w T (E (Prepared q)) g k sd a h = grown_entry (MayCome e) w T (Prepared q) h (λ z l. come_down e (Prepared q) T w g z)
  grown_one (MayCome e) w T (E (Decided t d)) g k sd a h = grown_entry (MayCome e) w T (Decided t d) h (λ z l. come_down e (Decided t d) T w g z)
  grown_one (MayCome e) w T (E (Finished t d)) g k sd a h = grown_entry (MayCome e) w T (Finished t d) h (λ z l. come_down e (Finished t d) T w g z)
  grown_one (MayCome e) w T (E (Upgraded q)) g k sd a h = grown_entry (MayCome e) w T (Upgraded q) h (λ z l. come_down e (Upgraded q) T w g z)
  grown_one Halted w T (M m) g k sd a h = grown_mark Halted w Halted T m h g halted_stays k
  grown_one Halted w T (E (Life n)) g k sd a h = grown_entry Halted w T (Life n) h (λ _ l. dead kept.session (state b (entries T)) n h.v l)
  grown_one Halted w T (E (One q)) g k sd a h = grown_entry Halted w T (One q) h (λ z l. not_calm w Halted g.1 halted_stays z)
  grown_one Halted w T (E (Prepared q)) g k sd a h = grown_entry Halted w T (Prepared q) h (λ z l. not_calm w Halted g.1 halted_stays z)
  grown_one Halted w T (E (Decided t d)) g k sd a h = grown_entry Halted w T (Decided t d) h (λ z l. not_calm w Halted g.1 halted_stays z)
  grown_one Halted w T (E (Finished t d)) g k sd a h = grown_entry Halted w T (Finished t d) h (λ z l. not_calm w Halted g.1 halted_stays z)
  grown_one Halted w T (E (Upgraded q)) g k sd a h = grown_entry Halted w T (Upgraded q) h (λ z l. not_calm w Halted g.1 halted_stays z)

  -- where nothing comes another's call may have stopped the repository, and an entry may be lost
  halted_fits : (u w : Unsettled) (T : List Item) → (w ≡ Calm → ⊥) → FitsAt c b u T committed kept → FitsAt c b w T committed kept
  halted_fits u w T not h = record { v = h.v; there = h.there; own = h.own; keeps = λ f g. absurd (not f) }

  halting : (u w : Unsettled) (T : List Item) → MayHalt u w → FitsAt c b u T committed kept → FitsAt c b w T committed kept
  halting Calm Calm T m h = h
  halting Calm (MayCome e) T m h = absurd m
  halting Calm Halted T m h = halted_fits Calm Halted T (λ e. cc) h
  halting (MayCome e) Calm T m h = absurd m
  halting (MayCome e) (MayCome d) T m h = halted_fits (MayCome e) (MayCome d) T (λ f. cc) h
  halting (MayCome e) Halted T m h = halted_fits (MayCome e) Halted T (λ f. cc) h
  halting Halted Calm T m h = absurd m
  halting Halted (MayCome e) T m h = absurd m
  halting Halted Halted T m h = h

  grown_all : (u w : Unsettled) (T is : List Item) → GainsAll b c u T is w → exact b (T ++ is) → sound b (entries (T ++ is)) → Agrees b (entries (T ++ is)) kept.session committed
      → FitsAt c b u T committed kept → FitsAt c b w (T ++ is) committed kept
  grown_all u w T [] g k sd a h = subst (λ (S : List Item). FitsAt c b w S committed kept) (sym (append-nil T)) (halting u w T g h)
  grown_all u w T (i ∷ is) g k sd a h =
      let U : List Item = T ++ i ∷ [] in
      let again : U ++ is ≡ T ++ (i ∷ is) = append_assoc T (i ∷ []) is in
      let k' : exact b (U ++ is) = subst (exact b) (sym again) k in
      let sd' : sound b (entries (U ++ is)) = subst (λ (S : List Item). sound b (entries S)) (sym again) sd in
      let a' : Agrees b (entries (U ++ is)) kept.session committed = subst (λ (S : List Item). Agrees b (entries S) kept.session committed) (sym again) a in
      let split : entries (U ++ is) ≡ entries U ++ entries is = entries-append U is in
      let here : sound b (entries U ++ entries is) = subst (sound b) split sd' in
      let one = grown_one u g.0 T i g.1 (exact-owed b T i (exact-beginning b U is k')) (sound-beginning b (entries U) (entries is) here)
      (agrees_before b (entries U) (entries is) kept.session committed here (subst (λ H. Agrees b H kept.session committed) split a')) h in
      subst (λ (S : List Item). FitsAt c b w S committed kept) again (grown_all g.0 w U is g.2 k' sd' a' one)

  pub grown : (u w : Unsettled) (T S : List Item) → Grew b c u T w S → exact b S → sound b (entries S) → Agrees b (entries S) kept.session committed → FitsAt c b u T committed kept → FitsAt c b w S committed kept
  grown u w T S g k sd a h =
      subst (λ (Z : List Item). FitsAt c b w Z committed kept) (sym g.ends)
      (grown_all u w T g.gap g.gains (subst (exact b) g.ends k) (subst (λ Z. sound b (entries Z)) g.ends sd) (subst (λ Z. Agrees b (entries Z) kept.session committed) g.ends a) h)
