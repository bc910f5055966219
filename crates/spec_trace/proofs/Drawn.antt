-- A timestamp is drawn once: times rise within a life, and lives rise.
use Rattle.log_entries.specs.declared.entry.Entry.TheVariants.{Decided, Finished, Life, One, Prepared, Upgraded}
use Rattle.log_entries.specs.declared.entry.Entry.{Entry}
use Rattle.spec_history.proofs.Growth.{owed-end, sound-beginning, state-end}
use Rattle.spec_history.proofs.Listed.{end_cases}
use Rattle.spec_history.proofs.Lives.{life-put}
use Rattle.spec_history.specs.History.{Base, State, is_life, start, state}
use Rattle.spec_history.specs.Sound.{owes, sound}
use Rattle.spec_trace.proofs.Exactness.{by_items}
use Rattle.spec_trace.proofs.Sessions.{passed, passed-entries}
use Rattle.spec_trace.proofs.Taken.{after-mark}
use Rattle.spec_trace.proofs.Traces.{entries-append}
use Rattle.spec_trace.specs.Calls.{drawn_after, drawn_from, drawn_time, last_drawn}
use Rattle.spec_trace.specs.Exact.{IsDrawn, IsLiveAnd, ItemIsExact, exact}
use Rattle.spec_trace.specs.Session.{Session, pass, session, session_lives}
use Rattle.spec_trace.specs.Trace.{E, Item, M, entries}
use Rattle.spec_trace.specs.declared.mark.Mark.TheVariants as the
use Rattle.spec_trace.specs.declared.mark.Mark.{Mark}
use Rattle.std.proofs.Common.{List, [], ap, arith, cond, inl, inr, refl, subst, sym, true, ℕ, ◌+◌, ◌++◌, ◌<◌, ◌≡◌, ◌≤◌, ◌∙◌, ◌∷◌}
use Rattle.std.specs.List.{slice_get}
use Rattle.std.specs.Option.{IsSomeAnd}
use Rattle.std.specs.Prelude.{None, Option, Some}
use Rattle.thor_value.specs.declared.names.Ts.{Ts}

module _ (b : Base) where
  drawn-from-end : (S : State) (last : ℕ) (is : List Item) (i : Item) → drawn_from b S last (is ++ i ∷ []) ≡ drawn_after (passed b S is) (drawn_from b S last is) i
  drawn-from-end S last [] i = refl
  drawn-from-end S last (j ∷ is) i = drawn-from-end (pass b S j) (drawn_after S last j) is i

  drawn-end : (T : List Item) (i : Item) → last_drawn b (T ++ i ∷ []) ≡ drawn_after (state b (entries T)) (last_drawn b T) i
  drawn-end T i = drawn-from-end (start b) b.top.time T i ∙ ap (λ (S : State). drawn_after S (last_drawn b T) i) (passed-entries b (start b) T)

  life : List Item → ℕ
  life T = (state b (entries T)).life

  life-mark : (T : List Item) (m : Mark) → life (T ++ M m ∷ []) ≡ life T
  unfolding life
  life-mark T m = ap (λ (H : List Entry). (state b H).life) (after-mark b T m)

  life-entry : (T : List Item) (e : Entry) → owes b (state b (entries T)) e → life (T ++ E e ∷ []) ≡ life T + cond (is_life e) 1 0
  unfolding life
  life-entry T e ow = ap (λ (H : List Entry). (state b H).life) (entries-append T (E e ∷ [])) ∙ ap (λ (S : State). S.life) (state-end b (entries T) e) ∙ life-put b (state b (entries T)) e ow

  -- a live session's part
  of-live : (T : List Item) (s : ℕ) (P : Type 0) → IsLiveAnd b T s (λ v. P) → P
  of-live T s P h = by (session b T s) h
    where
      by : (o : Option Session) → IsSomeAnd o (λ v. (session_lives v ≡ true) × P) → P
      by None k = absurd k
      by (Some v) k = k.1

  above : (now last floor n : ℕ) → n ≡ drawn_time now last floor → last < n
  above now last floor n e = omega arith

  -- what was drawn is of this life or of one before, and in this life not above the last time
  record Past (T : List Item) (t : Ts) : Type 0 where
    low : t.life ≤ life T
    time : t.life ≡ life T → t.time ≤ last_drawn b T

  same-past : (T : List Item) (i : Item) (t : Ts) → life (T ++ i ∷ []) ≡ life T → last_drawn b (T ++ i ∷ []) ≡ last_drawn b T → Past T t → Past (T ++ i ∷ []) t
  same-past T i t l d p = let low = p.low in record { low = omega arith; time = λ e. let k = p.time (e ∙ l) in omega arith }

  past-on : (T : List Item) (i : Item) (t : Ts) → (((e : Entry) → i ≡ E e → owes b (state b (entries T)) e)) → ItemIsExact b T i → Past T t → Past (T ++ i ∷ []) t
  past-on T (E (Life n)) t ow k p = let l = life-entry T (Life n) (ow (Life n) refl) in let low = p.low in record { low = omega arith; time = λ e. absurd (omega arith) }
  past-on T (E (One q)) t ow k p = same-past T (E (One q)) t (let l = life-entry T (One q) (ow (One q) refl) in omega arith) (drawn-end T (E (One q))) p
  past-on T (E (Prepared q)) t ow k p = same-past T (E (Prepared q)) t (let l = life-entry T (Prepared q) (ow (Prepared q) refl) in omega arith) (drawn-end T (E (Prepared q))) p
  past-on T (E (Decided u c)) t ow k p = same-past T (E (Decided u c)) t (let l = life-entry T (Decided u c) (ow (Decided u c) refl) in omega arith) (drawn-end T (E (Decided u c))) p
  past-on T (E (Finished u c)) t ow k p = same-past T (E (Finished u c)) t (let l = life-entry T (Finished u c) (ow (Finished u c) refl) in omega arith) (drawn-end T (E (Finished u c))) p
  past-on T (E (Upgraded q)) t ow k p = same-past T (E (Upgraded q)) t (let l = life-entry T (Upgraded q) (ow (Upgraded q) refl) in omega arith) (drawn-end T (E (Upgraded q))) p
  past-on T (M (the.Drew s u)) t ow k p =
      let l = life-mark T (the.Drew s u) in
      let d : last_drawn b (T ++ M (the.Drew s u) ∷ []) ≡ u.time = drawn-end T (M (the.Drew s u)) in
      let drawn : IsDrawn b T u = of-live T s (IsDrawn b T u) k in
      let up = above drawn.time.0 (last_drawn b T) drawn.time.1 u.time drawn.time.2 in
      let low = p.low in
      record { low = omega arith; time = λ e. let j = p.time (e ∙ l) in omega arith }
  past-on T (M (the.Connected s c)) t ow k p = same-past T (M (the.Connected s c)) t (life-mark T (the.Connected s c)) (drawn-end T (M (the.Connected s c))) p
  past-on T (M (the.Fetched s page upto)) t ow k p = same-past T (M (the.Fetched s page upto)) t (life-mark T (the.Fetched s page upto)) (drawn-end T (M (the.Fetched s page upto))) p
  past-on T (M (the.Granted s page)) t ow k p = same-past T (M (the.Granted s page)) t (life-mark T (the.Granted s page)) (drawn-end T (M (the.Granted s page))) p
  past-on T (M (the.Took s place)) t ow k p = same-past T (M (the.Took s place)) t (life-mark T (the.Took s place)) (drawn-end T (M (the.Took s place))) p
  past-on T (M (the.Forgot u)) t ow k p = same-past T (M (the.Forgot u)) t (life-mark T (the.Forgot u)) (drawn-end T (M (the.Forgot u))) p
  past-on T (M (the.Refused s q r)) t ow k p = same-past T (M (the.Refused s q r)) t (life-mark T (the.Refused s q r)) (drawn-end T (M (the.Refused s q r))) p

  -- the one that is drawn now
  past-new : (T : List Item) (s : ℕ) (t : Ts) → ItemIsExact b T (M (the.Drew s t)) → Past (T ++ M (the.Drew s t) ∷ []) t
  unfolding life
  past-new T s t k =
      let drawn : IsDrawn b T t = of-live T s (IsDrawn b T t) k in
      let at : t.life ≡ (state b (entries T)).life = drawn.life in
      let l : (state b (entries (T ++ M (the.Drew s t) ∷ []))).life ≡ (state b (entries T)).life = life-mark T (the.Drew s t) in
      let d : last_drawn b (T ++ M (the.Drew s t) ∷ []) ≡ t.time = drawn-end T (M (the.Drew s t)) in
      record { low = omega arith; time = λ e. omega arith }

  -- it is none that was drawn before
  not-past : {A : Type 0} (T : List Item) (s : ℕ) (t : Ts) → ItemIsExact b T (M (the.Drew s t)) → Past T t → A
  unfolding life
  not-past T s t k p =
      let drawn : IsDrawn b T t = of-live T s (IsDrawn b T t) k in
      let up = above drawn.time.0 (last_drawn b T) drawn.time.1 t.time drawn.time.2 in
      let j = p.time drawn.life in
      absurd (omega arith)

  abbrev Drew : List Item → ℕ → ℕ → Ts → Type 0
  Drew T m s t = slice_get T m ≡ Some (M (the.Drew s t))

  owed-there : (T : List Item) (i : Item) → sound b (entries (T ++ i ∷ [])) → (e : Entry) → i ≡ E e → owes b (state b (entries T)) e
  owed-there T i sd e is = owed-end b (entries T) e (subst (sound b) (ap (λ (j : Item). entries (T ++ j ∷ [])) is ∙ entries-append T (E e ∷ [])) sd)

  before : (T : List Item) (i : Item) → sound b (entries (T ++ i ∷ [])) → sound b (entries T)
  before T i sd = sound-beginning b (entries T) (entries (i ∷ [])) (subst (sound b) (entries-append T (i ∷ [])) sd)

  all-past : (T : List Item) → exact b T → sound b (entries T) → (m s : ℕ) (t : Ts) → Drew T m s t → Past T t
  all-past = by_items b (λ T. sound b (entries T) → (m s : ℕ) (t : Ts) → Drew T m s t → Past T t) (λ sd m s t is. cc)
      (λ T i kept ih k sd m s t is. elim (end_cases T i (M (the.Drew s t)) m is) [
        | inl x ↦ past-on T i t (owed-there T i sd) k (ih (before T i sd) m s t x.1)
        | inr x ↦ subst (λ (j : Item). Past (T ++ j ∷ []) t) x.1 (past-new T s t (subst (ItemIsExact b T) (sym x.1) k))
      ])

  pub drawn-once : (T : List Item) → sound b (entries T) → exact b T → (m n r s : ℕ) (t : Ts) → Drew T m r t → Drew T n s t → m ≡ n
  drawn-once T sd kept = all T kept sd
    where
      all : (T : List Item) → exact b T → sound b (entries T) → (m n r s : ℕ) (t : Ts) → Drew T m r t → Drew T n s t → m ≡ n
      all = by_items b (λ T. sound b (entries T) → (m n r s : ℕ) (t : Ts) → Drew T m r t → Drew T n s t → m ≡ n) (λ sd m n r s t is it. cc)
          (λ T i kept ih k sd m n r s t is it. elim (end_cases T i (M (the.Drew r t)) m is) [
            | inl x ↦ elim (end_cases T i (M (the.Drew s t)) n it) [
              | inl y ↦ ih (before T i sd) m n r s t x.1 y.1
              | inr y ↦ not-past T s t (subst (ItemIsExact b T) (sym y.1) k) (all-past T kept (before T i sd) m r t x.1)
            ]
            | inr x ↦ elim (end_cases T i (M (the.Drew s t)) n it) [
              | inl y ↦ not-past T r t (subst (ItemIsExact b T) (sym x.1) k) (all-past T kept (before T i sd) n s t y.1)
              | inr y ↦ x.0 ∙ sym y.0
            ]
          ])
