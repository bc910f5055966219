-- What a call is asked to show, its entry may come with.
use Rattle.law_atomic_commit.proofs.Committing.{and-both, decided-committed, is-same, or-cases}
use Rattle.law_atomic_commit.specs.Growing.{MayCome}
use Rattle.law_atomic_commit.specs.Several.{AreAlike, AreSound, Repositories, histories, part}
use Rattle.law_board_calls.specs.Justified.{AllHavePrepared, AreParts, BelowHavePrepared, HasCommitted, OfEach, Once}
use Rattle.law_board_calls.specs.Shown.{decides, prepared, prepares}
use Rattle.log_entries.specs.declared.entry.Entry.TheVariants.{Decided, Finished, Life, One, Prepared, Upgraded}
use Rattle.log_entries.specs.declared.entry.Entry.{Entry}
use Rattle.log_entries.specs.declared.request.Request.{Request}
use Rattle.spec_history.proofs.Telling.{tell}
use Rattle.spec_history.specs.History.{Base, Known, known_by}
use Rattle.spec_history.specs.Participants.{HasParticipants, takes_part}
use Rattle.spec_history.specs.Sound.{sound}
use Rattle.spec_trace.proofs.Traces.{entries-append}
use Rattle.spec_trace.specs.Trace.{E, Item, M, entries}
use Rattle.std.proofs.Common.{Bool, List, [], ap, append_assoc, arith, cond, false, inl, inr, length, refl, subst, sym, true, ◌++◌, ◌<◌, ◌∙◌, ◌∷◌, ◌≡◌, ◌≤◌, ℕ}
use Rattle.std.proofs.lemmas.Bool.Decides.{nat_tests}
use Rattle.std.proofs.lemmas.Bool.{eqb-true}
use Rattle.std.specs.List.{fold, list_any, slice_get}
use Rattle.std.specs.Option.{IsSomeAnd, option_or}
use Rattle.std.specs.Prelude.{IsTrue, None, Option, Some, nat_eq, ◌||◌, ◌⊎◌}
use Rattle.thor_value.specs.Names.{same_ts}
use Rattle.thor_value.specs.declared.names.Ts.{Ts}

get_middle : (xs ys : List Entry) (y : Entry) → slice_get (xs ++ y ∷ ys) (length xs) ≡ Some y
get_middle [] ys y = refl
get_middle (x ∷ xs) ys y = get_middle xs ys y

some_and : (o : Option Known) (P : Known → Type 0) → IsSomeAnd o P → (w : Known) × (o ≡ Some w) × P w
some_and None P h = absurd h
some_and (Some w) P h = (w, refl, h)

-- the trace has the entry between these two parts
abbrev pub Has : List Item → Entry → Type 0
Has T e = (x : List Item) × (y : List Item) × (T ≡ x ++ E e ∷ y)

later : (T more : List Item) (e : Entry) → Has T e → Has (T ++ more) e
later T more e h = (h.0, h.1 ++ more, ap (λ (U : List Item). U ++ more) h.2 ∙ append_assoc h.0 (E e ∷ h.1) more)

at_place : (T : List Item) (e : Entry) → Has T e → (m : ℕ) × (slice_get (entries T) m ≡ Some e)
at_place T e h = (length (entries h.0), ap (λ (U : List Item). slice_get (entries U) (length (entries h.0))) h.2 ∙ ap (λ (H : List Entry). slice_get H (length (entries h.0))) (entries-append h.0 (E e ∷ h.1)) ∙ get_middle (entries h.0) (entries h.1) e)

-- ---- what was prepared

abbrev pub Found : Ts → List Item → Request → Type 0
Found t T p = Has T (Prepared p) × (p.tx ≡ t)

behind_one : (t : Ts) (i : Item) (T : List Item) (p : Request) → Found t T p → Found t (i ∷ T) p
behind_one t i T p h = ((i ∷ h.0.0, h.0.1, ap (λ (U : List Item). i ∷ U) h.0.2), h.1)

found : (t : Ts) (o : Option Request) (T : List Item) (p : Request) → fold (λ known i. option_or (prepares t i) known) o T ≡ Some p → (o ≡ Some p) ⊎ Found t T p
found t o [] p e = inl e
found t o (i ∷ T) p e = elim (found t (option_or (prepares t i) o) T p e) [
  | inl now ↦ by i now
  | inr z ↦ inr (behind_one t i T p z)
]
  where
    same : (q : Request) (x : Bool) → same_ts q.tx t ≡ x → option_or (cond x (Some q) None) o ≡ Some p → (o ≡ Some p) ⊎ Found t (E (Prepared q) ∷ T) p
    same q true k now =
        let f : q ≡ p = cc in
        inr (subst (λ (z : Request). Found t (E (Prepared q) ∷ T) z) f (([], T, refl), is-same q.tx t k))
    same q false k now = inl now

    by : (j : Item) → option_or (prepares t j) o ≡ Some p → (o ≡ Some p) ⊎ Found t (j ∷ T) p
    by (E (Prepared q)) now = same q (same_ts q.tx t) refl now
    by (E (Life n)) now = inl now
    by (E (One q)) now = inl now
    by (E (Decided u c)) now = inl now
    by (E (Finished u c)) now = inl now
    by (E (Upgraded q)) now = inl now
    by (M m) now = inl now

-- what was prepared in a front of a trace is known behind it
shown_part : (b : Base) (T : List Item) (t : Ts) (p : Request) → sound b (entries T) → Found t T p → (w : Known) × (known_by b (entries T) t ≡ Some w) × (w.request ≡ p)
shown_part b T t p sd f =
    let m = at_place T (Prepared p) f.0 in
    let w = some_and (known_by b (entries T) p.tx) (λ o. (o.place ≡ m.0) × (o.request ≡ p)) ((tell b (entries T) sd).asked m.0 (Prepared p) p m.1 refl) in
    (w.0, ap (known_by b (entries T)) (sym f.1) ∙ w.1, w.2.1)

first_found : (t : Ts) (F : List Item) (p : Request) → prepared t F ≡ Some p → Found t F p
first_found t F p e = elim (found t None F p e) [
  | inl none ↦ cc
  | inr z ↦ z
]

pub in_front : (t : Ts) (T F rest : List Item) (p : Request) → F ++ rest ≡ T → prepared t F ≡ Some p → Found t T p
in_front t T F rest p e h = let z = first_found t F p h in subst (λ (U : List Item). Found t U p) e (later F rest (Prepared p) z.0, z.1)

-- ---- several repositories

each_of : (P : ℕ → Type 0) (n : ℕ) (ns : List ℕ) → OfEach P ns → list_any (nat_eq n) ns ≡ true → P n
each_of P n [] a h = cc
each_of P n (k ∷ ks) a h = elim (or-cases (nat_eq n k) (list_any (nat_eq n) ks) h) [
  | inl same ↦ subst P (sym (eqb-true n k same)) a.0
  | inr more ↦ each_of P n ks a.1 more
]

below : (n r : ℕ) → nat_eq n r ≡ false → n ≤ r → n < r
below n r e l = grind (arith, nat_tests)

module _ (R : Repositories) (sd : AreSound (histories R)) where
  pub may_prepare : (r : ℕ) (q : Request) → r < R.repos → HasParticipants (R.base r) q → BelowHavePrepared R.trace r q → MayCome (histories R) r (Prepared q)
  may_prepare r q there h shown = by (nat_eq q.tx.repo r) refl
    where
      number : (R.base r).repo ≡ r
      number = sd.numbered r there

      least : q.tx.repo ≤ r
      least = subst (λ (n : ℕ). q.tx.repo ≤ n) number h.least.0

      among : nat_eq q.tx.repo r ≡ false → list_any (nat_eq q.tx.repo) q.others ≡ true
      among e = other (subst (λ (n : ℕ). (nat_eq q.tx.repo n || list_any (nat_eq q.tx.repo) q.others) ≡ true) number h.coordinator)
        where
          other : (nat_eq q.tx.repo r || list_any (nat_eq q.tx.repo) q.others) ≡ true → list_any (nat_eq q.tx.repo) q.others ≡ true
          other k = elim (or-cases (nat_eq q.tx.repo r) (list_any (nat_eq q.tx.repo) q.others) k) [
            | inl same ↦ let f : false ≡ true = sym e ∙ same in cc
            | inr more ↦ more
          ]

      alike : (p : Request) → AreParts q.tx.repo p r q → AreAlike r q q.tx.repo p
      alike p a = record { who = sym a.who; kind = sym a.kind; fresh = sym a.fresh; answer = sym a.answer; participants = λ m. sym (a.participants m) }

      by : (x : Bool) → nat_eq q.tx.repo r ≡ x → MayCome (histories R) r (Prepared q)
      by true e = inl (eqb-true q.tx.repo r e)
      by false e =
          let o = each_of (λ n. n < r → Once (λ F. (p : Request) × (prepared q.tx F ≡ Some p) × AreParts n p r q) (R.trace n)) q.tx.repo q.others shown (among e) (below q.tx.repo r e least) in
          let p = o.2 in
          let w = shown_part (R.base q.tx.repo) (R.trace q.tx.repo) q.tx p.0 (sd.each q.tx.repo) (in_front q.tx (R.trace q.tx.repo) o.0 o.1.0 p.0 o.1.1 p.1) in
          inr (w.0, w.1, subst (AreAlike r q q.tx.repo) (sym w.2) (alike p.0 p.2))

  pub may_decide : (r : ℕ) (t : Ts) → AllHavePrepared R.trace r t → MayCome (histories R) r (Decided t true)
  may_decide r t shown =
      let o = shown.1 in
      let w = shown_part (R.base r) (R.trace r) t shown.0 (sd.each r) (in_front t (R.trace r) o.0 o.1.0 shown.0 o.1.1 o.2) in
      (w.0, w.1, λ n takes. at w.0 w.1 n (subst (λ (p : Request). takes_part r p n ≡ true) w.2 takes))
    where
      at : (w : Known) → part (histories R) r t ≡ Some w → (n : ℕ) → takes_part r shown.0 n ≡ true → (z : Known) × (part (histories R) n t ≡ Some z)
      at w is n takes = elim (or-cases (nat_eq n r) (list_any (nat_eq n) shown.0.others) takes) [
        | inl same ↦ (w, ap (λ (k : ℕ). part (histories R) k t) (eqb-true n r same) ∙ is)
        | inr more ↦
            let k = each_of (λ m. Once (λ F. (p : Request) × (prepared t F ≡ Some p)) (R.trace m)) n shown.0.others shown.2 more in
            let z = shown_part (R.base n) (R.trace n) t k.2.0 (sd.each n) (in_front t (R.trace n) k.0 k.1.0 k.2.0 k.1.1 k.2.1) in
            (z.0, z.1)
      ]

  -- ---- what was decided

  decided_in : (t : Ts) (T : List Item) → IsTrue (list_any (decides t true) T) → Has T (Decided t true)
  decided_in t [] h = cc
  decided_in t (i ∷ T) h = elim (or-cases (decides t true i) (list_any (decides t true) T) h) [
    | inl here ↦ by i here
    | inr more ↦ let z = decided_in t T more in (i ∷ z.0, z.1, ap (λ (U : List Item). i ∷ U) z.2)
  ]
    where
      by : (j : Item) → decides t true j ≡ true → Has (j ∷ T) (Decided t true)
      by (E (Decided u c)) e =
          let y = and-both (same_ts u t) c e in
          ([], T, ap (λ (v : Ts). E (Decided v c) ∷ T) (is-same u t y.0) ∙ ap (λ (x : Bool). E (Decided t x) ∷ T) y.1)
      by (E (Life n)) e = cc
      by (E (One q)) e = cc
      by (E (Prepared q)) e = cc
      by (E (Finished u c)) e = cc
      by (E (Upgraded q)) e = cc
      by (M m) e = cc

  pub may_finish : (r : ℕ) (t : Ts) → HasCommitted t (R.trace t.repo) → MayCome (histories R) r (Finished t true)
  may_finish r t o =
      let z = subst (λ (U : List Item). Has U (Decided t true)) o.1.1 (later o.0 o.1.0 (Decided t true) (decided_in t o.0 o.2)) in
      let m = at_place (R.trace t.repo) (Decided t true) z in
      let w = decided-committed (R.base t.repo) (entries (R.trace t.repo)) (sd.each t.repo) t m in
      inr (w.0, record { there = w.1; commits = w.2 })
