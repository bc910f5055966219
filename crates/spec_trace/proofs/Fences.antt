-- Epochs are counted by the upgrades that committed.
use Rattle.log_entries.specs.declared.entry.Entry.{Entry}
use Rattle.log_entries.specs.declared.request.Kind.TheVariants.{App, Transform, Upgrade}
use Rattle.log_entries.specs.declared.request.Kind.{Kind}
use Rattle.log_entries.specs.declared.request.Request.{Request}
use Rattle.spec_history.proofs.Below.{commits-take}
use Rattle.spec_history.proofs.Commits.{made_by_commits}
use Rattle.spec_history.proofs.Decided.{shifted}
use Rattle.spec_history.proofs.Listed.{some_and, stand}
use Rattle.spec_history.proofs.Places.{FateFits}
use Rattle.spec_history.proofs.Prefixes.{fits, judged}
use Rattle.spec_history.proofs.Serial.{upgrades_fence}
use Rattle.spec_history.proofs.Settling.{same-ts}
use Rattle.spec_trace.specs.Epochs.{FencesCount}
use Rattle.spec_history.specs.History.{Base, Committed, CommittedBelow, Lives, Known, commits, epoch_of, known_by, state}
use Rattle.spec_history.specs.Laws.{BesideUpgrade, with_texts}
use Rattle.spec_history.specs.Requests.{is_upgrade, is_upgrade_kind, text_of}
use Rattle.spec_history.specs.Sound.{sound}
use Rattle.std.proofs.Common.{Bool, List, [], ap, arith, cond, false, inl, inr, length, refl, subst, sym, take, true, ℕ, ◌+◌, ◌++◌, ◌<◌, ◌≡◌, ◌≢◌, ◌≤◌, ◌∙◌, ◌∷◌}
use Rattle.std.proofs.lemmas.Bool.{lt-ltb, ltb-true}
use Rattle.std.proofs.lemmas.List.{length-append}
use Rattle.std.proofs.lemmas.Option.{same_Some}
use Rattle.std.specs.List.{Contains, filter}
use Rattle.std.specs.Ordering.{is_lt}
use Rattle.std.specs.Prelude.{IsTrue, Some, nat_lt, ◌&&◌}
use Rattle.std.specs.declared.cmp.Ordering.TheVariants.{Equal, Greater, Less}
use Rattle.std.specs.declared.cmp.Ordering.{Ordering}
use Rattle.thor_value.proofs.NameOrders.{not_before_itself}
use Rattle.thor_value.specs.Names.{Before, ts_cmp}
use Rattle.thor_value.specs.declared.names.Ts.{Ts}
use Rattle.validation_queue.specs.Clashes.{is_before}

-- ---- lists

filter_both : (p q : ℕ × Request → Bool) (xs : List (ℕ × Request)) → filter p (filter q xs) ≡ filter (λ x. p x && q x) xs
filter_both p q [] = refl
filter_both p q (x ∷ xs) = by (q x) (p x) (filter_both p q xs)
  where
    by : (b a : Bool) → filter p (filter q xs) ≡ filter (λ x. p x && q x) xs → filter p (cond b (x ∷ filter q xs) (filter q xs)) ≡ cond (p x && b) (x ∷ filter (λ x. p x && q x) xs) (filter (λ x. p x && q x) xs)
    by true a h = both (p x) h
      where
        both : (c : Bool) → filter p (filter q xs) ≡ filter (λ x. p x && q x) xs → cond c (x ∷ filter p (filter q xs)) (filter p (filter q xs)) ≡ cond (c && true) (x ∷ filter (λ x. p x && q x) xs) (filter (λ x. p x && q x) xs)
        both true g = ap (λ ys. x ∷ ys) g
        both false g = g
    by false a h = none (p x) h
      where
        none : (c : Bool) → filter p (filter q xs) ≡ filter (λ x. p x && q x) xs → filter p (filter q xs) ≡ cond (c && false) (x ∷ filter (λ x. p x && q x) xs) (filter (λ x. p x && q x) xs)
        none true g = g
        none false g = g

filter_same : (p q : ℕ × Request → Bool) (xs : List (ℕ × Request)) → ((x : ℕ × Request) → Contains xs x → p x ≡ q x) → filter p xs ≡ filter q xs
filter_same p q [] f = refl
filter_same p q (x ∷ xs) f = ap (λ c. cond c (x ∷ filter p xs) (filter p xs)) (f x (0, omega arith, refl)) ∙ ap (λ ys. cond (q x) (x ∷ ys) ys) (filter_same p q xs (λ y c. f y (shifted xs x y c)))

-- ---- counting

texts_count : (k : Kind) → length (text_of k) ≡ cond (is_upgrade_kind k) 1 0
texts_count App = refl
texts_count Transform = refl
texts_count (Upgrade text) = refl

counted : (ts : List (List ℕ)) (cs : List (ℕ × Request)) → length (with_texts ts cs) ≡ length ts + length (filter (λ c. is_upgrade c.1) cs)
counted ts [] = omega arith
counted ts (c ∷ cs) =
    let rest = counted (ts ++ text_of c.1.kind) cs in
    let one = length-append ts (text_of c.1.kind) in
    let n = texts_count c.1.kind in
    let first = more (is_upgrade c.1) in
    omega arith
  where
    more : (x : Bool) → length (cond x (c ∷ filter (λ d. is_upgrade d.1) cs) (filter (λ d. is_upgrade d.1) cs)) ≡ cond x 1 0 + length (filter (λ d. is_upgrade d.1) cs)
    more true = omega arith
    more false = omega arith

tests_alike : (x y : Bool) → (x ≡ true → y ≡ true) → (y ≡ true → x ≡ true) → x ≡ y
tests_alike true y f g = sym (f refl)
tests_alike false true f g = g refl
tests_alike false false f g = refl

before_less : (o : Ordering) → is_lt o ≡ true → o ≡ Less
before_less Less e = refl
before_less Equal e = cc
before_less Greater e = cc

module _ (b : Base) where
  now : (H : List Entry) → epoch_of (state b H) ≡ length b.texts + length (filter (λ c. is_upgrade c.1) (commits b H))
  now H = ap length (made_by_commits b H).texts ∙ counted b.texts (commits b H)

  below : (H : List Entry) → sound b H → (t : Ts) (o : Known) → known_by b H t ≡ Some o → o.request.epoch ≡ length b.texts + length (filter (λ c. is_upgrade c.1 && nat_lt c.0 o.place) (commits b H))
  below H sd t o is =
      let low : o.place < length H = (fits b H sd t o is).below in
      let le : o.place ≤ length H = omega arith in
      (judged b H sd t o is).current ∙ now (take o.place H)
      ∙ ap (λ cs. length b.texts + length (filter (λ (c : ℕ × Request). is_upgrade c.1) cs)) (commits-take b o.place H le)
      ∙ ap (λ cs. length b.texts + length cs) (filter_both (λ c. is_upgrade c.1) (λ c. nat_lt c.0 o.place) (commits b H))

  -- an upgrade's commit is below the place of t exactly where it is before t
  alike : (H : List Entry) → sound b H → (t : Ts) (o : Known) → known_by b H t ≡ Some o → Lives o.fate → (c : ℕ × Request) → Contains (commits b H) c → (is_upgrade c.1 && nat_lt c.0 o.place) ≡ (is_upgrade c.1 && is_before c.1.tx t)
  alike H sd t o is lives c i = by (is_upgrade c.1) refl
    where
      s : (w : Known) × (known_by b H c.1.tx ≡ Some w) × ((w.request ≡ c.1) × (w.fate ≡ Committed c.0))
      s = some_and (known_by b H c.1.tx) (λ w. (w.request ≡ c.1) × (w.fate ≡ Committed c.0)) (stand b H sd c i)

      itself : c.1.tx ≡ t → nat_lt c.0 o.place ≡ is_before c.1.tx t
      itself e =
          let one : s.0 ≡ o = same_Some s.0 o (sym s.1 ∙ subst (λ u. known_by b H u ≡ Some o) (sym e) is) in
          let f = subst (λ g. FateFits s.0.place (length H) g) s.2.1 (fits b H sd c.1.tx s.0 s.1).fate in
          let le : s.0.place ≤ c.0 = f.0 in
          let at : s.0.place ≡ o.place = ap (λ (w : Known). w.place) one in
          tests_alike (nat_lt c.0 o.place) (is_before c.1.tx t)
          (λ l. absurd (let k = ltb-true c.0 o.place l in omega arith))
          (λ l. absurd (not_before_itself t (subst (λ u. Before u t) e (before_less (ts_cmp c.1.tx t) l))))

      other : IsTrue (is_upgrade c.1) → t ≢ c.1.tx → nat_lt c.0 o.place ≡ is_before c.1.tx t
      other up apart =
          let beside : BesideUpgrade b H c.1.tx t s.0 o = record {
            upgrade = s.1;
            is = ap is_upgrade s.2.0 ∙ up;
            there = is;
            other = apart;
            upgrade_lives = subst Lives (sym s.2.1) tt;
            other_lives = lives;
          } in
          let both = (upgrades_fence b H sd).after c.1.tx t s.0 o beside in
          tests_alike (nat_lt c.0 o.place) (is_before c.1.tx t)
          (λ l. ap is_lt (both.1 (subst (CommittedBelow o.place) (sym s.2.1) (ltb-true c.0 o.place l))))
          (λ l. lt-ltb c.0 o.place (subst (CommittedBelow o.place) s.2.1 (both.0 (before_less (ts_cmp c.1.tx t) l))))

      by : (u : Bool) → is_upgrade c.1 ≡ u → (u && nat_lt c.0 o.place) ≡ (u && is_before c.1.tx t)
      by false e = refl
      by true e = elim (same-ts t c.1.tx) [ inl k ↦ itself (sym k) | inr k ↦ other e k ]

  pub fences : (H : List Entry) → sound b H → FencesCount b H
  fences H sd = record {
    now = now H;
    below = below H sd;
    before = λ t o is lives. below H sd t o is ∙ ap (λ cs. length b.texts + length cs) (filter_same (λ c. is_upgrade c.1 && nat_lt c.0 o.place) (λ c. is_upgrade c.1 && is_before c.1.tx t) (commits b H) (alike H sd t o is lives));
  }
