-- What follows from what senders vouch for: upgrades change no object and are everywhere, and a base's
-- conditions are kept.
use Rattle.log_entries.specs.declared.entry.Entry.TheVariants.{Decided, Finished, Life, One, Prepared, Upgraded}
use Rattle.log_entries.specs.declared.entry.Entry.{Entry}
use Rattle.log_entries.specs.declared.request.Request.{Request}
use Rattle.spec_history.proofs.Commits.{get-overwrite, made}
use Rattle.spec_history.proofs.Growth.{by_growth, sound-end, state-append, state-end}
use Rattle.spec_history.proofs.LastWrite.{commit_here, commit_shape}
use Rattle.spec_history.proofs.Listed.{end_cases, some_and, stand}
use Rattle.spec_history.proofs.Making.{alone-put}
use Rattle.spec_history.proofs.Places.{placed}
use Rattle.spec_history.proofs.Prefixes.{judged}
use Rattle.spec_history.proofs.Stamps.{at_most_then, first_at_most, second_at_most}
use Rattle.spec_history.specs.History.{Base, Committed, Known, State, commit_of, commits, epoch_of, put, known_by, state, writers}
use Rattle.spec_history.specs.Laws.{KeepsBase, NoUpgrades, UpgradesAreBare, with_stamps, with_texts, with_writes}
use Rattle.spec_history.specs.Opening.{IsAtBase, IsBase}
use Rattle.spec_history.specs.Outcomes.{alone_at}
use Rattle.spec_history.specs.Participants.{IsAlone, IsBareUpgrade, takes_part}
use Rattle.spec_history.specs.Requests.{has_written, is_upgrade, text_of, written}
use Rattle.spec_history.specs.Sound.{Admits, owes, sound}
use Rattle.std.proofs.Common.{Bool, List, [], ap, arith, drop, false, get_or, inl, inr, length, refl, subst, suc, sym, take, true, zero, ℕ, ◌+◌, ◌++◌, ◌<◌, ◌≡◌, ◌≤◌, ◌∙◌, ◌∷◌}
use Rattle.std.proofs.lemmas.Bool.{eqb-true}
use Rattle.std.proofs.lemmas.List.Elements.{All-filter, Contains-get_or, filter_passes}
use Rattle.std.proofs.lemmas.List.FromFn.{get_or-range_with_len, length-range_with_len}
use Rattle.std.proofs.lemmas.List.{length-append, take-append-drop}
use Rattle.std.proofs.lemmas.Map.Views.{tells_apart}
use Rattle.std.specs.List.{AllByRecursion, Contains, fold, list_any, range_with_len, slice_get}
use Rattle.std.specs.Option.{option_or}
use Rattle.std.specs.Ordering.{eq_by_cmp, nat_cmp}
use Rattle.std.specs.Prelude.{IsTrue, None, Option, Some, cond, is_some, nat_eq, ◌||◌, ◌⊎◌}
use Rattle.thor_value.proofs.FiniteMap.{get-insert}
use Rattle.thor_value.proofs.NameOrders.{oref_exact, oref_total}
use Rattle.thor_value.specs.FiniteMap.{Map, empty, get, has, insert, overwrite}
use Rattle.thor_value.specs.Names.{AtMost, later_of, oref_cmp}
use Rattle.thor_value.specs.declared.names.Oref.{Oref}
use Rattle.thor_value.specs.declared.names.Ts.{Ts}
use Rattle.thor_value.specs.declared.values.Obj.{Obj}

-- ---- lists and maps

all_at : {X : Type 0} (P : X → Type 0) (xs : List X) (i : ℕ) (d : X) → AllByRecursion P xs → i < length xs → P (get_or xs i d)
all_at P [] i d h l = absurd (omega arith)
all_at P (x ∷ xs) zero d h l = h.0
all_at P (x ∷ xs) (suc i) d h l = all_at P xs i d h.1 (omega arith)

-- each number below n is in the range
in_range : (P : ℕ → Type 0) (n i : ℕ) → AllByRecursion P (range_with_len 0 n) → i < n → P i
in_range P n i h l = let e : get_or (range_with_len 0 n) i 0 ≡ 0 + i = get_or-range_with_len 0 n i 0 l in subst P (plain_sum e) (all_at P (range_with_len 0 n) i 0 h (subst (λ m. i < m) (sym (length-range_with_len 0 n)) l))
  where
    plain_sum : {m : ℕ} → m ≡ 0 + i → m ≡ i
    plain_sum e = omega arith

-- what a map has at x, of a list of pairs
pub pair_at : (P : Oref × Obj → Type 0) (es : List (Oref × Obj)) (x : Oref) (o : Obj) → AllByRecursion P es → get {R = oref_cmp} (record { pairs = es }) x ≡ Some o → P (x, o)
pair_at P [] x o h e = cc
pair_at P (p ∷ es) x o h e = by (pair_at P es x o h.1) (eq_by_cmp oref_cmp x p.0) refl e
  where
    by : (get {R = oref_cmp} (record { pairs = es }) x ≡ Some o → P (x, o)) → (t : Bool) → eq_by_cmp oref_cmp x p.0 ≡ t → cond t (Some p.1) (get {R = oref_cmp} (record { pairs = es }) x) ≡ Some o → P (x, o)
    by rest true k f = let one : p.1 ≡ o = cc in subst P (ap (λ y. (y, p.1)) (sym (tells_apart oref_exact x p.0 k)) ∙ ap (λ v. (x, v)) one) h.0
    by rest false k f = rest f

-- what was written at x is one of the writes
write_at : (P : Oref × Obj → Type 0) (ws : List (Oref × Obj)) (m : Map oref_cmp Obj) (x : Oref) (o : Obj) → AllByRecursion P ws → ((v : Obj) → get m x ≡ Some v → P (x, v)) → get (overwrite m ws) x ≡ Some o → P (x, o)
write_at P [] m x o h old e = old o e
write_at P (w ∷ ws) m x o h old e = write_at P ws (insert m w.0 w.1) x o h.1 new e
  where
    new : (v : Obj) → get (insert m w.0 w.1) x ≡ Some v → P (x, v)
    new v f = by (eq_by_cmp oref_cmp x w.0) refl (sym (get-insert oref_total m w.0 w.1 x) ∙ f)
      where
        by : (t : Bool) → eq_by_cmp oref_cmp x w.0 ≡ t → cond t (Some w.1) (get m x) ≡ Some v → P (x, v)
        by true k g = let one : w.1 ≡ v = cc in subst P (ap (λ y. (y, w.1)) (sym (tells_apart oref_exact x w.0 k)) ∙ ap (λ u. (x, u)) one) h.0
        by false k g = old v g

-- ---- upgrades

module _ (b : Base) where
  bare : (H : List Entry) → sound b H → (t : Ts) (o : Known) → known_by b H t ≡ Some o → IsTrue (is_upgrade o.request) → IsBareUpgrade b o.request
  bare H sd t o is up = (judged b H sd t o is).vouched.upgrades up

  writes_nothing : (H : List Entry) → sound b H → (c : ℕ × Request) → Contains (commits b H) c → (x : Oref) → has_written c.1 x ≡ true → is_upgrade c.1 ≡ false
  writes_nothing H sd c i x w = by (is_upgrade c.1) refl
    where
      s : (o : Known) × (known_by b H c.1.tx ≡ Some o) × ((o.request ≡ c.1) × (o.fate ≡ Committed c.0))
      s = some_and (known_by b H c.1.tx) (λ o. (o.request ≡ c.1) × (o.fate ≡ Committed c.0)) (stand b H sd c i)

      by : (u : Bool) → is_upgrade c.1 ≡ u → is_upgrade c.1 ≡ false
      by false e = e
      by true e =
          let k : IsBareUpgrade b c.1 = subst (IsBareUpgrade b) s.2.0 (bare H sd c.1.tx s.0 s.1 (ap is_upgrade s.2.0 ∙ e)) in
          let none : has {R = oref_cmp} (overwrite {X = Obj} empty []) x ≡ true = subst (λ (ws : List (Oref × Obj)). has {R = oref_cmp} (overwrite empty ws) x ≡ true) k.writes w in
          cc

  -- none of those that wrote an object is an upgrade
  pub plain : (H : List Entry) → sound b H → (x : Oref) → NoUpgrades (writers b H x)
  plain H sd x = λ i d l.
      let c : ℕ × Request = get_or (writers b H x) i d in
      (All-filter (λ k. has_written k.1 x) (λ k. has_written k.1 x ≡ true → is_upgrade k.1 ≡ false) (commits b H)
      (λ j e m. writes_nothing H sd (get_or (commits b H) j e) (Contains-get_or (commits b H) j e m) x)) i d l
      (filter_passes (λ k. has_written k.1 x) (commits b H) i d l)

  wide : (q : Request) (n : ℕ) → IsBareUpgrade b q → n < b.repos → IsTrue (takes_part b.repo q n)
  wide q n k l = in_range (λ m. IsTrue (takes_part b.repo q m)) b.repos n k.wide l

  -- alone there is one participant
  one_repo : (q : Request) → IsBareUpgrade b q → IsAlone b q → b.repos ≤ 1
  one_repo q k alone = by b.repos (wide q 0 k) (wide q 1 k)
    where
      is : (n : ℕ) → IsTrue (takes_part b.repo q n) → n ≡ b.repo
      is n h = eqb-true n b.repo (only (nat_eq n b.repo) (subst (λ (others : List ℕ). IsTrue (list_any (nat_eq n) (b.repo ∷ others))) alone.0 h))
        where
          only : (x : Bool) → (x || false) ≡ true → x ≡ true
          only true e = refl
          only false e = e

      by : (n : ℕ) → (0 < n → IsTrue (takes_part b.repo q 0)) → (1 < n → IsTrue (takes_part b.repo q 1)) → n ≤ 1
      by zero f g = omega arith
      by (suc zero) f g = omega arith
      by (suc (suc n)) f g = let i : 0 ≡ b.repo = is 0 (f (omega arith)) in let j : 1 ≡ b.repo = is 1 (g (omega arith)) in absurd (omega arith)

  upgraded : (H : List Entry) → sound b H → (m : ℕ) (q : Request) → slice_get H m ≡ Some (Upgraded q) → b.repos ≤ 1
  upgraded = by_growth b (λ H. (m : ℕ) (q : Request) → slice_get H m ≡ Some (Upgraded q) → b.repos ≤ 1) (λ m q is. cc)
      (λ H e sd ih ow m q is. elim (end_cases H e (Upgraded q) m is) [
        | inl k ↦ ih m q k.1
        | inr k ↦ let o : owes b (state b H) (Upgraded q) = subst (owes b (state b H)) (sym k.1) ow in one_repo q (o.0.vouched.upgrades o.2) o.1
      ])

  pub upgrades : (H : List Entry) → sound b H → UpgradesAreBare b H
  upgrades H sd = record {
    bare = bare H sd;
    wide = λ t o n is up l. wide o.request n (bare H sd t o is up) l;
    plain = plain H sd;
    one = upgraded H sd;
  }

  -- ---- the epoch doesn't fall

  more_texts : (ts : List (List ℕ)) (cs : List (ℕ × Request)) → length ts ≤ length (with_texts ts cs)
  more_texts ts [] = omega arith
  more_texts ts (c ∷ cs) = let l = length-append ts (text_of c.1.kind) in let r = more_texts (ts ++ text_of c.1.kind) cs in omega arith

  texts_on : (S : State) (H : List Entry) → length S.texts ≤ length (fold (put b) S H).texts
  texts_on S [] = omega arith
  texts_on S (e ∷ H) =
      let one : length S.texts ≤ length (put b S e).texts = subst (λ (ts : List (List ℕ)). length S.texts ≤ length ts) (sym (made b S e).1) (more_texts S.texts (commit_of b S e)) in
      let rest = texts_on (put b S e) H in
      omega arith

  pub epoch_rises : (H : List Entry) (n : ℕ) → epoch_of (state b (take n H)) ≤ epoch_of (state b H)
  epoch_rises H n =
      let whole : state b H ≡ fold (put b) (state b (take n H)) (drop n H) = ap (λ (G : List Entry). state b G) (sym (take-append-drop n H)) ∙ state-append b (take n H) (drop n H) in
      subst (λ (S : State). epoch_of (state b (take n H)) ≤ epoch_of S) (sym whole) (texts_on (state b (take n H)) (drop n H))

  -- ---- what a base is

  -- the request that the entry commits, and what it owed at its place
  committed : (H : List Entry) (e : Entry) (q : Request) → sound b H → owes b (state b H) e → commit_of b (state b H) e ≡ ((state b H).length, q) ∷ []
      → (n : ℕ) × Admits b (state b (take n (H ++ e ∷ []))) q
  committed H e q sd ow is =
      let h = commit_here b (state b H) e q (placed b H sd) is in
      let there : known_by b (H ++ e ∷ []) q.tx ≡ Some h.0 = subst (λ (S : State). Rattle.spec_history.specs.History.known_in b S q.tx ≡ Some h.0) (sym (state-end b H e)) h.1 in
      (h.0.place, subst (λ (r : Request). Admits b (state b (take h.0.place (H ++ e ∷ []))) r) h.2 (judged b (H ++ e ∷ []) (sound-end b H e sd ow) q.tx h.0 there))

  -- an object behind one more entry is one of the writes of what it commits, or was there
  pub object_end : (H : List Entry) (e : Entry) (x : Oref) (o : Obj) → get (state b (H ++ e ∷ [])).objects x ≡ Some o
      → (get (state b H).objects x ≡ Some o) ⊎ ((q : Request) × (commit_of b (state b H) e ≡ ((state b H).length, q) ∷ []) × (get (written q) x ≡ Some o))
  object_end H e x o is = elim (commit_shape b (state b H) e) [
    | inl none ↦ inl (sym (ap (λ cs. get (with_writes (state b H).objects cs) x) none) ∙ there)
    | inr one ↦ by one.0 one.1 (get (written one.0) x) refl (sym (get-overwrite x (state b H).objects one.0) ∙ sym (ap (λ cs. get (with_writes (state b H).objects cs) x) one.1) ∙ there)
  ]
    where
      there : get (with_writes (state b H).objects (commit_of b (state b H) e)) x ≡ Some o
      there = sym (ap (λ (m : Map oref_cmp Obj). get m x) (made b (state b H) e).0) ∙ sym (ap (λ (S : State). get S.objects x) (state-end b H e)) ∙ is

      by : (q : Request) → commit_of b (state b H) e ≡ ((state b H).length, q) ∷ [] → (p : Option Obj) → get (written q) x ≡ p → option_or p (get (state b H).objects x) ≡ Some o
          → (get (state b H).objects x ≡ Some o) ⊎ ((r : Request) × (commit_of b (state b H) e ≡ ((state b H).length, r) ∷ []) × (get (written r) x ≡ Some o))
      by q c None k h = inl h
      by q c (Some v) k h = inr (q, c, k ∙ h)

  module _ (base : IsBase b) where
    ObjectsKept : List Entry → Type 0
    ObjectsKept H = (x : Oref) (o : Obj) → get (state b H).objects x ≡ Some o → (x.repo ≡ b.repo) × (o.ver ≤ epoch_of (state b H))

    objects : (H : List Entry) → sound b H → ObjectsKept H
    unfolding ObjectsKept
    objects = by_growth b ObjectsKept
        (λ x o is. let k : IsAtBase b (x, o) = pair_at (IsAtBase b) b.objects.pairs x o base.objects is in (k.here, k.version))
        (λ H e sd ih ow x o is. elim (object_end H e x o is) [
          | inl old ↦
              let k = ih x o old in
              let low : o.ver ≤ epoch_of (state b H) = k.1 in
              let up : epoch_of (state b H) ≤ epoch_of (state b (H ++ e ∷ [])) = subst (λ (S : State). epoch_of (state b H) ≤ epoch_of S) (sym (state-append b H (e ∷ []))) (texts_on (state b H) (e ∷ [])) in
              (k.0, omega arith)
          | inr new ↦
              let q : Request = new.0 in
              let c = committed H e q sd ow new.1 in
              let a : Admits b (state b (take c.0 (H ++ e ∷ []))) q = c.1 in
              let ver : o.ver ≡ q.epoch = write_at (λ w. w.1.ver ≡ q.epoch) q.writes empty x o a.vouched.versions (λ v f. cc) new.2 in
              let up : epoch_of (state b (take c.0 (H ++ e ∷ []))) ≤ epoch_of (state b (H ++ e ∷ [])) = epoch_rises (H ++ e ∷ []) c.0 in
              let at : q.epoch ≡ epoch_of (state b (take c.0 (H ++ e ∷ []))) = a.current in
              (a.vouched.here x (a.vouched.within x (ap is_some new.2)), omega arith)
        ])

    -- ---- last single commits

    base_alone : (es : List (ℕ × Ts)) (c : ℕ) (t : Ts) → AllByRecursion (λ e. AtMost e.1 b.top) es → get {R = nat_cmp} (record { pairs = es }) c ≡ Some t → AtMost t b.top
    base_alone [] c t h e = cc
    base_alone (p ∷ es) c t h e = by (base_alone es c t h.1) (eq_by_cmp nat_cmp c p.0) e
      where
        by : (get {R = nat_cmp} (record { pairs = es }) c ≡ Some t → AtMost t b.top) → (x : Bool) → cond x (Some p.1) (get {R = nat_cmp} (record { pairs = es }) c) ≡ Some t → AtMost t b.top
        by rest true f = let one : p.1 ≡ t = cc in subst (λ u. AtMost u b.top) one h.0
        by rest false f = rest f

    top_on : (S : State) (e : Entry) (t : Ts) → AtMost t S.top → AtMost t (put b S e).top
    top_on S e t h = subst (λ u. AtMost t u) (sym (made b S e).2) (up S.top (commit_of b S e) h)
      where
        up : (u : Ts) (cs : List (ℕ × Request)) → AtMost t u → AtMost t (with_stamps u cs)
        up u [] l = l
        up u (c ∷ cs) l = up (later_of u c.1.tx) cs (at_most_then t u (later_of u c.1.tx) l (first_at_most u c.1.tx))

    -- what the entry commits alone is at most the greatest
    here_top : (S : State) (e : Entry) (c : ℕ) (t : Ts) → alone_at c e ≡ Some t → AtMost t (put b S e).top
    here_top S (Life n) c t h = cc
    here_top S (Prepared q) c t h = cc
    here_top S (Decided u k) c t h = cc
    here_top S (Finished u k) c t h = cc
    here_top S (One q) c t h = by (nat_eq q.who.client c) h
      where
        by : (x : Bool) → cond x (Some q.tx) None ≡ Some t → AtMost t (later_of S.top q.tx)
        by true e = let one : q.tx ≡ t = cc in subst (λ u. AtMost u (later_of S.top q.tx)) one (second_at_most S.top q.tx)
        by false e = cc
    here_top S (Upgraded q) c t h = by (nat_eq q.who.client c) h
      where
        by : (x : Bool) → cond x (Some q.tx) None ≡ Some t → AtMost t (later_of S.top q.tx)
        by true e = let one : q.tx ≡ t = cc in subst (λ u. AtMost u (later_of S.top q.tx)) one (second_at_most S.top q.tx)
        by false e = cc

    alone_put : (S : State) (e : Entry) → ((c : ℕ) (t : Ts) → get S.alone c ≡ Some t → AtMost t S.top) → (c : ℕ) (t : Ts) → get (put b S e).alone c ≡ Some t → AtMost t (put b S e).top
    alone_put S e old c t is = by (alone_at c e) refl (sym (alone-put b S e c) ∙ is)
      where
        by : (o : Option Ts) → alone_at c e ≡ o → option_or o (get S.alone c) ≡ Some t → AtMost t (put b S e).top
        by None k h = top_on S e t (old c t h)
        by (Some u) k h = here_top S e c t (k ∙ h)

    alone : (H : List Entry) → sound b H → (c : ℕ) (t : Ts) → get (state b H).alone c ≡ Some t → AtMost t (state b H).top
    alone = by_growth b (λ H. (c : ℕ) (t : Ts) → get (state b H).alone c ≡ Some t → AtMost t (state b H).top)
        (λ c t is. base_alone b.alone.pairs c t base.alone is)
        (λ H e sd ih ow. subst (λ (S : State). (c : ℕ) (t : Ts) → get S.alone c ≡ Some t → AtMost t S.top) (sym (state-end b H e)) (alone_put (state b H) e ih))

    pub keeps : (H : List Entry) → sound b H → KeepsBase b H
    unfolding ObjectsKept
    keeps H sd = record { here = λ x o is. (objects H sd x o is).0; versions = λ x o is. (objects H sd x o is).1; alone = alone H sd }
