-- Which entries committed a transaction, and what they leave of it at its coordinator.
use Rattle.law_atomic_commit.proofs.Grown.{begun-alone, begun-commits, committed-stays}
use Rattle.log_entries.specs.declared.entry.Entry.TheVariants.{Decided, Finished, Life, One, Prepared, Upgraded}
use Rattle.log_entries.specs.declared.entry.Entry.{Entry}
use Rattle.log_entries.specs.declared.request.Request.{Request}
use Rattle.spec_history.proofs.Growth.{by_growth, sound-end, state-end}
use Rattle.spec_history.proofs.Listed.{end_cases, get_before, get_end, some_and}
use Rattle.spec_history.proofs.Making.{alone-put, make}
use Rattle.spec_history.proofs.Places.{came_end, placed, stays}
use Rattle.spec_history.proofs.Settling.{at-key, caused-end}
use Rattle.spec_history.proofs.Steps.{by_settling}
use Rattle.spec_history.proofs.Telling.{known-unleft, settled-new}
use Rattle.spec_history.specs.History.{Aborted, Base, Committed, Fate, IsCommitted, Known, LeftOver, State, commit_of, known_by, known_in, or_lost, put, settle, state}
use Rattle.spec_history.specs.Laws.{Asks}
use Rattle.spec_history.specs.Outcomes.{Causes, SettledAt, alone_at}
use Rattle.spec_history.specs.Sound.{owes, sound}
use Rattle.spec_trace.specs.Calls.{is_forgotten, is_kept}
use Rattle.spec_trace.specs.Trace.{Item, entries}
use Rattle.std.proofs.Common.{Bool, List, [], ap, eq-eqb, false, inl, inr, length, refl, subst, sym, true, ℕ, ◌++◌, ◌<◌, ◌≡◌, ◌∙◌, ◌∷◌}
use Rattle.std.proofs.lemmas.Cmp.{tied_itself}
use Rattle.std.proofs.lemmas.Map.Views.{tells_apart}
use Rattle.std.proofs.lemmas.Option.{same_Some}
use Rattle.std.proofs.lemmas.Bool.{and_from, or_right}
use Rattle.std.specs.BTreeMap.{insert_entry}
use Rattle.std.specs.List.{list_any, slice_get}
use Rattle.std.specs.Map.{lookup, values_of}
use Rattle.std.specs.Option.{IsSomeAnd, option_or}
use Rattle.std.specs.Ordering.{is_eq, nat_cmp}
use Rattle.std.specs.Prelude.{None, Option, Some, cond, not, ◌&&◌, ◌||◌, ◌⊎◌}
use Rattle.std.specs.declared.cmp.Ordering.TheVariants.{Equal, Greater, Less}
use Rattle.std.specs.declared.cmp.Ordering.{Ordering}
use Rattle.thor_value.proofs.FiniteMap.{get-keep}
use Rattle.thor_value.proofs.NameOrders.{ts_exact, ts_total}
use Rattle.thor_value.specs.FiniteMap.{Map, get, has, values}
use Rattle.thor_value.specs.Names.{same_ts, ts_cmp}
use Rattle.thor_value.specs.declared.names.Ts.{Ts}

-- ---- tests

pub or-cases : (x y : Bool) → (x || y) ≡ true → (x ≡ true) ⊎ (y ≡ true)
or-cases true y h = inl refl
or-cases false y h = inr h

pub and-both : (x y : Bool) → (x && y) ≡ true → (x ≡ true) × (y ≡ true)
and-both true y h = (refl, h)
and-both false y h = cc

pub is-same : (t u : Ts) → same_ts t u ≡ true → t ≡ u
is-same t u h = tells_apart ts_exact t u h

pub same-itself : (t : Ts) → same_ts t t ≡ true
same-itself t = ap is_eq (tied_itself ts_total t)

-- ---- last single commits

-- whether t is among these
abbrev pub last_in : Map nat_cmp Ts → Ts → Bool
last_in m t = list_any (same_ts t) (values m)

among-insert : (t : Ts) (es : List (ℕ × Ts)) (c : ℕ) (u : Ts) → list_any (same_ts t) (values_of (insert_entry nat_cmp es c u)) ≡ true → (same_ts t u ≡ true) ⊎ (list_any (same_ts t) (values_of es) ≡ true)
among-insert t [] c u h = elim (or-cases (same_ts t u) false h) [ inl a ↦ inl a | inr a ↦ cc ]
among-insert t (e ∷ es) c u h = by (nat_cmp c e.0) h (among-insert t es c u)
  where
    by : (o : Ordering) → list_any (same_ts t) (values_of (Rattle.std.specs.Ordering.match_ordering o ((c, u) ∷ e ∷ es) ((e.0, u) ∷ es) (e ∷ insert_entry nat_cmp es c u))) ≡ true
        → (list_any (same_ts t) (values_of (insert_entry nat_cmp es c u)) ≡ true → (same_ts t u ≡ true) ⊎ (list_any (same_ts t) (values_of es) ≡ true))
        → (same_ts t u ≡ true) ⊎ ((same_ts t e.1 || list_any (same_ts t) (values_of es)) ≡ true)
    by Less k more = or-cases (same_ts t u) (same_ts t e.1 || list_any (same_ts t) (values_of es)) k
    by Equal k more = elim (or-cases (same_ts t u) (list_any (same_ts t) (values_of es)) k) [ inl a ↦ inl a | inr a ↦ inr (or_right (same_ts t e.1) (list_any (same_ts t) (values_of es)) a) ]
    by Greater k more = elim (or-cases (same_ts t e.1) (list_any (same_ts t) (values_of (insert_entry nat_cmp es c u))) k) [
      | inl a ↦ inr (ap (λ (x : Bool). x || list_any (same_ts t) (values_of es)) a)
      | inr a ↦ elim (more a) [ inl y ↦ inl y | inr y ↦ inr (or_right (same_ts t e.1) (list_any (same_ts t) (values_of es)) y) ]
    ]

pub among-lookup : (p : ℕ → Bool) (t : Ts) (es : List (ℕ × Ts)) → lookup p es ≡ Some t → list_any (same_ts t) (values_of es) ≡ true
among-lookup p t [] h = cc
among-lookup p t (e ∷ es) h = by (p e.0) h (among-lookup p t es)
  where
    by : (x : Bool) → cond x (Some e.1) (lookup p es) ≡ Some t → (lookup p es ≡ Some t → list_any (same_ts t) (values_of es) ≡ true) → (same_ts t e.1 || list_any (same_ts t) (values_of es)) ≡ true
    by true k more = ap (λ (x : Bool). x || list_any (same_ts t) (values_of es)) (subst (λ (u : Ts). same_ts t u ≡ true) (sym (same_Some e.1 t k)) (same-itself t))
    by false k more = or_right (same_ts t e.1) (list_any (same_ts t) (values_of es)) (more k)

module _ (b : Base) where
  -- t has committed here
  abbrev pub CommittedIn : List Entry → Ts → Type 0
  CommittedIn H t = (o : Known) × (known_by b H t ≡ Some o) × IsCommitted o.fate

  -- the decision to commit t stands here
  abbrev pub DecidedIn : List Entry → Ts → Type 0
  DecidedIn H t = (m : ℕ) × (slice_get H m ≡ Some (Decided t true))

  -- it has no other participant, and its client has a last single commit
  abbrev pub AloneIn : List Entry → Known → Type 0
  AloneIn H o = (o.request.others ≡ []) × (u : Ts) × (get (state b H).alone o.request.who.client ≡ Some u)

  committed-on : (H : List Entry) (e : Entry) → sound b (H ++ e ∷ []) → (t : Ts) → CommittedIn H t → CommittedIn (H ++ e ∷ []) t
  committed-on H e sd t (o, is, c) = let w = stays b H (e ∷ []) sd t o is in (w.0, w.1, committed-stays o.fate w.0.fate c w.2.fate)

  decided-on : (H : List Entry) (e : Entry) (t : Ts) → DecidedIn H t → DecidedIn (H ++ e ∷ []) t
  decided-on H e t (m, is) = (m, get_before H (e ∷ []) m (Rattle.std.proofs.lemmas.Option.slice_get_within H m (Decided t true) is) ∙ is)

  here : (H : List Entry) (e : Entry) (t : Ts) → ((o : Known) × (known_in b (put b (state b H) e) t ≡ Some o) × IsCommitted o.fate) → CommittedIn (H ++ e ∷ []) t
  here H e t k = subst (λ S. (o : Known) × (known_in b S t ≡ Some o) × IsCommitted o.fate) (sym (state-end b H e)) k

  -- what is decided to commit has committed
  pub decided-committed : (H : List Entry) → sound b H → (t : Ts) → DecidedIn H t → CommittedIn H t
  decided-committed = by_growth b (λ H. (t : Ts) → DecidedIn H t → CommittedIn H t) (λ t h. cc)
      (λ H e sd ih ow t h. elim (end_cases H e (Decided t true) h.0 h.1) [
        | inl k ↦ committed-on H e (sound-end b H e sd ow) t (ih t (h.0, k.1))
        | inr k ↦ at_end H e t sd ow (sym k.1)
      ])
    where
      at_end : (H : List Entry) (e : Entry) (t : Ts) → sound b H → owes b (state b H) e → e ≡ Decided t true → CommittedIn (H ++ e ∷ []) t
      at_end H e t sd ow same =
          let ow' : owes b (state b H) (Decided t true) = subst (owes b (state b H)) same ow in
          let k = some_and (known_in b (settle (state b H) t true (known_in b (state b H) t)) t) (λ w. (w.place < (state b H).length) × SettledAt (state b H).length true w.fate) (settled-new b (state b H) t true (placed b H sd) ow'.0) in
          subst (λ f. CommittedIn (H ++ f ∷ []) t) (sym same) (here H (Decided t true) t (k.0, k.1, subst IsCommitted (sym k.2.1) tt))

  same-alone : (S : State) (t : Ts) (c : Bool) → (settle S t c (known_in b S t)).alone ≡ S.alone
  same-alone S t c = by_settling b (λ T. T.alone ≡ S.alone) S t c (known_in b S t) refl (λ p is o k. refl) (λ p is o. refl)

  abbrev Single : List Entry → Ts → Type 0
  Single H t = CommittedIn H t ⊎ (last_in b.alone t ≡ true)

  -- a last single commit has committed, here or in an earlier run
  pub singles-committed : (H : List Entry) → sound b H → (t : Ts) → last_in (state b H).alone t ≡ true → Single H t
  singles-committed = by_growth b (λ H. (t : Ts) → last_in (state b H).alone t ≡ true → Single H t) (λ t h. inr h)
      (λ H e sd ih ow t h. step H e sd ow t (ih t) (subst (λ S. last_in S.alone t ≡ true) (state-end b H e) h))
    where
      single : List Entry → Request → Known
      single H q = record { place = (state b H).length; request = q; fate = Committed (state b H).length }

      older : (H : List Entry) (e : Entry) → sound b H → owes b (state b H) e → (t : Ts) → Single H t → Single (H ++ e ∷ []) t
      older H e sd ow t (inl k) = inl (committed-on H e (sound-end b H e sd ow) t k)
      older H e sd ow t (inr k) = inr k

      step : (H : List Entry) (e : Entry) → sound b H → owes b (state b H) e → (t : Ts) → (last_in (state b H).alone t ≡ true → Single H t) → last_in (put b (state b H) e).alone t ≡ true → Single (H ++ e ∷ []) t
      step H (Life n) sd ow t ih h = older H (Life n) sd ow t (ih h)
      step H (Prepared q) sd ow t ih h = older H (Prepared q) sd ow t (ih h)
      step H (Decided u c) sd ow t ih h = older H (Decided u c) sd ow t (ih (subst (λ m. last_in m t ≡ true) (same-alone (state b H) u c) h))
      step H (Finished u c) sd ow t ih h = older H (Finished u c) sd ow t (ih (subst (λ m. last_in m t ≡ true) (same-alone (state b H) u c) h))
      step H (One q) sd ow t ih h = elim (among-insert t (state b H).alone.pairs q.who.client q.tx h) [
        | inl same ↦ inl (subst (CommittedIn (H ++ One q ∷ [])) (sym (is-same t q.tx same)) (here H (One q) q.tx (or_lost b (state b H) q.tx (single H q), at-key b (state b H) q.tx (single H q), tt)))
        | inr old ↦ older H (One q) sd ow t (ih old)
      ]
      step H (Upgraded q) sd ow t ih h = elim (among-insert t (state b H).alone.pairs q.who.client q.tx h) [
        | inl same ↦ inl (subst (CommittedIn (H ++ Upgraded q ∷ [])) (sym (is-same t q.tx same)) (here H (Upgraded q) q.tx (or_lost b (state b H) q.tx (single H q), at-key b (state b H) q.tx (single H q), tt)))
        | inr old ↦ older H (Upgraded q) sd ow t (ih old)
      ]

  -- ---- what made a commit

  some-or : (p q : Option Ts) → (u : Ts) × (q ≡ Some u) → (v : Ts) × (option_or p q ≡ Some v)
  some-or None q k = k
  some-or (Some v) q k = (v, refl)

  alone-on : (H : List Entry) (e : Entry) (o w : Known) → w.request ≡ o.request → AloneIn H o → AloneIn (H ++ e ∷ []) w
  alone-on H e o w same (others, next, is) =
      let c = o.request.who.client in
      let k = some-or (alone_at c e) (get (state b H).alone c) (next, is) in
      let new : get (put b (state b H) e).alone c ≡ Some k.0 = alone-put b (state b H) e c ∙ k.1 in
      subst (λ (q : Request). (q.others ≡ []) × (u : Ts) × (get (state b (H ++ e ∷ [])).alone q.who.client ≡ Some u)) (sym same)
      (others, k.0, ap (λ (S : State). get S.alone c) (state-end b H e) ∙ new)

  -- the entry commits its own request
  new-alone : (S : State) (e : Entry) (q : Request) (n : ℕ) → Asks e q → commit_of b S e ≡ (n, q) ∷ [] → alone_at q.who.client e ≡ Some q.tx
  new-alone S (Life k) q n asks is = absurd asks
  new-alone S (One p) q n asks is = ap (λ (x : Bool). cond x (Some p.tx) None) (eq-eqb p.who.client q.who.client (ap (λ (r : Request). r.who.client) asks)) ∙ ap (λ (r : Request). Some r.tx) asks
  new-alone S (Prepared p) q n asks is = cc
  new-alone S (Decided u c) q n asks is = absurd asks
  new-alone S (Finished u c) q n asks is = absurd asks
  new-alone S (Upgraded p) q n asks is = ap (λ (x : Bool). cond x (Some p.tx) None) (eq-eqb p.who.client q.who.client (ap (λ (r : Request). r.who.client) asks)) ∙ ap (λ (r : Request). Some r.tx) asks

  -- what no earlier run left isn't left
  less : (S : State) (t : Ts) (c : Bool) → (settle S t c (known_in b S t)).left ≡ S.left
  less S t c = by_settling b (λ T. T.left ≡ S.left) S t c (known_in b S t) refl (λ p is o k. refl) (λ p is o. refl)

  unleft-put : (S : State) (e : Entry) (t : Ts) → get S.left t ≡ None → get (put b S e).left t ≡ None
  unleft-put S (Life n) t h = h
  unleft-put S (One q) t h = h
  unleft-put S (Prepared q) t h = h
  unleft-put S (Upgraded q) t h = h
  unleft-put S (Decided u c) t h = ap (λ m. get m t) (less S u c) ∙ h
  unleft-put S (Finished u c) t h = get-keep ts_cmp ts_exact S.left (λ v. not (same_ts v u)) t ∙ by (not (same_ts t u)) (get S.left t) h
    where
      by : (x : Bool) (o : Option LeftOver) → o ≡ None → cond x o None ≡ None
      by true o k = k
      by false o k = refl

  unleft : (t : Ts) → get b.left t ≡ None → (H : List Entry) → sound b H → get (state b H).left t ≡ None
  unleft t h = by_growth b (λ H. get (state b H).left t ≡ None) h (λ H e sd ih ow. ap (λ (S : State). get S.left t) (state-end b H e) ∙ unleft-put (state b H) e t ih)

  not-both : (f : Fate) → IsCommitted f → f ≡ Aborted → ⊥
  not-both f c a = subst IsCommitted a c

  -- at its coordinator what has committed was decided so, or has no other participant
  pub made : (H : List Entry) → sound b H → (t : Ts) (o : Known) → known_by b H t ≡ Some o → IsCommitted o.fate → t.repo ≡ b.repo → DecidedIn H t ⊎ AloneIn H o
  made = by_growth b (λ H. (t : Ts) (o : Known) → known_by b H t ≡ Some o → IsCommitted o.fate → t.repo ≡ b.repo → DecidedIn H t ⊎ AloneIn H o) (λ t o is. cc)
      (λ H e sd ih ow t w is c own. elim (came_end b H e sd ow t w is) [
        | inl x ↦
            let one = begun-commits (commit_of b (state b H) e) (length H) w.request w.fate x.1.3 c in
            let client = w.request.who.client in
            let new : get (put b (state b H) e).alone client ≡ Some w.request.tx = alone-put b (state b H) e client ∙ ap (λ p. option_or p (get (state b H).alone client)) (new-alone (state b H) e w.request (length H) x.1.0 one) in
            inr ((begun-alone b H e (length H) w.request ow x.1.0 one).0, w.request.tx, ap (λ (S : State). get S.alone client) (state-end b H e) ∙ new)
        | inr x ↦ elim (caused-end b H e sd ow t x.0 w x.1 is) [
          | inl same ↦ elim (ih t x.0 x.1 (subst IsCommitted same c) own) [
            | inl k ↦ inl (decided-on H e t k)
            | inr k ↦ inr (alone-on H e x.0 w x.2.1 k)
          ]
          | inr cause ↦ inl (by_entry H e t w (unleft t (known-unleft b H sd t x.0 x.1) H sd) ow cause c own)
        ]
      ])
    where
      none_and : {A : Type 0} (o : Option LeftOver) (P : LeftOver → Type 0) → o ≡ None → IsSomeAnd o P → A
      none_and None P e h = absurd h
      none_and (Some l) P e h = cc

      by_entry : (H : List Entry) (e : Entry) (t : Ts) (w : Known) → get (state b H).left t ≡ None → owes b (state b H) e → Causes b e t w.fate → IsCommitted w.fate → t.repo ≡ b.repo → DecidedIn (H ++ e ∷ []) t
      by_entry H (Life n) t w none ow cause c own = absurd (not-both w.fate c cause.1)
      by_entry H (One q) t w none ow cause c own = absurd cause
      by_entry H (Prepared q) t w none ow cause c own = absurd cause
      by_entry H (Upgraded q) t w none ow cause c own = absurd cause
      by_entry H (Decided u true) t w none ow cause c own = (length H, get_end H (Decided u true) ∙ ap (λ (v : Ts). Some (Decided v true)) cause.0)
      by_entry H (Decided u false) t w none ow cause c own = absurd (not-both w.fate c cause.1)
      by_entry H (Finished u d) t w none (inl ow) cause c own = absurd (ow.1 (ap (λ (v : Ts). v.repo) cause.0 ∙ own))
      by_entry H (Finished u d) t w none (inr ow) cause c own = none_and (get (state b H).left u) (λ l. l.commits ≡ d) (subst (λ (v : Ts). get (state b H).left v ≡ None) (sym cause.0) none) ow.1

-- ---- what a trace keeps

module _ (b : Base) (T : List Item) (sd : sound b (entries T)) where
  -- a decision that is kept was made
  pub kept-decided : (t : Ts) → is_kept b T t ≡ true → DecidedIn b (entries T) t
  kept-decided t k = ((make b (entries T) sd).kept t).0 (and-both (has (state b (entries T)).kept t) (not (is_forgotten T t)) k).0

  -- and one that was made and isn't forgotten is kept
  pub still-kept : (t : Ts) → is_forgotten T t ≡ false → DecidedIn b (entries T) t → is_kept b T t ≡ true
  still-kept t f d = and_from (has (state b (entries T)).kept t) (not (is_forgotten T t)) (((make b (entries T) sd).kept t).1 d) (ap not f)
