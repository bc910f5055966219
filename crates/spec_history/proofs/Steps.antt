-- What one entry does to how transactions stand.
use Rattle.log_entries.specs.declared.entry.Entry.TheVariants.{Life, One, Prepared, Decided, Finished, Upgraded}
use Rattle.log_entries.specs.declared.entry.Entry.{Entry}
use Rattle.log_entries.specs.declared.request.Request.{Request}
use Rattle.spec_history.specs.History.{Base, Fate, Known, State, Open, Committed, Aborted, is_lost, or_lost, lapse, put, known_in, settle, settle_by, commit, commit_by, commit_of, is_open}
use Rattle.spec_history.specs.Laws.{Asks}
use Rattle.spec_history.specs.Sound.{owes}
use Rattle.std.proofs.Common.{◌≡◌, ◌≤◌, ℕ, ◌+◌, refl, ap, sym, ◌∙◌, subst, arith, inl, inr}
use Rattle.std.proofs.lemmas.Bool.{le-ltb, lt-ltb, ltb-true, and_right}
use Rattle.std.proofs.lemmas.Map.Views.{tells_apart}
use Rattle.std.specs.Option.{option_map}
use Rattle.std.specs.Ordering.{eq_by_cmp}
use Rattle.std.specs.Prelude.{Bool, true, false, cond, ◌&&◌, ◌⊎◌, List, [], ◌∷◌, Option, Some, None, nat_eq}
use Rattle.thor_value.proofs.FiniteMap.{get-insert}
use Rattle.thor_value.proofs.NameOrders.{ts_exact, ts_total}
use Rattle.thor_value.specs.FiniteMap.{get, insert}
use Rattle.thor_value.specs.Names.{ts_cmp}
use Rattle.thor_value.specs.declared.names.Ts.{Ts}

-- what may become of a transaction, with the request q, by an entry at the place n which is the
-- commits cs
abbrev pub FateMoves : List (ℕ × Request) → ℕ → Request → Fate → Fate → Type 0
FateMoves cs n q Open Open = Unit {0}
FateMoves cs n q Open (Committed at) = (at ≡ n) × (cs ≡ (n, q) ∷ [])
FateMoves cs n q Open Aborted = Unit {0}
FateMoves cs n q (Committed a) Open = ⊥
FateMoves cs n q (Committed a) (Committed at) = at ≡ a
FateMoves cs n q (Committed a) Aborted = ⊥
FateMoves cs n q Aborted Open = ⊥
FateMoves cs n q Aborted (Committed at) = ⊥
FateMoves cs n q Aborted Aborted = Unit {0}

-- a transaction that was there keeps its place and its request
abbrev pub Kept : List (ℕ × Request) → ℕ → Known → Known → Type 0
Kept cs n o w = (w.place ≡ o.place) × (w.request ≡ o.request) × FateMoves cs n o.request o.fate w.fate

abbrev pub FateBegun : List (ℕ × Request) → ℕ → Request → Fate → Type 0
FateBegun cs n q Open = Unit {0}
FateBegun cs n q (Committed at) = (at ≡ n) × (cs ≡ (n, q) ∷ [])
FateBegun cs n q Aborted = ⊥

-- the entry at the place n is the request of t, which stands as w behind it
abbrev pub Begun : Entry → List (ℕ × Request) → ℕ → Ts → Known → Type 0
Begun e cs n t w = Asks e w.request × (w.request.tx ≡ t) × (w.place ≡ n) × FateBegun cs n w.request w.fate

-- what the entry e at the place n, which is the commits cs, does to how t stands
abbrev pub Moved : Entry → List (ℕ × Request) → ℕ → Ts → Option Known → Option Known → Type 0
Moved e cs n t None None = Unit {0}
Moved e cs n t None (Some w) = Begun e cs n t w
Moved e cs n t (Some o) None = ⊥
Moved e cs n t (Some o) (Some w) = Kept cs n o w

same_fate : (cs : List (ℕ × Request)) (n : ℕ) (q : Request) (f : Fate) → FateMoves cs n q f f
same_fate cs n q Open = tt
same_fate cs n q (Committed at) = refl
same_fate cs n q Aborted = tt

unmoved : (e : Entry) (cs : List (ℕ × Request)) (n : ℕ) (t : Ts) (o : Option Known) → Moved e cs n t o o
unmoved e cs n t None = tt
unmoved e cs n t (Some o) = (refl, refl, same_fate cs n o.request o.fate)

lapse_moves : (cs : List (ℕ × Request)) (n : ℕ) (q : Request) (f : Fate) (x y : Bool) → (x ≡ true → y ≡ true) → FateMoves cs n q (lapse f x) (lapse f y)
lapse_moves cs n q Open true true h = tt
lapse_moves cs n q Open true false h = cc (h refl)
lapse_moves cs n q Open false true h = tt
lapse_moves cs n q Open false false h = tt
lapse_moves cs n q (Committed at) x y h = refl
lapse_moves cs n q Aborted x y h = tt

under_and : (a x y : Bool) → (x ≡ true → y ≡ true) → (a && x) ≡ true → (a && y) ≡ true
under_and true x y h p = h p
under_and false x y h p = p

module _ (b : Base) where
  -- by cases on how t stands: what holds of the state as it is, and of it with t committed or aborted
  -- where t is undecided, holds of the state in which t is settled
  pub by_settling : (P : State → Type 0) (S : State) (t : Ts) (c : Bool) (o : Option Known) → P S
      → ((p : Known) → o ≡ Some p → p.fate ≡ Open → c ≡ true → P (commit S t p.place p.request))
      → ((p : Known) → o ≡ Some p → p.fate ≡ Open → P (record S { known = insert S.known t (record p { fate = Aborted }) }))
      → P (settle S t c o)
  by_settling P S t c None as_is committed aborted = as_is
  by_settling P S t c (Some p) as_is committed aborted = by_fate p.fate refl c refl
    where
      by_fate : (f : Fate) → p.fate ≡ f → (d : Bool) → c ≡ d → P (settle_by S t d p f)
      by_fate Open h true k = committed p refl h k
      by_fate Open h false k = aborted p refl h
      by_fate (Committed at) h d k = as_is
      by_fate Aborted h d k = as_is

  -- the present life began at a place that there is
  abbrev pub LifeBegan : State → Type 0
  LifeBegan S = S.last_life ≤ S.length

  pub life_began : (S : State) (e : Entry) → LifeBegan S → LifeBegan (put b S e)
  life_began S (Life n) h = omega arith
  life_began S (One q) h = omega arith
  life_began S (Prepared q) h = omega arith
  life_began S (Upgraded q) h = omega arith
  life_began S (Decided t c) h = by_settling (λ T. T.last_life ≤ S.length + 1) S t c (known_in b S t) (omega arith) (λ p is at_first k. omega arith) (λ p is at_first. omega arith)
  life_began S (Finished t c) h = by_settling (λ T. T.last_life ≤ S.length + 1) S t c (known_in b S t) (omega arith) (λ p is at_first k. omega arith) (λ p is at_first. omega arith)

  -- how t stands where u was put into the map
  inserted : (S : State) (e : Entry) (cs : List (ℕ × Request)) (n : ℕ) (u : Ts) (p : Known) → Moved e cs n u (known_in b S u) (Some (or_lost b S u p))
      → (t : Ts) → Moved e cs n t (known_in b S t) (option_map (or_lost b S t) (get (insert S.known u p) t))
  inserted S e cs n u p here t = subst (λ k. Moved e cs n t (known_in b S t) (option_map (or_lost b S t) k)) (sym (get-insert ts_total S.known u p t)) (by_key (eq_by_cmp ts_cmp t u) refl)
    where
      by_key : (same : Bool) → eq_by_cmp ts_cmp t u ≡ same → Moved e cs n t (known_in b S t) (option_map (or_lost b S t) (cond same (Some p) (get S.known t)))
      by_key true h = subst (λ v. Moved e cs n v (known_in b S v) (Some (or_lost b S v p))) (sym (tells_apart ts_exact t u h)) here
      by_key false h = unmoved e cs n t (known_in b S t)

  pub not_lost : (S : State) (t : Ts) → LifeBegan S → is_lost b S t S.length ≡ false
  not_lost S t h = and_right (nat_eq t.repo b.repo) _ (le-ltb S.length S.last_life h)

  -- the request of an undecided or committed transaction
  begun : (S : State) (e : Entry) (cs : List (ℕ × Request)) (q : Request) → LifeBegan S → Asks e q → known_in b S q.tx ≡ None → (f : Fate) → FateBegun cs S.length q (lapse f (is_lost b S q.tx S.length))
      → (t : Ts) → Moved e cs S.length t (known_in b S t) (option_map (or_lost b S t) (get (insert S.known q.tx (record { place = S.length; request = q; fate = f })) t))
  begun S e cs q h asks none f new = inserted S e cs S.length q.tx (record { place = S.length; request = q; fate = f }) (subst (λ o. Moved e cs S.length q.tx o (Some (or_lost b S q.tx (record { place = S.length; request = q; fate = f })))) (sym none) (asks, refl, refl, new))

  -- an undecided transaction that is settled so is this commit
  commit_is : (S : State) (c : Bool) (o : Option Known) (p : Known) → o ≡ Some p → p.fate ≡ Open → c ≡ true → commit_by S c o ≡ (S.length, p.request) ∷ []
  commit_is S c o p is at_first k =
      ap (commit_by S c) is ∙ ap (λ d. cond (d && is_open p.fate) ((S.length, p.request) ∷ []) []) k
      ∙ ap (λ f. cond (true && is_open f) ((S.length, p.request) ∷ []) []) at_first

  settled : (S : State) (e : Entry) (u : Ts) (c : Bool) (t : Ts) → Moved e (commit_by S c (known_in b S u)) S.length t (known_in b S t) (known_in b (settle S u c (known_in b S u)) t)
  settled S e u c t =
      let cs = commit_by S c (known_in b S u) in
      by_settling (λ T. Moved e cs S.length t (known_in b S t) (known_in b T t)) S u c (known_in b S u)
      (unmoved e cs S.length t (known_in b S t))
      (λ p is at_first k. inserted S e cs S.length u (record { place = p.place; request = p.request; fate = Committed S.length })
      (subst (λ o. Moved e cs S.length u o (Some (record { place = p.place; request = p.request; fate = Committed S.length }))) (sym is)
      (refl, refl, subst (λ f. FateMoves cs S.length p.request f (Committed S.length)) (sym at_first) (refl, commit_is S c (known_in b S u) p is at_first k))) t)
      (λ p is at_first. inserted S e cs S.length u (record p { fate = Aborted })
      (subst (λ o. Moved e cs S.length u o (Some (record p { fate = Aborted }))) (sym is) (refl, refl, subst (λ f. FateMoves cs S.length p.request f Aborted) (sym at_first) tt)) t)

  -- what an entry that owes what it owes does to how each transaction stands
  pub moved : (S : State) (e : Entry) → LifeBegan S → owes b S e → (t : Ts) → Moved e (commit_of b S e) S.length t (known_in b S t) (known_in b (put b S e) t)
  moved S (Life n) h o t = by_known (get S.known t)
    where
      by_known : (k : Option Known) → Moved (Life n) [] S.length t (option_map (or_lost b S t) k) (option_map (or_lost b (put b S (Life n)) t) k)
      by_known None = tt
      by_known (Some p) = (refl, refl, lapse_moves [] S.length p.request p.fate _ _ (under_and (nat_eq t.repo b.repo) _ _ (λ l. let m = ltb-true p.place S.last_life l in lt-ltb p.place S.length (omega arith))))
  moved S (One q) h o t = begun S (One q) ((S.length, q) ∷ []) q h refl o.0.vouched.once (Committed S.length) (refl, refl) t
  moved S (Prepared q) h o t = begun S (Prepared q) [] q h refl o.0.vouched.once Open (subst (λ l. FateBegun [] S.length q (lapse Open l)) (sym (not_lost S q.tx h)) tt) t
  moved S (Upgraded q) h o t = begun S (Upgraded q) ((S.length, q) ∷ []) q h refl o.0.vouched.once (Committed S.length) (refl, refl) t
  moved S (Decided u c) h o t = settled S (Decided u c) u c t
  moved S (Finished u c) h o t = settled S (Finished u c) u c t

-- a transaction that stands behind an entry was begun by it, or stood before it
pub origin : (e : Entry) (cs : List (ℕ × Request)) (n : ℕ) (t : Ts) (old : Option Known) (w : Known) → Moved e cs n t old (Some w) → ((old ≡ None) × Begun e cs n t w) ⊎ ((o : Known) × (old ≡ Some o) × Kept cs n o w)
origin e cs n t None w m = inl (refl, m)
origin e cs n t (Some o) w m = inr (o, refl, m)

-- a transaction that stood before an entry stands behind it
pub onward : (e : Entry) (cs : List (ℕ × Request)) (n : ℕ) (t : Ts) (o : Known) (new : Option Known) → Moved e cs n t (Some o) new → (w : Known) × (new ≡ Some w) × Kept cs n o w
onward e cs n t o None m = absurd m
onward e cs n t o (Some w) m = (w, refl, m)
