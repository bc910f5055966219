-- What is read off a trace: of each transaction that its repository coordinates, the line of its request where it has committed.
use Rattle.cluster_core.specs.Committed.{decide, line_by, line_for, line_with, take_entry, with_line}
use Rattle.cluster_core.specs.declared.lines.Coordinated.{Coordinated}
use Rattle.log_entries.specs.declared.entry.Entry.TheVariants.{Decided, Finished, Life, One, Prepared, Upgraded}
use Rattle.log_entries.specs.declared.entry.Entry.{Entry}
use Rattle.log_entries.specs.declared.request.Kind.TheVariants.{App, Transform, Upgrade}
use Rattle.log_entries.specs.declared.request.Kind.{Kind}
use Rattle.log_entries.specs.declared.request.Request.{Request}
use Rattle.spec_history.proofs.Growth.{by_growth, state-end}
use Rattle.spec_history.proofs.Places.{placed}
use Rattle.spec_history.proofs.Prefixes.{fits}
use Rattle.spec_history.proofs.Steps.{FateMoves, Moved, moved, not_lost}
use Rattle.spec_history.proofs.Telling.{known-unleft}
use Rattle.spec_history.specs.History.{Aborted, Base, Committed, Fate, Known, LeftOver, Open, State, commit, is_open, is_undecided, known_by, known_in, or_lost, put, settle, settle_by, state}
use Rattle.spec_history.specs.Sound.{owes, sound}
use Rattle.std.proofs.Common.{Bool, List, [], ap, false, inl, inr, refl, subst, sym, true, ℕ, ◌++◌, ◌≡◌, ◌≢◌, ◌∙◌, ◌∷◌}
use Rattle.std.proofs.lemmas.Bool.{eq-eqb, eqb-true}
use Rattle.std.proofs.lemmas.Cmp.{tied_itself}
use Rattle.std.proofs.lemmas.List.Sums.{fold-append}
use Rattle.std.proofs.lemmas.Map.Views.{tells_apart}
use Rattle.std.proofs.lemmas.Option.{same_Some}
use Rattle.std.specs.List.Sorted.{IsStrictlySortedBy}
use Rattle.std.specs.List.{fold}
use Rattle.std.specs.Option.{IsSomeAnd, option_map}
use Rattle.std.specs.Ordering.{eq_by_cmp, is_eq}
use Rattle.std.specs.Prelude.{None, Option, Some, cond, nat_eq, not, ◌⊎◌}
use Rattle.thor_value.proofs.FiniteMap.{IsSorted-insert, IsSorted-remove, get-insert, get-keep, get-remove}
use Rattle.thor_value.proofs.NameOrders.{ts_exact, ts_total}
use Rattle.thor_value.specs.FiniteMap.{IsSorted, Map, empty, get, insert, remove}
use Rattle.thor_value.specs.Names.{same_ts, ts_cmp}
use Rattle.thor_value.specs.declared.names.Ts.{Ts}
use Rattle.top_history_check.specs.declared.assembling.Line.{Line}

abbrev pub Lines : Type 0
Lines = Map ts_cmp Line

-- ---- what is told of a transaction that stands so

abbrev pub line_as : Fate → Request → Option Line
line_as Open q = None
line_as (Committed at) q = line_for q
line_as Aborted q = None

-- its line where it has committed
abbrev pub line_of_part : Option Known → Option Line
line_of_part None = None
line_of_part (Some o) = line_as o.fate o.request

-- What was read tells how transactions stand, of those that the repository r coordinates; of the others it has what was there before.
pub record Reads (r : ℕ) (before : Lines) (K : Ts → Option Known) (s : Coordinated) : Type 0 where
  pub prepared : IsSorted s.prepared
  pub committed : IsSorted s.committed
  pub fresh : (t : Ts) → K t ≡ None → get s.prepared t ≡ None
  pub undecided : (t : Ts) (o : Known) → K t ≡ Some o → o.fate ≡ Open → t.repo ≡ r → get s.prepared t ≡ line_for o.request
  pub own : (t : Ts) → t.repo ≡ r → get s.committed t ≡ line_of_part (K t)
  pub others : (t : Ts) → t.repo ≢ r → get s.committed t ≡ get before t

-- ---- names and lines by them

is-itself : (t : Ts) → eq_by_cmp ts_cmp t t ≡ true
is-itself t = ap is_eq (tied_itself ts_total t)

-- two names are one or they aren't
is-or-not : (t u : Ts) → ((t ≡ u) × (eq_by_cmp ts_cmp t u ≡ true)) ⊎ (eq_by_cmp ts_cmp t u ≡ false)
is-or-not t u = by (eq_by_cmp ts_cmp t u) refl
  where
    by : (k : Bool) → eq_by_cmp ts_cmp t u ≡ k → ((t ≡ u) × (eq_by_cmp ts_cmp t u ≡ true)) ⊎ (eq_by_cmp ts_cmp t u ≡ false)
    by true e = inl (tells_apart ts_exact t u e, e)
    by false e = inr e

apart-by-repo : (t u : Ts) → ¬ (t.repo ≡ u.repo) → eq_by_cmp ts_cmp t u ≡ false
apart-by-repo t u h = elim (is-or-not t u) [
  | inl x ↦ absurd (h (ap (λ (v : Ts). v.repo) x.0))
  | inr x ↦ x
]

other-order : (t u : Ts) → eq_by_cmp ts_cmp t u ≡ false → eq_by_cmp ts_cmp u t ≡ false
other-order t u h = elim (is-or-not u t) [
  | inl x ↦ let e : eq_by_cmp ts_cmp t u ≡ true = ap (λ (v : Ts). eq_by_cmp ts_cmp t v) x.0 ∙ is-itself t in cc
  | inr x ↦ x
]

none-some : {A : Type 0} (o : Known) → ◌≡◌ {A = Option Known} None (Some o) → A
none-some o e = cc

inserted-at : (m : Lines) (u : Ts) (l : Line) → get (insert m u l) u ≡ Some l
inserted-at m u l = get-insert ts_total m u l u ∙ ap (λ (k : Bool). cond k (Some l) (get m u)) (is-itself u)

inserted-else : (m : Lines) (u : Ts) (l : Line) (t : Ts) → eq_by_cmp ts_cmp t u ≡ false → get (insert m u l) t ≡ get m t
inserted-else m u l t h = get-insert ts_total m u l t ∙ ap (λ (k : Bool). cond k (Some l) (get m t)) h

put-at : (m : Lines) (q : Request) → get m q.tx ≡ None → get (with_line m (line_for q)) q.tx ≡ line_for q
put-at m q none = by q.kind
  where
    by : (k : Kind) → get (with_line m (line_by q k)) q.tx ≡ line_by q k
    by App = inserted-at m q.tx (line_with q 0)
    by Transform = none
    by (Upgrade text) = inserted-at m q.tx _

put-else : (m : Lines) (q : Request) (t : Ts) → eq_by_cmp ts_cmp t q.tx ≡ false → get (with_line m (line_for q)) t ≡ get m t
put-else m q t h = by q.kind
  where
    by : (k : Kind) → get (with_line m (line_by q k)) t ≡ get m t
    by App = inserted-else m q.tx (line_with q 0) t h
    by Transform = refl
    by (Upgrade text) = inserted-else m q.tx _ t h

sorted-put : (m : Lines) (l : Option Line) → IsSorted m → IsSorted (with_line m l)
sorted-put m None h = h
sorted-put m (Some l) h = IsSorted-insert ts_total m l.ts l h

pub none-sorted : IsSorted {R = ts_cmp} (empty {X = Line})
unfolding IsStrictlySortedBy
none-sorted = tt

-- ---- one transaction that stands otherwise

-- K' is as K, but at u, where it has w
abbrev Put : Ts → Known → (Ts → Option Known) → (Ts → Option Known) → Type 0
Put u w K K' = (t : Ts) → K' t ≡ cond (eq_by_cmp ts_cmp t u) (Some w) (K t)

module _ (K K' : Ts → Option Known) (u : Ts) (w : Known) (is : Put u w K K') where
  there : K' u ≡ Some w
  there = is u ∙ ap (λ (k : Bool). cond k (Some w) (K u)) (is-itself u)

  there-at : (t : Ts) → t ≡ u → K' t ≡ Some w
  there-at t e = ap K' e ∙ there

  elsewhere : (t : Ts) → eq_by_cmp ts_cmp t u ≡ false → K' t ≡ K t
  elsewhere t h = is t ∙ ap (λ (k : Bool). cond k (Some w) (K t)) h

  not-none : {A : Type 0} (t : Ts) → t ≡ u → K' t ≡ None → A
  not-none t e n = let x : ◌≡◌ {A = Option Known} None (Some w) = sym n ∙ there-at t e in none-some w x

  is-w : (t : Ts) (o : Known) → t ≡ u → K' t ≡ Some o → w ≡ o
  is-w t o e k = same_Some w o (sym (there-at t e) ∙ k)

module _ (r : ℕ) (before : Lines) (K K' : Ts → Option Known) (s : Coordinated) (h : Reads r before K s) where
  -- nothing stands otherwise
  as-it-was : ((t : Ts) → K' t ≡ K t) → Reads r before K' s
  as-it-was is = record {
    prepared = h.prepared;
    committed = h.committed;
    fresh = λ t n. h.fresh t (sym (is t) ∙ n);
    undecided = λ t o k f at. h.undecided t o (sym (is t) ∙ k) f at;
    own = λ t at. h.own t at ∙ ap line_of_part (sym (is t));
    others = h.others;
  }

  -- a Life
  lapsed : (n k : ℕ) → ((t : Ts) → Moved (Life n) [] k t (K t) (K' t)) → Reads r before K' s
  lapsed n k m = record {
    prepared = h.prepared;
    committed = h.committed;
    fresh = λ t none. h.fresh t (was-none t (K t) refl (K' t) none (m t));
    undecided = λ t o is f at. was-undecided t o at f (K t) refl (K' t) is (m t);
    own = λ t at. h.own t at ∙ same (K t) (K' t) t (m t);
    others = h.others;
  }
    where
      was-none : (t : Ts) (o : Option Known) → K t ≡ o → (w : Option Known) → w ≡ None → Moved (Life n) [] k t o w → K t ≡ None
      was-none t None is w e x = is
      was-none t (Some o) is None e x = absurd x
      was-none t (Some o) is (Some w) e x = none-some w (sym e)

      still : (q : Request) (f g : Fate) → FateMoves [] k q f g → g ≡ Open → f ≡ Open
      still q Open g x e = refl
      still q (Committed a) Open x e = absurd x
      still q (Committed a) (Committed at) x e = cc
      still q (Committed a) Aborted x e = cc
      still q Aborted Open x e = absurd x
      still q Aborted (Committed at) x e = cc
      still q Aborted Aborted x e = cc

      was-undecided : (t : Ts) (o : Known) → t.repo ≡ r → o.fate ≡ Open → (old : Option Known) → K t ≡ old → (new : Option Known) → new ≡ Some o → Moved (Life n) [] k t old new → get s.prepared t ≡ line_for o.request
      was-undecided t o at f old is None e x = none-some o e
      was-undecided t o at f None is (Some w) e x = absurd x.0
      was-undecided t o at f (Some v) is (Some w) e x =
          let one : w ≡ o = same_Some w o e in
          let opened : v.fate ≡ Open = still v.request v.fate w.fate x.2 (ap (λ (y : Known). y.fate) one ∙ f) in
          h.undecided t v is opened at ∙ ap line_for (sym x.1 ∙ ap (λ (y : Known). y.request) one)

      same-line : (q : Request) (f g : Fate) → FateMoves [] k q f g → line_as f q ≡ line_as g q
      same-line q Open Open x = refl
      same-line q Open (Committed at) x = let e : ◌≡◌ {A = List (ℕ × Request)} [] ((k, q) ∷ []) = x.1 in cc
      same-line q Open Aborted x = refl
      same-line q (Committed a) Open x = absurd x
      same-line q (Committed a) (Committed at) x = refl
      same-line q (Committed a) Aborted x = absurd x
      same-line q Aborted Open x = absurd x
      same-line q Aborted (Committed at) x = absurd x
      same-line q Aborted Aborted x = refl

      same : (old new : Option Known) (t : Ts) → Moved (Life n) [] k t old new → line_of_part old ≡ line_of_part new
      same None None t x = refl
      same None (Some w) t x = absurd x.0
      same (Some o) None t x = absurd x
      same (Some o) (Some w) t x = same-line o.request o.fate w.fate x.2 ∙ ap (line_as w.fate) (sym x.1)

  module _ (u : Ts) (w : Known) (is : Put u w K K') where
    -- a transaction of another coordinator
    of-another : u.repo ≢ r → Reads r before K' s
    of-another other = record {
      prepared = h.prepared;
      committed = h.committed;
      fresh = λ t none. elim (is-or-not t u) [
        | inl x ↦ not-none K K' u w is t x.0 none
        | inr x ↦ h.fresh t (sym (elsewhere K K' u w is t x) ∙ none)
      ];
      undecided = λ t o k f at. h.undecided t o (sym (elsewhere K K' u w is t (apart t at)) ∙ k) f at;
      own = λ t at. h.own t at ∙ ap line_of_part (sym (elsewhere K K' u w is t (apart t at)));
      others = h.others;
    }
      where
        apart : (t : Ts) → t.repo ≡ r → eq_by_cmp ts_cmp t u ≡ false
        apart t at = apart-by-repo t u (λ e. other (sym e ∙ at))

    -- it is prepared here
    prepares : u.repo ≡ r → K u ≡ None → w.request.tx ≡ u → w.fate ≡ Open → Reads r before K' (record s { prepared = with_line s.prepared (line_for w.request) })
    prepares here none named opened = record {
      prepared = sorted-put s.prepared (line_for w.request) h.prepared;
      committed = h.committed;
      fresh = λ t n. elim (is-or-not t u) [
        | inl x ↦ not-none K K' u w is t x.0 n
        | inr x ↦ put-else s.prepared w.request t (other t x) ∙ h.fresh t (sym (elsewhere K K' u w is t x) ∙ n)
      ];
      undecided = λ t o k f at. elim (is-or-not t u) [
        | inl x ↦ at-it t x.0 ∙ ap (λ (y : Known). line_for y.request) (is-w K K' u w is t o x.0 k)
        | inr x ↦ put-else s.prepared w.request t (other t x) ∙ h.undecided t o (sym (elsewhere K K' u w is t x) ∙ k) f at
      ];
      own = λ t at. elim (is-or-not t u) [
        | inl x ↦ h.own t at ∙ ap line_of_part (ap K x.0 ∙ none) ∙ sym (ap line_of_part (there-at K K' u w is t x.0) ∙ ap (λ (f : Fate). line_as f w.request) opened)
        | inr x ↦ h.own t at ∙ ap line_of_part (sym (elsewhere K K' u w is t x))
      ];
      others = h.others;
    }
      where
        other : (t : Ts) → eq_by_cmp ts_cmp t u ≡ false → eq_by_cmp ts_cmp t w.request.tx ≡ false
        other t x = ap (eq_by_cmp ts_cmp t) named ∙ x

        at-it : (t : Ts) → t ≡ u → get (with_line s.prepared (line_for w.request)) t ≡ line_for w.request
        at-it t e = ap (get (with_line s.prepared (line_for w.request))) (e ∙ sym named) ∙ put-at s.prepared w.request (h.fresh w.request.tx (ap K named ∙ none))

    -- it commits: its line comes, and what is prepared stays but for it
    commits : (p : Lines) → IsSorted p → ((t : Ts) → K' t ≡ None → get p t ≡ None) → ((t : Ts) → eq_by_cmp ts_cmp t u ≡ false → get p t ≡ get s.prepared t) → (l : Option Line) → l ≡ line_for w.request → (at : ℕ)
        → u.repo ≡ r → line_of_part (K u) ≡ None → w.request.tx ≡ u → w.fate ≡ Committed at → Reads r before K' (record { prepared = p; committed = with_line s.committed l })
    commits p sorted fresh stays l line at here none named ended = record {
      prepared = sorted;
      committed = sorted-put s.committed l h.committed;
      fresh = fresh;
      undecided = λ t o k f own. elim (is-or-not t u) [
        | inl x ↦ let e : Committed at ≡ Open = sym ended ∙ ap (λ (y : Known). y.fate) (is-w K K' u w is t o x.0 k) ∙ f in cc
        | inr x ↦ stays t x ∙ h.undecided t o (sym (elsewhere K K' u w is t x) ∙ k) f own
      ];
      own = λ t own. ap (λ (y : Option Line). get (with_line s.committed y) t) line ∙ told t own;
      others = λ t no. ap (λ (y : Option Line). get (with_line s.committed y) t) line ∙ put-else s.committed w.request t (other t (apart-by-repo t u (λ e. no (e ∙ here)))) ∙ h.others t no;
    }
      where
        other : (t : Ts) → eq_by_cmp ts_cmp t u ≡ false → eq_by_cmp ts_cmp t w.request.tx ≡ false
        other t x = ap (eq_by_cmp ts_cmp t) named ∙ x

        at-it : (t : Ts) → t ≡ u → get (with_line s.committed (line_for w.request)) t ≡ line_for w.request
        at-it t e = ap (get (with_line s.committed (line_for w.request))) (e ∙ sym named) ∙ put-at s.committed w.request (h.own w.request.tx (ap (λ (v : Ts). v.repo) named ∙ here) ∙ ap (λ (v : Ts). line_of_part (K v)) named ∙ none)

        told : (t : Ts) → t.repo ≡ r → get (with_line s.committed (line_for w.request)) t ≡ line_of_part (K' t)
        told t own = elim (is-or-not t u) [
          | inl x ↦ at-it t x.0 ∙ sym (ap line_of_part (there-at K K' u w is t x.0) ∙ ap (λ (f : Fate). line_as f w.request) ended)
          | inr x ↦ put-else s.committed w.request t (other t x) ∙ h.own t own ∙ ap line_of_part (sym (elsewhere K K' u w is t x))
        ]

    -- it commits at once
    begins : u.repo ≡ r → K u ≡ None → w.request.tx ≡ u → (at : ℕ) → w.fate ≡ Committed at → Reads r before K' (record s { committed = with_line s.committed (line_for w.request) })
    begins here none named at ended =
        commits s.prepared h.prepared fresh (λ t x. refl) (line_for w.request) refl at here (ap line_of_part none) named ended
      where
        fresh : (t : Ts) → K' t ≡ None → get s.prepared t ≡ None
        fresh t n = elim (is-or-not t u) [
          | inl x ↦ not-none K K' u w is t x.0 n
          | inr x ↦ h.fresh t (sym (elsewhere K K' u w is t x) ∙ n)
        ]

    module _ (here : u.repo ≡ r) (o : Known) (was : K u ≡ Some o) (opened : o.fate ≡ Open) (named : o.request.tx ≡ u) (same : w.request ≡ o.request) where
      no-line : line_of_part (K u) ≡ None
      no-line = ap line_of_part was ∙ ap (λ (f : Fate). line_as f o.request) opened

      -- it was prepared, and is decided to commit
      is-decided : (at : ℕ) → w.fate ≡ Committed at → Reads r before K' (decide s u true)
      is-decided at ended =
          commits (remove s.prepared u) (IsSorted-remove ts_cmp s.prepared u h.prepared) fresh stays (get s.prepared u) (h.undecided u o was opened here ∙ ap line_for (sym same)) at here no-line (ap (λ (q : Request). q.tx) same ∙ named) ended
        where
          stays : (t : Ts) → eq_by_cmp ts_cmp t u ≡ false → get (remove s.prepared u) t ≡ get s.prepared t
          stays t x = get-remove ts_total s.prepared u t h.prepared ∙ ap (λ (k : Bool). cond k None (get s.prepared t)) (other-order t u x)

          fresh : (t : Ts) → K' t ≡ None → get (remove s.prepared u) t ≡ None
          fresh t n = elim (is-or-not t u) [
            | inl x ↦ not-none K K' u w is t x.0 n
            | inr x ↦ stays t x ∙ h.fresh t (sym (elsewhere K K' u w is t x) ∙ n)
          ]

      -- it is decided to abort
      is-given-up : w.fate ≡ Aborted → Reads r before K' s
      is-given-up ended = record {
        prepared = h.prepared;
        committed = h.committed;
        fresh = λ t n. elim (is-or-not t u) [
          | inl x ↦ not-none K K' u w is t x.0 n
          | inr x ↦ h.fresh t (sym (elsewhere K K' u w is t x) ∙ n)
        ];
        undecided = λ t v k f at. elim (is-or-not t u) [
          | inl x ↦ let e : Aborted ≡ Open = sym ended ∙ ap (λ (y : Known). y.fate) (is-w K K' u w is t v x.0 k) ∙ f in cc
          | inr x ↦ h.undecided t v (sym (elsewhere K K' u w is t x) ∙ k) f at
        ];
        own = λ t at. elim (is-or-not t u) [
          | inl x ↦ h.own t at ∙ ap (λ (v : Ts). line_of_part (K v)) x.0 ∙ no-line ∙ sym (ap line_of_part (there-at K K' u w is t x.0) ∙ ap (λ (f : Fate). line_as f w.request) ended)
          | inr x ↦ h.own t at ∙ ap line_of_part (sym (elsewhere K K' u w is t x))
        ];
        others = h.others;
      }

-- ---- one entry

undecided-is : (k : Option Known) → is_undecided k ≡ true → (o : Known) × (k ≡ Some o) × (o.fate ≡ Open)
undecided-is None e = cc
undecided-is (Some o) e = by o.fate refl e
  where
    by : (f : Fate) → o.fate ≡ f → is_open f ≡ true → (v : Known) × (Some o ≡ Some v) × (v.fate ≡ Open)
    by Open is x = (o, refl, is)
    by (Committed at) is x = cc
    by Aborted is x = cc

-- a transaction that was prepared at this place, and lost or not
abbrev prepared_as : ℕ → Request → Bool → Known
prepared_as n q lost = record { place = n; request = q; fate = cond lost Aborted Open }

module _ (b : Base) where
  -- how transactions stand where u was put
  inserted : (S : State) (u : Ts) (p : Known) (t : Ts) → option_map (or_lost b S t) (get (insert S.known u p) t) ≡ cond (eq_by_cmp ts_cmp t u) (Some (or_lost b S t p)) (known_in b S t)
  inserted S u p t = ap (option_map (or_lost b S t)) (get-insert ts_total S.known u p t) ∙ by (eq_by_cmp ts_cmp t u)
    where
      by : (k : Bool) → option_map (or_lost b S t) (cond k (Some p) (get S.known t)) ≡ cond k (Some (or_lost b S t p)) (option_map (or_lost b S t) (get S.known t))
      by true = refl
      by false = refl

  -- the same, where w is what is put whoever has lost it
  inserted-as : (S : State) (u : Ts) (p w : Known) → or_lost b S u p ≡ w → (t : Ts) → option_map (or_lost b S t) (get (insert S.known u p) t) ≡ cond (eq_by_cmp ts_cmp t u) (Some w) (known_in b S t)
  inserted-as S u p w is t = inserted S u p t ∙ by (eq_by_cmp ts_cmp t u) refl
    where
      by : (k : Bool) → eq_by_cmp ts_cmp t u ≡ k → cond k (Some (or_lost b S t p)) (known_in b S t) ≡ cond k (Some w) (known_in b S t)
      by true e = ap Some (ap (λ (v : Ts). or_lost b S v p) (tells_apart ts_exact t u e) ∙ is)
      by false e = refl

  -- what stands where the decision on u is known, which was undecided
  settled-as : (S : State) (u : Ts) (o : Known) → known_in b S u ≡ Some o → o.fate ≡ Open → (c : Bool) → (t : Ts) → known_in b (settle S u c (known_in b S u)) t ≡ known_in b (cond c (commit S u o.place o.request) (record S { known = insert S.known u (record o { fate = Aborted }) })) t
  settled-as S u o is opened c t = ap (λ (k : Option Known). known_in b (settle S u c k) t) is ∙ ap (λ (f : Fate). known_in b (settle_by S u c o f) t) opened

  left-put : (S : State) (e : Entry) (t : Ts) (l : LeftOver) → get (put b S e).left t ≡ Some l → get S.left t ≡ Some l
  left-put S (Life n) t l h = h
  left-put S (One q) t l h = h
  left-put S (Prepared q) t l h = h
  left-put S (Upgraded q) t l h = h
  left-put S (Decided u c) t l h = subst (λ (m : Map ts_cmp LeftOver). get m t ≡ Some l) (less S u c) h
    where
      less : (S : State) (t : Ts) (c : Bool) → (settle S t c (known_in b S t)).left ≡ S.left
      less S t c = by (known_in b S t)
        where
          fate : (o : Known) (d : Bool) (f : Fate) → (settle_by S t d o f).left ≡ S.left
          fate o true Open = refl
          fate o false Open = refl
          fate o d (Committed at) = refl
          fate o d Aborted = refl

          by : (k : Option Known) → (settle S t c k).left ≡ S.left
          by None = refl
          by (Some o) = fate o c o.fate
  left-put S (Finished u c) t l h = kept (not (same_ts t u)) (sym (get-keep ts_cmp ts_exact S.left (λ v. not (same_ts v u)) t) ∙ h)
    where
      kept : (k : Bool) → cond k (get S.left t) None ≡ Some l → get S.left t ≡ Some l
      kept true e = e
      kept false e = cc

  left-from : (H : List Entry) → sound b H → (t : Ts) (l : LeftOver) → get (state b H).left t ≡ Some l → get b.left t ≡ Some l
  left-from = by_growth b (λ H. (t : Ts) (l : LeftOver) → get (state b H).left t ≡ Some l → get b.left t ≡ Some l) (λ t l h. h)
      (λ H e sd ih ow t l h. ih t l (left-put (state b H) e t l (subst (λ (S : State). get S.left t ≡ Some l) (state-end b H e) h)))

  module _ (r : ℕ) (own : b.repo ≡ r) (before : Lines) where
    -- What one more entry tells.
    module _ (H : List Entry) (sd : sound b H) (s : Coordinated) (h : Reads r before (known_by b H) s) where
      abbrev S : State
      S = state b H

      abbrev K : Ts → Option Known
      K = known_in b (state b H)

      named : (t : Ts) (o : Known) → K t ≡ Some o → o.request.tx ≡ t
      named t o is = (fits b H sd t o is).named

      prepares-it : (q : Request) → K q.tx ≡ None → (k : Bool) → nat_eq q.tx.repo r ≡ k → Put q.tx (record { place = S.length; request = q; fate = Open }) K (known_in b (put b S (Prepared q)))
          → Reads r before (known_in b (put b S (Prepared q))) (cond k (record s { prepared = with_line s.prepared (line_for q) }) s)
      prepares-it q none true is at = prepares r before K (known_in b (put b S (Prepared q))) s h q.tx (record { place = S.length; request = q; fate = Open }) at (eqb-true q.tx.repo r is) none refl refl
      prepares-it q none false is at = of-another r before K (known_in b (put b S (Prepared q))) s h q.tx (record { place = S.length; request = q; fate = Open }) at (λ e. let f : nat_eq q.tx.repo r ≡ true = eq-eqb q.tx.repo r e in cc)

      decides-it : (u : Ts) (c : Bool) → u.repo ≡ r → (o : Known) → K u ≡ Some o → o.fate ≡ Open → Reads r before (known_in b (settle S u c (known_in b S u))) (decide s u c)
      decides-it u true here o is opened =
          let w : Known = record { place = o.place; request = o.request; fate = Committed S.length } in
          is-decided r before K (known_in b (settle S u true (known_in b S u))) s h u w
          (λ t. settled-as S u o is opened true t ∙ inserted-as S u w w refl t)
          here o is opened (named u o is) refl S.length refl
      decides-it u false here o is opened =
          let w : Known = record o { fate = Aborted } in
          is-given-up r before K (known_in b (settle S u false (known_in b S u))) s h u w
          (λ t. settled-as S u o is opened false t ∙ inserted-as S u w w refl t)
          here o is opened (named u o is) refl refl

      -- what is learned of a transaction of another
      learns-it : (u : Ts) (c : Bool) → u.repo ≢ r → (o : Known) → K u ≡ Some o → o.fate ≡ Open → Reads r before (known_in b (settle S u c (known_in b S u))) s
      learns-it u true other o is opened =
          let w : Known = record { place = o.place; request = o.request; fate = Committed S.length } in
          of-another r before K (known_in b (settle S u true (known_in b S u))) s h u w (λ t. settled-as S u o is opened true t ∙ inserted-as S u w w refl t) other
      learns-it u false other o is opened =
          let w : Known = record o { fate = Aborted } in
          of-another r before K (known_in b (settle S u false (known_in b S u))) s h u w (λ t. settled-as S u o is opened false t ∙ inserted-as S u w w refl t) other

      -- of one that an earlier run left nothing stands here
      left-unknown : (u : Ts) (c : Bool) → IsSomeAnd (get S.left u) (λ l. l.commits ≡ c) → K u ≡ None
      left-unknown u c left = by (K u) refl
        where
          there-left : (k : Option LeftOver) → get S.left u ≡ k → IsSomeAnd k (λ l. l.commits ≡ c) → (l : LeftOver) × (get S.left u ≡ Some l)
          there-left None is x = absurd x
          there-left (Some l) is x = (l, is)

          by : (k : Option Known) → K u ≡ k → K u ≡ None
          by None is = is
          by (Some o) is =
              let l = there-left (get S.left u) refl left in
              let a : get b.left u ≡ Some l.0 = left-from H sd u l.0 l.1 in
              let n : get b.left u ≡ None = known-unleft b H sd u o is in
              cc

      one-more : (e : Entry) → owes b S e → Reads r before (known_in b (put b S e)) (take_entry r s e)
      one-more (Life n) ow = lapsed r before K (known_in b (put b S (Life n))) s h n S.length (moved b S (Life n) (placed b H sd).began ow)
      one-more (One q) ow =
          let w : Known = record { place = S.length; request = q; fate = Committed S.length } in
          begins r before K (known_in b (put b S (One q))) s h q.tx w (inserted-as S q.tx w w refl) (ow.1.1 ∙ own) ow.0.vouched.once refl S.length refl
      one-more (Upgraded q) ow =
          let w : Known = record { place = S.length; request = q; fate = Committed S.length } in
          begins r before K (known_in b (put b S (Upgraded q))) s h q.tx w (inserted-as S q.tx w w refl) (ow.1.1 ∙ own) ow.0.vouched.once refl S.length refl
      one-more (Prepared q) ow =
          let w : Known = record { place = S.length; request = q; fate = Open } in
          prepares-it q ow.0.vouched.once (nat_eq q.tx.repo r) refl (inserted-as S q.tx w w (ap (prepared_as S.length q) (not_lost b S q.tx (placed b H sd).began)))
      one-more (Decided u c) ow =
          let k = undecided-is (K u) ow.0 in
          decides-it u c (ow.1 ∙ own) k.0 k.1 k.2
      one-more (Finished u c) (inl ow) =
          let k = undecided-is (K u) ow.0 in
          learns-it u c (λ e. ow.1 (e ∙ sym own)) k.0 k.1 k.2
      one-more (Finished u c) (inr ow) =
          as-it-was r before K (known_in b (settle S u c (known_in b S u))) s h (λ t. ap (λ (k : Option Known). known_in b (settle S u c k) t) (left-unknown u c ow.1))

    -- what is read off a sound history
    pub reads : (s : Coordinated) → s.prepared ≡ empty → IsSorted s.committed → s.committed ≡ before → ((t : Ts) → t.repo ≡ r → get before t ≡ None) → (H : List Entry) → sound b H → Reads r before (known_by b H) (fold (take_entry r) s H)
    reads s none sorted is clear = by_growth b (λ H. Reads r before (known_by b H) (fold (take_entry r) s H)) at-first
        (λ H e sd ih ow. subst (λ (x : Coordinated). Reads r before (known_by b (H ++ e ∷ [])) x) (sym (fold-append (take_entry r) s H (e ∷ [])))
        (subst (λ (S : State). Reads r before (known_in b S) (take_entry r (fold (take_entry r) s H) e)) (sym (state-end b H e)) (one-more H sd (fold (take_entry r) s H) ih e ow)))
      where
        at-first : Reads r before (known_by b []) s
        at-first = record {
          prepared = subst (λ (m : Lines). IsSorted m) (sym none) none-sorted;
          committed = sorted;
          fresh = λ t k. ap (λ (m : Lines). get m t) none;
          undecided = λ t o k f at. none-some o k;
          own = λ t at. ap (λ (m : Lines). get m t) is ∙ clear t at;
          others = λ t at. ap (λ (m : Lines). get m t) is;
        }
