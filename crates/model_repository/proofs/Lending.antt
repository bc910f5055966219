-- Plain repositories are a port.
use Rattle.spec_history.specs.History.{Base}
use Rattle.model_repository.proofs.Taking.{up_calm}
use Rattle.model_repository.specs.Sites.{IfDown, SiteDoes, is_down, trace_at, trace_in, unsettled_at, unsettled_of, view_of}
use Rattle.model_repository.specs.declared.site.Left.TheVariants as left
use Rattle.model_repository.specs.declared.site.Left.{Left}
use Rattle.model_repository.specs.declared.site.Site.{Site}
use Rattle.client_port.specs.Growing.{Called, Grew}
use Rattle.client_port.specs.Views.{Calm, Halted, MayCome, Opened, Unsettled, View}
use Rattle.client_port.specs.Works.{Answered, Does, IsDown}
use Rattle.law_client_views.proofs.Grown.{none_grew}
use Rattle.law_client_views.proofs.Stopping.{does_down}
use Rattle.spec_trace.specs.Trace.{Item}
use Rattle.std.proofs.Common.{Bool, List, [], ap, false, get_or, inl, inr, length, refl, subst, sym, true, ◌<◌, ◌∙◌, ◌∷◌, ◌≡◌, ◌≢◌, ◌≤◌, ◌⊎◌, ℕ}
use Rattle.std.proofs.lemmas.Option.{slice_get_cases, slice_get_read}
use Rattle.std.specs.List.{slice_get}
use Rattle.std.specs.Prelude.{None, Result, Some, cond, nat_eq, slice_set, suc, zero}
use Rattle.repo_refusals.specs.declared.refusal.Refusal.{Refusal}

-- ---- lists

set_here : (xs : List Site) (r : ℕ) (old new : Site) → slice_get xs r ≡ Some old → slice_get (slice_set xs r new) r ≡ Some new
set_here [] r old new e = cc
set_here (x ∷ xs) zero old new e = refl
set_here (x ∷ xs) (suc r) old new e = set_here xs r old new e

set_there : (xs : List Site) (r n : ℕ) (new : Site) → n ≢ r → slice_get (slice_set xs r new) n ≡ slice_get xs n
set_there [] r n new other = refl
set_there (x ∷ xs) zero zero new other = absurd (other refl)
set_there (x ∷ xs) zero (suc n) new other = refl
set_there (x ∷ xs) (suc r) zero new other = refl
set_there (x ∷ xs) (suc r) (suc n) new other = set_there xs r n new (λ e. other (ap suc e))

set_length : (xs : List Site) (r : ℕ) (new : Site) → length (slice_set xs r new) ≡ length xs
set_length [] r new = refl
set_length (x ∷ xs) zero new = refl
set_length (x ∷ xs) (suc r) new = ap suc (set_length xs r new)

-- ---- a repository that is down

not_calm : (c : ℕ) (l : Left) → is_down l ≡ true → unsettled_of c l ≢ Calm
not_calm c left.Up d e = cc
not_calm c (left.Pending n f) d e = by (nat_eq n c) e
  where
    by : (t : Bool) → cond t (MayCome f) Halted ≡ Calm → ⊥
    by true g = cc
    by false g = cc
not_calm c left.Down d e = cc

-- one that isn't there is
pub none_there : {X : Type 0} (bases : ℕ → Base) (c : ℕ) (sites : List Site) (r : ℕ) (result : Result X Refusal) (work : Base → List Item → List Item → Unsettled → Type 0) → slice_get sites r ≡ None → IsDown r result → Does (view_of bases c sites) (view_of bases c sites) r result work
none_there {X} bases c sites r result work none d = does_down (view_of bases c sites) r X result work halted d
  where
    halted : (view_of bases c sites).unsettled r ≢ Calm
    halted e = let h : Halted ≡ Calm = sym (ap (unsettled_at c) none) ∙ e in cc

-- ---- one that is there

module _ (bases : ℕ → Base) (c : ℕ) (sites : List Site) (r : ℕ) (old new : Site) (there : slice_get sites r ≡ Some old) where
  abbrev after : List Site
  after = slice_set sites r new

  abbrev was : View
  was = view_of bases c sites

  abbrev now : View
  now = view_of bases c after

  seen_old : was.seen r ≡ trace_in old
  seen_old = ap trace_at there

  seen_new : now.seen r ≡ trace_in new
  seen_new = ap trace_at (set_here sites r old new there)

  left_old : was.unsettled r ≡ unsettled_of c old.left
  left_old = ap (unsettled_at c) there

  left_new : now.unsettled r ≡ unsettled_of c new.left
  left_new = ap (unsettled_at c) (set_here sites r old new there)

  seen_there : (n : ℕ) → n ≢ r → now.seen n ≡ was.seen n
  seen_there n other = ap trace_at (set_there sites r n new other)

  left_there : (n : ℕ) → n ≢ r → now.unsettled n ≡ was.unsettled n
  left_there n other = ap (unsettled_at c) (set_there sites r n new other)

  -- it met what was seen
  called : (at : List Item) (met : Unsettled) → was.seen r ≡ at → was.unsettled r ≡ met → Called was now r at met
  called at met e f = record {
    same = ap (λ (n : ℕ). let o : Opened = record { client = c; alone = true; repos = n; base = bases } in o) (set_length sites r new);
    reached = subst (λ (T : List Item). Grew (bases r) c (was.unsettled r) (was.seen r) met T) e (subst (λ (u : Unsettled). Grew (bases r) c (was.unsettled r) (was.seen r) u (was.seen r)) f (none_grew (bases r) c (was.unsettled r) (was.seen r)));
    others = λ n other.
        subst (λ (u : Unsettled). Grew (bases n) c (was.unsettled n) (was.seen n) u (now.seen n)) (sym (left_there n other))
        (subst (λ (T : List Item). Grew (bases n) c (was.unsettled n) (was.seen n) (was.unsettled n) T) (sym (seen_there n other)) (none_grew (bases n) c (was.unsettled n) (was.seen n)));
    alone = λ a. (sym e, sym f);
    alone_others = λ a n other. (seen_there n other, left_there n other);
  }

  module _ {X : Type 0} (result : Result X Refusal) (work : Base → List Item → List Item → Unsettled → Type 0) where
    down_so : (u : Unsettled) (T : List Item) → u ≢ Calm → IsDown r result → T ≡ trace_in old → Answered r result u (trace_in old) T u (work (bases r) (trace_in old) T u)
    down_so Calm T other d e = absurd (other refl)
    down_so (MayCome f) T other d e = (d, e, refl)
    down_so Halted T other d e = (d, e, refl)

    -- what is unsettled stays
    down_answers : is_down old.left ≡ true → IsDown r result → new ≡ old → Answered r result (unsettled_of c old.left) (trace_in old) (now.seen r) (now.unsettled r) (work (bases r) (trace_in old) (now.seen r) (now.unsettled r))
    down_answers d down same =
        subst (λ (u : Unsettled). Answered r result (unsettled_of c old.left) (trace_in old) (now.seen r) u (work (bases r) (trace_in old) (now.seen r) u)) (sym (left_new ∙ ap (λ (s : Site). unsettled_of c s.left) same))
        (down_so (unsettled_of c old.left) (now.seen r) (not_calm c old.left d) down (seen_new ∙ ap trace_in same))

    by : (t : Bool) → is_down old.left ≡ t → IfDown t (IsDown r result × (new ≡ old)) (work (bases r) (trace_in old) (trace_in new) (unsettled_of c new.left)) → Does was now r result work
    by true e h = record { at = trace_in old; met = unsettled_of c old.left; called = called (trace_in old) (unsettled_of c old.left) seen_old left_old; answer = down_answers e h.0 h.1 }
    by false e h = record {
      at = trace_in old;
      met = Calm;
      called = called (trace_in old) Calm seen_old (left_old ∙ up_calm c old.left e);
      answer = subst (λ (u : Unsettled). work (bases r) (trace_in old) (now.seen r) u) (sym left_new) (subst (λ (T : List Item). work (bases r) (trace_in old) T (unsettled_of c new.left)) (sym seen_new) h);
    }

    pub lent : SiteDoes c r (bases r) old new result work → Does was now r result work
    lent h = by (is_down old.left) refl h

-- ---- a place of the list

-- one of the list at a place
pub lent_at : {X : Type 0} (bases : ℕ → Base) (c : ℕ) (sites : List Site) (r i n : ℕ) (old new : Site) → i ≡ r → n ≡ length sites → i < n → old ≡ get_or sites i old → (result : Result X Refusal) (work : Base → List Item → List Item → Unsettled → Type 0)
    → SiteDoes c r (bases r) old new result work → Does (view_of bases c sites) (view_of bases c (slice_set sites i new)) r result work
lent_at bases c sites r i n old new place count within found result work h =
    subst (λ (k : ℕ). Does (view_of bases c sites) (view_of bases c (slice_set sites k new)) r result work) (sym place)
    (lent bases c sites r old new (ap (slice_get sites) (sym place) ∙ slice_get_read sites n i old count within found) result work h)

past : (sites : List Site) (i n : ℕ) → n ≡ length sites → (i < n → false ≡ true) → slice_get sites i ≡ None
past sites i n count out = by (slice_get_cases sites i).1
  where
    by : ((x : Site) × (i < length sites) × (slice_get sites i ≡ Some x) × (get_or sites i x ≡ x)) ⊎ ((length sites ≤ i) × (slice_get sites i ≡ None)) → slice_get sites i ≡ None
    by (inl y) = let w : i < n = subst (λ (k : ℕ). i < k) (sym count) y.1 in let no : false ≡ true = out w in cc
    by (inr y) = y.1

-- none at a place
pub none_at : {X : Type 0} (bases : ℕ → Base) (c : ℕ) (sites : List Site) (r i n : ℕ) → i ≡ r → n ≡ length sites → (i < n → false ≡ true) → (result : Result X Refusal) (work : Base → List Item → List Item → Unsettled → Type 0)
    → IsDown r result → Does (view_of bases c sites) (view_of bases c sites) r result work
none_at bases c sites r i n place count out result work d = none_there bases c sites r result work (ap (slice_get sites) (sym place) ∙ past sites i n count out) d
