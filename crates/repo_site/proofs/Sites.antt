-- Calls on the repository of a run.
use Rattle.client_port.specs.Views.{Unsettled}
use Rattle.law_client_views.specs.Standing.{unsettled_of}
use Rattle.law_repo_calls.proofs.Restarts.{stands_on}
use Rattle.law_repo_calls.proofs.Stepping.{runs_same}
use Rattle.law_repo_calls.specs.Seen.{phase}
use Rattle.law_repo_memory.specs.Agreeing.{trace_of}
use Rattle.repo_core.specs.Shown.{Shown}
use Rattle.repo_refusals.specs.declared.refusal.Refusal.TheVariants as refused
use Rattle.repo_refusals.specs.declared.refusal.Refusal.{Refusal}
use Rattle.repo_site.proofs.Leaving.{may_leave}
use Rattle.repo_site.specs.Run.{Run}
use Rattle.repo_site.specs.Sited.{Happens, Sited, StandsIn}
use Rattle.repo_site.specs.Working.{AnyBase, HasRepos, IfUp, RunsBy, SiteDoes, WorksBy}
use Rattle.spec_history.specs.History.{Base}
use Rattle.spec_trace.specs.Trace.{Item}
use Rattle.std.proofs.Common.{Bool, Err, List, Result, false, refl, subst, true, ℕ, ◌≡◌}

abbrev pub sited : ℕ → Shown → Sited
sited number x = record { number = number; shown = x }

module _ (run : Run) (number repos : ℕ) (x y : Shown) (k : StandsIn run number repos x) where
  -- ---- how it stands

  pub stays : RunsBy (HasRepos repos) x y → StandsIn run number repos y
  stays r = record { base = k.base; right = λ based. stands_on (run.base number) x y (k.right based) (r.runs (run.base number) (number, k.base based) (k.right based)) }

  pub stays_any : RunsBy AnyBase x y → StandsIn run number repos y
  stays_any r = record { base = k.base; right = λ based. stands_on (run.base number) x y (k.right based) (r.runs (run.base number) tt (k.right based)) }

  -- ---- what happened, from what was seen

  happens : RunsBy (HasRepos repos) x y → Happens run (sited number x) (sited number y)
  happens r = record { number = refl; does = λ based. r.runs (run.base number) (number, k.base based) (k.right based) }

  happens_any : RunsBy AnyBase x y → Happens run (sited number x) (sited number y)
  happens_any r = record { number = refl; does = λ based. r.runs (run.base number) tt (k.right based) }

  pub happened : (s : Sited) → sited number x ≡ s → RunsBy (HasRepos repos) x y → Happens run s (sited number y)
  happened s is r = subst (λ (t : Sited). Happens run t (sited number y)) is (happens r)

  pub happened_any : (s : Sited) → sited number x ≡ s → RunsBy AnyBase x y → Happens run s (sited number y)
  happened_any s is r = subst (λ (t : Sited). Happens run t (sited number y)) is (happens_any r)

  -- ---- what it shows

  if_up : (t : Bool) (U D : Type 0) → t ≡ true → U → IfUp t U D
  if_up true U D e u = u
  if_up false U D e u = absurd (never e)
    where
      never : false ≡ true → ⊥
      never n = cc

  shows : {X : Type 0} (c : ℕ) (result : Result X Refusal) (W : Base → List Item → List Item → Unsettled → Type 0) → x.is_up ≡ true → WorksBy (HasRepos repos) x y W → SiteDoes run c (sited number x) (sited number y) result W
  shows c result W up w = λ based. if_up x.is_up _ _ up (w.works (run.base number) (unsettled_of (run.base number) c (trace_of y.trace) (phase y)) (number, k.base based) (k.right based) (may_leave (run.base number) c (trace_of y.trace) (phase y)))

  shows_any : {X : Type 0} (c : ℕ) (result : Result X Refusal) (W : Base → List Item → List Item → Unsettled → Type 0) → x.is_up ≡ true → WorksBy AnyBase x y W → SiteDoes run c (sited number x) (sited number y) result W
  shows_any c result W up w = λ based. if_up x.is_up _ _ up (w.works (run.base number) (unsettled_of (run.base number) c (trace_of y.trace) (phase y)) tt (k.right based) (may_leave (run.base number) c (trace_of y.trace) (phase y)))

  pub shown : {X : Type 0} (s : Sited) (result : Result X Refusal) (W : Base → List Item → List Item → Unsettled → Type 0) → sited number x ≡ s → x.is_up ≡ true → WorksBy (HasRepos repos) x y W → (c : ℕ) → SiteDoes run c s (sited number y) result W
  shown s result W is up w = λ c. subst (λ (t : Sited). SiteDoes run c t (sited number y) result W) is (shows c result W up w)

  pub shown_any : {X : Type 0} (s : Sited) (result : Result X Refusal) (W : Base → List Item → List Item → Unsettled → Type 0) → sited number x ≡ s → x.is_up ≡ true → WorksBy AnyBase x y W → (c : ℕ) → SiteDoes run c s (sited number y) result W
  shown_any s result W is up w = λ c. subst (λ (t : Sited). SiteDoes run c t (sited number y) result W) is (shows_any c result W up w)

-- ---- one that is down

pub still : (run : Run) (number : ℕ) (x : Shown) (s : Sited) → sited number x ≡ s → Happens run s (sited number x)
still run number x s is = subst (λ (t : Sited). Happens run t (sited number x)) is (record { number = refl; does = λ based. runs_same (run.base number) x x refl })

if_down : (t : Bool) (U D : Type 0) → t ≡ false → D → IfUp t U D
if_down false U D e d = d
if_down true U D e d = absurd (never e)
  where
    never : true ≡ false → ⊥
    never n = cc

down_shows : (X : Type 0) (run : Run) (c number : ℕ) (x : Shown) (W : Base → List Item → List Item → Unsettled → Type 0) → x.is_up ≡ false → SiteDoes {X = X} run c (sited number x) (sited number x) (Err (refused.Down number)) W
down_shows X run c number x W down = λ based. if_down x.is_up _ _ down (refl, refl)

pub shown_down : (X : Type 0) (run : Run) (number : ℕ) (x : Shown) (s : Sited) (W : Base → List Item → List Item → Unsettled → Type 0) → sited number x ≡ s → x.is_up ≡ false → (c : ℕ) → SiteDoes {X = X} run c s (sited number x) (Err (refused.Down number)) W
shown_down X run number x s W is down = λ c. subst (λ (t : Sited). SiteDoes {X = X} run c t (sited number x) (Err (refused.Down number)) W) is (down_shows X run c number x W down)
