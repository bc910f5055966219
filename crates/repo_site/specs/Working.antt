-- What a call on a repository of a run does, as a client sees it.
use Rattle.client_port.specs.Growing.{Grew}
use Rattle.client_port.specs.Views.{Calm, Halted, MayCome, Unsettled}
use Rattle.client_port.specs.Works.{IsDown, IsHalted}
use Rattle.law_client_views.specs.Standing.{unsettled_of}
use Rattle.law_repo_calls.specs.Seen.{IsRun, StandsRight, phase}
use Rattle.law_repo_memory.specs.Agreeing.{trace_of}
use Rattle.law_repo_runs.specs.Standing.{Down, Phase, Torn, Up}
use Rattle.repo_core.specs.Shown.{Shown}
use Rattle.repo_refusals.specs.declared.refusal.Refusal.{Refusal}
use Rattle.repo_site.specs.Run.{Run}
use Rattle.repo_site.specs.Sited.{IsBaseOf, Sited}
use Rattle.spec_history.specs.History.{Base}
use Rattle.spec_trace.specs.Trace.{Item}
use Rattle.std.specs.Prelude.{Bool, List, None, Result, Some, false, true, ℕ, ◌≡◌, ◌⊎◌}

-- what may be unsettled of a client, of a repository that stands so: an entry that was being written is its own or another's
abbrev pub MayLeave : Phase → Unsettled → Type 0
MayLeave Up u = u ≡ Calm
MayLeave (Down None) u = u ≡ Halted
MayLeave (Down (Some e)) u = (u ≡ MayCome e) ⊎ (u ≡ Halted)
MayLeave Torn u = u ≡ Halted

-- ---- a call on a repository by itself

-- whatever the base
abbrev pub AnyBase : Base → Type 0
AnyBase b = Unit {0}

-- the base of one of so many repositories
abbrev pub HasRepos : ℕ → Base → Type 0
HasRepos repos b = (number : ℕ) × IsBaseOf b number repos

-- It is a run of events of a repository that stands right by such a base.
pub record RunsBy (Q : Base → Type 0) (x y : Shown) : Type 0 where
  pub runs : (b : Base) → Q b → StandsRight b x → IsRun b x y

-- It does its work there, whatever is unsettled behind it.
pub record WorksBy (Q : Base → Type 0) (x y : Shown) (work : Base → List Item → List Item → Unsettled → Type 0) : Type 0 where
  pub works : (b : Base) (u : Unsettled) → Q b → StandsRight b x → MayLeave (phase y) u → work b (trace_of x.trace) (trace_of y.trace) u

-- It is no client's, and is growth for each.
pub record GrowsBy (x y : Shown) : Type 0 where
  pub grows : (b : Base) (c : ℕ) → StandsRight b x → Grew b c (unsettled_of b c (trace_of x.trace) (phase x)) (trace_of x.trace) (unsettled_of b c (trace_of y.trace) (phase y)) (trace_of y.trace)

-- Nothing was done, and the repository is down.
pub record Halts (x y : Shown) : Type 0 where
  pub halts : (u : Unsettled) → MayLeave (phase y) u → IsHalted (trace_of x.trace) (trace_of y.trace) u

-- ---- a call on the repository of a run

abbrev pub IfUp : Bool → Type 0 → Type 0 → Type 0
IfUp true up down = up
IfUp false up down = down

-- A call of the client c: where the repository is down it answers Down and stays as it is, else it does its work on the trace.
abbrev pub SiteShows : {X : Type 0} → Run → ℕ → Sited → Sited → Result X Refusal → (Base → List Item → List Item → Unsettled → Type 0) → Type 0
SiteShows run c old new result work =
    IfUp old.shown.is_up
    (work (run.base old.number) (trace_of old.shown.trace) (trace_of new.shown.trace) (unsettled_of (run.base old.number) c (trace_of new.shown.trace) (phase new.shown)))
    (IsDown old.number result × (new ≡ old))

-- The same, where each repository of the run has a base.
abbrev pub SiteDoes : {X : Type 0} → Run → ℕ → Sited → Sited → Result X Refusal → (Base → List Item → List Item → Unsettled → Type 0) → Type 0
SiteDoes run c old new result work = run.based ≡ true → SiteShows run c old new result work

-- An event that is no client's is growth for the client c, where each repository of the run has a base.
abbrev pub SiteGrows : Run → ℕ → Sited → Sited → Type 0
SiteGrows run c old new =
    run.based ≡ true →
    Grew (run.base old.number) c (unsettled_of (run.base old.number) c (trace_of old.shown.trace) (phase old.shown)) (trace_of old.shown.trace) (unsettled_of (run.base old.number) c (trace_of new.shown.trace) (phase new.shown)) (trace_of new.shown.trace)
