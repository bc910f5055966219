-- The repositories of a run, as one client sees them to whom they are lent.
use Rattle.client_port.specs.Views.{Halted, Unsettled, View}
use Rattle.repo_site.specs.Standing.{unsettled_of}
use Rattle.repo_site.specs.Seen.{phase}
use Rattle.repo_site.specs.Agreeing.{trace_of}
use Rattle.repo_site.specs.Run.{Run}
use Rattle.repo_site.specs.Sited.{Sited}
use Rattle.spec_trace.specs.Trace.{Item}
use Rattle.std.specs.List.{slice_get}
use Rattle.std.specs.Prelude.{List, None, Option, Some, [], length, true, ℕ, ◌≡◌}

-- The client to whom they are lent, and the repositories, in their order.
pub record Lent : Type 0 where
  pub client : ℕ
  pub sites : List Sited

-- each stands at the place of its number
pub record AreInPlace (sites : List Sited) : Type 0 where
  pub placed : (r : ℕ) (x : Sited) → slice_get sites r ≡ Some x → x.number ≡ r

-- so many of them, each in its place
pub record AreLent (n : ℕ) (sites : List Sited) : Type 0 where
  pub placed : AreInPlace sites
  pub count : length sites ≡ n

abbrev pub trace_at : Option Sited → List Item
trace_at None = []
trace_at (Some x) = trace_of x.shown.trace

-- what is unsettled of the client c; one that isn't there is down
abbrev pub unsettled_at : Run → ℕ → Option Sited → Unsettled
unsettled_at run c None = Halted
unsettled_at run c (Some x) = unsettled_of (run.base x.number) c (trace_of x.shown.trace) (phase x.shown)

-- what the client sees: all of each trace
abbrev pub view_of : Run → ℕ → List Sited → View
view_of run c sites = record {
  opened = record { client = c; alone = true; repos = length sites; base = run.base };
  seen = λ r. trace_at (slice_get sites r);
  unsettled = λ r. unsettled_at run c (slice_get sites r);
}
