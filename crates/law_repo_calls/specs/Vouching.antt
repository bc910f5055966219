-- What no repository tests, and who calls it vouches for.
use Rattle.cached_sets.specs.Noted.{most_noted}
use Rattle.class_defs.specs.declared.store.Setup.{Setup}
use Rattle.log_entries.specs.declared.request.Request.{Request}
use Rattle.repo_state.specs.declared.held.Held.{Held}
use Rattle.spec_history.specs.History.{Base}
use Rattle.repo_core.specs.Shown.{Shown}
use Rattle.law_repo_memory.specs.Agreeing.{state_of, trace_of}
use Rattle.law_repo_memory.specs.Judging.{IsVouched}
use Rattle.law_repo_memory.specs.Running.{CanBegin}
use Rattle.spec_trace.specs.Session.{session}
use Rattle.spec_trace.specs.Exact.{WritesOnPages}
use Rattle.std.specs.Option.{IsSomeAnd}
use Rattle.std.specs.Prelude.{Some, [], length, true, ℕ, ◌+◌, ◌<◌, ◌^◌, ◌≡◌, ◌≤◌}
use Rattle.repo_format.specs.Fresh.{first_ts, page_count}
use Rattle.thor_value.specs.FiniteMap.{empty, has}
use Rattle.thor_value.specs.declared.names.Ts.{Ts}

-- the next upgrade can be counted in 32 bits
abbrev pub IsCounted : Shown → Type 0
IsCounted x = length x.held.upgrades + 1 < 2 ^ 32

-- The request q of the session s owes nothing by itself: it is that session's and its client's, it knows no place that isn't
-- there, and what it writes stands on pages that were granted and that the session has.
pub record IsSent (b : Base) (x : Shown) (s : ℕ) (q : Request) : Type 0 where
  pub own : q.session ≡ s
  pub vouched : IsVouched b x.trace x.held q
  pub client : IsSomeAnd (session b (trace_of x.trace) s) (λ v. v.client ≡ q.who.client)
  pub upto : q.upto ≤ length x.trace.history
  pub paged : WritesOnPages b (trace_of x.trace) s q
  pub counted : IsCounted x

-- the decision to commit a transaction was made here in this run
abbrev pub WasKept : Base → Shown → Ts → Type 0
WasKept b x t = has (state_of b x.trace).kept t ≡ true

-- what was recovered says what the base says
pub record IsBase (b : Base) (h : Held) : Type 0 where
  pub silence : b.silence ≡ Some most_noted
  pub begins : CanBegin b h
  pub limit : h.objects.mob.limit ≡ b.limit

-- The base of a new store, with a buffer of so many bytes: nothing has happened, and the pages of its roots are granted.
pub record IsNewBase (repo : ℕ) (setup : Setup) (mob : ℕ) (b : Base) : Type 0 where
  pub number : b.repo ≡ repo
  pub life : b.life ≡ 0
  pub count : b.count ≡ 0
  pub limit : b.limit ≡ mob
  pub top : b.top ≡ first_ts
  pub texts : b.texts ≡ []
  pub next_page : b.next_page ≡ page_count repo setup.roots
  pub alone : b.alone ≡ empty
  pub left : b.left ≡ empty
  pub silence : b.silence ≡ Some most_noted
