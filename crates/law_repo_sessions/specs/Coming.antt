-- How entries come to what is kept of the sessions.
use Rattle.log_entries.specs.declared.entry.Entry.{Entry}
use Rattle.log_entries.specs.declared.request.Request.{Request}
use Rattle.repo_sessions.specs.Sessions.{Kept, acknowledged}
use Rattle.spec_history.specs.History.{Base, commit_of, epoch_of, state}
use Rattle.spec_history.specs.Requests.{is_upgrade}
use Rattle.spec_trace.specs.Session.{request_in}
use Rattle.spec_trace.specs.Trace.{Item, entries}
use Rattle.std.specs.List.{AllByRecursion}
use Rattle.std.specs.Map.{keys_of}
use Rattle.std.specs.Option.{IfSome}
use Rattle.std.specs.Prelude.{List, None, Option, Some, [], length, true, ℕ, ◌+◌, ◌∷◌, ◌≡◌, ◌≤◌}
use Rattle.validation_queue.specs.Names.{Rises}
use Rattle.repo_volatile.specs.Telling.{CommitTold}

-- what the request of an entry acknowledges
abbrev pub acknowledged_by : Kept → Option Request → Kept
acknowledged_by K None = K
acknowledged_by K (Some q) = acknowledged K q.session q.upto

-- Commits were told, of which there is one at most. An upgrade has this number.
abbrev pub CommitsTold : Kept → Kept → ℕ → List (ℕ × Request) → Type 0
CommitsTold before after number [] = after ≡ before
CommitsTold before after number (c ∷ cs) = CommitTold before after c.1 number c.0

-- The names that q wrote rise, and an upgrade wrote none.
pub record IsTellable (q : Request) : Type 0 where
  pub rise : Rises (keys_of q.writes)
  pub bare : is_upgrade q ≡ true → q.writes ≡ []

-- The entry e, which is no Life, has come behind the trace: what was kept of the sessions before is `after`
-- now.
pub record HasCome (b : Base) (T : List Item) (e : Entry) (before after : Kept) : Type 0 where
  -- the client of its request knows no place that isn't there
  pub upto : IfSome (request_in e) (λ q. q.upto ≤ length (entries T))
  pub form : AllByRecursion (λ c. IsTellable c.1) (commit_of b (state b (entries T)) e)
  pub told : CommitsTold (acknowledged_by before (request_in e)) after (epoch_of (state b (entries T)) + 1) (commit_of b (state b (entries T)) e)
