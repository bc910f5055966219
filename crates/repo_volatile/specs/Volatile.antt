-- What of a repository a restart begins anew, what stands against a request by it, and what events do to it.
use Rattle.cached_sets.specs.Sets as sets
use Rattle.log_entries.specs.declared.request.Kind.TheVariants.{App, Transform, Upgrade}
use Rattle.log_entries.specs.declared.request.Kind.{Kind}
use Rattle.log_entries.specs.declared.request.Request.{Request}
use Rattle.repo_sessions.specs.Sessions.{Kept, acknowledged, ended, is_live}
use Rattle.std.specs.Option.{option_map, option_or}
use Rattle.std.specs.Prelude.{Bool, Err, None, Ok, Option, Result, Some, cond, false, nat_eq, true, ℕ, ◌≡◌}
use Rattle.thor_value.specs.FiniteMap.{Set, add, has}
use Rattle.thor_value.specs.Names.{ts_cmp}
use Rattle.thor_value.specs.declared.names.Oref.{Oref}
use Rattle.thor_value.specs.declared.names.Ts.{Ts}
use Rattle.validation_queue.specs.Clashes.{clash}
use Rattle.validation_queue.specs.Contents.{Contents, Transaction, cleared, enter, first_blocking, transaction}
use Rattle.base_reasons.specs.declared.reason.Reason.TheVariants as reasons
use Rattle.base_reasons.specs.declared.reason.Reason.{Reason}
use Rattle.repo_refusals.specs.Queue.{is_too_old}
use Rattle.repo_refusals.specs.declared.refusal.Refusal.TheVariants as refused
use Rattle.repo_refusals.specs.declared.refusal.Refusal.{Refusal}

pub record Memory : Type 0 where
  -- the transactions against which requests are validated
  pub queue : Contents
  pub sessions : Kept
  -- the transactions whose requests came since the opening, decided or not
  pub requested : Set ts_cmp
  -- the time that was drawn last; behind a restart the threshold's
  pub drawn : ℕ

abbrev pub is_upgrade_kind : Kind → Bool
is_upgrade_kind App = false
is_upgrade_kind Transform = false
is_upgrade_kind (Upgrade text) = true

-- the request as the queue sees it
abbrev pub transaction_of : Request → Transaction
transaction_of q = transaction q.tx (is_upgrade_kind q.kind) q.ros q.writes

-- whether a transaction is known
abbrev pub knows : Memory → Ts → Bool
knows M t = cond (has M.requested t) true (has M.queue.members t)

-- ---- what stands against a request

-- what others' transactions have against a request, and what its session's invalid set has, which is tried
-- behind the threshold
abbrev pub against : Option Reason → Option (Oref × ℕ) → Option Refusal
against None stale = option_map (λ s. refused.Reason (reasons.Stale s.0 s.1)) stale
against (Some c) stale = cond (is_too_old c) (Some (refused.Reason c)) (option_or (option_map (λ s. refused.Reason (reasons.Stale s.0 s.1)) stale) (Some (refused.Reason c)))

-- the first refusal that holds of a request of a session, at an epoch
abbrev pub verdict : Memory → ℕ → ℕ → Request → Option Refusal
verdict M epoch s q =
    cond (is_live M.sessions s)
    (option_or (option_map (λ t. refused.Reason (reasons.Blocked t)) (first_blocking M.queue (is_upgrade_kind q.kind)))
    (cond (nat_eq q.epoch epoch) (against (clash M.queue (transaction_of q)) (sets.stale M.sessions.sets s q.ros q.upto)) (Some (refused.Reason (reasons.Epoch epoch)))))
    (Some (refused.Reason (reasons.Gone s)))

abbrev pub answer : Option Refusal → Result (Unit {0}) Refusal
answer None = Ok tt
answer (Some r) = Err r

-- ---- what events do

-- an accepted request comes
abbrev pub entered : Memory → Request → Bool → Memory
entered M q decided = record M {
  queue = enter M.queue (transaction_of q) decided;
  requested = add M.requested q.tx;
  sessions = acknowledged M.sessions q.session q.upto;
}

-- the timestamp stands for all transactions that were in the queue
abbrev pub stands_at : Memory → Ts → Memory
stands_at M t = record M { queue = cleared t; drawn = t.time }

-- a life begins above a timestamp
abbrev pub begun : Memory → Ts → Memory
begun M t = record (stands_at M t) { sessions = ended M.sessions }

-- ---- what faults leave

-- What a restart takes of the memory is there still: the transactions that came count as such, and sessions that begin
-- later have higher numbers.
pub record Outlasts (before after : Memory) : Type 0 where
  pub came : (t : Ts) → has before.requested t ≡ true → has after.requested t ≡ true
  pub last : after.sessions.last ≡ before.sessions.last
