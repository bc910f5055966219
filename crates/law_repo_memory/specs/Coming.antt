-- What an entry makes of what is in memory.
use Rattle.log_entries.specs.declared.entry.Entry.TheVariants.{Decided, Finished, Life, One, Prepared, Upgraded}
use Rattle.log_entries.specs.declared.entry.Entry.{Entry}
use Rattle.log_entries.specs.declared.request.Request.{Request}
use Rattle.repo_state.specs.declared.held.Held.{Held}
use Rattle.std.specs.Option.{option_map}
use Rattle.std.specs.Prelude.{Bool, None, Option, Some, cond, false, nat_eq, true, ◌&&◌, ◌≡◌, ℕ}
use Rattle.thor_value.specs.FiniteMap.{IsSorted, Set, add, get, has}
use Rattle.thor_value.specs.Names.{ts_cmp}
use Rattle.thor_value.specs.declared.names.Ts.{Ts}
use Rattle.two_phase.specs.Contents as table
use Rattle.two_phase.specs.Contents.{open_at}
use Rattle.two_phase.specs.Walks.{is_past}
use Rattle.validation_queue.specs.Contents as queue
use Rattle.validation_queue.specs.Contents.{Contents}
use Rattle.validation_queue.specs.declared.member.Member as queued
use Rattle.repo_volatile.specs.Volatile.{Memory, is_upgrade_kind, stands_at, transaction_of}

-- the queue, the transactions that came and the time drawn last become these; of the sessions nothing is said
pub record Becomes (M : Memory) (behind : Contents) (came : Set ts_cmp) (time : ℕ) : Type 0 where
  pub queue : M.queue ≡ behind
  pub requested : M.requested ≡ came
  pub drawn : M.drawn ≡ time

-- the queue behind a request that commits here alone: an upgrade's timestamp stands for all that were in it
abbrev pub alone_queue : Contents → Request → Contents
alone_queue Q q = cond (is_upgrade_kind q.kind) (queue.cleared q.tx) (queue.enter Q (transaction_of q) true)

-- the queue behind the decision on a transaction of which this request is open
abbrev pub decided_queue : Contents → Ts → Bool → Option Request → Contents
decided_queue Q t c None = queue.decide Q t c
decided_queue Q t c (Some q) = cond (c && is_upgrade_kind q.kind) (queue.cleared q.tx) (queue.decide Q t c)

-- an open request of another repository's transaction that came in this run, as a member of the queue
abbrev pub reopened : ℕ → Set ts_cmp → Ts → Option Request → Option queued.Member
reopened repo requested t o = cond (nat_eq t.repo repo) None (cond (has requested t) (option_map (λ q. queue.member (transaction_of q) false) o) None)

-- Of the open requests of a table those of other repositories' transactions that came are put into a queue that was
-- empty.
pub record Reopens (repo : ℕ) (c : table.Contents) (M N : Memory) : Type 0 where
  pub threshold : N.queue.threshold ≡ M.queue.threshold
  pub sorted : IsSorted N.queue.members
  pub members : (t : Ts) → get N.queue.members t ≡ reopened repo M.requested t (open_at c t)
  pub requested : N.requested ≡ M.requested
  pub drawn : N.drawn ≡ M.drawn

-- those up to a timestamp are
pub record ReopensTo (repo : ℕ) (c : table.Contents) (M N : Memory) (after : Option Ts) : Type 0 where
  pub threshold : N.queue.threshold ≡ M.queue.threshold
  pub sorted : IsSorted N.queue.members
  pub members : (t : Ts) → get N.queue.members t ≡ cond (is_past ts_cmp after t) None (reopened repo M.requested t (open_at c t))
  pub requested : N.requested ≡ M.requested
  pub drawn : N.drawn ≡ M.drawn

-- A life begins: the queue has the threshold, and of the transactions that came those that stay undecided.
abbrev pub BeginsLife : Held → Memory → Memory → Type 0
BeginsLife h M N = Reopens h.repo h.table (stands_at M h.threshold) N

-- what an entry makes of the memory M, where h is held before it
abbrev pub Moves : Held → Memory → Entry → Memory → Type 0
Moves h M (Life n) N = BeginsLife h M N
Moves h M (One q) N = Becomes N (alone_queue M.queue q) (add M.requested q.tx) M.drawn
Moves h M (Prepared q) N = Becomes N (queue.enter M.queue (transaction_of q) false) (add M.requested q.tx) M.drawn
Moves h M (Decided t c) N = Becomes N (decided_queue M.queue t c (open_at h.table t)) M.requested M.drawn
Moves h M (Finished t c) N = Becomes N (decided_queue M.queue t c (open_at h.table t)) M.requested M.drawn
Moves h M (Upgraded q) N = Becomes N (alone_queue M.queue q) (add M.requested q.tx) M.drawn
