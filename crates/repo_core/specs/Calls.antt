-- The conditions of calls.
use Rattle.log_entries.specs.RequestForm.{IsWellFormed}
use Rattle.log_entries.specs.declared.entry.Entry.TheVariants.{Decided, Finished, Life, One, Prepared, Upgraded}
use Rattle.log_entries.specs.declared.entry.Entry.{Entry}
use Rattle.log_entries.specs.declared.request.Request.{Request}
use Rattle.repo_state.specs.Entering.{can_enter}
use Rattle.commit_log.specs.Recovered.{are_of}
use Rattle.repo_state.specs.declared.held.Held.{Held}
use Rattle.repo_sessions.specs.Sessions.{is_live}
use Rattle.log_codec.specs.Grammar.{BodyFits}
use Rattle.log_codec.specs.declared.body.Body.TheVariants.{Entry as AnEntry}
use Rattle.mob_buffer.specs.Buffer.{bytes_of}
use Rattle.repo_core.specs.Behind.{epoch_of}
use Rattle.repo_core.specs.Shown.{Shown}
use Rattle.spec_trace.specs.Calls.{drawn_time}
use Rattle.std.specs.Map.{keys_of}
use Rattle.std.specs.Option.{option_or}
use Rattle.std.specs.Prelude.{[], Bool, IsTrue, None, Option, Some, cond, false, max, nat_lt, true, ℕ, ◌^◌, ◌↔◌, ◌≡◌, ◌≤◌, ◌⊎◌}
use Rattle.thor_value.specs.FiniteMap.{has}
use Rattle.validation_queue.specs.Clashes.{clash}
use Rattle.validation_queue.specs.Names.{IsInOrder}
use Rattle.base_reasons.specs.declared.reason.Reason.TheVariants as reasons
use Rattle.repo_refusals.specs.declared.refusal.Refusal.TheVariants as refused
use Rattle.repo_refusals.specs.declared.refusal.Refusal.{Refusal}
use Rattle.repo_volatile.specs.Volatile.{Memory, knows, transaction_of, verdict}

-- A request may be sent to a repository which has this repository alone for a participant or other ones, too: it
-- has its form, writes objects of this repository, and its transaction isn't known here.
pub record MayRequest (h : Held) (M : Memory) (q : Request) (alone : Bool) : Type 0 where
  pub form : IsWellFormed q
  pub in_order : IsInOrder q.ros (keys_of q.writes)
  pub here : IsTrue (are_of h.repo q.writes)
  pub takes_part : IsTrue alone ↔ (q.others ≡ [])
  pub unknown : knows M q.tx ≡ false
  pub unkept : has h.table.transactions q.tx ≡ false

-- what the buffer's limit has against a request
abbrev pub full_of : Held → Request → Option Refusal
full_of h q = cond (nat_lt h.objects.mob.limit (bytes_of q.writes)) (Some (refused.Reason (reasons.Full h.objects.mob.limit))) None

-- what stands against a request of a session: the first refusal that holds, and behind all others that the buffer can't
-- hold what it writes
abbrev pub judged : Held → Memory → ℕ → Request → Option Refusal
judged h M s q = option_or (verdict M (epoch_of h) s q) (full_of h q)

-- nothing stands against a request that comes
pub record Comes (M : Memory) (q : Request) : Type 0 where
  pub in_order : IsInOrder q.ros (keys_of q.writes)
  pub accepted : clash M.queue (transaction_of q) ≡ None
  pub new : has M.queue.members q.tx ≡ false

abbrev pub ComesIn : Memory → Entry → Type 0
ComesIn M (Life n) = Unit {0}
ComesIn M (One q) = Comes M q
ComesIn M (Prepared q) = Comes M q
ComesIn M (Upgraded q) = Comes M q
ComesIn M (Decided t c) = Unit {0}
ComesIn M (Finished t c) = Unit {0}

-- an entry can be written
pub record CanWrite (h : Held) (M : Memory) (e : Entry) : Type 0 where
  pub fits : BodyFits (AnEntry e)
  pub takes : IsTrue (can_enter h e)
  pub comes : ComesIn M e

-- What of the memory is told of an entry exactly: where it decides a transaction, that is in the queue.
abbrev pub IsTold : Memory → Entry → Type 0
IsTold M (Life n) = Unit {0}
IsTold M (One q) = Unit {0}
IsTold M (Prepared q) = Unit {0}
IsTold M (Decided t c) = has M.queue.members t ≡ true
IsTold M (Finished t c) = has M.queue.members t ≡ true
IsTold M (Upgraded q) = Unit {0}

-- a draw is refused so, where the client has seen times up to the floor
abbrev pub DrawIsRefused : Memory → ℕ → ℕ → Refusal → Type 0
DrawIsRefused M s floor r =
    ((r ≡ refused.Reason (reasons.Gone s)) × (is_live M.sessions s ≡ false))
    ⊎ ((r ≡ (refused.Reason reasons.ClockEnd)) × (is_live M.sessions s ≡ true) × ((now : ℕ) × (2 ^ 62 ≤ drawn_time now M.drawn floor)))

-- a grant is refused so
abbrev pub GrantIsRefused : Held → Memory → ℕ → Refusal → Type 0
GrantIsRefused h M s r =
    ((r ≡ refused.Reason (reasons.Gone s)) × (is_live M.sessions s ≡ false))
    ⊎ ((r ≡ refused.Reason (reasons.Full 65536)) × (is_live M.sessions s ≡ true) × (65536 ≤ h.next_grant))

-- the clock was asked once, by a draw above the floor, and what it gave ends the times that can be drawn
pub record WasAsked (old new : Shown) (floor : ℕ) : Type 0 where
  pub now : ℕ
  pub clock : new.clock ≡ max old.clock now
  pub late : 2 ^ 62 ≤ drawn_time now old.memory.drawn floor

-- the clock was asked once, and with what it gave this time is drawn above the floor
pub record IsDrawn (old new : Shown) (floor time : ℕ) : Type 0 where
  pub now : ℕ
  pub clock : new.clock ≡ max old.clock now
  pub drawn : time ≡ drawn_time now old.memory.drawn floor
