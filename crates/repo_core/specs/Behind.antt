-- What stands behind the events of a repository.
use Rattle.log_entries.specs.declared.entry.Entry.TheVariants.{Life, One, Upgraded}
use Rattle.log_entries.specs.declared.entry.Entry.{Entry}
use Rattle.log_entries.specs.declared.request.Kind.TheVariants.{App, Transform, Upgrade}
use Rattle.log_entries.specs.declared.request.Kind.{Kind}
use Rattle.log_entries.specs.declared.request.Request.{Request}
use Rattle.repo_state.specs.Entering.{entered}
use Rattle.repo_state.specs.declared.held.Held.{Held}
use Rattle.session_outbox.specs.Messages.{place_of}
use Rattle.session_outbox.specs.declared.answers.Asked.TheVariants.{Settled, Undecided}
use Rattle.session_outbox.specs.declared.answers.Asked.{Asked}
use Rattle.session_outbox.specs.declared.answers.Verdict.{Verdict}
use Rattle.session_outbox.specs.declared.message.Message.{Message}
use Rattle.spec_trace.specs.declared.mark.Mark.TheVariants.{Refused, Took}
use Rattle.repo_durable.specs.Flushes.{HasFlushed}
use Rattle.repo_durable.specs.Kept.{is_fault}
use Rattle.std.specs.Prelude.{Bool, Err, None, Ok, Option, Result, Some, cond, false, is_some, length, min, nat_eq, true, ℕ, ◌-◌, ◌^◌, ◌≡◌, ◌⊎◌}
use Rattle.thor_value.specs.FiniteMap.{get}
use Rattle.thor_value.specs.Names.{Before}
use Rattle.thor_value.specs.declared.names.Ts.{Ts}
use Rattle.repo_trace.specs.Recorded.{Recorded, with_entry, with_mark}
use Rattle.two_phase.specs.Contents.{Contents, keeps, open_at, standing, without}
use Rattle.two_phase.specs.declared.standing.Standing.TheVariants.{Aborted, Committed, Open}
use Rattle.two_phase.specs.declared.standing.Standing.{Standing}
use Rattle.repo_refusals.specs.declared.refusal.Refusal.TheVariants as the
use Rattle.repo_refusals.specs.declared.refusal.Refusal.{Refusal}

-- Whether it is up behind a call: after an answer it was up and is; after a fault it is down; after another
-- refusal it is as it was.
abbrev pub Stands : {X : Type 0} → Bool → Result X Refusal → Bool → Type 0
Stands before (Ok x) after = (before ≡ true) × (after ≡ true)
Stands before (Err r) after = after ≡ cond (is_fault r) false before

-- Whether a draw, a grant or a request that is refused so gets a mark: not where the repository is down.
abbrev pub is_marked : Refusal → Bool
is_marked (the.Reason r) = true
is_marked (the.Down r) = false
is_marked (the.Stopped r) = false
is_marked (the.Damaged r k) = false
is_marked the.NoMemory = false

-- the trace behind a refused draw, grant or request of a session
abbrev pub with_refusal : Recorded → ℕ → Option Request → Refusal → Recorded
with_refusal trace s q r = cond (is_marked r) (with_mark trace (Refused s q r)) trace

-- the trace behind a message that is taken, where there is one
abbrev pub with_taken : Recorded → ℕ → Option Message → Recorded
with_taken trace s None = trace
with_taken trace s (Some m) = with_mark trace (Took s (place_of m))

-- the entry of a request that commits here alone
abbrev pub alone_entry : Kind → Request → Entry
alone_entry App q = One q
alone_entry Transform q = One q
alone_entry (Upgrade text) q = Upgraded q

-- only objects were moved, from the buffer to their pages or into memory
abbrev pub MovesObjects : Held → Held → Type 0
MovesObjects old new = new ≡ record old { objects = new.objects }

-- an entry has come, and pages may have been flushed before it
pub record HasMoved (old : Held) (e : Entry) (new : Held) : Type 0 where
  pub between : Held
  pub moves : MovesObjects old between
  pub flushed : HasFlushed old.objects.mob.objects between.objects.mob.objects
  pub entered : new ≡ entered between e

-- the trace before the Life of a restart: that from before, or that with the entry that was being written
abbrev pub IsRecovered : Recorded → Recorded → Type 0
IsRecovered old new = (new ≡ old) ⊎ ((e : Entry) × (new ≡ with_entry old e))

-- the trace behind a restart
pub record IsRestarted (old new : Recorded) : Type 0 where
  pub before : Recorded
  pub life : ℕ
  pub recovered : IsRecovered old before
  pub begun : new ≡ with_entry before (Life life)

-- the decision to commit a transaction isn't kept any more
abbrev pub forgotten : Held → Ts → Held
forgotten h t = record h { table = cond (keeps (get h.table.transactions t)) (without h.table t) h.table }

-- how many upgrades are installed, in a count that stays at 2 ^ 32 - 1
abbrev pub epoch_of : Held → ℕ
epoch_of h = min (length h.upgrades) (2 ^ 32 - 1)

abbrev pub is_of_session : ℕ → Option Request → Bool
is_of_session s None = false
is_of_session s (Some q) = nat_eq q.session s

-- whether a transaction is prepared and undecided, by a request of this session
abbrev pub has_prepared : Held → ℕ → Ts → Bool
has_prepared h s t = is_of_session s (open_at h.table t)

abbrev pub is_committed : Standing → Bool
is_committed Open = false
is_committed Committed = true
is_committed Aborted = false

-- whether a transaction commits by this verdict
pub record IsVerdict (v : Verdict) (t : Ts) (commits : Bool) : Type 0 where
  pub tx : v.tx ≡ t
  pub commit : v.commit ≡ commits

-- how a coordinator answers: undecided is what it has open and coordinates
abbrev pub IsAsked : Held → Ts → Asked → Type 0
IsAsked h t Undecided = (standing h.table t ≡ Open) × (t.repo ≡ h.repo)
IsAsked h t (Settled v) = IsVerdict v t (is_committed (standing h.table t))

-- each transaction that is prepared and undecided is coordinated here
abbrev pub AreOwn : ℕ → Contents → Type 0
AreOwn repo c = (t : Ts) → is_some (open_at c t) ≡ true → nat_eq t.repo repo ≡ true

-- of the transactions of other coordinators that are prepared and undecided this has the least timestamp
pub record IsLeastOfOthers (repo : ℕ) (c : Contents) (t : Ts) : Type 0 where
  pub other : nat_eq t.repo repo ≡ false
  pub prepared : is_some (open_at c t) ≡ true
  pub least : (u : Ts) → Before u t → is_some (open_at c u) ≡ true → nat_eq u.repo repo ≡ true
