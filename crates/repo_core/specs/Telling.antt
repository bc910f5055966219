-- What sessions are told of entries and pages.
use Rattle.log_entries.specs.declared.entry.Entry.TheVariants.{Decided, Finished, Life, One, Prepared, Upgraded}
use Rattle.log_entries.specs.declared.entry.Entry.{Entry}
use Rattle.repo_state.specs.declared.held.Held.{Held}
use Rattle.repo_sessions.specs.Sessions.{Kept, acknowledged, ended, sent}
use Rattle.session_outbox.specs.declared.message.Message.TheVariants.{Page}
use Rattle.repo_core.specs.Behind.{epoch_of}
use Rattle.std.specs.Prelude.{List, min, ℕ, ◌+◌, ◌-◌, ◌^◌, ◌≡◌}
use Rattle.two_phase.specs.Contents.{open_at}
use Rattle.repo_volatile.specs.Telling.{CommitTold, TellsDecided}
use Rattle.repo_volatile.specs.Volatile.{Memory}

-- the number of the upgrade that is installed next, in a count that stays at 2 ^ 32 - 1
abbrev pub next_epoch : Held → ℕ
next_epoch h = min (epoch_of h + 1) (2 ^ 32 - 1)

-- What sessions are told of an entry at a place, where h is held before it. Its client knows what it acknowledges.
abbrev pub Tells : Held → Kept → ℕ → Entry → Kept → Type 0
Tells h before place (Life n) after = after ≡ ended before
Tells h before place (One q) after = CommitTold (acknowledged before q.session q.upto) after q (next_epoch h) place
Tells h before place (Prepared q) after = after ≡ acknowledged before q.session q.upto
Tells h before place (Decided t c) after = TellsDecided before after (next_epoch h) place c (open_at h.table t)
Tells h before place (Finished t c) after = TellsDecided before after (next_epoch h) place c (open_at h.table t)
Tells h before place (Upgraded q) after = CommitTold (acknowledged before q.session q.upto) after q (next_epoch h) place

-- a page is sent to a session, whose client knows what was written below upto
pub record SendsPage (M : Memory) (s page upto place : ℕ) (N : Memory) : Type 0 where
  pub bytes : List ℕ
  pub sends : N ≡ record M { sessions = acknowledged (sent M.sessions s page (Page page bytes place)) s upto }
