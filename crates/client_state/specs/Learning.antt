-- What a client learns from the refusal of a request (this project's).
use Rattle.client_state.specs.Links.{at_repo, waiting}
use Rattle.client_state.specs.declared.held.Held.{Held}
use Rattle.client_state.specs.declared.link.Link.{Link}
use Rattle.client_state.specs.declared.link.Link.TheVariants.{Apart, Joined, Unsettled}
use Rattle.client_state.specs.declared.link.Waits.TheVariants as waits
use Rattle.std.specs.Prelude.{Bool, List, cond, false, max, nat_eq, ℕ, ◌≡◌, ◌≤◌}
use Rattle.base_reasons.specs.declared.reason.Reason.TheVariants as reasons
use Rattle.repo_refusals.specs.declared.refusal.Refusal.TheVariants as refused
use Rattle.repo_refusals.specs.declared.refusal.Refusal.{Refusal}

-- whether a link is a session of this number
abbrev pub is_session : ℕ → Link → Bool
is_session n Apart = false
is_session n (Joined s upto w) = nat_eq s n
is_session n (Unsettled sent index) = false

-- a session is gone
abbrev pub without_session : ℕ → Link → Link
without_session n link = cond (is_session n link) Apart link

-- How a client stands with the repositories behind a refusal by one of them: a session that is gone is no more, behind
-- Stale the messages of the write are waited for, and behind Epoch those of the upgrades.
abbrev pub links_learnt : Refusal → ℕ → List Link → List Link
links_learnt (refused.Reason (reasons.Gone session)) repo links = at_repo links repo (without_session session)
links_learnt (refused.Reason (reasons.Epoch n)) repo links = at_repo links repo (waiting (waits.Epoch n))
links_learnt (refused.Reason (reasons.Blocked tx)) repo links = links
links_learnt (refused.Reason (reasons.TooOld threshold)) repo links = links
links_learnt (refused.Reason (reasons.Stale oref place)) repo links = at_repo links repo (waiting (waits.Past place))
links_learnt (refused.Reason (reasons.Earlier tx oref)) repo links = links
links_learnt (refused.Reason (reasons.Later tx oref)) repo links = links
links_learnt (refused.Reason (reasons.Full limit)) repo links = links
links_learnt (refused.Down n) repo links = links
links_learnt (refused.Stopped n) repo links = links
links_learnt (refused.Damaged n place) repo links = links
links_learnt (refused.Reason reasons.ClockEnd) repo links = links
links_learnt refused.NoMemory repo links = links

-- The time above which the next transaction is drawn: above what the refusal was for.
abbrev pub floor_learnt : Refusal → ℕ → ℕ
floor_learnt (refused.Reason (reasons.Gone session)) floor = floor
floor_learnt (refused.Reason (reasons.Epoch n)) floor = floor
floor_learnt (refused.Reason (reasons.Blocked tx)) floor = floor
floor_learnt (refused.Reason (reasons.TooOld threshold)) floor = max floor threshold.time
floor_learnt (refused.Reason (reasons.Stale oref place)) floor = floor
floor_learnt (refused.Reason (reasons.Earlier tx oref)) floor = floor
floor_learnt (refused.Reason (reasons.Later tx oref)) floor = max floor tx.time
floor_learnt (refused.Reason (reasons.Full limit)) floor = floor
floor_learnt (refused.Down n) floor = floor
floor_learnt (refused.Stopped n) floor = floor
floor_learnt (refused.Damaged n place) floor = floor
floor_learnt (refused.Reason reasons.ClockEnd) floor = floor
floor_learnt refused.NoMemory floor = floor

-- The floor and the greatest epoch that was learnt stay as they are.
abbrev pub KeepsBounds : Held → Held → Type 0
KeepsBounds old new = (new.floor ≡ old.floor) × (new.learnt ≡ old.learnt)

-- Neither falls.
abbrev pub Rises : Held → Held → Type 0
Rises old new = (old.floor ≤ new.floor) × (old.learnt ≤ new.learnt)
