-- What a client makes of what it holds by a call that takes a message (this project's).
use Rattle.client_cache.specs.Copies.{Contents, kept}
use Rattle.client_state.specs.Moving.{CopiesTaken, Loses, StopsWaiting}
use Rattle.client_state.specs.Writing.{WritesNone, has_sent_to}
use Rattle.client_state.specs.declared.held.Held.{Held}
use Rattle.client_state.specs.declared.phase.Phase.{Phase}
use Rattle.session_outbox.specs.declared.answers.At.{At}
use Rattle.session_outbox.specs.declared.message.Message.TheVariants as messages
use Rattle.session_outbox.specs.declared.message.Message.{Message}
use Rattle.paused_eval.specs.Copies.{AreAmong}
use Rattle.client_port.specs.Acting.{IsTaken, Refuses}
use Rattle.client_port.specs.Views.{View}
use Rattle.client_port.specs.Works.{Does, ReceiveWork}
use Rattle.base_reasons.specs.declared.reason.Reason.TheVariants as reasons
use Rattle.std.specs.Prelude.{Bool, None, Ok, Option, true, ℕ, ◌≡◌, ◌≢◌}
use Rattle.repo_refusals.specs.declared.refusal.Refusal.TheVariants as refused
use Rattle.repo_refusals.specs.declared.refusal.Refusal.{Refusal}

-- the refusal tells of no session that is gone
abbrev pub IsNotGone : Refusal → Type 0
IsNotGone k = (n : ℕ) → k ≢ refused.Reason (reasons.Gone n)

-- A message of a repository was taken: the client and its links stay, the copies change as by the message, and copies may have
-- been dropped then.
pub record TakesCopies (repo : ℕ) (m : Message) (before after : Held) : Type 0 where
  pub left : Contents
  pub client : after.client ≡ before.client
  pub links : after.links.items ≡ before.links.items
  pub brought : CopiesTaken repo m before.cache.cache left
  pub fewer : AreAmong (kept left) (kept after.cache.cache)

-- A message of a repository was taken in a phase of the try: where the transaction was sent there, the try has written none of
-- the objects any more that the message names. So no old copy comes of it once it is known to be committed.
abbrev pub GivesUp : ℕ → Message → Phase → Contents → Type 0
GivesUp repo (messages.Page page bytes place) phase c = Unit {0}
GivesUp repo (messages.Grant page place) phase c = Unit {0}
GivesUp repo (messages.Invalid names place) phase c = has_sent_to repo phase ≡ true → WritesNone names c
GivesUp repo (messages.Upgrade number text place) phase c = Unit {0}

-- What a call came to that was to take a message of a repository, in a phase of the try.
pub data GaveUp (old new : View) (repo : ℕ) (phase : Phase) (after : Contents) : Type 0 where
  -- this message came, and what it names was given up
  ByMessage : (m : Message) → IsTaken old new repo m → GivesUp repo m phase after → GaveUp old new repo phase after
  -- none waited
  ByNone : (s : ℕ) → Does {X = Option Message} old new repo (Ok None) (ReceiveWork s (Ok None)) → GaveUp old new repo phase after
  ByRefusal : (k : Refusal) → Refuses old new repo k → GaveUp old new repo phase after
  -- nothing was called
  ByRest : new ≡ old → GaveUp old new repo phase after

-- the same of a port that may show nothing
abbrev pub GaveUpIf : Bool → View → View → ℕ → Phase → Contents → Type 0
GaveUpIf shows old new repo phase after = shows ≡ true → GaveUp old new repo phase after

-- No message waits in the session, and what is held stays.
pub record ReceivesNone (shows : Bool) (old new : View) (at : At) (before after : Held) : Type 0 where
  pub call : shows ≡ true → Does {X = Option Message} old new at.repo (Ok None) (ReceiveWork at.session (Ok None))
  pub client : after.client ≡ before.client
  pub links : after.links.items ≡ before.links.items
  pub copies : after.cache.cache ≡ before.cache.cache

-- A message couldn't be taken: a session that is gone is lost. Else the client may have stopped waiting, where no item is left.
pub data EndsReceive (k : Refusal) (repo : ℕ) (before after : Held) : Type 0 where
  LosesThere : Loses k repo before after → after.client ≡ before.client → EndsReceive k repo before after
  StopsThere : IsNotGone k → StopsWaiting repo before after → after.client ≡ before.client → AreAmong (kept before.cache.cache) (kept after.cache.cache) → EndsReceive k repo before after
