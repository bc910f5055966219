-- What stands of a try's transaction at its participants, and what a step's call has to know of it (this project's).
use Rattle.client_items.specs.Meanings.{answer_in, kind_of}
use Rattle.client_port.specs.Views.{View}
use Rattle.client_state.specs.Moving.{Aborted, AskedInVain, AskedOwn, CommitRefused, Committed, DecideRefused, Decided, Finished, Forgot, Moves, PrepareRefused, Prepared, ReceiveRefused, ReceiveStopped, Received, ReceivedNone, Transformed, Unsent}
use Rattle.client_state.specs.Participants.{others_in}
use Rattle.client_state.specs.Pending.{IsAsking, IsPreparing, NonePending, Pending}
use Rattle.client_state.specs.Sending.{GoToParticipants}
use Rattle.client_state.specs.declared.held.Held.{Held}
use Rattle.client_state.specs.declared.transaction.Transaction.{Transaction}
use Rattle.law_atomic_commit.specs.Growing.{MayCome}
use Rattle.law_atomic_commit.specs.Several.{Several, part}
use Rattle.log_entries.specs.declared.entry.Entry.TheVariants as entries
use Rattle.log_entries.specs.declared.request.Request.{Request}
use Rattle.session_outbox.specs.declared.answers.At.{At}
use Rattle.spec_history.specs.History.{Known}
use Rattle.std.specs.List.{list_any}
use Rattle.std.specs.Prelude.{List, Some, false, nat_eq, true, ℕ, ◌≡◌}
use Rattle.thor_value.specs.declared.names.Ts.{Ts}
use Rattle.thor_value.specs.declared.values.Who.{Who}

-- The request is that of a transaction at one of its participants: who, kind, epoch, new names, answer and participants are the whole transaction's.
pub record IsRequestOf (item : Who) (t : Ts) (transaction : Transaction) (r : ℕ) (q : Request) : Type 0 where
  pub tx : q.tx ≡ t
  pub who : q.who ≡ item
  pub kind : q.kind ≡ kind_of transaction.meaning
  pub epoch : q.epoch ≡ transaction.epoch
  pub fresh : q.fresh ≡ transaction.fresh
  pub answer : q.answer ≡ answer_in transaction.meaning
  pub others : q.others ≡ others_in transaction.participants r
  pub takes : list_any (nat_eq r) transaction.participants ≡ true

-- A participant has prepared the transaction: a request of it stands there.
pub record HasPrepared (S : Several) (item : Who) (t : Ts) (transaction : Transaction) (r : ℕ) : Type 0 where
  pub o : Known
  pub there : part S r t ≡ Some o
  pub of : IsRequestOf item t transaction r o.request

-- The coordinator has prepared it, and so has each other participant that is noted.
pub record ArePrepared (S : Several) (item : Who) (at : At) (t : Ts) (rs : List ℕ) (transaction : Transaction) : Type 0 where
  pub coordinator : t.repo ≡ at.repo
  pub first : HasPrepared S item t transaction at.repo
  pub next : (r : ℕ) → list_any (nat_eq r) rs ≡ true → HasPrepared S item t transaction r
  pub left : GoToParticipants transaction

-- What the client has noted as prepared of its try's transaction is prepared there.
abbrev pub TryPrepared : Several → Who → Pending → Type 0
TryPrepared S item NonePending = Unit {0}
TryPrepared S item (IsPreparing at t rs transaction) = ArePrepared S item at t rs transaction
TryPrepared S item (IsAsking sent n) = Unit {0}

-- ---- what a call has to know

-- What a step's call says of the try's own transaction knows what it has to know of the other repositories, whether it was refused, stopped, or answered.
-- What is handed on, forgotten or only asked for isn't the try's.
abbrev pub OwnMayCome : Several → (old new : View) (before after : Held) → Moves old new before after → Type 0
OwnMayCome S old new before after (Unsent sends) = Unit {0}
OwnMayCome S old new before after (Received at m does there takes same) = Unit {0}
OwnMayCome S old new before after (ReceivedNone at does there waits same fewer) = Unit {0}
OwnMayCome S old new before after (ReceiveRefused at k does there loses same) = Unit {0}
OwnMayCome S old new before after (ReceiveStopped at k does there outage stops same fewer) = Unit {0}
OwnMayCome S old new before after (Prepared s place does of less) = MayCome S s.at.repo (entries.Prepared s.request)
OwnMayCome S old new before after (PrepareRefused s k does of idle learns same) = MayCome S s.at.repo (entries.Prepared s.request)
OwnMayCome S old new before after (Committed s place does of session wrote held idle keeps) = MayCome S s.at.repo (entries.One s.request)
OwnMayCome S old new before after (Transformed s place oref made does of session writes here held idle keeps) = MayCome S s.at.repo (entries.One s.request)
OwnMayCome S old new before after (CommitRefused s k does of idle learns same) = MayCome S s.at.repo (entries.One s.request)
OwnMayCome S old new before after (Decided at t v does idle ends) = MayCome S at.repo (entries.Decided t true)
OwnMayCome S old new before after (Aborted at t v does less) = MayCome S at.repo (entries.Decided t false)
OwnMayCome S old new before after (DecideRefused at t commit k does loses same) = MayCome S at.repo (entries.Decided t commit)
OwnMayCome S old new before after (Finished r t commit result does less) = Unit {0}
OwnMayCome S old new before after (Forgot r t result does less) = Unit {0}
OwnMayCome S old new before after (AskedOwn r t v does ends) = Unit {0}
OwnMayCome S old new before after (AskedInVain r t result does leaves same fewer) = Unit {0}
