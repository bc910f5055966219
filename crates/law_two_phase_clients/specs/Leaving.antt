-- That what is left to be sent of a try's transaction is what the try has written (this project's).
use Rattle.client_cache.specs.Copies.{Contents, changed}
use Rattle.client_cache.specs.Pages.{same_name}
use Rattle.client_port.specs.Views.{View}
use Rattle.client_state.specs.Calling.{is_session_of}
use Rattle.client_state.specs.Moving.{Aborted, AskedInVain, AskedOwn, CommitRefused, Committed, DecideRefused, Decided, Finished, Forgot, Moves, PrepareRefused, Prepared, ReceiveRefused, ReceiveStopped, Received, ReceivedNone, Transformed, Unsent}
use Rattle.client_state.specs.Pending.{IsAsking, IsPreparing, NonePending, Pending}
use Rattle.client_state.specs.Sending.{AreApart}
use Rattle.client_state.specs.Written.{is_sent_to}
use Rattle.client_state.specs.declared.held.Held.{Held}
use Rattle.client_state.specs.declared.link.Link.{Link}
use Rattle.client_state.specs.declared.transaction.Share.{Share}
use Rattle.paused_eval.specs.Copies.{last_of}
use Rattle.session_outbox.specs.declared.message.Message.TheVariants as messages
use Rattle.session_outbox.specs.declared.message.Message.{Message}
use Rattle.std.specs.List.{list_any}
use Rattle.std.specs.Prelude.{List, Some, false, slice_get, true, ℕ, ◌≡◌}
use Rattle.thor_value.specs.declared.names.Oref.{Oref}

-- A share that is left isn't sent yet to its repository. While its session is the one of the link, the try has written there what it writes.
pub record IsLeft (a : Pending) (links : List Link) (c : Contents) (s : Share) : Type 0 where
  pub unsent : is_sent_to s.repo a ≡ false
  pub wrote : is_session_of s.session (slice_get links s.repo) ≡ true → (x : Oref) → x.repo ≡ s.repo → changed c x ≡ last_of s.writes x

-- So it is with each share, and no two are of one repository.
pub record AreLeft (a : Pending) (links : List Link) (c : Contents) (shares : List Share) : Type 0 where
  pub apart : AreApart shares
  pub each : (n : ℕ) (s : Share) → slice_get shares n ≡ Some s → IsLeft a links c s

-- The same of what is undecided.
abbrev pub LeftWritten : Pending → List Link → Contents → Type 0
LeftWritten NonePending links c = Unit {0}
LeftWritten (IsPreparing at t rs transaction) links c = AreLeft (IsPreparing at t rs transaction) links c transaction.shares.items
LeftWritten (IsAsking sent n) links c = Unit {0}

-- What a message names lies at its repository.
abbrev pub NamesLieThere : ℕ → Message → Type 0
NamesLieThere r (messages.Page page bytes place) = Unit {0}
NamesLieThere r (messages.Grant page place) = Unit {0}
NamesLieThere r (messages.Invalid names place) = (x : Oref) → list_any (λ y. same_name y x) names ≡ true → x.repo ≡ r
NamesLieThere r (messages.Upgrade number text place) = Unit {0}

-- So does what a message names that the step takes.
abbrev pub TakesThere : (old new : View) (before after : Held) → Moves old new before after → Type 0
TakesThere old new before after (Unsent sends) = Unit {0}
TakesThere old new before after (Received at m does there takes same) = NamesLieThere at.repo m
TakesThere old new before after (ReceivedNone at does there waits same fewer) = Unit {0}
TakesThere old new before after (ReceiveRefused at k does there loses same) = Unit {0}
TakesThere old new before after (ReceiveStopped at k does there outage stops same fewer) = Unit {0}
TakesThere old new before after (Prepared s place does of less) = Unit {0}
TakesThere old new before after (PrepareRefused s k does of idle learns same) = Unit {0}
TakesThere old new before after (Committed s place does of session wrote held idle keeps) = Unit {0}
TakesThere old new before after (Transformed s place oref made does of session writes here held idle keeps) = Unit {0}
TakesThere old new before after (CommitRefused s k does of idle learns same) = Unit {0}
TakesThere old new before after (Decided at t v does idle ends) = Unit {0}
TakesThere old new before after (Aborted at t v does less) = Unit {0}
TakesThere old new before after (DecideRefused at t commit k does loses same) = Unit {0}
TakesThere old new before after (Finished r t commit result does less) = Unit {0}
TakesThere old new before after (Forgot r t result does less) = Unit {0}
TakesThere old new before after (AskedOwn r t v does ends) = Unit {0}
TakesThere old new before after (AskedInVain r t result does leaves same fewer) = Unit {0}

-- Where a participant was to prepare and has refused, nothing is undecided any more.
abbrev pub EndsRefused : (old new : View) (before after : Held) → Moves old new before after → Pending → Type 0
EndsRefused old new before after (Unsent sends) z = Unit {0}
EndsRefused old new before after (Received at m does there takes same) z = Unit {0}
EndsRefused old new before after (ReceivedNone at does there waits same fewer) z = Unit {0}
EndsRefused old new before after (ReceiveRefused at k does there loses same) z = Unit {0}
EndsRefused old new before after (ReceiveStopped at k does there outage stops same fewer) z = Unit {0}
EndsRefused old new before after (Prepared s place does of less) z = Unit {0}
EndsRefused old new before after (PrepareRefused s k does of idle learns same) z = z ≡ NonePending
EndsRefused old new before after (Committed s place does of session wrote held idle keeps) z = Unit {0}
EndsRefused old new before after (Transformed s place oref made does of session writes here held idle keeps) z = Unit {0}
EndsRefused old new before after (CommitRefused s k does of idle learns same) z = Unit {0}
EndsRefused old new before after (Decided at t v does idle ends) z = Unit {0}
EndsRefused old new before after (Aborted at t v does less) z = Unit {0}
EndsRefused old new before after (DecideRefused at t commit k does loses same) z = Unit {0}
EndsRefused old new before after (Finished r t commit result does less) z = Unit {0}
EndsRefused old new before after (Forgot r t result does less) z = Unit {0}
EndsRefused old new before after (AskedOwn r t v does ends) z = Unit {0}
EndsRefused old new before after (AskedInVain r t result does leaves same fewer) z = Unit {0}
