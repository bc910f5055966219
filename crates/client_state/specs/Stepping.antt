-- What a client's step makes of its try's transaction, of its duties and of its present item: it keeps to two-phase commit (this project's).
use Rattle.client_cache.specs.Copies.{Contents}
use Rattle.client_items.specs.Meanings.{committed_as, is_ended}
use Rattle.client_items.specs.declared.news.News.TheVariants as news
use Rattle.client_items.specs.declared.news.News.{News}
use Rattle.client_port.specs.Views.{View}
use Rattle.client_state.specs.Calling.{is_session_of, upto_in}
use Rattle.client_state.specs.Handing.{AbortsInVain, AbortsNext, ForgetsNext, HandsTold, HandsVerdict, KeepsDuties, TellsNext, TellsRefuser, is_answered}
use Rattle.client_state.specs.Moving.{Aborted, AskedInVain, AskedOwn, CommitRefused, Committed, Decided, DecideRefused, Finished, Forgot, Moves, PrepareRefused, Prepared, ReceiveRefused, ReceiveStopped, Received, ReceivedNone, Transformed, Unsent}
use Rattle.client_state.specs.Participants.{first_in, sent_of}
use Rattle.client_state.specs.Pending.{IsAsking, IsPreparing, NonePending, Pending, PendsSo}
use Rattle.client_state.specs.Sending.{IsDrawnAt, SendsShare, transform_of}
use Rattle.client_state.specs.Writing.{HoldsWritten, WritesShares}
use Rattle.client_state.specs.declared.duties.Duties.{Duties}
use Rattle.client_state.specs.declared.held.Held.{Held}
use Rattle.client_state.specs.declared.link.Link.TheVariants.{Unsettled}
use Rattle.client_state.specs.declared.link.Link.{Link}
use Rattle.client_state.specs.declared.requests.Sending.{Sending}
use Rattle.client_state.specs.declared.transaction.Sent.{Sent}
use Rattle.client_state.specs.declared.transaction.Transaction.{Transaction}
use Rattle.repo_refusals.specs.declared.refusal.Refusal.TheVariants as refused
use Rattle.repo_refusals.specs.declared.refusal.Refusal.{Refusal}
use Rattle.serial_model.specs.declared.outcomes.ItemOutcome.TheVariants.{Unknown}
use Rattle.session_outbox.specs.declared.answers.At.{At}
use Rattle.std.specs.Prelude.{Bool, List, Some, [], false, min, slice_get, true, ℕ, ◌+◌, ◌++◌, ◌-◌, ◌<◌, ◌^◌, ◌∷◌, ◌≡◌, ◌≤◌, ◌⊎◌}
use Rattle.thor_value.specs.declared.names.Oref.{Oref}
use Rattle.thor_value.specs.declared.names.Ts.{Ts}
use Rattle.thor_value.specs.declared.values.Obj.{Obj}
use Rattle.thor_value.specs.declared.values.Who.{Who}

-- Who the present item of a client is, and how many tries an item has.
pub record Present : Type 0 where
  pub who : Who
  pub tries : ℕ

-- ---- what is sent to be prepared or committed

-- The first share of a drawn transaction is sent, to the coordinator. The try has written what all its shares write.
pub record SendsDrawn (item : Present) (links : List Link) (c : Contents) (s : Sending) (left : Transaction) : Type 0 where
  pub drawn : Transaction
  pub sends : SendsShare links item.who s.request.tx drawn left s
  pub wrote : WritesShares drawn.shares.items c
  pub starts : IsDrawnAt s.request.tx drawn

-- The next share of a transaction is sent that its coordinator has prepared, as it was drawn.
pub record SendsMore (item : Present) (links : List Link) (a : Pending) (s : Sending) (at : At) (rs : List ℕ) (left : Transaction) : Type 0 where
  pub transaction : Transaction
  pub was : a ≡ IsPreparing at s.request.tx rs transaction
  pub sends : SendsShare links item.who s.request.tx transaction left s

-- In the session of its link, the client has copies of what a request writes and hasn't created.
abbrev pub HoldsThere : Sending → List Link → Contents → Type 0
HoldsThere s links c = is_session_of s.at.session (slice_get links s.at.repo) ≡ true → HoldsWritten s.request c

-- A participant has prepared the transaction: the coordinator has before all others, and each other one is noted.
pub data PreparesSo (item : Present) (links : List Link) (c : Contents) (s : Sending) (a z : Pending) : Type 0 where
  PreparesFirst : (left : Transaction) → SendsDrawn item links c s left → HoldsThere s links c → z ≡ IsPreparing s.at s.request.tx [] left → PreparesSo item links c s a z
  PreparesNext : (at : At) (rs : List ℕ) (left : Transaction) → SendsMore item links a s at rs left → HoldsThere s links c → z ≡ IsPreparing at s.request.tx (rs ++ s.at.repo ∷ []) left → PreparesSo item links c s a z

-- It was to prepare it, and has refused. The call may have stopped.
pub data PreparesInVain (item : Present) (links : List Link) (c : Contents) (s : Sending) (a : Pending) : Type 0 where
  RefusesFirst : (left : Transaction) → SendsDrawn item links c s left → PreparesInVain item links c s a
  RefusesNext : (at : At) (rs : List ℕ) (left : Transaction) → SendsMore item links a s at rs left → PreparesInVain item links c s a

-- The only share of a drawn transaction is sent to be committed.
pub record SendsAlone (item : Present) (links : List Link) (c : Contents) (s : Sending) (left : Transaction) : Type 0 where
  pub sends : SendsDrawn item links c s left
  pub alone : left.shares.items ≡ []

-- What is sent to be committed is a transform's.
pub record SendsTransform (client : ℕ) (links : List Link) (s : Sending) : Type 0 where
  pub oref : Oref
  pub made : Obj
  pub ros : List Oref
  pub request : s.request ≡ transform_of client s.at.session (upto_in (slice_get links s.at.repo)) s.request.tx oref made ros

-- Behind the refusal of a commit the verdict on what was sent is asked for just where the call has stopped.
abbrev pub AsksWhereStopped : Refusal → Sent → Pending → Type 0
AsksWhereStopped (refused.Reason r) sent z = z ≡ NonePending
AsksWhereStopped (refused.Down r) sent z = z ≡ NonePending
AsksWhereStopped (refused.Stopped r) sent z = z ≡ IsAsking sent 0
AsksWhereStopped (refused.Damaged r k) sent z = z ≡ NonePending
AsksWhereStopped refused.NoMemory sent z = z ≡ NonePending

-- A commit was refused: that of the item's transaction, or of a transform, of which nobody asks.
pub data CommitsInVain (item : Present) (client : ℕ) (links : List Link) (c : Contents) (s : Sending) (k : Refusal) (z : Pending) : Type 0 where
  RefusesItem : (left : Transaction) → SendsAlone item links c s left → AsksWhereStopped k (sent_of s.request.tx s.at left) z → CommitsInVain item client links c s k z
  RefusesTransform : SendsTransform client links s → z ≡ NonePending → CommitsInVain item client links c s k z

-- ---- what is decided and asked for

-- The coordinator is to decide what it and all other participants have prepared: nothing is left to be sent.
pub record DecidesAll (a : Pending) (at : At) (t : Ts) (transaction : Transaction) : Type 0 where
  pub rs : List ℕ
  pub was : a ≡ IsPreparing at t rs transaction
  pub sent : transaction.shares.items ≡ []
  pub all : transaction.participants ≡ at.repo ∷ rs

-- The coordinator is asked for the verdict on what was sent.
pub record AsksOwn (a : Pending) (r : ℕ) (t : Ts) (sent : Sent) (n : ℕ) : Type 0 where
  pub was : a ≡ IsAsking sent n
  pub tx : sent.ts ≡ t
  pub coordinator : r ≡ first_in sent.participants

-- one more answer had no verdict
abbrev pub one_more : ℕ → ℕ
one_more n = min (n + 1) (2 ^ 32 - 1)

-- Where there is a link with the repository, it keeps what was sent of the item.
abbrev pub KeepsSent : ℕ → Sent → ℕ → Held → Type 0
KeepsSent r sent index after = (link : Link) → slice_get after.links.items r ≡ Some link → link ≡ Unsettled sent index

-- An answer had no verdict: the client asks again, or, behind as many answers as an item has tries, the item is Unknown, and the link with the
-- coordinator keeps what was sent.
pub data AsksInVain (item : Present) (after : Held) (r : ℕ) (sent : Sent) (n : ℕ) (z : Pending) (came : News) : Type 0 where
  AsksAgain : z ≡ IsAsking sent (one_more n) → one_more n < item.tries → is_ended came ≡ false → AsksInVain item after r sent n z came
  HoldsUnknown : z ≡ NonePending → item.tries ≤ one_more n → came ≡ news.Ended (Unknown sent.ts) → KeepsSent r sent item.who.index after → AsksInVain item after r sent n z came

-- The present item has ended by its own transaction's commit, with its own answer; by an abort it hasn't ended.
abbrev pub EndsOwn : Bool → Ts → Transaction → News → Type 0
EndsOwn true t transaction came = came ≡ news.Ended (committed_as t transaction.meaning)
EndsOwn false t transaction came = is_ended came ≡ false

abbrev pub EndsAsked : Bool → Sent → News → Type 0
EndsAsked true sent came = came ≡ news.Ended (committed_as sent.ts sent.meaning)
EndsAsked false sent came = is_ended came ≡ false

-- ---- a step

-- What a step makes of the try's transaction and of the present item.
abbrev pub TriesSo : (item : Present) (old new : View) (before after : Held) → Moves old new before after → Pending → Pending → News → Type 0
TriesSo item old new before after (Unsent sends) a z came = is_ended came ≡ false
TriesSo item old new before after (Received at m does there takes same) a z came = is_ended came ≡ false
TriesSo item old new before after (ReceivedNone at does there waits same fewer) a z came = is_ended came ≡ false
TriesSo item old new before after (ReceiveRefused at k does there loses same) a z came = is_ended came ≡ false
TriesSo item old new before after (ReceiveStopped at k does there outage stops same fewer) a z came = is_ended came ≡ false
TriesSo item old new before after (Prepared s place does of less) a z came = PreparesSo item before.links.items before.cache.cache s a z × (is_ended came ≡ false)
TriesSo item old new before after (PrepareRefused s k does of idle learns same) a z came = PreparesInVain item before.links.items before.cache.cache s a × (is_ended came ≡ false)
TriesSo item old new before after (Committed s place does of session wrote held idle keeps) a z came = (left : Transaction) × SendsAlone item before.links.items before.cache.cache s left × EndsOwn true s.request.tx left came
TriesSo item old new before after (Transformed s place oref made does of session writes here held idle keeps) a z came = SendsTransform before.client before.links.items s × (is_ended came ≡ false)
TriesSo item old new before after (CommitRefused s k does of idle learns same) a z came = CommitsInVain item before.client before.links.items before.cache.cache s k z × (is_ended came ≡ false)
TriesSo item old new before after (Decided at t v does idle ends) a z came = (transaction : Transaction) × DecidesAll a at t transaction × EndsOwn v.commit t transaction came
TriesSo item old new before after (Aborted at t v does less) a z came = is_ended came ≡ false
TriesSo item old new before after (DecideRefused at t true k does loses same) a z came = (transaction : Transaction) × DecidesAll a at t transaction × (z ≡ IsAsking (sent_of t at transaction) 0) × (is_ended came ≡ false)
TriesSo item old new before after (DecideRefused at t false k does loses same) a z came = is_ended came ≡ false
TriesSo item old new before after (Finished r t commit result does less) a z came = is_ended came ≡ false
TriesSo item old new before after (Forgot r t result does less) a z came = is_ended came ≡ false
TriesSo item old new before after (AskedOwn r t v does ends) a z came = (sent : Sent) × (n : ℕ) × AsksOwn a r t sent n × EndsAsked v.commit sent came
TriesSo item old new before after (AskedInVain r t result does leaves same fewer) a z came = (sent : Sent) × (n : ℕ) × AsksOwn a r t sent n × AsksInVain item after r sent n z came

-- What a step makes of the duties: each verdict that is handed on is the oldest duty's, or the one by which the client helps, and each that
-- comes was told.
abbrev pub HandsSo : (old new : View) (before after : Held) → Moves old new before after → Pending → Duties → Duties → Type 0
HandsSo old new before after (Unsent sends) a d e = HandsTold old new a before.links.items d e
HandsSo old new before after (Received at m does there takes same) a d e = KeepsDuties d e
HandsSo old new before after (ReceivedNone at does there waits same fewer) a d e = KeepsDuties d e
HandsSo old new before after (ReceiveRefused at k does there loses same) a d e = KeepsDuties d e
HandsSo old new before after (ReceiveStopped at k does there outage stops same fewer) a d e = KeepsDuties d e
HandsSo old new before after (Prepared s place does of less) a d e = KeepsDuties d e
HandsSo old new before after (PrepareRefused s k does of idle learns same) a d e = KeepsDuties d e
HandsSo old new before after (Committed s place does of session wrote held idle keeps) a d e = KeepsDuties d e
HandsSo old new before after (Transformed s place oref made does of session writes here held idle keeps) a d e = KeepsDuties d e
HandsSo old new before after (CommitRefused s k does of idle learns same) a d e = KeepsDuties d e
HandsSo old new before after (Decided at t v does idle ends) a d e = HandsVerdict old new a before.links.items d e
HandsSo old new before after (Aborted at t v does less) a d e = AbortsNext at t v d e
HandsSo old new before after (DecideRefused at t true k does loses same) a d e = KeepsDuties d e
HandsSo old new before after (DecideRefused at t false k does loses same) a d e = AbortsInVain at t d e
HandsSo old new before after (Finished r t commit result does less) a d e = TellsNext r t commit (is_answered result) d e ⊎ TellsRefuser r t commit d e
HandsSo old new before after (Forgot r t result does less) a d e = ForgetsNext r t d e
HandsSo old new before after (AskedOwn r t v does ends) a d e = HandsVerdict old new a before.links.items d e
HandsSo old new before after (AskedInVain r t result does leaves same fewer) a d e = KeepsDuties d e

-- The client has made a step, which came to this: what is undecided became what is so behind it, and its duties what they are then.
pub record StepsSo (item : Present) (old new : View) (before after : Held) (a z : Pending) (d e : Duties) (came : News) : Type 0 where
  pub moves : Moves old new before after
  pub pends : PendsSo old new before after moves a z
  pub tries : TriesSo item old new before after moves a z came
  pub hands : HandsSo old new before after moves a d e

-- the same of a port that may show nothing
abbrev pub StepsSoIf : Bool → Present → View → View → Held → Held → Pending → Pending → Duties → Duties → News → Type 0
StepsSoIf shows item old new before after a z d e came = shows ≡ true → StepsSo item old new before after a z d e came
