-- What a client's step makes of what it holds: at most one call of its port, and behind it copies that it drops (this project's).
use Rattle.client_cache.specs.Copies.{Contents, kept, seen}
use Rattle.client_cache.specs.Pages.{on, page_of, same_name, same_page}
use Rattle.client_state.specs.Calling.{Connects, CopiesRefused, CopiesStay, Draws, Fetches, Grants, links_refused, upto_in}
use Rattle.client_state.specs.Learning.{links_learnt}
use Rattle.client_state.specs.Links.{NoneAwaits, at_repo, session_in, stopped, waiting}
use Rattle.client_state.specs.Sending.{IsOfSession}
use Rattle.client_state.specs.Taking.{BringsPage, Without, took}
use Rattle.client_state.specs.Writing.{HoldsWritten, WritesThere}
use Rattle.client_state.specs.declared.calls.Drew.{Drew}
use Rattle.client_state.specs.declared.held.Held.{Held}
use Rattle.client_state.specs.declared.link.Link.TheVariants.{Apart, Unsettled}
use Rattle.client_state.specs.declared.link.Link.{Link}
use Rattle.client_state.specs.declared.link.Waits.TheVariants.{Idle}
use Rattle.client_state.specs.declared.requests.Sending.{Sending}
use Rattle.client_state.specs.declared.transaction.Sent.{Sent}
use Rattle.session_outbox.specs.declared.answers.Asked as answer
use Rattle.session_outbox.specs.declared.answers.Asked.TheVariants as answers
use Rattle.session_outbox.specs.declared.answers.At.{At}
use Rattle.session_outbox.specs.declared.answers.Verdict.{Verdict}
use Rattle.session_outbox.specs.declared.message.Message.TheVariants.{Grant, Invalid, Page, Upgrade}
use Rattle.session_outbox.specs.declared.message.Message.{Message}
use Rattle.paused_eval.specs.Copies.{AreAmong}
use Rattle.client_port.specs.Views.{View}
use Rattle.client_port.specs.Works.{AskWork, CommitWork, DecideWork, Does, FinishWork, ForgetWork, IsOutage, PrepareWork, ReceiveWork}
use Rattle.std.specs.Option.{option_map}
use Rattle.std.specs.Prelude.{Bool, Err, None, Ok, Option, Result, Some, [], cond, false, slice_get, true, ℕ, ◌∷◌, ◌≡◌, ◌≢◌, ◌⊎◌}
use Rattle.thor_value.specs.declared.memory.NoMemory.{NoMemory}
use Rattle.thor_value.specs.declared.names.Oref.{Oref}
use Rattle.thor_value.specs.declared.names.Ts.{Ts}
use Rattle.thor_value.specs.declared.values.Obj.{Obj}
use Rattle.repo_refusals.specs.declared.refusal.Refusal.{Refusal}

-- ---- what is held before a call

-- The call is made in the session with the repository.
abbrev pub InSession : At → Held → Type 0
InSession at held = session_in at.repo (slice_get held.links.items at.repo) ≡ Some at

-- The call is made in the session with the repository, and no reply is outstanding.
abbrev pub CallsIdle : At → Held → Type 0
CallsIdle at held = InSession at held × NoneAwaits 8 held.links.items

-- Where there is a link with the repository, it is apart.
abbrev pub IsApart : ℕ → Held → Type 0
IsApart repo held = (link : Link) → slice_get held.links.items repo ≡ Some link → link ≡ Apart

-- ---- what is held behind it

-- The client and its links stay, and no copy comes.
abbrev pub HoldsLess : Held → Held → Type 0
HoldsLess before after = (after.client ≡ before.client) × (after.links.items ≡ before.links.items) × AreAmong (kept before.cache.cache) (kept after.cache.cache)

-- The client, its links and its copies stay; what the try has written may go.
abbrev pub HoldsSame : Held → Held → Type 0
HoldsSame before after = (after.client ≡ before.client) × (after.links.items ≡ before.links.items) × CopiesStay before.cache.cache after.cache.cache

-- The client and its links stay, and each copy is what the try has seen: what it has written, else the copy before.
abbrev pub KeepsTry : Held → Held → Type 0
KeepsTry before after = (after.client ≡ before.client) × (after.links.items ≡ before.links.items) × AreAmong (seen before.cache.cache) (kept after.cache.cache)

-- The client and its links stay, and each copy is the one before, or the object that a transform has made.
abbrev pub KeepsMade : Oref → Obj → Held → Held → Type 0
KeepsMade oref made before after = (after.client ≡ before.client) × (after.links.items ≡ before.links.items) × AreAmong (λ x. cond (same_name oref x) (Some made) (kept before.cache.cache x)) (kept after.cache.cache)

-- The try's transaction was decided so: by a commit the client keeps what it has written, else it keeps less.
abbrev pub EndsSo : Bool → Held → Held → Type 0
EndsSo true before after = KeepsTry before after
EndsSo false before after = HoldsLess before after

-- Behind the refusal of a request the client has learnt from it, and may have dropped copies then.
pub record Learns (refusal : Refusal) (repo : ℕ) (before after : Held) : Type 0 where
  pub left : Contents
  pub links : after.links.items ≡ links_learnt refusal repo before.links.items
  pub kept_so : CopiesRefused refusal repo before.links.items before.cache.cache left
  pub fewer : AreAmong (kept left) (kept after.cache.cache)

-- Behind the refusal of another call a session that is gone is no more, and the client may have dropped copies then.
pub record Loses (refusal : Refusal) (repo : ℕ) (before after : Held) : Type 0 where
  pub left : Contents
  pub links : after.links.items ≡ links_refused refusal repo before.links.items
  pub kept_so : CopiesRefused refusal repo before.links.items before.cache.cache left
  pub fewer : AreAmong (kept left) (kept after.cache.cache)

-- What a message makes of the copies: a page's objects come in the place of the copies of it, a page of names has none, and of
-- what it names no copy is left.
abbrev pub CopiesTaken : ℕ → Message → Contents → Contents → Type 0
CopiesTaken repo (Page page bytes place) old new = BringsPage repo page bytes old new
CopiesTaken repo (Grant page place) old new = (x : Oref) → kept new x ≡ cond (same_page (on repo page) (page_of x)) None (kept old x)
CopiesTaken repo (Invalid names place) old new = Without names old new
CopiesTaken repo (Upgrade number text place) old new = CopiesStay old new

-- The client has taken a message of a repository, and may have dropped copies then.
pub record Takes (repo : ℕ) (m : Message) (before after : Held) : Type 0 where
  pub left : Contents
  pub links : after.links.items ≡ at_repo before.links.items repo (took m)
  pub brought : CopiesTaken repo m before.cache.cache left
  pub fewer : AreAmong (kept left) (kept after.cache.cache)

-- The verdict on the Unknown item of a repository was learnt: it is apart then.
pub record IsSettled (repo : ℕ) (before after : Held) : Type 0 where
  pub sent : Sent
  pub index : ℕ
  pub there : slice_get before.links.items repo ≡ Some (Unsettled sent index)
  pub links : after.links.items ≡ at_repo before.links.items repo (λ l. Apart)
  pub client : after.client ≡ before.client
  pub fewer : AreAmong (kept before.cache.cache) (kept after.cache.cache)

-- So it is, or all stays.
abbrev pub MaySettle : ℕ → Held → Held → Type 0
MaySettle repo before after = HoldsLess before after ⊎ IsSettled repo before after

-- The client waits for nothing in its session with the repository, and with no other for messages that it had to take.
pub record StopsWaiting (repo : ℕ) (before after : Held) : Type 0 where
  pub here : slice_get after.links.items repo ≡ option_map (waiting Idle) (slice_get before.links.items repo)
  pub others : (n : ℕ) → n ≢ repo → slice_get after.links.items n ≡ option_map stopped (slice_get before.links.items n)

-- The client has no session with the repository any more, and no copy of its objects.
pub record HasLeft (repo : ℕ) (after : Held) : Type 0 where
  pub apart : session_in repo (slice_get after.links.items repo) ≡ None
  pub none : (x : Oref) → x.repo ≡ repo → kept after.cache.cache x ≡ None

-- It stands with each repository as before, or has left it.
abbrev pub LeavesSome : Held → Held → Type 0
LeavesSome before after = (n : ℕ) → (slice_get after.links.items n ≡ slice_get before.links.items n) ⊎ HasLeft n after

-- Nor does a copy come.
abbrev pub LeavesLess : Held → Held → Type 0
LeavesLess before after = (after.client ≡ before.client) × LeavesSome before after × AreAmong (kept before.cache.cache) (kept after.cache.cache)

-- ---- a call and what it makes of what is held

-- The client has called nothing, or one call that sends nothing of its transaction, by which what it holds became what stands
-- behind it; copies may have been dropped then.
pub data SendsNothing (old new : View) (before after : Held) : Type 0 where
  Rested : new ≡ old → HoldsLess before after → SendsNothing old new before after
  Connected : (repo : ℕ) → Connects true old new repo before.client before.links.items after.links.items → IsApart repo before
      → after.client ≡ before.client → AreAmong (kept before.cache.cache) (kept after.cache.cache) → SendsNothing old new before after
  Fetched : (at : At) (page : ℕ) (left : Contents) → Fetches true old new at page (upto_in (slice_get before.links.items at.repo)) before.links.items after.links.items before.cache.cache left
      → CallsIdle at before → after.client ≡ before.client → AreAmong (kept left) (kept after.cache.cache) → SendsNothing old new before after
  Granted : (at : At) (left : Contents) → Grants true old new at before.links.items after.links.items before.cache.cache left
      → CallsIdle at before → after.client ≡ before.client → AreAmong (kept left) (kept after.cache.cache) → SendsNothing old new before after
  Drawn : (at : At) (answer : Result Drew NoMemory) (left : Contents) → Draws true old new at answer before.links.items after.links.items before.cache.cache left
      → InSession at before → after.client ≡ before.client → AreAmong (kept left) (kept after.cache.cache) → SendsNothing old new before after
  -- no verdict was told, or one on a transaction of which the client holds nothing
  Asked : (r : ℕ) (t : Ts) (result : Result answer.Asked Refusal) → Does old new r result (AskWork t result) → HoldsLess before after → SendsNothing old new before after
  -- the verdict on an Unknown item was told
  Settled : (r : ℕ) (t : Ts) (v : Verdict) (sent : Sent) (index : ℕ) → Does {X = answer.Asked} old new r (Ok (answers.Settled v)) (AskWork t (Ok (answers.Settled v)))
      → slice_get before.links.items r ≡ Some (Unsettled sent index) → after.links.items ≡ at_repo before.links.items r (λ l. Apart)
      → after.client ≡ before.client → AreAmong (kept before.cache.cache) (kept after.cache.cache) → SendsNothing old new before after

-- The client has called nothing, or one call, by which what it holds became what stands behind it; copies may have been dropped
-- then.
pub data Moves (old new : View) (before after : Held) : Type 0 where
  Unsent : SendsNothing old new before after → Moves old new before after
  Received : (at : At) (m : Message) → Does {X = Option Message} old new at.repo (Ok (Some m)) (ReceiveWork at.session (Ok (Some m))) → InSession at before
      → Takes at.repo m before after → after.client ≡ before.client → Moves old new before after
  -- none waits
  ReceivedNone : (at : At) → Does {X = Option Message} old new at.repo (Ok None) (ReceiveWork at.session (Ok None)) → InSession at before
      → (after.links.items ≡ before.links.items) ⊎ (after.links.items ≡ at_repo before.links.items at.repo (waiting Idle))
      → after.client ≡ before.client → AreAmong (kept before.cache.cache) (kept after.cache.cache) → Moves old new before after
  ReceiveRefused : (at : At) (k : Refusal) → Does {X = Option Message} old new at.repo (Err k) (ReceiveWork at.session (Err k)) → InSession at before
      → Loses k at.repo before after → after.client ≡ before.client → Moves old new before after
  -- the repository is out of order, and no item is left
  ReceiveStopped : (at : At) (k : Refusal) → Does {X = Option Message} old new at.repo (Err k) (ReceiveWork at.session (Err k)) → InSession at before
      → IsOutage k → StopsWaiting at.repo before after → after.client ≡ before.client → AreAmong (kept before.cache.cache) (kept after.cache.cache) → Moves old new before after
  Prepared : (s : Sending) (place : ℕ) → Does {X = ℕ} old new s.at.repo (Ok place) (PrepareWork s.at.session s.request (Ok place)) → IsOfSession before.links.items s
      → HoldsLess before after → Moves old new before after
  PrepareRefused : (s : Sending) (k : Refusal) → Does {X = ℕ} old new s.at.repo (Err k) (PrepareWork s.at.session s.request (Err k)) → IsOfSession before.links.items s
      → NoneAwaits 8 before.links.items → Learns k s.at.repo before after → after.client ≡ before.client → Moves old new before after
  -- the request writes what the try has written, and of that the client has copies, or it is created
  Committed : (s : Sending) (place : ℕ) → Does {X = ℕ} old new s.at.repo (Ok place) (CommitWork s.at.session s.request (Ok place)) → IsOfSession before.links.items s
      → InSession s.at before → WritesThere s.at.repo s.request.writes before.cache.cache → HoldsWritten s.request before.cache.cache → NoneAwaits 8 before.links.items → KeepsTry before after → Moves old new before after
  -- the transaction was that of a transform, which has written the object alone, an object of the repository of which the client has a copy
  Transformed : (s : Sending) (place : ℕ) (oref : Oref) (made : Obj) → Does {X = ℕ} old new s.at.repo (Ok place) (CommitWork s.at.session s.request (Ok place)) → IsOfSession before.links.items s
      → InSession s.at before → s.request.writes ≡ (oref, made) ∷ [] → oref.repo ≡ s.at.repo → HoldsWritten s.request before.cache.cache → NoneAwaits 8 before.links.items → KeepsMade oref made before after → Moves old new before after
  CommitRefused : (s : Sending) (k : Refusal) → Does {X = ℕ} old new s.at.repo (Err k) (CommitWork s.at.session s.request (Err k)) → IsOfSession before.links.items s
      → NoneAwaits 8 before.links.items → Learns k s.at.repo before after → after.client ≡ before.client → Moves old new before after
  Decided : (at : At) (t : Ts) (v : Verdict) → Does {X = Verdict} old new at.repo (Ok v) (DecideWork at.session t true (Ok v))
      → NoneAwaits 8 before.links.items → EndsSo v.commit before after → Moves old new before after
  Aborted : (at : At) (t : Ts) (v : Verdict) → Does {X = Verdict} old new at.repo (Ok v) (DecideWork at.session t false (Ok v)) → HoldsLess before after → Moves old new before after
  DecideRefused : (at : At) (t : Ts) (commit : Bool) (k : Refusal) → Does {X = Verdict} old new at.repo (Err k) (DecideWork at.session t commit (Err k))
      → Loses k at.repo before after → after.client ≡ before.client → Moves old new before after
  Finished : (r : ℕ) (t : Ts) (commit : Bool) (result : Result (Option ℕ) Refusal) → Does old new r result (FinishWork t commit result) → HoldsLess before after → Moves old new before after
  Forgot : (r : ℕ) (t : Ts) (result : Result (Unit {0}) Refusal) → Does old new r result (ForgetWork t result) → HoldsLess before after → Moves old new before after
  -- the verdict on the try's own transaction was told
  AskedOwn : (r : ℕ) (t : Ts) (v : Verdict) → Does {X = answer.Asked} old new r (Ok (answers.Settled v)) (AskWork t (Ok (answers.Settled v))) → EndsSo v.commit before after → Moves old new before after
  -- no verdict was told, and the item is held as Unknown
  AskedInVain : (r : ℕ) (t : Ts) (result : Result answer.Asked Refusal) → Does old new r result (AskWork t result) → LeavesSome before after
      → after.client ≡ before.client → AreAmong (kept before.cache.cache) (kept after.cache.cache) → Moves old new before after

-- the same of a port that may show nothing
abbrev pub MovesIf : Bool → View → View → Held → Held → Type 0
MovesIf shows old new before after = shows ≡ true → Moves old new before after

abbrev pub SendsNothingIf : Bool → View → View → Held → Held → Type 0
SendsNothingIf shows old new before after = shows ≡ true → SendsNothing old new before after
