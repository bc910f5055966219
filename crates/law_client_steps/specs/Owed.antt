-- A client that fits with all that it holds, and what a step asks beside that, which no client can know by itself.
use Rattle.client_cache.specs.Copies.{kept, seen}
use Rattle.client_cache.specs.Pages.{same_name}
use Rattle.client_cache.specs.Placing.{IsPageOf}
use Rattle.law_cache_coherence.specs.Fitting.{Copies, NoneToFinish}
use Rattle.law_cache_coherence.specs.Links.{BringsContent}
use Rattle.law_cache_coherence.specs.Steps.{LinksFit}
use Rattle.law_cache_coherence.specs.Verdicts.{TakesAll}
use Rattle.client_state.specs.declared.held.Held.{Held}
use Rattle.client_state.specs.Moving.{Aborted, Asked, AskedInVain, AskedOwn, CommitRefused, Committed, Connected, Decided, DecideRefused, Drawn, Fetched, Finished, Forgot, Granted, Moves, PrepareRefused, Prepared, ReceiveRefused, ReceiveStopped, Received, ReceivedNone, Rested, SendsNothing, Settled, Transformed, Unsent}
use Rattle.session_outbox.specs.declared.message.Message.TheVariants.{Grant, Invalid, Page, Upgrade}
use Rattle.session_outbox.specs.declared.message.Message.{Message}
use Rattle.client_port.specs.Views.{Calm, View}
use Rattle.spec_trace.specs.Notices.{lives}
use Rattle.spec_trace.specs.Session.{session}
use Rattle.spec_trace.specs.Trace.{Item, entries}
use Rattle.std.specs.Prelude.{Bool, List, None, Option, Some, cond, false, length, true, ℕ, ◌<◌, ◌^◌, ◌≡◌, ◌≤◌}
use Rattle.thor_value.specs.declared.names.Oref.{Oref}
use Rattle.thor_value.specs.declared.names.Ts.{Ts}
use Rattle.thor_value.specs.declared.values.Obj.{Obj}

-- The port is the client's, it reaches as many repositories as a store may have, and with all its links and its copies the
-- client fits what it has seen of them.
pub record ClientFits (port : View) (committed : Ts → Bool) (held : Held) : Type 0 where
  pub own : held.client ≡ port.opened.client
  pub few : port.opened.repos ≤ 8
  pub links : LinksFit port committed held.links.items (kept held.cache.cache)

-- ---- what a step tells

abbrev pub if_commit : Bool → Ts → Option Ts
if_commit commit t = cond commit (Some t) None

-- the transaction of the client's try that the step tells to have committed, where it had to be decided over several repositories
abbrev pub verdict_of : (old new : View) (before after : Held) → Moves old new before after → Option Ts
verdict_of old new before after (Unsent sends) = None
verdict_of old new before after (Received at m does there takes same) = None
verdict_of old new before after (ReceivedNone at does there waits same fewer) = None
verdict_of old new before after (ReceiveRefused at k does there loses same) = None
verdict_of old new before after (ReceiveStopped at k does there outage stops same fewer) = None
verdict_of old new before after (Prepared s place does of less) = None
verdict_of old new before after (PrepareRefused s k does of idle learns same) = None
verdict_of old new before after (Committed s place does of session wrote held idle keeps) = None
verdict_of old new before after (Transformed s place oref made does of session writes here held idle keeps) = None
verdict_of old new before after (CommitRefused s k does of idle learns same) = None
verdict_of old new before after (Decided at t v does idle ends) = if_commit v.commit t
verdict_of old new before after (Aborted at t v does less) = None
verdict_of old new before after (DecideRefused at t commit k does loses same) = None
verdict_of old new before after (Finished r t commit result does less) = None
verdict_of old new before after (Forgot r t result does less) = None
verdict_of old new before after (AskedOwn r t v does ends) = if_commit v.commit t
verdict_of old new before after (AskedInVain r t result does leaves same fewer) = None

-- ---- what it asks

-- A page's message brings what stood at its place: its bytes spell objects, and where the repository's disk tells what it holds, these
-- are the objects of the page as they stood there.
pub record PageOwed (port : View) (repo page : ℕ) (bytes : List ℕ) (place : ℕ) : Type 0 where
  pub objects : ℕ → Option Obj
  pub spelled : IsPageOf bytes page objects
  pub brings : (port.opened.base repo).tells ≡ true → BringsContent (port.opened.base repo) (entries (port.seen repo)) objects (Page page bytes place)

-- A page brings what stood at its place. Where a message tells of a commit, the repository has fewer entries than a place can tell.
abbrev pub MessageOwed : View → ℕ → Message → Type 0
MessageOwed port repo (Page page bytes place) = PageOwed port repo page bytes place
MessageOwed port repo (Grant page place) = Unit {0}
MessageOwed port repo (Invalid names place) = repo < port.opened.repos → length (entries (port.seen repo)) < 2 ^ 64
MessageOwed port repo (Upgrade number text place) = repo < port.opened.repos → length (entries (port.seen repo)) < 2 ^ 64

-- Where the repository is there, the session live and nothing unsettled, nothing was left to finish in the session, in the trace T.
abbrev pub SettledOwed : View → ℕ → List Item → ℕ → (Ts → Bool) → Type 0
SettledOwed port repo T s committed = repo < port.opened.repos → port.unsettled repo ≡ Calm → lives (session (port.opened.base repo) (port.seen repo) s) ≡ true → NoneToFinish (port.opened.base repo) (entries T) s committed

-- what the client has once a transform's object is written
abbrev pub with_made : Oref → Obj → Held → Copies
with_made oref made before x = cond (same_name oref x) (Some made) (kept before.cache.cache x)

-- Where the verdict is a commit, what the try has written is what its transaction wrote at each repository.
abbrev pub VerdictOwed : Bool → View → (Ts → Bool) → (Ts → Bool) → Ts → Held → Type 0
VerdictOwed true old committed later t before = TakesAll old before.links.items committed later t (kept before.cache.cache) (seen before.cache.cache)
VerdictOwed false old committed later t before = Unit {0}

abbrev pub SendsOwed : (old new : View) (before after : Held) → (Ts → Bool) → SendsNothing old new before after → Type 0
SendsOwed old new before after later (Rested same less) = Unit {0}
SendsOwed old new before after later (Connected repo connects apart same fewer) = Unit {0}
SendsOwed old new before after later (Fetched at page left fetches idle same fewer) = SettledOwed new at.repo (new.seen at.repo) at.session later
SendsOwed old new before after later (Granted at left grants idle same fewer) = Unit {0}
SendsOwed old new before after later (Drawn at answer left draws there same fewer) = Unit {0}
SendsOwed old new before after later (Asked r t result does less) = Unit {0}
SendsOwed old new before after later (Settled r t v sent index does there links same fewer) = Unit {0}

-- `committed` tells what had committed at its coordinator before the step, and `later` what has behind it. Before a fetch and a
-- commit what was decided has been handed on; what is prepared isn't decided.
abbrev pub Owed : (old new : View) (before after : Held) → (committed later : Ts → Bool) → Moves old new before after → Type 0
Owed old new before after committed later (Unsent sends) = SendsOwed old new before after later sends
Owed old new before after committed later (Received at m does there takes same) = MessageOwed new at.repo m
Owed old new before after committed later (ReceivedNone at does there waits same fewer) = Unit {0}
Owed old new before after committed later (ReceiveRefused at k does there loses same) = Unit {0}
Owed old new before after committed later (ReceiveStopped at k does there outage stops same fewer) = Unit {0}
Owed old new before after committed later (Prepared s place does of less) = s.at.repo < new.opened.repos → later s.request.tx ≡ false
Owed old new before after committed later (PrepareRefused s k does of idle learns same) = Unit {0}
Owed old new before after committed later (Committed s place does of session wrote held idle keeps) = SettledOwed new s.at.repo does.at s.at.session later
Owed old new before after committed later (Transformed s place oref made does of session writes here held idle keeps) = SettledOwed new s.at.repo does.at s.at.session later
Owed old new before after committed later (CommitRefused s k does of idle learns same) = Unit {0}
Owed old new before after committed later (Decided at t v does idle ends) = VerdictOwed v.commit old committed later t before
Owed old new before after committed later (Aborted at t v does less) = Unit {0}
Owed old new before after committed later (DecideRefused at t commit k does loses same) = Unit {0}
Owed old new before after committed later (Finished r t commit result does less) = Unit {0}
Owed old new before after committed later (Forgot r t result does less) = Unit {0}
Owed old new before after committed later (AskedOwn r t v does ends) = VerdictOwed v.commit old committed later t before
Owed old new before after committed later (AskedInVain r t result does leaves same fewer) = Unit {0}
