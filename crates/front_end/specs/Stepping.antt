-- What a client's step makes of its try's transaction, of its duties and of its items (this project's).
use Rattle.client_items.specs.Courses.{who_next}
use Rattle.client_items.specs.Ending.{EndsBy, GoesBy}
use Rattle.client_items.specs.declared.news.News.TheVariants as news
use Rattle.client_items.specs.declared.news.News.{News}
use Rattle.client_port.specs.Acting.{ActsIf}
use Rattle.client_port.specs.Views.{View}
use Rattle.client_port.specs.Works.{Does, FinishWork, ForgetWork}
use Rattle.client_state.specs.Drawing.{DrawsSo, MayDraw, StaysDrawn, drawn_in}
use Rattle.client_state.specs.Handing.{HandsIf, is_answered}
use Rattle.base_reasons.specs.declared.reason.Reason.TheVariants as reasons
use Rattle.client_state.specs.Moving.{Aborted, Asked, AskedInVain, AskedOwn, CommitRefused, Committed, Connected, DecideRefused, Decided, Drawn, Fetched, Finished, Forgot, Granted, Moves, MovesIf, PrepareRefused, Prepared, ReceiveRefused, ReceiveStopped, Received, ReceivedNone, Rested, SendsNothing, Settled, Transformed, Unsent}
use Rattle.client_state.specs.Pending.{IsAsking, IsPreparing, NonePending, Pending, pending_in}
use Rattle.client_state.specs.Reading.{phase_reads}
use Rattle.client_state.specs.Settling.{NewsAsSent}
use Rattle.client_state.specs.Stepping.{Present, SendsMore, StepsSo}
use Rattle.client_state.specs.Written.{LeavesSo, WhileUndecided, WritesSo}
use Rattle.client_state.specs.declared.duties.Abort.{Abort}
use Rattle.client_state.specs.declared.duties.Duties.{Duties}
use Rattle.client_state.specs.declared.duties.Helping.{Helping}
use Rattle.client_state.specs.declared.held.Held.{Held}
use Rattle.client_state.specs.declared.phase.Phase.TheVariants.{Between}
use Rattle.client_state.specs.declared.phase.Phase.{Phase}
use Rattle.client_state.specs.declared.requests.Sending.{Sending}
use Rattle.client_state.specs.declared.transaction.Transaction.{Transaction}
use Rattle.front_end.specs.Moving.{course_of, held_of, tries_of}
use Rattle.front_end.specs.Showing.{ItemsShown}
use Rattle.front_end.specs.declared.client.Client.{Client}
use Rattle.front_end.specs.declared.front_end.FrontEnd.{FrontEnd}
use Rattle.front_end.specs.declared.rule.Counted.TheVariants as counted
use Rattle.front_end.specs.declared.rule.Counted.{Counted}
use Rattle.front_end.specs.declared.rule.Rule.TheVariants as rules
use Rattle.front_end.specs.declared.rule.Rule.{Rule}
use Rattle.serial_model.specs.declared.outcomes.Cause.TheVariants as cause
use Rattle.session_outbox.specs.declared.answers.At.{At}
use Rattle.session_outbox.specs.declared.answers.Verdict.{Verdict}
use Rattle.std.specs.Prelude.{Bool, Contains, List, None, Option, Result, Some, [], false, true, ℕ, ◌∷◌, ◌≡◌}
use Rattle.thor_value.specs.declared.names.Oref.{Oref}
use Rattle.thor_value.specs.declared.names.Ts.{Ts}
use Rattle.repo_refusals.specs.declared.refusal.Refusal.{Refusal}

-- ---- when the try's own calls come, and where it ends by them

-- No verdict is to be handed on.
abbrev pub OwesNone : Duties → Type 0
OwesNone d = d.verdicts ≡ []

-- A call of a session comes only where no verdict is to be handed on.
abbrev pub SendsFreely : (old new : View) (before after : Held) → SendsNothing old new before after → Duties → Type 0
SendsFreely old new before after (Rested same less) d = Unit {0}
SendsFreely old new before after (Connected repo connects apart same fewer) d = OwesNone d
SendsFreely old new before after (Fetched at page left fetches idle same fewer) d = OwesNone d
SendsFreely old new before after (Granted at left grants idle same fewer) d = OwesNone d
SendsFreely old new before after (Drawn at answer left draws there same fewer) d = OwesNone d
SendsFreely old new before after (Asked r t result does less) d = Unit {0}
SendsFreely old new before after (Settled r t v sent index does there links same fewer) d = Unit {0}

-- So does each call by which the try's transaction is sent, or decided.
abbrev pub GoesFreely : (old new : View) (before after : Held) → Moves old new before after → Duties → Type 0
GoesFreely old new before after (Unsent sends) d = SendsFreely old new before after sends d
GoesFreely old new before after (Received at m does there takes same) d = Unit {0}
GoesFreely old new before after (ReceivedNone at does there waits same fewer) d = Unit {0}
GoesFreely old new before after (ReceiveRefused at k does there loses same) d = Unit {0}
GoesFreely old new before after (ReceiveStopped at k does there outage stops same fewer) d = Unit {0}
GoesFreely old new before after (Prepared s place does of less) d = OwesNone d
GoesFreely old new before after (PrepareRefused s k does of idle learns same) d = OwesNone d
GoesFreely old new before after (Committed s place does of session wrote held idle keeps) d = OwesNone d
GoesFreely old new before after (Transformed s place oref made does of session writes here held idle keeps) d = OwesNone d
GoesFreely old new before after (CommitRefused s k does of idle learns same) d = OwesNone d
GoesFreely old new before after (Decided at t v does idle ends) d = OwesNone d
GoesFreely old new before after (Aborted at t v does less) d = Unit {0}
GoesFreely old new before after (DecideRefused at t true k does loses same) d = OwesNone d
GoesFreely old new before after (DecideRefused at t false k does loses same) d = Unit {0}
GoesFreely old new before after (Finished r t commit result does less) d = Unit {0}
GoesFreely old new before after (Forgot r t result does less) d = Unit {0}
GoesFreely old new before after (AskedOwn r t v does ends) d = Unit {0}
GoesFreely old new before after (AskedInVain r t result does leaves same fewer) d = Unit {0}

-- Where nothing is undecided, no try runs.
abbrev pub IsOver : Phase → Type 0
IsOver q = pending_in q ≡ NonePending → q ≡ Between

-- Behind a call by which the try's transaction was sent, decided or asked for, and of which nothing is undecided, the try has ended: it
-- isn't sent again. A transform's evaluation begins anew.
abbrev pub EndsTry : (old new : View) (before after : Held) → Moves old new before after → Phase → Type 0
EndsTry old new before after (Unsent sends) q = Unit {0}
EndsTry old new before after (Received at m does there takes same) q = Unit {0}
EndsTry old new before after (ReceivedNone at does there waits same fewer) q = Unit {0}
EndsTry old new before after (ReceiveRefused at k does there loses same) q = Unit {0}
EndsTry old new before after (ReceiveStopped at k does there outage stops same fewer) q = Unit {0}
EndsTry old new before after (Prepared s place does of less) q = Unit {0}
EndsTry old new before after (PrepareRefused s k does of idle learns same) q = q ≡ Between
EndsTry old new before after (Committed s place does of session wrote held idle keeps) q = q ≡ Between
EndsTry old new before after (Transformed s place oref made does of session writes here held idle keeps) q = Unit {0}
EndsTry old new before after (CommitRefused s k does of idle learns same) q = IsOver q
EndsTry old new before after (Decided at t v does idle ends) q = q ≡ Between
EndsTry old new before after (Aborted at t v does less) q = Unit {0}
EndsTry old new before after (DecideRefused at t commit k does loses same) q = Unit {0}
EndsTry old new before after (Finished r t commit result does less) q = Unit {0}
EndsTry old new before after (Forgot r t result does less) q = Unit {0}
EndsTry old new before after (AskedOwn r t v does ends) q = q ≡ Between
EndsTry old new before after (AskedInVain r t result does leaves same fewer) q = IsOver q

-- ---- what is to be aborted

-- what is to be aborted behind a step where its coordinator had prepared this before: that, where nothing is undecided any more
abbrev pub abort_left : At → Ts → List ℕ → Pending → Option Abort → Option Abort
abort_left at t rs NonePending b = Some (record { coordinator = at; ts = t; prepared = rs })
abort_left at t rs (IsPreparing coordinator u prepared transaction) b = b
abort_left at t rs (IsAsking sent n) b = b

-- what is to be aborted behind a step by which this became of what was undecided, where this was to be aborted before: what its
-- coordinator has prepared of a try that has ended, else what was so before
abbrev pub abort_behind : Pending → Pending → Option Abort → Option Abort
abort_behind NonePending z b = b
abort_behind (IsPreparing at t rs transaction) z b = abort_left at t rs z b
abort_behind (IsAsking sent n) z b = b

abbrev pub NotesAbort : Pending → Pending → Duties → Duties → Type 0
NotesAbort a z d e = e.abort ≡ abort_behind a z d.abort

-- Nothing is to be aborted any more: the coordinator was to abort it.
abbrev pub AbortsNone : Duties → Type 0
AbortsNone e = e.abort ≡ None

-- The same by the call: what was decided isn't to be aborted.
abbrev pub AbortsSo : (old new : View) (before after : Held) → Moves old new before after → Pending → Pending → Duties → Duties → Type 0
AbortsSo old new before after (Unsent sends) a z d e = NotesAbort a z d e
AbortsSo old new before after (Received at m does there takes same) a z d e = NotesAbort a z d e
AbortsSo old new before after (ReceivedNone at does there waits same fewer) a z d e = NotesAbort a z d e
AbortsSo old new before after (ReceiveRefused at k does there loses same) a z d e = NotesAbort a z d e
AbortsSo old new before after (ReceiveStopped at k does there outage stops same fewer) a z d e = NotesAbort a z d e
AbortsSo old new before after (Prepared s place does of less) a z d e = NotesAbort a z d e
AbortsSo old new before after (PrepareRefused s k does of idle learns same) a z d e = NotesAbort a z d e
AbortsSo old new before after (Committed s place does of session wrote held idle keeps) a z d e = NotesAbort a z d e
AbortsSo old new before after (Transformed s place oref made does of session writes here held idle keeps) a z d e = NotesAbort a z d e
AbortsSo old new before after (CommitRefused s k does of idle learns same) a z d e = NotesAbort a z d e
AbortsSo old new before after (Decided at t v does idle ends) a z d e = e.abort ≡ d.abort
AbortsSo old new before after (Aborted at t v does less) a z d e = AbortsNone e
AbortsSo old new before after (DecideRefused at t true k does loses same) a z d e = NotesAbort a z d e
AbortsSo old new before after (DecideRefused at t false k does loses same) a z d e = AbortsNone e
AbortsSo old new before after (Finished r t commit result does less) a z d e = NotesAbort a z d e
AbortsSo old new before after (Forgot r t result does less) a z d e = NotesAbort a z d e
AbortsSo old new before after (AskedOwn r t v does ends) a z d e = NotesAbort a z d e
AbortsSo old new before after (AskedInVain r t result does leaves same fewer) a z d e = NotesAbort a z d e

-- The client has made a step, which came to this: it keeps to two-phase commit, the try's own calls come only where no verdict is to be
-- handed on, a try whose transaction was refused, committed or decided has ended, and of one that ends undecided is to be aborted what its
-- coordinator has prepared.
pub record StepsInOrder (item : Present) (old new : View) (before after : Held) (a : Pending) (q : Phase) (d e : Duties) (came : News) : Type 0 where
  pub so : StepsSo item old new before after a (pending_in q) d e came
  pub free : GoesFreely old new before after so.moves d
  pub ends : EndsTry old new before after so.moves q
  pub aborts : AbortsSo old new before after so.moves a (pending_in q) d e

-- The same, and: what is sent goes out once, under the timestamp that was drawn for it; what the try has written stays while its transaction is
-- undecided, but for what others have written, or what goes with a session; and where an item is held as Unknown, the links with its participants are
-- apart.
pub record StepsKeeping (item : Present) (old new : View) (before after : Held) (a : Pending) (drawn : Option Ts) (q : Phase) (d e : Duties) (came : News) : Type 0 where
  pub order : StepsInOrder item old new before after a q d e came
  pub draws : DrawsSo item old new before after order.so.moves a (pending_in q) came order.so.tries drawn (drawn_in q)
  pub writes : WhileUndecided (pending_in q) (WritesSo old new before after order.so.moves a)
  pub leaves : LeavesSo item old new before after order.so.moves a (pending_in q) came order.so.tries

-- the same of a port that may show nothing
abbrev pub StepsKeepingIf : Bool → Present → View → View → Held → Held → Pending → Option Ts → Phase → Duties → Duties → News → Type 0
StepsKeepingIf shows item old new before after a drawn q d e came = shows ≡ true → StepsKeeping item old new before after a drawn q d e came

-- ---- a client without its items

-- A client has made a step, which came to this. What was undecided before is told apart, and so is the timestamp that was drawn.
abbrev pub StepsOut : Bool → Present → View → View → Pending → Option Ts → Client → Client → News → Type 0
StepsOut shows item old new a drawn f g came = StepsKeepingIf shows item old new f.held g.held a drawn g.phase f.duties g.duties came

-- the same whatever was drawn
abbrev pub StepsFrom : Bool → Present → View → View → Pending → Client → Client → News → Type 0
StepsFrom shows item old new a f g came = (drawn : Option Ts) → StepsOut shows item old new a drawn f g came

-- the same of one that has no verdict to hand on
abbrev pub TriesFrom : Bool → Present → View → View → Pending → Client → Client → News → Type 0
TriesFrom shows item old new a f g came = (drawn : Option Ts) → OwesNone f.duties → StepsOut shows item old new a drawn f g came

-- the same where nothing was undecided, and this was drawn
abbrev pub SendsFrom : Bool → Present → View → View → Option Ts → Client → Client → News → Type 0
SendsFrom shows item old new drawn f g came = OwesNone f.duties → StepsOut shows item old new NonePending drawn f g came

-- the same of what was undecided and drawn in its phase
abbrev pub ClientSteps : Bool → Present → View → View → Client → Client → News → Type 0
ClientSteps shows item old new f g came = StepsOut shows item old new (pending_in f.phase) (drawn_in f.phase) f g came

-- the same where it has no verdict to hand on
abbrev pub ClientGoesOn : Bool → Present → View → View → Client → Client → News → Type 0
ClientGoesOn shows item old new f g came = OwesNone f.duties → ClientSteps shows item old new f g came

-- the same where these were its duties
abbrev pub StepsWith : Bool → Present → View → View → Duties → Client → Client → News → Type 0
StepsWith shows item old new d f g came = StepsKeepingIf shows item old new f.held g.held (pending_in f.phase) (drawn_in f.phase) g.phase d g.duties came

-- the same where the step came to nothing for its items
abbrev pub StepsOwing : Bool → Present → View → View → Duties → Client → Client → Type 0
StepsOwing shows item old new d f g = StepsWith shows item old new d f g news.Nothing

-- what a step came to that may have come to nothing at all
abbrev pub news_in : Option News → News
news_in None = news.Nothing
news_in (Some n) = n

-- What is to be aborted stays, where nothing was undecided.
abbrev pub KeepsAbort : Client → Client → Type 0
KeepsAbort f g = pending_in f.phase ≡ NonePending → g.duties.abort ≡ f.duties.abort

-- Nothing is drawn any more, or what was drawn before.
abbrev pub KeepsDrawn : Client → Client → Type 0
KeepsDrawn f g = StaysDrawn (drawn_in f.phase) (drawn_in g.phase)

-- What is drawn was drawn before, or by the step's call.
abbrev pub ClientDraws : Bool → View → View → Client → Client → Type 0
ClientDraws shows old new f g = shows ≡ true → MayDraw old new (drawn_in f.phase) (drawn_in g.phase)

-- What its coordinator has prepared of a try that has ended is to be aborted, else what was so before. Nothing is drawn anew.
abbrev pub ClientNotes : Client → Client → Type 0
ClientNotes f g = NotesAbort (pending_in f.phase) (pending_in g.phase) f.duties g.duties × KeepsDrawn f g

-- What comes to a client's duties by a call that sends nothing of its transaction, where its links stood so before, and what is drawn by it.
abbrev pub ClientHands : Bool → View → View → Client → Client → Type 0
ClientHands shows old new f g = ((a : Pending) → HandsIf shows old new a f.held.links.items f.duties g.duties) × KeepsAbort f g × ClientDraws shows old new f g

-- The verdicts of a client's duties stay, and so does how it helps, and what is to be aborted where nothing was undecided. Nothing is drawn anew.
abbrev pub SameVerdicts : Client → Client → Type 0
SameVerdicts f g = (g.duties.verdicts ≡ f.duties.verdicts) × (g.duties.helping ≡ f.duties.helping) × KeepsAbort f g × KeepsDrawn f g

-- A try ends since objects were written by others only where it had read one of them.
abbrev pub IsStaleBy : Phase → List Oref → ℕ → News → Type 0
IsStaleBy phase names place news.Nothing = Unit {0}
IsStaleBy phase names place (news.TryEnded c) = (oref : Oref) × (c ≡ cause.Reason (reasons.Stale oref place)) × Contains names oref × (phase_reads phase oref ≡ true)
IsStaleBy phase names place (news.Ended outcome) = ⊥
IsStaleBy phase names place (news.Settled settled) = ⊥

-- The next share of what the coordinator has prepared is sent, and the phase has the shares that are left behind it.
pub record IsSentMore (item : Present) (f : Client) (s : Sending) (a : Pending) : Type 0 where
  pub at : At
  pub rs : List ℕ
  pub left : Transaction
  pub sends : SendsMore item f.held.links.items a s at rs left
  pub now : pending_in f.phase ≡ IsPreparing at s.request.tx rs left

-- ---- a verdict that is handed on

-- A repository was told the verdict. It is told whether it has answered.
pub record IsFinished (old new : View) (r : ℕ) (v : Verdict) (answered : Bool) : Type 0 where
  pub result : Result (Option ℕ) Refusal
  pub call : Does old new r result (FinishWork v.tx v.commit result)
  pub answered_is : answered ≡ is_answered result

-- The same, where it isn't told whether it has answered.
abbrev pub IsFinishedSo : View → View → ℕ → Verdict → Type 0
IsFinishedSo old new r v = (answered : Bool) × IsFinished old new r v answered

-- The coordinator was to forget the transaction.
pub record IsForgotten (old new : View) (t : Ts) : Type 0 where
  pub result : Result (Unit {0}) Refusal
  pub call : Does old new t.repo result (ForgetWork t result)

-- ---- the rules

-- A client helps by what its duties say.
abbrev pub HelpsBy : Counted → Option Helping → Type 0
HelpsBy (counted.Await at) helping = Unit {0}
HelpsBy (counted.CatchUp at) helping = Unit {0}
HelpsBy (counted.Help h) helping = helping ≡ Some h
HelpsBy counted.GoOn helping = Unit {0}

abbrev pub RuleHelpsBy : Rule → Option Helping → Type 0
RuleHelpsBy (rules.Counted rule) helping = HelpsBy rule helping
RuleHelpsBy rules.Ask helping = Unit {0}
RuleHelpsBy rules.HandOn helping = Unit {0}

-- The try goes on only where no verdict is to be handed on.
abbrev pub GoesOnBy : Counted → Duties → Type 0
GoesOnBy (counted.Await at) d = Unit {0}
GoesOnBy (counted.CatchUp at) d = Unit {0}
GoesOnBy (counted.Help h) d = Unit {0}
GoesOnBy counted.GoOn d = OwesNone d

abbrev pub RuleGoesOnBy : Rule → Duties → Type 0
RuleGoesOnBy (rules.Counted rule) d = GoesOnBy rule d
RuleGoesOnBy rules.Ask d = Unit {0}
RuleGoesOnBy rules.HandOn d = Unit {0}

-- ---- a client with its items

-- its present item, and how many tries an item has
abbrev pub present_of : FrontEnd → Present
present_of f = record { who = who_next (course_of f); tries = tries_of f }

-- The client has made a step: what that came to is what its items have gone by, and an item that has to end by it has ended so. One
-- that was Unknown ends as it was sent.
pub record TakesStep (shows : Bool) (old new : View) (f g : FrontEnd) : Type 0 where
  pub came : News
  pub steps : ClientSteps shows (present_of f) old new f.client g.client came
  pub goes : GoesBy (tries_of f) came (course_of f) (course_of g)
  pub ends : EndsBy f.attempts came (course_of f) (course_of g)
  pub as_sent : NewsAsSent (held_of f).links.items came

-- ---- behind the last step

-- What a call has come to is what the items of a client have gone by. One that was Unknown ends as it was sent.
pub record GoesAsSent (f g : FrontEnd) : Type 0 where
  pub came : News
  pub goes : GoesBy (tries_of f) came (course_of f) (course_of g)
  pub as_sent : NewsAsSent (held_of f).links.items came

-- The client has asked about an Unknown item, or has called nothing.
pub record AsksOnce (shows : Bool) (repos : ℕ) (old new : View) (f g : FrontEnd) : Type 0 where
  pub acts : ActsIf shows old new
  pub moves : MovesIf shows old new (held_of f) (held_of g)
  pub shown : ItemsShown shows old new repos f g
  pub items : GoesAsSent f g

-- It has asked so by these calls, one behind the other: what was shown behind each, and what it was then.
abbrev pub AsksBy : Bool → ℕ → View → FrontEnd → List (View × FrontEnd) → View → FrontEnd → Type 0
AsksBy shows repos old f [] new g = (new ≡ old) × (g ≡ f)
AsksBy shows repos old f (s ∷ ss) new g = AsksOnce shows repos old s.0 f s.1 × AsksBy shows repos s.0 s.1 ss new g

pub record AsksEach (shows : Bool) (repos : ℕ) (old new : View) (f g : FrontEnd) : Type 0 where
  pub calls : List (View × FrontEnd)
  pub asks : AsksBy shows repos old f calls new g
