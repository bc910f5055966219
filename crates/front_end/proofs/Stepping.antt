-- A step of a client keeps to two-phase commit: what it makes of its try's transaction, of its duties and of its present item.
use Rattle.client_cache.specs.Copies.{Contents, changed, kept}
use Rattle.client_items.specs.Courses.{Course, who_next}
use Rattle.client_items.specs.Ending.{EndsBy, GoesBy, IsRefused}
use Rattle.client_items.specs.Meanings.{committed_as, is_ended}
use Rattle.client_items.specs.declared.attempts.Attempts.{Attempts}
use Rattle.client_items.specs.declared.news.News.TheVariants as news
use Rattle.client_items.specs.declared.news.News.{News}
use Rattle.client_port.specs.Views.{Calm, Halted, MayCome, Unsettled, View}
use Rattle.client_port.specs.Works.{Answered, AskWork, CommitWork, DecideWork, Does, DrawWork, PrepareWork, ReceiveWork}
use Rattle.client_state.proofs.Pending.{sends_free, settled_written, still_written}
use Rattle.client_state.proofs.Stopping.{at_here}
use Rattle.client_state.specs.Calling.{Draws, IsDrawnSo}
use Rattle.client_state.specs.Drawing.{DrawsNow, DrawsSo, MayDraw, PreparesOut, RefusesOut, StaysDrawn, drawn_in}
use Rattle.client_state.specs.Handing.{AbortsInVain, AbortsNext, ByAsking, ByLink, ByPreparing, ForgetsNext, HandsIf, HandsTold, HandsVerdict, KeepsDuties, MayTell, TellsNext, TellsRefuser, handed, helps_by}
use Rattle.client_state.specs.Links.{NoneAwaits, at_repo, waiting}
use Rattle.client_state.specs.Moving.{Aborted, Asked, AskedInVain, AskedOwn, CommitRefused, Committed, Connected, DecideRefused, Decided, Drawn, EndsSo, Fetched, Finished, Forgot, Granted, HoldsLess, InSession, KeepsMade, KeepsTry, Learns, LeavesLess, Loses, MaySettle, Moves, PrepareRefused, Prepared, ReceiveRefused, ReceiveStopped, Received, ReceivedNone, Rested, SendsNothing, SendsNothingIf, Settled, Transformed, Unsent}
use Rattle.client_state.specs.Participants.{first_in, others_in, sent_of}
use Rattle.client_state.specs.Pending.{AsksBehind, IsAsking, IsPreparing, MovesSo, MovesSoIf, NonePending, Pending, RefusesToDecide, StaysAsked, StaysPending, abort_in, asked_at, is_preparing, noted, pending_in, prepared_at}
use Rattle.client_state.specs.Receiving.{EndsReceive, LosesThere, ReceivesNone, StopsThere, TakesCopies}
use Rattle.client_state.specs.Sending.{AreApart, IsDrawnAt, IsOfSession, SendsShare}
use Rattle.client_state.specs.Settling.{NewsAsSent}
use Rattle.client_state.specs.Showing.{IsToldBy, ToldByAnswer, ToldByDecision}
use Rattle.client_state.specs.Stepping.{AsksAgain, AsksInVain, AsksOwn, AsksWhereStopped, CommitsInVain, DecidesAll, EndsAsked, EndsOwn, HandsSo, HoldsThere, HoldsUnknown, PreparesInVain, PreparesNext, PreparesSo, Present, RefusesNext, SendsAlone, SendsDrawn, SendsTransform, StepsSo, TriesSo, one_more}
use Rattle.client_state.specs.Taking.{WrittenWithout, links_behind}
use Rattle.client_state.specs.Writing.{HoldsWritten, WritesShares, WritesStay, WritesThere, has_sent_to}
use Rattle.client_state.specs.Written.{LeavesApart, LeavesSo, WhileUndecided, WritesSo, WrittenRefused, WrittenTaken, is_sent_to, is_undecided}
use Rattle.client_state.specs.declared.calls.Drew.TheVariants as drew
use Rattle.client_state.specs.declared.calls.Drew.{Drew}
use Rattle.client_state.specs.declared.duties.Abort.{Abort}
use Rattle.client_state.specs.declared.duties.Duties.{Duties}
use Rattle.client_state.specs.declared.duties.Duty.{Duty}
use Rattle.client_state.specs.declared.duties.Helping.{Helping}
use Rattle.client_state.specs.declared.held.Held.{Held}
use Rattle.client_state.specs.declared.link.Link.TheVariants.{Unsettled as UnsettledLink}
use Rattle.client_state.specs.declared.link.Link.{Link}
use Rattle.client_state.specs.declared.link.Waits.TheVariants.{Idle}
use Rattle.client_state.specs.declared.phase.Phase.TheVariants as phase
use Rattle.client_state.specs.declared.phase.Phase.TheVariants.{Asking, Beginning, Between, Evaluated, Evaluating, Preparing, Transforming}
use Rattle.client_state.specs.declared.phase.Phase.{Phase}
use Rattle.client_state.specs.declared.requests.Sending.{Sending}
use Rattle.client_state.specs.declared.transaction.Sent.{Sent}
use Rattle.client_state.specs.declared.transaction.Transaction.{Transaction}
use Rattle.front_end.proofs.Receiving as receiving
use Rattle.front_end.proofs.Spending as spending
use Rattle.front_end.specs.Moving.{course_of, tries_of, uncounted}
use Rattle.front_end.specs.Stepping.{AbortsNone, AbortsSo, AsksBy, AsksEach, AsksOnce, ClientGoesOn, ClientHands, ClientNotes, ClientSteps, EndsTry, GoesFreely, IsFinished, IsFinishedSo, IsForgotten, IsOver, IsSentMore, KeepsAbort, KeepsDrawn, NotesAbort, OwesNone, SameVerdicts, SendsFreely, SendsFrom, StepsFrom, StepsInOrder, StepsKeeping, StepsKeepingIf, StepsOut, TakesStep, TriesFrom, abort_behind, present_of}
use Rattle.front_end.specs.declared.client.Client.{Client}
use Rattle.front_end.specs.declared.front_end.FrontEnd.{FrontEnd}
use Rattle.paused_eval.specs.declared.copies.Copies.{Copies}
use Rattle.repo_refusals.specs.declared.refusal.Refusal.TheVariants as refused
use Rattle.repo_refusals.specs.declared.refusal.Refusal.{Refusal}
use Rattle.session_outbox.specs.declared.answers.Asked as answer
use Rattle.session_outbox.specs.declared.answers.Asked.TheVariants as answers
use Rattle.session_outbox.specs.declared.answers.At.{At}
use Rattle.session_outbox.specs.declared.answers.Verdict.{Verdict}
use Rattle.session_outbox.specs.declared.message.Message.TheVariants.{Invalid}
use Rattle.session_outbox.specs.declared.message.Message.{Message}
use Rattle.std.proofs.Common.{Bool, List, [], ap, arith, false, inl, inr, refl, subst, sym, true, ◌++◌, ◌+◌, ◌≡◌, ◌≤◌, ◌∙◌, ℕ}
use Rattle.std.proofs.lemmas.Option.{same_Some}
use Rattle.std.proofs.lemmas.Result.{on_ok_weaker}
use Rattle.std.specs.List.{list_any}
use Rattle.std.specs.Option.{option_map}
use Rattle.std.specs.Prelude.{Err, IfOk, IsSome, None, Ok, OnOk, Option, Result, Some, slice_get, ◌∷◌, ◌⊎◌}
use Rattle.thor_value.specs.declared.memory.NoMemory.{NoMemory}
use Rattle.thor_value.specs.declared.names.Oref.{Oref}
use Rattle.thor_value.specs.declared.names.Ts.{Ts}
use Rattle.thor_value.specs.declared.values.Obj.{Obj}
use Rattle.thor_value.specs.declared.values.Who.{Who}

-- ---- duties

pub same_duties : (d e : Duties) → e ≡ d → KeepsDuties d e
same_duties d e same = (ap (λ (x : Duties). x.verdicts) same, inl (ap (λ (x : Duties). x.helping) same))

pub kept_duties : (d e : Duties) → e.verdicts ≡ d.verdicts → e.helping ≡ d.helping → KeepsDuties d e
kept_duties d e v h = (v, inl h)

pub keeps_twice : (d m e : Duties) → KeepsDuties d m → KeepsDuties m e → KeepsDuties d e
keeps_twice d m e f g = (g.0 ∙ f.0, by f.1 g.1)
  where
    by : (m.helping ≡ d.helping) ⊎ (helps_by m.helping ≡ None) → (e.helping ≡ m.helping) ⊎ (helps_by e.helping ≡ None) → (e.helping ≡ d.helping) ⊎ (helps_by e.helping ≡ None)
    by f (inr none) = inr none
    by (inl p) (inl q) = inl (q ∙ p)
    by (inr none) (inl q) = inr (ap helps_by q ∙ none)

module _ (old new : View) (a : Pending) (links : List Link) where
  pub told_nothing : (d e : Duties) → e.verdicts ≡ d.verdicts → e.helping ≡ d.helping → HandsTold old new a links d e
  told_nothing d e v h = record { verdicts = inl (inl v); helping = inl h }

  -- behind what comes to the duties they stay
  pub told_then : (d m e : Duties) → HandsTold old new a links d m → e.verdicts ≡ m.verdicts → e.helping ≡ m.helping → HandsTold old new a links d e
  told_then d m e h v k = subst (λ (ds : List Duty). HandsTold old new a links d (record e { verdicts = ds })) (sym v) (subst (λ (o : Option Helping). HandsTold old new a links d (record e { verdicts = m.verdicts; helping = o })) (sym k) (record { verdicts = h.verdicts; helping = h.helping }))

-- ---- what is drawn

stays_then : (a b c : Option Ts) → StaysDrawn a b → StaysDrawn b c → StaysDrawn a c
stays_then a b c f (inl none) = inl none
stays_then a b c (inl none) (inr same) = inl (same ∙ none)
stays_then a b c (inr same) (inr is) = inr (is ∙ same)

-- nothing was drawn before
stays_from_none : (o a z : Option Ts) → o ≡ None → StaysDrawn o z → StaysDrawn a z
stays_from_none o a z e (inl none) = inl none
stays_from_none o a z e (inr same) = inl (same ∙ e)

module _ (old new : View) where
  draws_from_none : (o a z : Option Ts) → o ≡ None → MayDraw old new o z → MayDraw old new a z
  draws_from_none o a z e (inl stays) = inl (stays_from_none o a z e stays)
  draws_from_none o a z e (inr now) = inr now

  -- what is drawn stays behind the call, or before it
  draws_then : (a b c : Option Ts) → MayDraw old new a b → StaysDrawn b c → MayDraw old new a c
  draws_then a b c (inl f) g = inl (stays_then a b c f g)
  draws_then a b c (inr now) (inl none) = inl (inl none)
  draws_then a b c (inr now) (inr same) = inr (record { t = now.t; now = same ∙ now.now; repo = now.repo; session = now.session; floor = now.floor; call = now.call })

  draws_before : (a b c : Option Ts) → StaysDrawn a b → MayDraw old new b c → MayDraw old new a c
  draws_before a b c f (inl g) = inl (stays_then a b c f g)
  draws_before a b c f (inr now) = inr now

  drawn_by_call : (at : At) (floor : ℕ) (t : Ts) (result : Result Ts Refusal) → IsDrawnSo (drew.Ts t) result → Does {X = Ts} old new at.repo result (DrawWork at.session floor result) → (z : Option Ts) → z ≡ Some t → DrawsNow old new z
  drawn_by_call at floor t (Ok u) told call z is = record { t = u; now = is ∙ ap Some (sym told); repo = at.repo; session = at.session; floor = floor; call = call }
  drawn_by_call at floor t (Err k) told call z is = absurd told

  -- a timestamp was drawn by the call
  pub draws_now : (shows : Bool) (at : At) (d : Drew) (t : Ts) (b a : List Link) (copies left : Contents) → Draws shows old new at (Ok d) b a copies left → d ≡ drew.Ts t → (z : Option Ts) → z ≡ Some t → shows ≡ true → DrawsNow old new z
  draws_now shows at d t b a copies left k is z now w = drawn_by_call at k.floor t k.result (subst (λ (x : Drew). IsDrawnSo x k.result) is k.told) (k.call w) z now

  draws_one : (shows : Bool) (at : At) (d : Drew) (t : Ts) (b a : List Link) (copies left : Contents) → Draws shows old new at (Ok d) b a copies left → d ≡ drew.Ts t → (o z : Option Ts) → (z ≡ Some t) ⊎ (z ≡ o) → shows ≡ true → MayDraw old new o z
  draws_one shows at d t b a copies left k is o z (inl now) w = inr (draws_now shows at d t b a copies left k is z now w)
  draws_one shows at d t b a copies left k is o z (inr same) w = inl (inr same)

-- what a phase draws that was taken out and put back
pub drawn_behind : (t : Ts) (q f r p : Phase) → q ≡ r → p ≡ f → (drawn_in r ≡ Some t) ⊎ (drawn_in r ≡ drawn_in p) → (drawn_in q ≡ Some t) ⊎ (drawn_in q ≡ drawn_in f)
drawn_behind t q f r p e g (inl now) = inl (ap drawn_in e ∙ now)
drawn_behind t q f r p e g (inr same) = inr (ap drawn_in e ∙ (same ∙ ap drawn_in g))

pub drawn_as : (o : Option Ts) (q f r p : Phase) → q ≡ r → p ≡ f → o ≡ None → (drawn_in r ≡ o) ⊎ (drawn_in r ≡ drawn_in p) → StaysDrawn (drawn_in f) (drawn_in q)
drawn_as o q f r p e g none (inl is) = inl (ap drawn_in e ∙ (is ∙ none))
drawn_as o q f r p e g none (inr same) = inr (ap drawn_in e ∙ (same ∙ ap drawn_in g))

-- something is undecided
undecided_undrawn : (p : Phase) → is_undecided (pending_in p) ≡ true → drawn_in p ≡ None
undecided_undrawn Between h = cc
undecided_undrawn Beginning h = cc
undecided_undrawn (Evaluating run awaited) h = cc
undecided_undrawn (Transforming run transform) h = cc
undecided_undrawn (Evaluated transaction) h = cc
undecided_undrawn (phase.Drawn t transaction) h = cc
undecided_undrawn (Preparing t transaction coordinator prepared) h = refl
undecided_undrawn (Asking sent answers) h = refl

pub asking_undrawn : (q : Phase) (sent : Sent) (n : ℕ) → pending_in q ≡ IsAsking sent n → drawn_in q ≡ None
asking_undrawn q sent n asks = undecided_undrawn q (ap is_undecided asks)

-- nothing is undecided, so what is so while something is needs no proof
pub none_undecided : {P : Type 0} (z : Pending) → z ≡ NonePending → WhileUndecided z P
none_undecided z none und = absurd (let no : false ≡ true = sym (ap is_undecided none) ∙ und in cc)

-- whether it may have been sent to a repository is told by what is undecided
sent_as : (r : ℕ) (p : Phase) → has_sent_to r p ≡ is_sent_to r (pending_in p)
sent_as r Between = refl
sent_as r Beginning = refl
sent_as r (Evaluating run awaited) = refl
sent_as r (Transforming run transform) = refl
sent_as r (Evaluated transaction) = refl
sent_as r (phase.Drawn t transaction) = refl
sent_as r (Preparing t transaction coordinator prepared) = refl
sent_as r (Asking sent answers) = refl

given_by : (b : Bool) (names : List Oref) (place : ℕ) (old new : Contents) → (b ≡ true → WrittenWithout names old new) → (b ≡ false → WritesStay old new) → WrittenTaken b (Invalid names place) old new
given_by true names place old new gone kept = gone refl
given_by false names place old new gone kept = kept refl

-- what is given up behind objects that others have written
pub gives_written : (r : ℕ) (p : Phase) (names : List Oref) (place : ℕ) (old new : Contents) → (has_sent_to r p ≡ true → WrittenWithout names old new) → (has_sent_to r p ≡ false → WritesStay old new) → WrittenTaken (is_sent_to r (pending_in p)) (Invalid names place) old new
gives_written r p names place old new gone kept = subst (λ (b : Bool). WrittenTaken b (Invalid names place) old new) (sent_as r p) (given_by (has_sent_to r p) names place old new gone kept)

pub same_verdicts : (f g : Client) → g.duties ≡ f.duties → KeepsDrawn f g → SameVerdicts f g
same_verdicts f g same drawn = (ap (λ (x : Duties). x.verdicts) same, ap (λ (x : Duties). x.helping) same, (λ none. ap (λ (x : Duties). x.abort) same), drawn)

module _ (shows : Bool) (old new : View) where
  -- the same of a client that is the one before, but for its phase and copies
  pub hands_then : (f m g : Client) → ClientHands shows old new f m → (pending_in f.phase ≡ NonePending → pending_in m.phase ≡ NonePending) → SameVerdicts m g → ClientHands shows old new f g
  hands_then f m g h free same = ((λ a s. told_then old new a f.held.links.items f.duties m.duties g.duties (h.0 a s) same.0 same.1), (λ none. same.2 (free none) ∙ h.1 none), λ s. draws_then old new (drawn_in f.phase) (drawn_in m.phase) (drawn_in g.phase) (h.2 s) same.3)

  pub hands_nothing : (f g : Client) → SameVerdicts f g → ClientHands shows old new f g
  hands_nothing f g same = ((λ a s. told_nothing old new a f.held.links.items f.duties g.duties same.0 same.1), same.2, λ s. inl same.3)

  pub hands_none : (f g : Client) → g.duties ≡ f.duties → KeepsDrawn f g → ClientHands shows old new f g
  hands_none f g same drawn = hands_nothing f g (same_verdicts f g same drawn)

  -- a timestamp was drawn
  pub hands_drawn : (f g : Client) → g.duties ≡ f.duties → (at : At) (d : Drew) (t : Ts) (b a : List Link) (copies left : Contents) → Draws shows old new at (Ok d) b a copies left → d ≡ drew.Ts t → (drawn_in g.phase ≡ Some t) ⊎ (drawn_in g.phase ≡ drawn_in f.phase) → ClientHands shows old new f g
  hands_drawn f g same at d t b a copies left k is now = (
    (λ x s. told_nothing old new x f.held.links.items f.duties g.duties (ap (λ (y : Duties). y.verdicts) same) (ap (λ (y : Duties). y.helping) same)),
    (λ none. ap (λ (x : Duties). x.abort) same),
    λ s. draws_one old new shows at d t b a copies left k is (drawn_in f.phase) (drawn_in g.phase) now s,
  )

  -- what is let go before a call
  pub hands_same : (f m g : Client) → m.held.links.items ≡ f.held.links.items → m.duties ≡ f.duties → (pending_in f.phase ≡ NonePending → pending_in m.phase ≡ NonePending) → KeepsDrawn f m → {X : Type 0} (result : Result X NoMemory) → OnOk result (ClientHands shows old new m g) → OnOk result (ClientHands shows old new f g)
  hands_same f m g links duties free drawn (Ok x) h = ((λ a s. subst (λ (d : Duties). HandsTold old new a f.held.links.items d g.duties) duties (subst (λ (ls : List Link). HandsTold old new a ls m.duties g.duties) links (h.0 a s))), (λ none. h.1 (free none) ∙ ap (λ (x : Duties). x.abort) duties), λ s. draws_before old new (drawn_in f.phase) (drawn_in m.phase) (drawn_in g.phase) drawn (h.2 s))
  hands_same f m g links duties free drawn (Err e) h = tt

-- ---- what is to be aborted

-- nothing was undecided
pub none_noted : (a z : Pending) (b : Option Abort) → a ≡ NonePending → abort_behind a z b ≡ b
none_noted a z b e = ap (λ (p : Pending). abort_behind p z b) e

-- the same is undecided
pub still_noted : (a : Pending) (b : Option Abort) → abort_behind a a b ≡ b
still_noted NonePending b = refl
still_noted (IsPreparing at t rs transaction) b = refl
still_noted (IsAsking sent n) b = refl

pub stays_noted : (a z : Pending) (d e : Duties) → z ≡ a → e.abort ≡ d.abort → NotesAbort a z d e
stays_noted a z d e same abort = abort ∙ sym (ap (λ (p : Pending). abort_behind a p d.abort) same ∙ still_noted a d.abort)

pub free_noted : (a z : Pending) (d e : Duties) → a ≡ NonePending → e.abort ≡ d.abort → NotesAbort a z d e
free_noted a z d e none abort = abort ∙ sym (none_noted a z d.abort none)

-- what its coordinator has prepared in the phase that ends
pub some_noted : (p : Phase) (x : Abort) (b : Option Abort) → abort_in p ≡ Some x → Some x ≡ abort_behind (pending_in p) NonePending b
some_noted Between x b h = cc
some_noted Beginning x b h = cc
some_noted (Evaluating run awaited) x b h = cc
some_noted (Transforming run transform) x b h = cc
some_noted (Evaluated transaction) x b h = cc
some_noted (phase.Drawn t transaction) x b h = cc
some_noted (Preparing t transaction coordinator prepared) x b h = sym h
some_noted (Asking sent answers) x b h = cc

-- nothing that it has prepared
pub nothing_noted : (p : Phase) (z : Pending) (b : Option Abort) → abort_in p ≡ None → b ≡ abort_behind (pending_in p) z b
nothing_noted Between z b h = refl
nothing_noted Beginning z b h = refl
nothing_noted (Evaluating run awaited) z b h = refl
nothing_noted (Transforming run transform) z b h = refl
nothing_noted (Evaluated transaction) z b h = refl
nothing_noted (phase.Drawn t transaction) z b h = refl
nothing_noted (Preparing t transaction coordinator prepared) z b h = cc
nothing_noted (Asking sent answers) z b h = refl

-- behind a client that is the one before, but for what it holds and how it helps
pub notes_from : (f m g : Client) → m.phase ≡ f.phase → m.duties.abort ≡ f.duties.abort → ClientNotes m g → ClientNotes f g
notes_from f m g same abort notes = (notes.0 ∙ (ap (λ (p : Phase). abort_behind (pending_in p) (pending_in g.phase) m.duties.abort) same ∙ ap (abort_behind (pending_in f.phase) (pending_in g.phase)) abort), subst (λ (p : Phase). StaysDrawn (drawn_in p) (drawn_in g.phase)) same notes.1)

pub notes_same : (f g : Client) → g.phase ≡ f.phase → g.duties ≡ f.duties → ClientNotes f g
notes_same f g same duties = (stays_noted (pending_in f.phase) (pending_in g.phase) f.duties g.duties (ap pending_in same) (ap (λ (x : Duties). x.abort) duties), inr (ap drawn_in same))

pub notes_behind : (f m g : Client) → g.phase ≡ m.phase → g.duties.abort ≡ m.duties.abort → ClientNotes f m → ClientNotes f g
notes_behind f m g same abort notes = (abort ∙ (notes.0 ∙ sym (ap (λ (z : Phase). abort_behind (pending_in f.phase) (pending_in z) f.duties.abort) same)), subst (λ (p : Phase). StaysDrawn (drawn_in f.phase) (drawn_in p)) (sym same) notes.1)

-- what is asked for isn't to be aborted
pub asking_noted : (a z : Pending) (d e : Duties) (sent : Sent) (n : ℕ) → z ≡ IsAsking sent n → e.abort ≡ d.abort → NotesAbort a z d e
asking_noted a z d e sent n asks abort = abort ∙ sym (ap (λ (y : Pending). abort_behind a y d.abort) asks ∙ by a)
  where
    by : (p : Pending) → abort_behind p (IsAsking sent n) d.abort ≡ d.abort
    by NonePending = refl
    by (IsPreparing at t rs transaction) = refl
    by (IsAsking x k) = refl

-- nothing was undecided before
pub keeps_noted : (f g : Client) → ClientNotes f g → KeepsAbort f g
keeps_noted f g notes none = notes.0 ∙ none_noted (pending_in f.phase) (pending_in g.phase) f.duties.abort none

-- ---- what a verdict is about

module _ (old new : View) (r : ℕ) (t : Ts) (v : Verdict) where
  asked_by : (d : Does {X = answer.Asked} old new r (Ok (answers.Settled v)) (AskWork t (Ok (answers.Settled v)))) (u : Unsettled)
      → Answered {X = answer.Asked} r (Ok (answers.Settled v)) u d.at (new.seen r) (new.unsettled r) (AskWork t (Ok (answers.Settled v)) (old.opened.base r) d.at (new.seen r) (new.unsettled r)) → v.tx ≡ t
  asked_by d Calm h = h.0.0
  asked_by d (MayCome e) h = absurd h.0
  asked_by d Halted h = absurd h.0

  pub asked_tx : Does {X = answer.Asked} old new r (Ok (answers.Settled v)) (AskWork t (Ok (answers.Settled v))) → v.tx ≡ t
  asked_tx d = asked_by d d.met d.answer

  decided_by : (s : ℕ) (commit : Bool) (d : Does {X = Verdict} old new r (Ok v) (DecideWork s t commit (Ok v))) (u : Unsettled)
      → Answered {X = Verdict} r (Ok v) u d.at (new.seen r) (new.unsettled r) (DecideWork s t commit (Ok v) (old.opened.base r) d.at (new.seen r) (new.unsettled r)) → v.tx ≡ t
  decided_by s commit d Calm h = h.1
  decided_by s commit d (MayCome e) h = absurd h.0
  decided_by s commit d Halted h = absurd h.0

  pub decided_tx : (s : ℕ) (commit : Bool) → Does {X = Verdict} old new r (Ok v) (DecideWork s t commit (Ok v)) → v.tx ≡ t
  decided_tx s commit d = decided_by s commit d d.met d.answer

module _ (shows : Bool) (old new : View) (r : ℕ) (t : Ts) (o : answer.Asked) (v : Verdict) (is : o ≡ answers.Settled v) (call : shows ≡ true → Does {X = answer.Asked} old new r (Ok o) (AskWork t (Ok o))) where
  pub answer_told : shows ≡ true → Does {X = answer.Asked} old new r (Ok (answers.Settled v)) (AskWork t (Ok (answers.Settled v)))
  answer_told s = subst (λ (x : answer.Asked). Does {X = answer.Asked} old new r (Ok x) (AskWork t (Ok x))) is (call s)

  pub told_by : shows ≡ true → IsToldBy old new r t v.commit
  told_by s = ToldByAnswer v refl (answer_told s)

  -- the same by the verdict's own transaction
  pub told_so : shows ≡ true → IsToldBy old new r v.tx v.commit
  told_so s = subst (λ (u : Ts). IsToldBy old new r u v.commit) (sym (asked_tx old new r t v (answer_told s))) (told_by s)

  -- the same by its coordinator, where that was asked
  pub told_there : shows ≡ true → r ≡ t.repo → IsToldBy old new v.tx.repo v.tx v.commit
  told_there s here = subst (λ (n : ℕ). IsToldBy old new n v.tx v.commit) (here ∙ sym (ap (λ (u : Ts). u.repo) (asked_tx old new r t v (answer_told s)))) (told_so s)

-- ---- a step, by its call

-- no verdict is to be handed on, whatever is called
module _ (old new : View) (before after : Held) (d : Duties) (none : OwesNone d) where
  sends_freely : (n : SendsNothing old new before after) → SendsFreely old new before after n d
  sends_freely (Rested same less) = tt
  sends_freely (Connected repo connects apart same fewer) = none
  sends_freely (Fetched at page left fetches idle same fewer) = none
  sends_freely (Granted at left grants idle same fewer) = none
  sends_freely (Drawn at answer left draws there same fewer) = none
  sends_freely (Asked r t result does less) = tt
  sends_freely (Settled r t v sent index does there links same fewer) = tt

  goes_freely : (n : Moves old new before after) → GoesFreely old new before after n d
  goes_freely (Unsent n) = sends_freely n
  goes_freely (Received at n c joined t client) = tt
  goes_freely (ReceivedNone at c joined links client f) = tt
  goes_freely (ReceiveRefused at k c joined l client) = tt
  goes_freely (ReceiveStopped at k c joined out s client f) = tt
  goes_freely (Prepared s place c of less) = none
  goes_freely (PrepareRefused s k c of idle l client) = none
  goes_freely (Committed s place c of joined wrote held idle keeps) = none
  goes_freely (Transformed s place oref made c of joined writes here held idle keeps) = none
  goes_freely (CommitRefused s k c of idle l client) = none
  goes_freely (Decided at t v c idle f) = none
  goes_freely (Aborted at t v c less) = tt
  goes_freely (DecideRefused at t true k c l client) = none
  goes_freely (DecideRefused at t false k c l client) = tt
  goes_freely (Finished r t commit result c less) = tt
  goes_freely (Forgot r t result c less) = tt
  goes_freely (AskedOwn r t v c f) = tt
  goes_freely (AskedInVain r t result c leaves client f) = tt

module _ (shows : Bool) (item : Present) (old new : View) (before after : Held) (a : Pending) (q : Phase) (d e : Duties) (came : News) where
  abbrev pub So : Option Ts → Type 0
  So drawn = StepsKeepingIf shows item old new before after a drawn q d e came

  -- the same of a call that comes only where no verdict is to be handed on
  abbrev pub TriesSoIf : Option Ts → Type 0
  TriesSoIf drawn = OwesNone d → So drawn

  abbrev pub Quiet : Type 0
  Quiet = is_ended came ≡ false

  abbrev pub WrittenSame : Type 0
  WrittenSame = WritesStay before.cache.cache after.cache.cache

  module _ (s : Sending) (of : IsOfSession before.links.items s) where
    pub by_prepare_so : (place : ℕ) → (shows ≡ true → Does {X = ℕ} old new s.at.repo (Ok place) (PrepareWork s.at.session s.request (Ok place))) → HoldsLess before after
        → (prepared_at (pending_in q) ≡ Some (s.at, s.request.tx)) ⊎ ((prepared_at (pending_in q) ≡ prepared_at a) × (is_preparing a ≡ true)) → (prepares : PreparesSo item before.links.items before.cache.cache s a (pending_in q)) → Quiet → KeepsDuties d e → NotesAbort a (pending_in q) d e
        → (drawn : Option Ts) → PreparesOut item before.links.items before.cache.cache s a (pending_in q) prepares drawn (drawn_in q) → WrittenSame → TriesSoIf drawn
    by_prepare_so place call less pends prepares quiet keeps notes drawn out same = λ none_left w. record { order = record { so = record { moves = Prepared s place (call w) of less; pends = pends; tries = (prepares, quiet); hands = keeps }; free = none_left; ends = tt; aborts = notes }; draws = out; writes = λ _. same; leaves = tt }

    module _ (idle : NoneAwaits 8 before.links.items) where
      pub by_prepare_refused_so : (k : Refusal) → (shows ≡ true → Does {X = ℕ} old new s.at.repo (Err k) (PrepareWork s.at.session s.request (Err k))) → Learns k s.at.repo before after → after.client ≡ before.client → StaysPending a (pending_in q) before after
          → (vain : PreparesInVain item before.links.items before.cache.cache s a) → Quiet → KeepsDuties d e → q ≡ Between → NotesAbort a (pending_in q) d e
          → (drawn : Option Ts) → RefusesOut item before.links.items before.cache.cache s a vain drawn (drawn_in q) → TriesSoIf drawn
      by_prepare_refused_so k call learns client stays vain quiet keeps over notes drawn out = λ none_left w. record { order = record { so = record { moves = PrepareRefused s k (call w) of idle learns client; pends = stays; tries = (vain, quiet); hands = keeps }; free = none_left; ends = over; aborts = notes }; draws = out; writes = λ _. tt; leaves = tt }

      pub by_commit_so : (place : ℕ) → (shows ≡ true → Does {X = ℕ} old new s.at.repo (Ok place) (CommitWork s.at.session s.request (Ok place))) → InSession s.at before → WritesThere s.at.repo s.request.writes before.cache.cache → HoldsWritten s.request before.cache.cache → KeepsTry before after → pending_in q ≡ NonePending
          → (left : Transaction) → SendsAlone item before.links.items before.cache.cache s left → EndsOwn true s.request.tx left came → KeepsDuties d e → q ≡ Between → NotesAbort a (pending_in q) d e
          → (drawn : Option Ts) → drawn ≡ Some s.request.tx → TriesSoIf drawn
      by_commit_so place call joined wrote held keeps none left alone own kept over notes drawn was = λ none_left w. record { order = record { so = record { moves = Committed s place (call w) of joined wrote held idle keeps; pends = none; tries = (left, alone, own); hands = kept }; free = none_left; ends = over; aborts = notes }; draws = (was, ap drawn_in over); writes = λ _. tt; leaves = tt }

      pub by_transform_so : (place : ℕ) (oref : Oref) (made : Obj) → (shows ≡ true → Does {X = ℕ} old new s.at.repo (Ok place) (CommitWork s.at.session s.request (Ok place)))
          → InSession s.at before → s.request.writes ≡ (oref, made) ∷ [] → oref.repo ≡ s.at.repo → HoldsWritten s.request before.cache.cache → KeepsMade oref made before after → pending_in q ≡ NonePending
          → SendsTransform before.client before.links.items s → Quiet → KeepsDuties d e → NotesAbort a (pending_in q) d e
          → (drawn : Option Ts) → drawn ≡ Some s.request.tx → drawn_in q ≡ None → TriesSoIf drawn
      by_transform_so place oref made call joined writes here held keeps none sends quiet kept notes drawn was undrawn = λ none_left w. record { order = record { so = record { moves = Transformed s place oref made (call w) of joined writes here held idle keeps; pends = none; tries = (sends, quiet); hands = kept }; free = none_left; ends = tt; aborts = notes }; draws = (was, undrawn); writes = λ _. tt; leaves = tt }

      pub by_commit_refused_so : (k : Refusal) → (shows ≡ true → Does {X = ℕ} old new s.at.repo (Err k) (CommitWork s.at.session s.request (Err k))) → Learns k s.at.repo before after → after.client ≡ before.client → AsksBehind s k (pending_in q) after
          → CommitsInVain item before.client before.links.items before.cache.cache s k (pending_in q) → Quiet → KeepsDuties d e → IsOver q → NotesAbort a (pending_in q) d e
          → (drawn : Option Ts) → drawn ≡ Some s.request.tx → drawn_in q ≡ None → WhileUndecided (pending_in q) WrittenSame → TriesSoIf drawn
      by_commit_refused_so k call learns client asks vain quiet keeps over notes drawn was undrawn same = λ none_left w. record { order = record { so = record { moves = CommitRefused s k (call w) of idle learns client; pends = asks; tries = (vain, quiet); hands = keeps }; free = none_left; ends = over; aborts = notes }; draws = (was, undrawn); writes = same; leaves = tt }

  pub by_decide_so : (at : At) (t : Ts) (v : Verdict) → (shows ≡ true → Does {X = Verdict} old new at.repo (Ok v) (DecideWork at.session t true (Ok v))) → NoneAwaits 8 before.links.items → EndsSo v.commit before after → prepared_at a ≡ Some (at, t) → pending_in q ≡ NonePending
      → (transaction : Transaction) → DecidesAll a at t transaction → EndsOwn v.commit t transaction came → (shows ≡ true → HandsVerdict old new a before.links.items d e) → q ≡ Between → e.abort ≡ d.abort → (drawn : Option Ts) → TriesSoIf drawn
  by_decide_so at t v call idle ends may none transaction all own hands over notes drawn = λ none_left w. record { order = record { so = record { moves = Decided at t v (call w) idle ends; pends = (may, none); tries = (transaction, all, own); hands = hands w }; free = none_left; ends = over; aborts = notes }; draws = inl (ap drawn_in over); writes = λ _. tt; leaves = tt }

  pub by_decide_refused_so : (at : At) (t : Ts) (k : Refusal) → (shows ≡ true → Does {X = Verdict} old new at.repo (Err k) (DecideWork at.session t true (Err k))) → Loses k at.repo before after → after.client ≡ before.client → RefusesToDecide true at t a (pending_in q) before after
      → (transaction : Transaction) → DecidesAll a at t transaction → pending_in q ≡ IsAsking (record { ts = t; at = at; meaning = transaction.meaning; participants = transaction.participants }) 0 → Quiet → KeepsDuties d e → NotesAbort a (pending_in q) d e
      → (drawn : Option Ts) → WrittenRefused k at.repo before.links.items before.cache.cache after.cache.cache → TriesSoIf drawn
  by_decide_refused_so at t k call loses client pends transaction all asks quiet keeps notes drawn wrote = λ none_left w. record { order = record { so = record { moves = DecideRefused at t true k (call w) loses client; pends = pends; tries = (transaction, all, asks, quiet); hands = keeps }; free = none_left; ends = tt; aborts = notes }; draws = inl (asking_undrawn q _ 0 asks); writes = λ _. wrote; leaves = tt }

  pub by_abort_so : (at : At) (t : Ts) (v : Verdict) → (shows ≡ true → Does {X = Verdict} old new at.repo (Ok v) (DecideWork at.session t false (Ok v))) → HoldsLess before after → StaysPending a (pending_in q) before after → AbortsNext at t v d e → Quiet → AbortsNone e
      → (drawn : Option Ts) → StaysDrawn drawn (drawn_in q) → WrittenSame → So drawn
  by_abort_so at t v call less stays aborts quiet notes drawn left same = λ w. record { order = record { so = record { moves = Aborted at t v (call w) less; pends = stays; tries = quiet; hands = aborts }; free = tt; ends = tt; aborts = notes }; draws = left; writes = λ _. same; leaves = tt }

  pub by_abort_refused_so : (at : At) (t : Ts) (k : Refusal) → (shows ≡ true → Does {X = Verdict} old new at.repo (Err k) (DecideWork at.session t false (Err k))) → Loses k at.repo before after → after.client ≡ before.client → StaysPending a (pending_in q) before after → AbortsInVain at t d e → Quiet → AbortsNone e
      → (drawn : Option Ts) → StaysDrawn drawn (drawn_in q) → WhileUndecided (pending_in q) (WrittenRefused k at.repo before.links.items before.cache.cache after.cache.cache) → So drawn
  by_abort_refused_so at t k call loses client stays aborts quiet notes drawn left wrote = λ w. record { order = record { so = record { moves = DecideRefused at t false k (call w) loses client; pends = stays; tries = quiet; hands = aborts }; free = tt; ends = tt; aborts = notes }; draws = left; writes = wrote; leaves = tt }

  pub by_finish_so : (r : ℕ) (v : Verdict) (answered : Bool) → (shows ≡ true → IsFinished old new r v answered) → HoldsLess before after → StaysPending a (pending_in q) before after → TellsNext r v.tx v.commit answered d e → Quiet → NotesAbort a (pending_in q) d e
      → (drawn : Option Ts) → StaysDrawn drawn (drawn_in q) → WrittenSame → So drawn
  by_finish_so r v answered call less stays tells quiet notes drawn left same = λ w. record { order = record { so = record { moves = Finished r v.tx v.commit (call w).result (call w).call less; pends = stays; tries = quiet; hands = inl (subst (λ (b : Bool). TellsNext r v.tx v.commit b d e) (call w).answered_is tells) }; free = tt; ends = tt; aborts = notes }; draws = left; writes = λ _. same; leaves = tt }

  pub by_help_so : (r : ℕ) (v : Verdict) → (shows ≡ true → IsFinishedSo old new r v) → HoldsLess before after → StaysPending a (pending_in q) before after → TellsRefuser r v.tx v.commit d e → Quiet → NotesAbort a (pending_in q) d e
      → (drawn : Option Ts) → StaysDrawn drawn (drawn_in q) → WrittenSame → So drawn
  by_help_so r v call less stays tells quiet notes drawn left same = λ w. record { order = record { so = record { moves = Finished r v.tx v.commit (call w).1.result (call w).1.call less; pends = stays; tries = quiet; hands = inr tells }; free = tt; ends = tt; aborts = notes }; draws = left; writes = λ _. same; leaves = tt }

  pub by_forget_so : (t : Ts) → (shows ≡ true → IsForgotten old new t) → HoldsLess before after → StaysPending a (pending_in q) before after → ForgetsNext t.repo t d e → Quiet → NotesAbort a (pending_in q) d e
      → (drawn : Option Ts) → StaysDrawn drawn (drawn_in q) → WrittenSame → So drawn
  by_forget_so t call less stays forgets quiet notes drawn left same = λ w. record { order = record { so = record { moves = Forgot t.repo t (call w).result (call w).call less; pends = stays; tries = quiet; hands = forgets }; free = tt; ends = tt; aborts = notes }; draws = left; writes = λ _. same; leaves = tt }

  pub by_ask_so : (r : ℕ) (t : Ts) (result : Result answer.Asked Refusal) → (shows ≡ true → Does old new r result (AskWork t result)) → HoldsLess before after → StaysPending a (pending_in q) before after → Quiet → (shows ≡ true → HandsTold old new a before.links.items d e) → NotesAbort a (pending_in q) d e
      → (drawn : Option Ts) → StaysDrawn drawn (drawn_in q) → WrittenSame → So drawn
  by_ask_so r t result call less stays quiet hands notes drawn left same = λ w. record { order = record { so = record { moves = Unsent (Asked r t result (call w) less); pends = stays; tries = quiet; hands = hands w }; free = tt; ends = tt; aborts = notes }; draws = inl left; writes = λ _. same; leaves = tt }

  pub by_own_answer_so : (r : ℕ) (t : Ts) (v : Verdict) → (shows ≡ true → Does {X = answer.Asked} old new r (Ok (answers.Settled v)) (AskWork t (Ok (answers.Settled v)))) → EndsSo v.commit before after → (at : At) → asked_at a ≡ Some (at, t) → pending_in q ≡ NonePending
      → (sent : Sent) (n : ℕ) → AsksOwn a r t sent n → EndsAsked v.commit sent came → (shows ≡ true → HandsVerdict old new a before.links.items d e) → q ≡ Between → NotesAbort a (pending_in q) d e → (drawn : Option Ts) → So drawn
  by_own_answer_so r t v call ends at asks none sent n asked own hands over notes drawn = λ w. record { order = record { so = record { moves = AskedOwn r t v (call w) ends; pends = ((at, asks), none); tries = (sent, n, asked, own); hands = hands w }; free = tt; ends = over; aborts = notes }; draws = inl (ap drawn_in over); writes = λ _. tt; leaves = tt }

  vain_undrawn : (r : ℕ) (sent : Sent) (n : ℕ) → AsksInVain item after r sent n (pending_in q) came → IsOver q → drawn_in q ≡ None
  vain_undrawn r sent n (AsksAgain asks left still) over = asking_undrawn q sent (one_more n) asks
  vain_undrawn r sent n (HoldsUnknown none most unknown kept) over = ap drawn_in (over none)

  pub by_no_answer_so : (r : ℕ) (t : Ts) (result : Result answer.Asked Refusal) → (shows ≡ true → Does old new r result (AskWork t result)) → LeavesLess before after → (at : At) → asked_at a ≡ Some (at, t) → StaysAsked a (pending_in q) before after
      → (sent : Sent) (n : ℕ) → AsksOwn a r t sent n → AsksInVain item after r sent n (pending_in q) came → KeepsDuties d e → IsOver q → NotesAbort a (pending_in q) d e
      → (drawn : Option Ts) → WhileUndecided (pending_in q) WrittenSame → LeavesApart r item.who.index sent before after → So drawn
  by_no_answer_so r t result call leaves at asks stays sent n asked vain keeps over notes drawn same parts = λ w. record { order = record { so = record { moves = AskedInVain r t result (call w) leaves.1 leaves.0 leaves.2; pends = ((at, asks), stays); tries = (sent, n, asked, vain); hands = keeps }; free = tt; ends = over; aborts = notes }; draws = inl (vain_undrawn r sent n vain over); writes = same; leaves = parts }

  -- the verdict on a transaction was told, which may be that of an Unknown item
  pub by_settled_so : (r : ℕ) (t : Ts) (o : answer.Asked) (v : Verdict) → o ≡ answers.Settled v → (shows ≡ true → Does {X = answer.Asked} old new r (Ok o) (AskWork t (Ok o))) → pending_in q ≡ a → after.cache ≡ before.cache → MaySettle r before after
      → Quiet → (shows ≡ true → HandsTold old new a before.links.items d e) → NotesAbort a (pending_in q) d e → (drawn : Option Ts) → StaysDrawn drawn (drawn_in q) → So drawn
  by_settled_so r t o v is call same cache may quiet hands notes drawn left = λ w. by (answer_told shows old new r t o v is call w) (hands w) may
    where
      kept_so : WritesStay before.cache.cache after.cache.cache
      kept_so x = ap (λ (k : Copies). changed k.cache x) cache

      by : Does {X = answer.Asked} old new r (Ok (answers.Settled v)) (AskWork t (Ok (answers.Settled v))) → HandsTold old new a before.links.items d e → MaySettle r before after → StepsKeeping item old new before after a drawn q d e came
      by c h (inl f) = record { order = record { so = record { moves = Unsent (Asked r t (Ok (answers.Settled v)) c f); pends = inr (same, still_written before after f.1 kept_so); tries = quiet; hands = h }; free = tt; ends = tt; aborts = notes }; draws = inl left; writes = λ _. kept_so; leaves = tt }
      by c h (inr f) = record { order = record { so = record { moves = Unsent (Settled r t v f.sent f.index c f.there f.links f.client f.fewer); pends = inr (same, settled_written r f.sent f.index before after f.there f.links kept_so); tries = quiet; hands = h }; free = tt; ends = tt; aborts = notes }; draws = inl left; writes = λ _. kept_so; leaves = tt }

  -- a call that sends nothing, behind which nothing is undecided
  pub by_sends_so : SendsNothingIf shows old new before after → pending_in q ≡ NonePending → Quiet → HandsIf shows old new a before.links.items d e → NotesAbort a (pending_in q) d e
      → (drawn : Option Ts) → (shows ≡ true → MayDraw old new drawn (drawn_in q)) → TriesSoIf drawn
  by_sends_so sends none quiet hands notes drawn draws = λ none_left w. record { order = record { so = record { moves = Unsent (sends w); pends = sends_free old new before after a (pending_in q) (sends w) none; tries = quiet; hands = hands w }; free = sends_freely old new before after d none_left (sends w); ends = tt; aborts = notes }; draws = draws w; writes = none_undecided (pending_in q) none; leaves = tt }

  pub moves_of : (drawn : Option Ts) → So drawn → MovesSoIf shows old new before after a (pending_in q)
  moves_of drawn f = λ w. record { moves = (f w).order.so.moves; pends = (f w).order.so.pends }

-- what is asked for isn't over
pub asks_on : (q : Phase) (sent : Sent) (n : ℕ) → pending_in q ≡ IsAsking sent n → IsOver q
asks_on q sent n asks none = absurd (let no : IsAsking sent n ≡ NonePending = sym asks ∙ none in cc)

-- behind a refused commit nothing is drawn
pub refused_undrawn : (k : Refusal) (sent : Sent) (q : Phase) → AsksWhereStopped k sent (pending_in q) → IsOver q → drawn_in q ≡ None
refused_undrawn (refused.Reason r) sent q none over = ap drawn_in (over none)
refused_undrawn (refused.Down r) sent q none over = ap drawn_in (over none)
refused_undrawn (refused.Stopped r) sent q asks over = asking_undrawn q sent 0 asks
refused_undrawn (refused.Damaged r n) sent q none over = ap drawn_in (over none)
refused_undrawn refused.NoMemory sent q none over = ap drawn_in (over none)

-- nothing was called
module _ (shows : Bool) (item : Present) (view : View) (before after : Held) (a : Pending) (q : Phase) (d e : Duties) (came : News) where
  pub by_rest : HoldsLess before after → StaysPending a (pending_in q) before after → is_ended came ≡ false → (shows ≡ true → HandsTold view view a before.links.items d e) → NotesAbort a (pending_in q) d e
      → (drawn : Option Ts) → StaysDrawn drawn (drawn_in q) → WhileUndecided (pending_in q) (WritesStay before.cache.cache after.cache.cache) → StepsKeepingIf shows item view view before after a drawn q d e came
  by_rest less stays quiet hands notes drawn left same = λ w. record { order = record { so = record { moves = Unsent (Rested refl less); pends = stays; tries = quiet; hands = hands w }; free = tt; ends = tt; aborts = notes }; draws = inl left; writes = same; leaves = tt }

  pub by_rest_kept : HoldsLess before after → StaysPending a (pending_in q) before after → is_ended came ≡ false → e.verdicts ≡ d.verdicts → e.helping ≡ d.helping → NotesAbort a (pending_in q) d e
      → (drawn : Option Ts) → StaysDrawn drawn (drawn_in q) → WhileUndecided (pending_in q) (WritesStay before.cache.cache after.cache.cache) → StepsKeepingIf shows item view view before after a drawn q d e came
  by_rest_kept less stays quiet v h notes drawn left same = by_rest less stays quiet (λ w. told_nothing view view a before.links.items d e v h) notes drawn left same

  -- the same of a try that would go on
  pub by_rest_free : HoldsLess before after → StaysPending a (pending_in q) before after → is_ended came ≡ false → e.verdicts ≡ d.verdicts → e.helping ≡ d.helping → NotesAbort a (pending_in q) d e
      → (drawn : Option Ts) → StaysDrawn drawn (drawn_in q) → WhileUndecided (pending_in q) (WritesStay before.cache.cache after.cache.cache) → OwesNone d → StepsKeepingIf shows item view view before after a drawn q d e came
  by_rest_free less stays quiet v h notes drawn left same none = by_rest_kept less stays quiet v h notes drawn left same

-- the evaluation begins anew
pub by_anew : (shows : Bool) (item : Present) (view : View) (before after : Held) (q : Phase) (d e : Duties) (came : News) → HoldsLess before after → q ≡ Beginning → is_ended came ≡ false → e ≡ d → (drawn : Option Ts) → OwesNone d → StepsKeepingIf shows item view view before after NonePending drawn q d e came
by_anew shows item view before after q d e came less anew quiet same drawn none = by_rest_free shows item view before after NonePending q d e came less (inl (ap pending_in anew)) quiet (ap (λ (x : Duties). x.verdicts) same) (ap (λ (x : Duties). x.helping) same) (ap (λ (x : Duties). x.abort) same) drawn (inl (ap drawn_in anew)) (none_undecided (pending_in q) (ap pending_in anew)) none

-- ---- messages

module _ (item : Present) (old new : View) (at : At) (before mid after : Held) (rest : mid ≡ record before { links = mid.links }) (joined : InSession at before) (shows : Bool) (p : Pending) (q : Phase) (d e : Duties) (came : News) (quiet : is_ended came ≡ false) (keeps : KeepsDuties d e) (notes : NotesAbort p (pending_in q) d e) (drawn : Option Ts) (left : StaysDrawn drawn (drawn_in q)) where
  same_cache : mid.cache.cache ≡ before.cache.cache
  same_cache = ap (λ (h : Held). h.cache.cache) rest

  pub by_message_so : (o : Option Message) (m : Message) → o ≡ Some m → (shows ≡ true → Does {X = Option Message} old new at.repo (Ok o) (ReceiveWork at.session (Ok o)))
      → mid.links.items ≡ links_behind (Ok o) at.repo before.links.items → TakesCopies at.repo m mid after → StaysPending p (pending_in q) mid after → WhileUndecided (pending_in q) (WrittenTaken (is_sent_to at.repo p) m mid.cache.cache after.cache.cache) → StepsKeepingIf shows item old new before after p drawn q d e came
  unfolding receiving.by_message receiving.taken
  by_message_so o m is call links t stays wrote = λ w.
      let k : MovesSo old new before after p (pending_in q) = receiving.by_message old new at before mid after rest joined shows o m is call links t p (pending_in q) stays w in
      record { order = record { so = record { moves = k.moves; pends = k.pends; tries = quiet; hands = keeps }; free = tt; ends = tt; aborts = notes }; draws = left; writes = λ und. subst (λ (c : Contents). WrittenTaken (is_sent_to at.repo p) m c after.cache.cache) same_cache (wrote und); leaves = tt }

  written_refused : (k : Refusal) → mid.links.items ≡ before.links.items → WrittenRefused k at.repo mid.links.items mid.cache.cache after.cache.cache → WrittenRefused k at.repo before.links.items before.cache.cache after.cache.cache
  written_refused k links wrote = subst (λ (c : Contents). WrittenRefused k at.repo before.links.items c after.cache.cache) same_cache (subst (λ (ls : List Link). WrittenRefused k at.repo ls mid.cache.cache after.cache.cache) links wrote)

  refused_steps : (k : Refusal) → Does {X = Option Message} old new at.repo (Err k) (ReceiveWork at.session (Err k)) → mid.links.items ≡ before.links.items → EndsReceive k at.repo mid after
      → StaysPending p (pending_in q) before after → WhileUndecided (pending_in q) (WrittenRefused k at.repo before.links.items before.cache.cache after.cache.cache) → StepsKeeping item old new before after p drawn q d e came
  unfolding receiving.refused_so
  refused_steps k c links (LosesThere l client) stays wrote = record { order = record { so = record { moves = receiving.refused_so old new at before mid after rest joined k c links (LosesThere l client); pends = stays; tries = quiet; hands = keeps }; free = tt; ends = tt; aborts = notes }; draws = left; writes = wrote; leaves = tt }
  refused_steps k c links (StopsThere g s client f) stays wrote = record { order = record { so = record { moves = receiving.refused_so old new at before mid after rest joined k c links (StopsThere g s client f); pends = stays; tries = quiet; hands = keeps }; free = tt; ends = tt; aborts = notes }; draws = left; writes = wrote; leaves = tt }

  pub by_refusal_so : (k : Refusal) → (shows ≡ true → Does {X = Option Message} old new at.repo (Err k) (ReceiveWork at.session (Err k))) → mid.links.items ≡ before.links.items
      → EndsReceive k at.repo mid after → StaysPending p (pending_in q) mid after → WhileUndecided (pending_in q) (WrittenRefused k at.repo mid.links.items mid.cache.cache after.cache.cache) → StepsKeepingIf shows item old new before after p drawn q d e came
  by_refusal_so k call links ends stays wrote = λ w. refused_steps k (call w) links ends (receiving.behind_taken old new at before mid after rest joined p (pending_in q) None links stays) (λ und. written_refused k links (wrote und))

module _ (item : Present) (shows : Bool) (old new : View) (at : At) (before mid : Held) (k : ReceivesNone shows old new at before mid) (joined : InSession at before) (p : Pending) (q : Phase) (same : pending_in q ≡ p) (d e : Duties) (keeps : KeepsDuties d e) (notes : NotesAbort p (pending_in q) d e) (drawn : Option Ts) (left : StaysDrawn drawn (drawn_in q)) where
  pub by_none_so : StepsKeepingIf shows item old new before mid p drawn q d e news.Nothing
  unfolding receiving.by_none
  by_none_so = λ w.
      let m : MovesSo old new before mid p (pending_in q) = receiving.by_none shows old new at before mid k joined p (pending_in q) same w in
      record { order = record { so = record { moves = m.moves; pends = m.pends; tries = refl; hands = keeps }; free = tt; ends = tt; aborts = notes }; draws = left; writes = λ _ x. ap (λ (c : Contents). changed c x) k.copies; leaves = tt }

  pub by_none_idle_so : (after : Held) → after ≡ record mid { links = after.links } → after.links.items ≡ at_repo mid.links.items at.repo (waiting Idle) → StepsKeepingIf shows item old new before after p drawn q d e news.Nothing
  unfolding receiving.by_none_idle
  by_none_idle_so after rest links = λ w.
      let m : MovesSo old new before after p (pending_in q) = receiving.by_none_idle shows old new at before mid k joined after rest links p (pending_in q) same w in
      record { order = record { so = record { moves = m.moves; pends = m.pends; tries = refl; hands = keeps }; free = tt; ends = tt; aborts = notes }; draws = left; writes = λ _ x. ap (λ (h : Held). changed h.cache.cache x) rest ∙ ap (λ (c : Contents). changed c x) k.copies; leaves = tt }

-- ---- a client of which the names that it may give are others

module _ (item : Present) (old new : View) (a b after : Held) (p z : Pending) (d e : Duties) (came : News) where
  spent_tries : (n : Moves old new (record a { names = b.names }) after) → TriesSo item old new (record a { names = b.names }) after n p z came → TriesSo item old new a after (spending.other_names old new a b after n) p z came
  unfolding spending.other_names
  spent_tries (Unsent n) h = h
  spent_tries (Received at n c joined t client) h = h
  spent_tries (ReceivedNone at c joined links client f) h = h
  spent_tries (ReceiveRefused at k c joined l client) h = h
  spent_tries (ReceiveStopped at k c joined out s client f) h = h
  spent_tries (Prepared s place c of less) h = h
  spent_tries (PrepareRefused s k c of idle l client) h = h
  spent_tries (Committed s place c of joined wrote held idle keeps) h = h
  spent_tries (Transformed s place oref made c of joined writes here held idle keeps) h = h
  spent_tries (CommitRefused s k c of idle l client) h = h
  spent_tries (Decided at t v c idle f) h = h
  spent_tries (Aborted at t v c less) h = h
  spent_tries (DecideRefused at t true k c l client) h = h
  spent_tries (DecideRefused at t false k c l client) h = h
  spent_tries (Finished r t commit result c less) h = h
  spent_tries (Forgot r t result c less) h = h
  spent_tries (AskedOwn r t v c f) h = h
  spent_tries (AskedInVain r t result c leaves client f) h = h

  spent_hands : (n : Moves old new (record a { names = b.names }) after) → HandsSo old new (record a { names = b.names }) after n p d e → HandsSo old new a after (spending.other_names old new a b after n) p d e
  unfolding spending.other_names
  spent_hands (Unsent n) h = h
  spent_hands (Received at n c joined t client) h = h
  spent_hands (ReceivedNone at c joined links client f) h = h
  spent_hands (ReceiveRefused at k c joined l client) h = h
  spent_hands (ReceiveStopped at k c joined out s client f) h = h
  spent_hands (Prepared s place c of less) h = h
  spent_hands (PrepareRefused s k c of idle l client) h = h
  spent_hands (Committed s place c of joined wrote held idle keeps) h = h
  spent_hands (Transformed s place oref made c of joined writes here held idle keeps) h = h
  spent_hands (CommitRefused s k c of idle l client) h = h
  spent_hands (Decided at t v c idle f) h = h
  spent_hands (Aborted at t v c less) h = h
  spent_hands (DecideRefused at t true k c l client) h = h
  spent_hands (DecideRefused at t false k c l client) h = h
  spent_hands (Finished r t commit result c less) h = h
  spent_hands (Forgot r t result c less) h = h
  spent_hands (AskedOwn r t v c f) h = h
  spent_hands (AskedInVain r t result c leaves client f) h = h

  spent_aborts : (n : Moves old new (record a { names = b.names }) after) → AbortsSo old new (record a { names = b.names }) after n p z d e → AbortsSo old new a after (spending.other_names old new a b after n) p z d e
  unfolding spending.other_names
  spent_aborts (Unsent n) h = h
  spent_aborts (Received at n c joined t client) h = h
  spent_aborts (ReceivedNone at c joined links client f) h = h
  spent_aborts (ReceiveRefused at k c joined l client) h = h
  spent_aborts (ReceiveStopped at k c joined out s client f) h = h
  spent_aborts (Prepared s place c of less) h = h
  spent_aborts (PrepareRefused s k c of idle l client) h = h
  spent_aborts (Committed s place c of joined wrote held idle keeps) h = h
  spent_aborts (Transformed s place oref made c of joined writes here held idle keeps) h = h
  spent_aborts (CommitRefused s k c of idle l client) h = h
  spent_aborts (Decided at t v c idle f) h = h
  spent_aborts (Aborted at t v c less) h = h
  spent_aborts (DecideRefused at t true k c l client) h = h
  spent_aborts (DecideRefused at t false k c l client) h = h
  spent_aborts (Finished r t commit result c less) h = h
  spent_aborts (Forgot r t result c less) h = h
  spent_aborts (AskedOwn r t v c f) h = h
  spent_aborts (AskedInVain r t result c leaves client f) h = h

  spent_ends : (q : Phase) (n : Moves old new (record a { names = b.names }) after) → EndsTry old new (record a { names = b.names }) after n q → EndsTry old new a after (spending.other_names old new a b after n) q
  unfolding spending.other_names
  spent_ends q (Unsent n) h = h
  spent_ends q (Received at n c joined t client) h = h
  spent_ends q (ReceivedNone at c joined links client f) h = h
  spent_ends q (ReceiveRefused at k c joined l client) h = h
  spent_ends q (ReceiveStopped at k c joined out s client f) h = h
  spent_ends q (Prepared s place c of less) h = h
  spent_ends q (PrepareRefused s k c of idle l client) h = h
  spent_ends q (Committed s place c of joined wrote held idle keeps) h = h
  spent_ends q (Transformed s place oref made c of joined writes here held idle keeps) h = h
  spent_ends q (CommitRefused s k c of idle l client) h = h
  spent_ends q (Decided at t v c idle f) h = h
  spent_ends q (Aborted at t v c less) h = h
  spent_ends q (DecideRefused at t commit k c l client) h = h
  spent_ends q (Finished r t commit result c less) h = h
  spent_ends q (Forgot r t result c less) h = h
  spent_ends q (AskedOwn r t v c f) h = h
  spent_ends q (AskedInVain r t result c leaves client f) h = h

  spent_draws : (drawn now : Option Ts) (n : Moves old new (record a { names = b.names }) after) (tries : TriesSo item old new (record a { names = b.names }) after n p z came) → DrawsSo item old new (record a { names = b.names }) after n p z came tries drawn now → DrawsSo item old new a after (spending.other_names old new a b after n) p z came (spent_tries n tries) drawn now
  unfolding spending.other_names spent_tries
  spent_draws drawn now (Unsent n) tries h = h
  spent_draws drawn now (Received at n c joined t client) tries h = h
  spent_draws drawn now (ReceivedNone at c joined links client f) tries h = h
  spent_draws drawn now (ReceiveRefused at k c joined l client) tries h = h
  spent_draws drawn now (ReceiveStopped at k c joined out s client f) tries h = h
  spent_draws drawn now (Prepared s place c of less) tries h = h
  spent_draws drawn now (PrepareRefused s k c of idle l client) tries h = h
  spent_draws drawn now (Committed s place c of joined wrote held idle keeps) tries h = h
  spent_draws drawn now (Transformed s place oref made c of joined writes here held idle keeps) tries h = h
  spent_draws drawn now (CommitRefused s k c of idle l client) tries h = h
  spent_draws drawn now (Decided at t v c idle f) tries h = h
  spent_draws drawn now (Aborted at t v c less) tries h = h
  spent_draws drawn now (DecideRefused at t true k c l client) tries h = h
  spent_draws drawn now (DecideRefused at t false k c l client) tries h = h
  spent_draws drawn now (Finished r t commit result c less) tries h = h
  spent_draws drawn now (Forgot r t result c less) tries h = h
  spent_draws drawn now (AskedOwn r t v c f) tries h = h
  spent_draws drawn now (AskedInVain r t result c leaves client f) tries h = h

  spent_leaves : (n : Moves old new (record a { names = b.names }) after) (tries : TriesSo item old new (record a { names = b.names }) after n p z came) → LeavesSo item old new (record a { names = b.names }) after n p z came tries → LeavesSo item old new a after (spending.other_names old new a b after n) p z came (spent_tries n tries)
  unfolding spending.other_names spent_tries
  spent_leaves (Unsent n) tries h = h
  spent_leaves (Received at n c joined t client) tries h = h
  spent_leaves (ReceivedNone at c joined links client f) tries h = h
  spent_leaves (ReceiveRefused at k c joined l client) tries h = h
  spent_leaves (ReceiveStopped at k c joined out s client f) tries h = h
  spent_leaves (Prepared s place c of less) tries h = h
  spent_leaves (PrepareRefused s k c of idle l client) tries h = h
  spent_leaves (Committed s place c of joined wrote held idle keeps) tries h = h
  spent_leaves (Transformed s place oref made c of joined writes here held idle keeps) tries h = h
  spent_leaves (CommitRefused s k c of idle l client) tries h = h
  spent_leaves (Decided at t v c idle f) tries h = h
  spent_leaves (Aborted at t v c less) tries h = h
  spent_leaves (DecideRefused at t true k c l client) tries h = h
  spent_leaves (DecideRefused at t false k c l client) tries h = h
  spent_leaves (Finished r t commit result c less) tries h = h
  spent_leaves (Forgot r t result c less) tries h = h
  spent_leaves (AskedOwn r t v c f) tries h = h
  spent_leaves (AskedInVain r t result c leaves client f) tries h = h

  spent_writes : (n : Moves old new (record a { names = b.names }) after) → WritesSo old new (record a { names = b.names }) after n p → WritesSo old new a after (spending.other_names old new a b after n) p
  unfolding spending.other_names
  spent_writes (Unsent n) h = h
  spent_writes (Received at n c joined t client) h = h
  spent_writes (ReceivedNone at c joined links client f) h = h
  spent_writes (ReceiveRefused at k c joined l client) h = h
  spent_writes (ReceiveStopped at k c joined out s client f) h = h
  spent_writes (Prepared s place c of less) h = h
  spent_writes (PrepareRefused s k c of idle l client) h = h
  spent_writes (Committed s place c of joined wrote held idle keeps) h = h
  spent_writes (Transformed s place oref made c of joined writes here held idle keeps) h = h
  spent_writes (CommitRefused s k c of idle l client) h = h
  spent_writes (Decided at t v c idle f) h = h
  spent_writes (Aborted at t v c less) h = h
  spent_writes (DecideRefused at t commit k c l client) h = h
  spent_writes (Finished r t commit result c less) h = h
  spent_writes (Forgot r t result c less) h = h
  spent_writes (AskedOwn r t v c f) h = h
  spent_writes (AskedInVain r t result c leaves client f) h = h

  spent_so : StepsSo item old new (record a { names = b.names }) after p z d e came → StepsSo item old new a after p z d e came
  spent_so m = record {
    moves = spending.other_names old new a b after m.moves;
    pends = spending.pends old new a b after m.moves p z m.pends;
    tries = spent_tries m.moves m.tries;
    hands = spent_hands m.moves m.hands;
  }

spent_order : (item : Present) (old new : View) (a b after : Held) (p : Pending) (q : Phase) (d e : Duties) (came : News) → OwesNone d → StepsInOrder item old new (record a { names = b.names }) after p q d e came → StepsInOrder item old new a after p q d e came
unfolding spent_so spending.other_names
spent_order item old new a b after p q d e came none m = record {
  so = spent_so item old new a b after p (pending_in q) d e came m.so;
  free = goes_freely old new a after d none (spending.other_names old new a b after m.so.moves);
  ends = spent_ends item old new a b after p (pending_in q) d e came q m.so.moves m.ends;
  aborts = spent_aborts item old new a b after p (pending_in q) d e came m.so.moves m.aborts;
}

pub spent_steps : (item : Present) (old new : View) (a b after : Held) (p : Pending) (drawn : Option Ts) (q : Phase) (d e : Duties) (came : News) → OwesNone d → StepsKeeping item old new (record a { names = b.names }) after p drawn q d e came → StepsKeeping item old new a after p drawn q d e came
unfolding spent_order spent_so
spent_steps item old new a b after p drawn q d e came none m = record {
  order = spent_order item old new a b after p q d e came none m.order;
  draws = spent_draws item old new a b after p (pending_in q) d e came drawn (drawn_in q) m.order.so.moves m.order.so.tries m.draws;
  writes = λ und. spent_writes item old new a b after p (pending_in q) d e came m.order.so.moves (m.writes und);
  leaves = spent_leaves item old new a b after p (pending_in q) d e came m.order.so.moves m.order.so.tries m.leaves;
}

-- ---- what stands before and behind a call

module _ (shows : Bool) (item : Present) (old new : View) where
  -- the client before, but for its phase
  pub from_phase : (k f g : Client) (q : Phase) (p a : Pending) → f ≡ record k { phase = q } → p ≡ a → (result : Result News NoMemory)
      → IfOk result (TriesFrom shows item old new a f g) → IfOk result (TriesFrom shows item old new p k g)
  from_phase k f g q p a rest e result h = subst (λ (x : Client). IfOk result (TriesFrom shows item old new p x g)) rest (subst (λ (y : Pending). IfOk result (TriesFrom shows item old new y f g)) (sym e) h)

  -- the same of one by which what is drawn is sent
  pub sends_from_phase : (k f g : Client) (q : Phase) (drawn : Option Ts) → f ≡ record k { phase = q } → (result : Result News NoMemory)
      → (NoneAwaits 8 f.held.links.items → IfOk result (SendsFrom shows item old new drawn f g)) → NoneAwaits 8 k.held.links.items → IfOk result (SendsFrom shows item old new drawn k g)
  sends_from_phase k f g q drawn rest result h idle = subst (λ (x : Client). IfOk result (SendsFrom shows item old new drawn x g)) rest (h (subst (λ (x : Client). NoneAwaits 8 x.held.links.items) (sym rest) idle))

  -- the same of a client that may have verdicts to hand on
  asked_steps : (k f g : Client) (q : Phase) (p a : Pending) (drawn : Option Ts) → f ≡ record k { phase = q } → p ≡ a → (came : News) → StepsFrom shows item old new a f g came → StepsOut shows item old new p drawn k g came
  asked_steps k f g q p a drawn rest e came h = subst (λ (x : Client). StepsOut shows item old new p drawn x g came) rest (subst (λ (y : Pending). StepsOut shows item old new y drawn f g came) (sym e) (h drawn))

  pub asks_from_phase : (k f g : Client) (q : Phase) (p a : Pending) (drawn : Option Ts) → f ≡ record k { phase = q } → p ≡ a → (result : Result News NoMemory)
      → IfOk result (StepsFrom shows item old new a f g) → IfOk result (StepsOut shows item old new p drawn k g)
  asks_from_phase k f g q p a drawn rest e (Ok came) h = asked_steps k f g q p a drawn rest e came h
  asks_from_phase k f g q p a drawn rest e (Err x) h = tt

  pub from_idle : (k f g : Client) (q : Phase) (p a : Pending) → f ≡ record k { phase = q } → p ≡ a → (result : Result News NoMemory)
      → (NoneAwaits 8 f.held.links.items → IfOk result (TriesFrom shows item old new a f g)) → NoneAwaits 8 k.held.links.items → IfOk result (TriesFrom shows item old new p k g)
  from_idle k f g q p a rest e result h idle = from_phase k f g q p a rest e result (h (subst (λ (x : Client). NoneAwaits 8 x.held.links.items) (sym rest) idle))

  -- whatever was drawn, it is what was drawn in its phase
  pub goes_on_from : (k g : Client) (result : Result News NoMemory) → IfOk result (TriesFrom shows item old new (pending_in k.phase) k g) → IfOk result (ClientGoesOn shows item old new k g)
  goes_on_from k g (Ok came) h = h (drawn_in k.phase)
  goes_on_from k g (Err e) h = tt

  -- the same of one by which what is drawn is sent
  pub sends_as_drawn : (k g : Client) (drawn : Option Ts) → pending_in k.phase ≡ NonePending → drawn_in k.phase ≡ drawn → (result : Result News NoMemory) → IfOk result (SendsFrom shows item old new drawn k g) → IfOk result (ClientGoesOn shows item old new k g)
  sends_as_drawn k g drawn none is (Ok came) h = λ owes. subst (λ (p : Pending). StepsOut shows item old new p (drawn_in k.phase) k g came) (sym none) (subst (λ (o : Option Ts). StepsOut shows item old new NonePending o k g came) (sym is) (h owes))
  sends_as_drawn k g drawn none is (Err e) h = tt

  pub sends_any : (k g : Client) (drawn : Option Ts) (result : Result News NoMemory) → IfOk result (TriesFrom shows item old new NonePending k g) → IfOk result (SendsFrom shows item old new drawn k g)
  sends_any k g drawn (Ok came) h = h drawn
  sends_any k g drawn (Err e) h = tt

  pub sent_under : (t u : Ts) (f g : Client) (result : Result News NoMemory) → t ≡ u → IfOk result (SendsFrom shows item old new (Some t) f g) → IfOk result (SendsFrom shows item old new (Some u) f g)
  sent_under t u f g result e h = subst (λ (x : Ts). IfOk result (SendsFrom shows item old new (Some x) f g)) e h

  -- a call that sends nothing
  pub sends_from : (f g : Client) (a : Pending) → pending_in f.phase ≡ NonePending → drawn_in f.phase ≡ None → a ≡ NonePending → (result : Result News NoMemory) → OnOk result (SendsNothingIf shows old new f.held g.held) → pending_in g.phase ≡ NonePending → IfOk result (λ n. is_ended n ≡ false) → OnOk result (ClientHands shows old new f g)
      → IfOk result (TriesFrom shows item old new a f g)
  sends_from f g a free undrawn unsent (Ok n) sends none quiet hands = λ drawn. by_sends_so shows item old new f.held g.held a g.phase f.duties g.duties n sends none quiet (hands.0 a) (free_noted a (pending_in g.phase) f.duties g.duties unsent (hands.1 free)) drawn (λ s. draws_from_none old new (drawn_in f.phase) drawn (drawn_in g.phase) undrawn (hands.2 s))
  sends_from f g a free undrawn unsent (Err e) sends none quiet hands = tt

  pub sends_idle_from : (k f g : Client) (q : Phase) (p : Pending) → f ≡ record k { phase = q } → pending_in q ≡ NonePending → drawn_in q ≡ None → p ≡ NonePending → (result : Result News NoMemory) → (NoneAwaits 8 f.held.links.items → OnOk result (SendsNothingIf shows old new f.held g.held)) → pending_in g.phase ≡ NonePending → IfOk result (λ n. is_ended n ≡ false) → OnOk result (ClientHands shows old new f g)
      → NoneAwaits 8 k.held.links.items → IfOk result (TriesFrom shows item old new p k g)
  sends_idle_from k f g q p rest over undrawn unsent result sends none quiet hands = from_idle k f g q p p rest refl result (λ idle. sends_from f g p (ap (λ (x : Client). pending_in x.phase) rest ∙ over) (ap (λ (x : Client). drawn_in x.phase) rest ∙ undrawn) unsent result (sends idle) none quiet hands)

-- what is told of a refused call, with what is told of what that came to
pub both_if : {T : Type 0} {P Q : T → Type 0} {A : Type 0} (r : Result T NoMemory) → ((x : T) → P x → A → Q x) → IfOk r P → OnOk r A → IfOk r Q
both_if (Ok x) f p a = f x p a
both_if (Err e) f p a = tt

-- the same of three facts
pub all_if : {T : Type 0} {P Q : T → Type 0} {A B : Type 0} (r : Result T NoMemory) → ((x : T) → P x → A → B → Q x) → IfOk r P → OnOk r A → OnOk r B → IfOk r Q
all_if (Ok x) f p a b = f x p a b
all_if (Err e) f p a b = tt

-- and of four
pub each_if : {T : Type 0} {P Q : T → Type 0} {A B C : Type 0} (r : Result T NoMemory) → ((x : T) → P x → A → B → C → Q x) → IfOk r P → OnOk r A → OnOk r B → OnOk r C → IfOk r Q
each_if (Ok x) f p a b c = f x p a b c
each_if (Err e) f p a b c = tt

-- and of five
pub every_if : {T : Type 0} {P Q : T → Type 0} {A B C D : Type 0} (r : Result T NoMemory) → ((x : T) → P x → A → B → C → D → Q x) → IfOk r P → OnOk r A → OnOk r B → OnOk r C → OnOk r D → IfOk r Q
every_if (Ok x) f p a b c d = f x p a b c d
every_if (Err e) f p a b c d = tt

-- and of six
pub every_more_if : {T : Type 0} {P Q : T → Type 0} {A B C D E : Type 0} (r : Result T NoMemory) → ((x : T) → P x → A → B → C → D → E → Q x) → IfOk r P → OnOk r A → OnOk r B → OnOk r C → OnOk r D → OnOk r E → IfOk r Q
every_more_if (Ok x) f p a b c d e = f x p a b c d e
every_more_if (Err k) f p a b c d e = tt

-- a client that asks has something to ask for
pub never_none : (o : Option (Sent × ℕ)) → IsSome o → o ≡ None → ⊥
never_none None some none = cc
never_none (Some x) some none = cc

-- no more calls are left than before
pub owes_no_more : {X : Type 0} (result : Result X NoMemory) (f g : Client) (n : ℕ) → ((tries : ℕ) → uncounted tries g ≤ uncounted tries f) → OnOk result ((tries : ℕ) → uncounted tries g ≤ uncounted tries f + n)
owes_no_more (Ok x) f g n h = λ tries. let l : uncounted tries g ≤ uncounted tries f = h tries in omega (arith, l)
owes_no_more (Err e) f g n h = tt

-- ---- a step with the items

module _ (shows : Bool) (old new : View) (f : FrontEnd) where
  -- what a client's function came to is taken down
  pub takes_down : {X : Type 0} (item : Present) (g : FrontEnd) (c : Client) (came : News) → item ≡ present_of f → g.client ≡ c → (result : Result X NoMemory) → ClientSteps shows item old new f.client c came → GoesBy (tries_of f) came (course_of f) (course_of g) → OnOk result (EndsBy f.attempts came (course_of f) (course_of g)) → NewsAsSent f.client.held.links.items came → OnOk result (TakesStep shows old new f g)
  takes_down item g c came is same result steps goes ends sent = on_ok_weaker result (λ h. record {
    came = came;
    steps = subst (λ (k : Client). ClientSteps shows (present_of f) old new f.client k came) (sym same) (subst (λ (i : Present). ClientSteps shows i old new f.client c came) is steps);
    goes = goes;
    ends = h;
    as_sent = sent;
  }) ends

  -- nothing has become of the items
  pub takes_none : (g : FrontEnd) → ClientSteps shows (present_of f) old new f.client g.client news.Nothing → course_of g ≡ course_of f → TakesStep shows old new f g
  takes_none g steps same = record { came = news.Nothing; steps = steps; goes = same; ends = tt; as_sent = tt }

  pub takes_moves : (g : FrontEnd) → TakesStep shows old new f g → MovesSoIf shows old new f.client.held g.client.held (pending_in f.client.phase) (pending_in g.client.phase)
  takes_moves g t = moves_of shows (present_of f) old new f.client.held g.client.held (pending_in f.client.phase) g.client.phase f.client.duties g.client.duties t.came (drawn_in f.client.phase) t.steps

-- none of some objects was read
pub none_among : (names : List Oref) → list_any (λ (x : Oref). false) names ≡ false
none_among [] = refl
none_among (x ∷ xs) = none_among xs

abbrev record_of : Who → ℕ → Present
record_of w t = record { who = w; tries = t }

pub item_is : (w v : Who) (t u : ℕ) → w ≡ v → t ≡ u → record_of w t ≡ record_of v u
item_is w v t u e f = ap (λ (x : Who). record_of x t) e ∙ ap (λ (n : ℕ). record_of v n) f

-- how many calls of a try were counted doesn't tell which item has to end
ends_from : (a b : Attempts) (came : News) (old new : Course) → b.each ≡ a.each → b.tried ≡ a.tried → EndsBy b came old new → EndsBy a came old new
ends_from a b news.Nothing old new each tried h = tt
ends_from a b (news.TryEnded c) old new each tried h = λ spent left. subst (λ (n : ℕ). IsRefused n c old new) each (h (subst (λ (n : ℕ). n ≤ b.tried + 1) (sym each) (subst (λ (n : ℕ). a.each ≤ n + 1) (sym tried) spent)) left)
ends_from a b (news.Ended outcome) old new each tried h = h
ends_from a b (news.Settled settled) old new each tried h = h

-- a call was counted before
pub takes_counted : (shows : Bool) (old new : View) (f m g : FrontEnd) → m.client ≡ f.client → course_of m ≡ course_of f → tries_of m ≡ tries_of f → m.attempts.tried ≡ f.attempts.tried → TakesStep shows old new m g → TakesStep shows old new f g
takes_counted shows old new f m g client course tries tried t = record {
  came = t.came;
  steps = subst (λ (i : Present). ClientSteps shows i old new f.client g.client t.came) (item_is (who_next (course_of m)) (who_next (course_of f)) (tries_of m) (tries_of f) (ap who_next course) tries) (subst (λ (k : Client). ClientSteps shows (present_of m) old new k g.client t.came) client t.steps);
  goes = subst (λ (k : Course). GoesBy (tries_of f) t.came k (course_of g)) course (subst (λ (n : ℕ). GoesBy n t.came (course_of m) (course_of g)) tries t.goes);
  ends = subst (λ (k : Course). EndsBy f.attempts t.came k (course_of g)) course (ends_from f.attempts m.attempts t.came (course_of m) (course_of g) tries tried t.ends);
  as_sent = subst (λ (k : Client). NewsAsSent k.held.links.items t.came) client t.as_sent;
}

-- ---- what is sent

pub sends_as : (links : List Link) (who w : Who) (t u : Ts) (before left : Transaction) (s : Sending) → SendsShare links w u before left s → w ≡ who → u ≡ t → SendsShare links who t before left s
sends_as links who w t u before left s h e f = subst (λ (x : Who). SendsShare links x t before left s) e (subst (λ (y : Ts). SendsShare links w y before left s) f h)

-- of a drawn transaction
pub sends_drawn : (item : Present) (links : List Link) (c : Contents) (who : Who) (t : Ts) (drawn left : Transaction) (s : Sending) → SendsShare links who t drawn left s → item.who ≡ who → s.request.tx ≡ t → WritesShares drawn.shares.items c → IsDrawnAt t drawn → SendsDrawn item links c s left
sends_drawn item links c who t drawn left s h e f wrote starts = record { drawn = drawn; sends = sends_as links item.who who s.request.tx t drawn left s h (sym e) (sym f); wrote = wrote; starts = subst (λ (u : Ts). IsDrawnAt u drawn) (sym f) starts }

-- no two of whose shares are of one repository
pub with_drawn : (item : Present) (links : List Link) (c : Contents) (who : Who) (t : Ts) (drawn left : Transaction) (s : Sending) → SendsShare links who t drawn left s → item.who ≡ who → s.request.tx ≡ t → WritesShares drawn.shares.items c → IsDrawnAt t drawn → AreApart drawn.shares.items
    → {R : Type 0} → ((d : SendsDrawn item links c s left) → AreApart d.drawn.shares.items → R) → R
unfolding sends_drawn
with_drawn item links c who t drawn left s h e f wrote starts apart then = then (sends_drawn item links c who t drawn left s h e f wrote starts) apart

-- of one that the coordinator has prepared
pub sends_more : (item : Present) (f : Client) (who : Who) (t : Ts) (at : At) (rs : List ℕ) (before left : Transaction) (s : Sending) → SendsShare f.held.links.items who t before left s → item.who ≡ who → s.request.tx ≡ t → pending_in f.phase ≡ IsPreparing at t rs left → IsSentMore item f s (IsPreparing at t rs before)
sends_more item f who t at rs before left s h e tx now = record {
  at = at;
  rs = rs;
  left = left;
  sends = record { transaction = before; was = ap (λ (u : Ts). IsPreparing at u rs before) (sym tx); sends = sends_as f.held.links.items item.who who s.request.tx t before left s h (sym e) (sym tx) };
  now = now ∙ ap (λ (u : Ts). IsPreparing at u rs left) (sym tx);
}

-- one more has prepared it
module _ (item : Present) (f : Client) (s : Sending) (a z : Pending) (h : IsSentMore item f s a) where
  pub more_pends : z ≡ noted s.at.repo (pending_in f.phase) → (prepared_at z ≡ Some (s.at, s.request.tx)) ⊎ ((prepared_at z ≡ prepared_at a) × (is_preparing a ≡ true))
  more_pends e = inr (ap prepared_at (e ∙ ap (noted s.at.repo) h.now) ∙ sym (ap prepared_at h.sends.was), ap is_preparing h.sends.was)

  pub more_prepared : z ≡ noted s.at.repo (pending_in f.phase) → HoldsThere s f.held.links.items f.held.cache.cache → PreparesSo item f.held.links.items f.held.cache.cache s a z
  more_prepared e holds = PreparesNext h.at h.rs h.left h.sends holds (e ∙ ap (noted s.at.repo) h.now)

  -- nothing is drawn then
  pub more_undrawn : drawn_in f.phase ≡ None
  more_undrawn = undecided_undrawn f.phase (ap is_undecided h.now)

  pub more_out : (e : z ≡ noted s.at.repo (pending_in f.phase)) (holds : HoldsThere s f.held.links.items f.held.cache.cache) (drawn now : Option Ts) → StaysDrawn drawn now → PreparesOut item f.held.links.items f.held.cache.cache s a z (more_prepared e holds) drawn now
  unfolding more_prepared
  more_out e holds drawn now stays = stays

  -- nothing is to be aborted by that
  pub more_noted : (d : Duties) → z ≡ noted s.at.repo (pending_in f.phase) → NotesAbort a z d d
  more_noted d e = sym (ap (λ (p : Pending). abort_behind p z d.abort) h.sends.was ∙ ap (λ (y : Pending). abort_behind (IsPreparing h.at s.request.tx h.rs h.sends.transaction) y d.abort) (e ∙ ap (noted s.at.repo) h.now))

  -- where it is refused, what the coordinator has prepared is to be aborted
  pub refused_noted : (d e : Duties) → NotesAbort (pending_in f.phase) z d e → NotesAbort a z d e
  refused_noted d e notes = notes ∙ (ap (λ (p : Pending). abort_behind p z d.abort) h.now ∙ sym (ap (λ (p : Pending). abort_behind p z d.abort) h.sends.was))

  pub more_refused : PreparesInVain item f.held.links.items f.held.cache.cache s a
  more_refused = RefusesNext h.at h.rs h.left h.sends

  pub refused_out : (drawn now : Option Ts) → StaysDrawn drawn now → RefusesOut item f.held.links.items f.held.cache.cache s a more_refused drawn now
  unfolding more_refused
  refused_out drawn now stays = stays

-- ---- what is decided

-- the verdict was told, and is handed on
module _ (shows : Bool) (item : Present) (old new : View) (before after : Held) (q : Phase) (d e : Duties) where
  pub decided_so : (a : Pending) (at : At) (sent : Sent) (v : Verdict) → (shows ≡ true → Does {X = Verdict} old new at.repo (Ok v) (DecideWork at.session sent.ts true (Ok v))) → NoneAwaits 8 before.links.items
      → (transaction : Transaction) → DecidesAll a at sent.ts transaction → sent ≡ sent_of sent.ts at transaction
      → (result : Result News NoMemory) → OnOk result (EndsSo v.commit before after) → OnOk result (q ≡ Between) → IfOk result (EndsAsked v.commit sent)
      → OnOk result (e.verdicts ≡ handed v (others_in sent.participants (first_in sent.participants)) d.verdicts) → OnOk result (e.helping ≡ d.helping) → OnOk result (e.abort ≡ d.abort) → IfOk result (λ n. (drawn : Option Ts) → OwesNone d → StepsKeepingIf shows item old new before after a drawn q d e n)
  decided_so a at sent v call idle transaction all is (Ok n) ends over own verdicts helping abort = λ drawn.
      by_decide_so shows item old new before after a q d e n at sent.ts v call idle ends (ap prepared_at all.was) (ap pending_in over) transaction all (own_of v.commit own) (λ w. record {
        verdicts = record {
          r = at.repo;
          sent = sent;
          v = v;
          known = ByPreparing all.rs transaction (all.was ∙ ap (λ (k : At). IsPreparing k sent.ts all.rs transaction) (sym at_is)) (is ∙ ap (λ (k : At). sent_of sent.ts k transaction) (sym at_is)) (ap (λ (k : At). k.repo) (sym at_is));
          tx = decided_tx old new at.repo sent.ts v at.session true (call w);
          told = ToldByDecision at.session true v refl (call w);
          behind = verdicts;
        };
        helping = helping;
      }) over abort drawn
    where
      at_is : sent.at ≡ at
      at_is = ap (λ (x : Sent). x.at) is

      own_of : (b : Bool) → EndsAsked b sent n → EndsOwn b sent.ts transaction n
      own_of true h = h ∙ ap (λ (x : Sent). news.Ended (committed_as sent.ts x.meaning)) is
      own_of false h = h
  decided_so a at sent v call idle transaction all is (Err k) ends over own verdicts helping abort = tt

  pub answered_so : (r : ℕ) (sent : Sent) (n : ℕ) (o : answer.Asked) (v : Verdict) → o ≡ answers.Settled v → (shows ≡ true → Does {X = answer.Asked} old new r (Ok o) (AskWork sent.ts (Ok o))) → r ≡ first_in sent.participants
      → (result : Result News NoMemory) → OnOk result (EndsSo v.commit before after) → OnOk result (q ≡ Between) → IfOk result (EndsAsked v.commit sent)
      → OnOk result (e.verdicts ≡ handed v (others_in sent.participants (first_in sent.participants)) d.verdicts) → OnOk result (e.helping ≡ d.helping) → OnOk result (e.abort ≡ d.abort) → IfOk result (λ came. (drawn : Option Ts) → StepsKeepingIf shows item old new before after (IsAsking sent n) drawn q d e came)
  answered_so r sent n o v is call coordinator (Ok x) ends over own verdicts helping abort = λ drawn.
      by_own_answer_so shows item old new before after (IsAsking sent n) q d e x r sent.ts v (answer_told shows old new r sent.ts o v is call) ends sent.at refl (ap pending_in over) sent n (record { was = refl; tx = refl; coordinator = coordinator }) own (λ w. record {
        verdicts = record {
          r = r;
          sent = sent;
          v = v;
          known = ByAsking n refl coordinator;
          tx = asked_tx old new r sent.ts v (answer_told shows old new r sent.ts o v is call w);
          told = told_by shows old new r sent.ts o v is call w;
          behind = verdicts;
        };
        helping = helping;
      }) over abort drawn
  answered_so r sent n o v is call coordinator (Err k) ends over own verdicts helping abort = tt

-- the verdict on an Unknown item was told, and is handed on
pub tells_late : (old new : View) (a : Pending) (links : List Link) (r : ℕ) (sent : Sent) (index : ℕ) (v : Verdict) (before after : List Duty) → slice_get links r ≡ Some (UnsettledLink sent index) → v.tx ≡ sent.ts → IsToldBy old new r v.tx v.commit
    → after ≡ handed v (others_in sent.participants (first_in sent.participants)) before → MayTell old new a links before after
tells_late old new a links r sent index v before after there tx told behind = inr (record { r = r; sent = sent; v = v; known = ByLink index there; tx = tx; told = subst (λ (t : Ts). IsToldBy old new r t v.commit) tx told; behind = behind })

-- where there is a link, it is the one that was put there
pub put_there : (links after : List Link) (r : ℕ) (l : Link) → after ≡ at_repo links r (λ x. l) → (k : Link) → slice_get after r ≡ Some k → k ≡ l
put_there links after r l is k there = by (slice_get links r) (sym (at_here (λ x. l) links r) ∙ (ap (λ (ls : List Link). slice_get ls r) (sym is) ∙ there))
  where
    by : (o : Option Link) → option_map (λ (x : Link). l) o ≡ Some k → k ≡ l
    by None h = cc
    by (Some x) h = sym (same_Some l k h)

-- ---- behind the last step

module _ (shows : Bool) (repos : ℕ) where
  pub asks_none : (old : View) (f : FrontEnd) → AsksEach shows repos old old f f
  asks_none old f = record { calls = []; asks = (refl, refl) }

  one_more_by : (old mid new : View) (f g h : FrontEnd) (calls : List (View × FrontEnd)) → AsksBy shows repos old f calls mid g → AsksOnce shows repos mid new g h → AsksBy shows repos old f (calls ++ (new, h) ∷ []) new h
  one_more_by old mid new f g h [] same once = (subst (λ (k : FrontEnd). AsksOnce shows repos old new k h) same.1 (subst (λ (v : View). AsksOnce shows repos v new g h) same.0 once), (refl, refl))
  one_more_by old mid new f g h (s ∷ ss) asks once = (asks.0, one_more_by s.0 mid new s.1 g h ss asks.1 once)

  pub asks_more : (old mid new : View) (f g h : FrontEnd) → AsksEach shows repos old mid f g → AsksOnce shows repos mid new g h → AsksEach shows repos old new f h
  asks_more old mid new f g h asks once = record { calls = asks.calls ++ (new, h) ∷ []; asks = one_more_by old mid new f g h asks.calls asks.asks once }
