-- What each call of a port does, by cases on its result: `at` is the trace at the call, `after` the one behind
-- it, and `u` what is unsettled then.
use Rattle.log_entries.specs.declared.entry.Entry.TheVariants.{Decided, Finished, One, Prepared, Upgraded}
use Rattle.log_entries.specs.declared.entry.Entry.{Entry}
use Rattle.log_entries.specs.declared.request.Request.{Request}
use Rattle.spec_history.specs.History.{Base, Known, is_undecided, known_by}
use Rattle.spec_history.specs.Requests.{is_upgrade}
use Rattle.session_outbox.specs.Messages as messages
use Rattle.session_outbox.specs.declared.answers.Asked.TheVariants as answers
use Rattle.session_outbox.specs.declared.answers.Asked as answer
use Rattle.session_outbox.specs.declared.answers.Verdict.{Verdict}
use Rattle.session_outbox.specs.declared.answers.Welcome.{Welcome}
use Rattle.session_outbox.specs.declared.message.Message.{Message}
use Rattle.client_port.specs.Growing.{Called}
use Rattle.client_port.specs.Views.{Calm, Halted, MayCome, Unsettled, View}
use Rattle.spec_trace.specs.Notices.{is_unended, lives, notice_of}
use Rattle.spec_trace.specs.Calls.{Asked, Settled, Undecided, Welcomed, asked, is_kept, is_last_alone, next_page, welcome}
use Rattle.spec_trace.specs.Exact.{IsDrawn, IsEndedIn, IsGoneIn, RefusalIsExact, most_pages}
use Rattle.spec_trace.specs.Session.{place_of, session, waiting}
use Rattle.spec_trace.specs.Trace.{E, Item, M, entries}
use Rattle.spec_trace.specs.Verdict.{verdict}
use Rattle.spec_trace.specs.declared.mark.Mark.TheVariants as the
use Rattle.std.specs.List.{slice_get}
use Rattle.std.specs.Option.{IsSomeAnd}
use Rattle.std.specs.Prelude.{Bool, Err, List, None, Ok, Option, Result, Some, [], cond, false, length, nat_eq, true, ℕ, ◌&&◌, ◌++◌, ◌||◌, ◌<◌, ◌∷◌, ◌≡◌}
use Rattle.thor_value.specs.declared.names.Ts.{Ts}
use Rattle.base_reasons.specs.declared.reason.Reason.TheVariants as reasons
use Rattle.repo_refusals.specs.declared.refusal.Refusal.TheVariants as refused
use Rattle.repo_refusals.specs.declared.refusal.Refusal.{Refusal}

-- ---- any call

-- the repository r was down
abbrev pub IsDown : {X : Type 0} → ℕ → Result X Refusal → Type 0
IsDown r (Ok x) = ⊥
IsDown r (Err (refused.Down n)) = n ≡ r
IsDown r (Err e) = ⊥

-- The call met what was unsettled so: where nothing was it has done its work, else it answered Down and
-- left all as it met it.
abbrev pub Answered : {X : Type 0} → ℕ → Result X Refusal → Unsettled → List Item → List Item → Unsettled → Type 0 → Type 0
Answered r result Calm at after u work = work
Answered r result (MayCome e) at after u work = IsDown r result × (after ≡ at) × (u ≡ MayCome e)
Answered r result Halted at after u work = IsDown r result × (after ≡ at) × (u ≡ Halted)

-- the call met the trace `at` on r, and `work` says what it did there
pub record Does {X : Type 0} (old new : View) (r : ℕ) (result : Result X Refusal) (work : Base → List Item → List Item → Unsettled → Type 0) : Type 0 where
  pub at : List Item
  pub met : Unsettled
  pub called : Called old new r at met
  pub answer : Answered r result met at (new.seen r) (new.unsettled r) (work (old.opened.base r) at (new.seen r) (new.unsettled r))

-- nothing came, and nothing is unsettled
abbrev pub IsAsMet : List Item → List Item → Unsettled → Type 0
IsAsMet at after u = (after ≡ at) × (u ≡ Calm)

-- nothing came, and nothing of the client's may come before a Life: the repository is down
abbrev pub IsHalted : List Item → List Item → Unsettled → Type 0
IsHalted at after u = (after ≡ at) × (u ≡ Halted)

-- the call's item is behind the trace, and nothing is unsettled
abbrev pub IsBehind : List Item → Item → List Item → Unsettled → Type 0
IsBehind at i after u = (after ≡ at ++ i ∷ []) × (u ≡ Calm)

-- the call did nothing, since the repository was out of order or couldn't do its work
abbrev pub IsOutage : Refusal → Type 0
IsOutage (refused.Reason r) = ⊥
IsOutage (refused.Down r) = Unit {0}
IsOutage (refused.Stopped r) = Unit {0}
IsOutage (refused.Damaged r k) = Unit {0}
IsOutage refused.NoMemory = Unit {0}

-- the repository was in order: such a refusal gets a mark, where it is one of a draw, a grant or a request
abbrev pub IsMarked : Refusal → Type 0
IsMarked (refused.Reason r) = Unit {0}
IsMarked (refused.Down r) = ⊥
IsMarked (refused.Stopped r) = ⊥
IsMarked (refused.Damaged r k) = ⊥
IsMarked refused.NoMemory = ⊥

-- how a call of a session that isn't marked is refused: the session is gone, or there was an outage
abbrev pub RefusedUnmarked : Base → List Item → ℕ → Refusal → List Item → Unsettled → Type 0
RefusedUnmarked b at s (refused.Reason r) after u = (r ≡ reasons.Gone s) × IsGoneIn (session b at s) × IsAsMet at after u
RefusedUnmarked b at s r after u = IsOutage r × IsHalted at after u

-- how a draw or a grant is refused, which gets a mark but in an outage
abbrev pub RefusedMarked : Base → List Item → ℕ → Refusal → List Item → Unsettled → Type 0
RefusedMarked b at s (refused.Down r) after u = IsHalted at after u
RefusedMarked b at s (refused.Stopped r) after u = IsHalted at after u
RefusedMarked b at s (refused.Damaged r k) after u = IsHalted at after u
RefusedMarked b at s refused.NoMemory after u = IsHalted at after u
RefusedMarked b at s r after u = RefusalIsExact b at s None r × IsBehind at (M (the.Refused s None r)) after u

-- Behind a call that stopped its entry may come, where it was valid, or nothing may before a Life.
abbrev pub MayHaveLeft : Entry → Type 0 → Unsettled → Type 0
MayHaveLeft e valid Calm = ⊥
MayHaveLeft e valid (MayCome d) = (d ≡ e) × valid
MayHaveLeft e valid Halted = Unit {0}

-- how a call with an entry and no mark is refused where the repository is out of order
abbrev pub OutageWith : Entry → Type 0 → List Item → Refusal → List Item → Unsettled → Type 0
OutageWith e valid at (refused.Stopped r) after u = (after ≡ at) × MayHaveLeft e valid u
OutageWith e valid at refused.NoMemory after u = (after ≡ at) × MayHaveLeft e valid u
OutageWith e valid at (refused.Down r) after u = IsHalted at after u
OutageWith e valid at (refused.Damaged r k) after u = IsHalted at after u
OutageWith e valid at r after u = ⊥

-- how a request with the entry e is refused
abbrev pub RequestRefused : Entry → Base → List Item → ℕ → Request → Refusal → List Item → Unsettled → Type 0
RequestRefused e b at s q (refused.Stopped r) after u = (after ≡ at) × MayHaveLeft e (verdict b at s q ≡ None) u
RequestRefused e b at s q refused.NoMemory after u = (after ≡ at) × MayHaveLeft e (verdict b at s q ≡ None) u
RequestRefused e b at s q (refused.Down r) after u = IsHalted at after u
RequestRefused e b at s q (refused.Damaged r k) after u = IsHalted at after u
RequestRefused e b at s q r after u = RefusalIsExact b at s (Some q) r × IsBehind at (M (the.Refused s (Some q) r)) after u

-- ---- sessions

-- the welcome tells this
pub record Tells (w : Welcome) (told : Welcomed) : Type 0 where
  pub session : w.session ≡ told.session
  pub epoch : w.epoch ≡ told.epoch
  pub threshold : w.threshold ≡ told.threshold
  pub place : w.place ≡ told.place
  pub upgrades : w.upgrades ≡ told.upgrades

abbrev pub ConnectWork : ℕ → Result Welcome Refusal → Base → List Item → List Item → Unsettled → Type 0
ConnectWork c (Ok w) b at after u = Tells w (welcome b at) × IsBehind at (M (the.Connected w.session c)) after u
ConnectWork c (Err r) b at after u = IsOutage r × IsHalted at after u

abbrev pub FetchWork : ℕ → ℕ → ℕ → Result (Unit {0}) Refusal → Base → List Item → List Item → Unsettled → Type 0
FetchWork s page upto (Ok done) b at after u = (lives (session b at s) ≡ true) × IsBehind at (M (the.Fetched s page upto)) after u
FetchWork s page upto (Err r) b at after u = RefusedUnmarked b at s r after u

abbrev pub GrantWork : ℕ → Result (Unit {0}) Refusal → Base → List Item → List Item → Unsettled → Type 0
GrantWork s (Ok done) b at after u = (lives (session b at s) ≡ true) × (next_page b at < most_pages) × IsBehind at (M (the.Granted s (next_page b at))) after u
GrantWork s (Err r) b at after u = RefusedMarked b at s r after u

-- the trace behind a message that is taken, where there is one
abbrev pub behind_taken : List Item → ℕ → Option Message → List Item
behind_taken T s None = T
behind_taken T s (Some m) = T ++ M (the.Took s (messages.place_of m)) ∷ []

-- the message that was sent first of those that wait
abbrev pub ReceiveWork : ℕ → Result (Option Message) Refusal → Base → List Item → List Item → Unsettled → Type 0
ReceiveWork s (Ok None) b at after u = IsSomeAnd (session b at s) (λ v. waiting v ≡ []) × (lives (session b at s) ≡ true) × IsAsMet at after u
ReceiveWork s (Ok (Some m)) b at after u = IsSomeAnd (session b at s) (λ v. slice_get v.sent v.taken ≡ Some (notice_of m)) × (lives (session b at s) ≡ true) × IsBehind at (M (the.Took s (place_of (notice_of m)))) after u
ReceiveWork s (Err r) b at after u = RefusedUnmarked b at s r after u

-- ---- transactions

abbrev pub DrawWork : ℕ → ℕ → Result Ts Refusal → Base → List Item → List Item → Unsettled → Type 0
DrawWork s floor (Ok t) b at after u = (lives (session b at s) ≡ true) × IsDrawn b at t × (floor < t.time) × IsBehind at (M (the.Drew s t)) after u
DrawWork s floor (Err r) b at after u = RefusedMarked b at s r after u

abbrev pub PrepareWork : ℕ → Request → Result ℕ Refusal → Base → List Item → List Item → Unsettled → Type 0
PrepareWork s q (Ok place) b at after u = (verdict b at s q ≡ None) × (place ≡ length (entries at)) × IsBehind at (E (Prepared q)) after u
PrepareWork s q (Err r) b at after u = RequestRefused (Prepared q) b at s q r after u

-- the entry of a request that commits at one repository
abbrev pub alone_entry : Request → Entry
alone_entry q = cond (is_upgrade q) (Upgraded q) (One q)

abbrev pub CommitWork : ℕ → Request → Result ℕ Refusal → Base → List Item → List Item → Unsettled → Type 0
CommitWork s q (Ok place) b at after u = (verdict b at s q ≡ None) × (place ≡ length (entries at)) × IsBehind at (E (alone_entry q)) after u
CommitWork s q (Err r) b at after u = RequestRefused (alone_entry q) b at s q r after u

-- whether a transaction that stands so was prepared by the session and is undecided
abbrev pub is_prepared_by : ℕ → Option Known → Bool
is_prepared_by s None = false
is_prepared_by s (Some o) = nat_eq o.request.session s && is_undecided (Some o)

-- whether a coordinator knows that t committed
abbrev pub commits_by : Base → List Item → Ts → Bool
commits_by b T t = is_kept b T t || is_last_alone b T t

-- What a coordinator decides of t, which its session prepared, or how t stands there; its session may have been given up. Of a
-- transaction of an earlier run it may tell more than the trace does: its table keeps decisions of earlier runs until a checkpoint.
abbrev pub Decides : Bool → Ts → Bool → Verdict → Base → List Item → List Item → Unsettled → Type 0
Decides true t c v b at after u = (v.commit ≡ c) × IsBehind at (E (Decided t c)) after u
Decides false t c v b at after u = (b.life < t.life → v.commit ≡ commits_by b at t) × IsAsMet at after u

abbrev pub DecideWork : ℕ → Ts → Bool → Result Verdict Refusal → Base → List Item → List Item → Unsettled → Type 0
DecideWork s t c (Ok v) b at after u = (is_unended (session b at s) ≡ true) × (v.tx ≡ t) × Decides (is_prepared_by s (known_by b (entries at) t)) t c v b at after u
DecideWork s t c (Err (refused.Reason r)) b at after u = (r ≡ reasons.Gone s) × IsEndedIn (session b at s) × IsAsMet at after u
DecideWork s t c (Err r) b at after u = OutageWith (Decided t c) (is_prepared_by s (known_by b (entries at) t) ≡ true) at r after u

abbrev pub FinishWork : Ts → Bool → Result (Option ℕ) Refusal → Base → List Item → List Item → Unsettled → Type 0
FinishWork t c (Ok (Some place)) b at after u = (is_undecided (known_by b (entries at) t) ≡ true) × (place ≡ length (entries at)) × IsBehind at (E (Finished t c)) after u
FinishWork t c (Ok None) b at after u = (is_undecided (known_by b (entries at) t) ≡ false) × IsAsMet at after u
FinishWork t c (Err r) b at after u = OutageWith (Finished t c) (is_undecided (known_by b (entries at) t) ≡ true) at r after u

abbrev pub ForgetWork : Ts → Result (Unit {0}) Refusal → Base → List Item → List Item → Unsettled → Type 0
ForgetWork t (Ok done) b at after u = IsBehind at (M (the.Forgot t)) after u
ForgetWork t (Err r) b at after u = IsOutage r × IsHalted at after u

-- the answer is what a trace tells
abbrev pub Answers : answer.Asked → Asked → Type 0
Answers answers.Undecided told = told ≡ Undecided
Answers (answers.Settled v) told = told ≡ Settled v.commit

-- the answer is about t
abbrev pub IsAbout : Ts → answer.Asked → Type 0
IsAbout t answers.Undecided = Unit {0}
IsAbout t (answers.Settled v) = v.tx ≡ t

-- The answer is about t, and where t is a transaction of this run it is what the trace tells. Nobody asks about another.
abbrev pub AnswersOf : Base → List Item → Ts → answer.Asked → Type 0
AnswersOf b T t a = IsAbout t a × (b.life < t.life → Answers a (asked b T t))

abbrev pub AskWork : Ts → Result answer.Asked Refusal → Base → List Item → List Item → Unsettled → Type 0
AskWork t (Ok a) b at after u = AnswersOf b at t a × IsAsMet at after u
AskWork t (Err r) b at after u = IsOutage r × IsHalted at after u
