-- What each item of a trace owes to the trace before it, as its call promises. Beside Sound, which speaks of
-- the entries alone and of what they owe to one another, this says what sessions and marks are. It is said
-- once, of the trace at the item, and no later item changes it.
use Rattle.log_entries.specs.declared.entry.Entry.TheVariants.{Decided, Finished, Life, One, Prepared, Upgraded}
use Rattle.log_entries.specs.declared.entry.Entry.{Entry}
use Rattle.log_entries.specs.declared.request.Request.{Request}
use Rattle.spec_trace.specs.Calls.{drawn_time, last_drawn, last_session, next_page}
use Rattle.spec_history.specs.History.{Base, known_by, state}
use Rattle.spec_history.specs.Requests.{has_written}
use Rattle.spec_trace.specs.Session.{Session, place_of, session, session_ended, session_lives}
use Rattle.spec_trace.specs.Trace.{E, Item, M, entries}
use Rattle.spec_trace.specs.Verdict.{verdict}
use Rattle.spec_trace.specs.declared.mark.Mark.TheVariants as the
use Rattle.spec_trace.specs.declared.mark.Mark.{Mark}
use Rattle.base_reasons.specs.declared.reason.Reason.TheVariants as reasons
use Rattle.repo_refusals.specs.declared.refusal.Refusal.TheVariants as refused
use Rattle.repo_refusals.specs.declared.refusal.Refusal.{Refusal}
use Rattle.std.specs.List.{slice_get}
use Rattle.std.specs.Option.{IsSomeAnd}
use Rattle.std.specs.Prelude.{IsTrue, List, None, Option, Some, [], false, length, true, ℕ, ◌++◌, ◌<◌, ◌^◌, ◌∷◌, ◌≡◌, ◌≤◌}
use Rattle.thor_value.specs.FiniteMap.{has}
use Rattle.thor_value.specs.declared.names.Oref.{Oref}
use Rattle.thor_value.specs.declared.names.Ts.{Ts}

-- the pages of a repository are below this one
abbrev pub most_pages : ℕ
most_pages = 65536

-- the session s is live, and what is asked of it holds
abbrev pub IsLiveAnd : Base → List Item → ℕ → (Session → Type 0) → Type 0
IsLiveAnd b T s P = IsSomeAnd (session b T s) (λ v. (session_lives v ≡ true) × P v)

-- there is no live session s
abbrev pub IsGoneIn : Option Session → Type 0
IsGoneIn None = Unit {0}
IsGoneIn (Some v) = session_lives v ≡ false

-- there is no session s that hasn't ended
abbrev pub IsEndedIn : Option Session → Type 0
IsEndedIn None = Unit {0}
IsEndedIn (Some v) = session_ended v ≡ true

-- the message that waits first for a session stands at this place
abbrev pub WaitsAt : ℕ → Session → Type 0
WaitsAt place v = IsSomeAnd (slice_get v.sent v.taken) (λ m. place_of m ≡ place)

-- t is drawn behind the trace T: by the rule, for what a clock said and what a client had seen
pub record IsDrawn (b : Base) (T : List Item) (t : Ts) : Type 0 where
  pub time : (now : ℕ) × (floor : ℕ) × (t.time ≡ drawn_time now (last_drawn b T) floor)
  pub below : t.time < 2 ^ 62
  pub repo : t.repo ≡ b.repo
  pub life : t.life ≡ (state b (entries T)).life

-- what q wrote here stands on pages that the session s has
abbrev pub WritesOnPages : Base → List Item → ℕ → Request → Type 0
WritesOnPages b T s q = (x : Oref) → has_written q x ≡ true → IsSomeAnd (session b T s) (λ v. has v.pages x.page ≡ true)

-- Behind the trace T, q comes from its session, which is its client's, and is accepted. Its client knows
-- no place that isn't there. What it wrote here stands on pages that were granted, and that its session has.
pub record ComesFromSession (b : Base) (T : List Item) (q : Request) : Type 0 where
  pub accepted : verdict b T q.session q ≡ None
  pub client : IsSomeAnd (session b T q.session) (λ v. v.client ≡ q.who.client)
  pub upto : q.upto ≤ length (entries T)
  pub granted : (x : Oref) → IsTrue (has_written q x) → x.page < next_page b T
  pub paged : WritesOnPages b T q.session q

-- What an entry owes to the trace before it, beside what it owes to the entries. A transaction is decided
-- by its session, which hasn't ended. A Life and what is learned of a decision are nobody's.
abbrev pub EntryIsExact : Base → List Item → Entry → Type 0
EntryIsExact b T (Life n) = Unit {0}
EntryIsExact b T (One q) = ComesFromSession b T q
EntryIsExact b T (Prepared q) = ComesFromSession b T q
EntryIsExact b T (Decided t c) = IsSomeAnd (known_by b (entries T) t) (λ o. IsSomeAnd (session b T o.request.session) (λ v. session_ended v ≡ false))
EntryIsExact b T (Finished t c) = Unit {0}
EntryIsExact b T (Upgraded q) = ComesFromSession b T q

-- a draw or a grant of the session s is refused so
abbrev pub CallIsRefused : Base → List Item → ℕ → Refusal → Type 0
CallIsRefused b T s (refused.Reason (reasons.Gone n)) = (n ≡ s) × IsGoneIn (session b T s)
CallIsRefused b T s (refused.Reason (reasons.Full limit)) = (limit ≡ most_pages) × IsLiveAnd b T s (λ v. most_pages ≤ next_page b T)
CallIsRefused b T s (refused.Reason reasons.ClockEnd) = IsLiveAnd b T s (λ v. (now : ℕ) × (floor : ℕ) × (2 ^ 62 ≤ drawn_time now (last_drawn b T) floor))
CallIsRefused b T s (refused.Reason (reasons.Epoch n)) = ⊥
CallIsRefused b T s (refused.Reason (reasons.Blocked t)) = ⊥
CallIsRefused b T s (refused.Reason (reasons.TooOld t)) = ⊥
CallIsRefused b T s (refused.Reason (reasons.Stale x k)) = ⊥
CallIsRefused b T s (refused.Reason (reasons.Earlier t x)) = ⊥
CallIsRefused b T s (refused.Reason (reasons.Later t x)) = ⊥
CallIsRefused b T s (refused.Down r) = ⊥
CallIsRefused b T s (refused.Stopped r) = ⊥
CallIsRefused b T s (refused.Damaged r k) = ⊥
CallIsRefused b T s refused.NoMemory = ⊥

-- a request of the session is refused by the verdict, and a draw or a grant by its rule
abbrev pub RefusalIsExact : Base → List Item → ℕ → Option Request → Refusal → Type 0
RefusalIsExact b T s (Some q) r = (q.session ≡ s) × (verdict b T s q ≡ Some r)
RefusalIsExact b T s None r = CallIsRefused b T s r

-- What a mark owes to the trace before it.
abbrev pub MarkIsExact : Base → List Item → Mark → Type 0
-- a session has a number above all before, and the repository was opened
MarkIsExact b T (the.Connected s client) = (last_session T < s) × (s < 2 ^ 32) × (0 < length (entries T))
MarkIsExact b T (the.Fetched s page upto) = IsLiveAnd b T s (λ v. upto ≤ length (entries T))
-- the next page is granted
MarkIsExact b T (the.Granted s page) = IsLiveAnd b T s (λ v. (page ≡ next_page b T) × (page < most_pages))
-- the message that waits first is taken
MarkIsExact b T (the.Took s place) = IsLiveAnd b T s (WaitsAt place)
MarkIsExact b T (the.Drew s t) = IsLiveAnd b T s (λ v. IsDrawn b T t)
-- a decision to commit is forgotten that was made here
MarkIsExact b T (the.Forgot t) = IsTrue (has (state b (entries T)).kept t)
MarkIsExact b T (the.Refused s q r) = RefusalIsExact b T s q r

abbrev pub ItemIsExact : Base → List Item → Item → Type 0
ItemIsExact b T (E e) = EntryIsExact b T e
ItemIsExact b T (M m) = MarkIsExact b T m

-- each of the items owes what it owes to the trace before it, the first to T
abbrev pub exact_from : Base → List Item → List Item → Type 0
exact_from b T [] = Unit {0}
exact_from b T (i ∷ is) = ItemIsExact b T i × exact_from b (T ++ i ∷ []) is

-- Each item of the trace owes what it owes to those before it.
abbrev pub exact : Base → List Item → Type 0
exact b T = exact_from b [] T
