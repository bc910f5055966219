-- That what a repository keeps of its sessions says what its trace says of them.
use Rattle.cached_sets.specs.Meaning.{IsOrdered, has_page, place_in}
use Rattle.cached_sets.specs.Noted.{is_silent, most_noted, places_of}
use Rattle.log_entries.specs.declared.entry.Entry.{Entry}
use Rattle.repo_sessions.specs.Sessions.{Kept}
use Rattle.spec_history.specs.History.{Base}
use Rattle.session_outbox.specs.Outbox as outbox
use Rattle.spec_trace.specs.Calls.{last_session}
use Rattle.spec_trace.specs.Notices.{notice_of}
use Rattle.spec_trace.specs.Session.{Ended, Live, Notice, Retired, Session, Stage, invalid, is_news, place_of, session, session_lives, waiting}
use Rattle.spec_trace.specs.Trace.{Item, entries}
use Rattle.std.specs.List.{filter}
use Rattle.std.specs.Option.{IfSome}
use Rattle.std.specs.Prelude.{Bool, List, None, Option, Some, [], cond, false, length, map, nat_le, true, ℕ, ◌&&◌, ◌<◌, ◌↔◌, ◌≡◌, ◌≤◌, ◌⊎◌}
use Rattle.thor_value.specs.FiniteMap.{IsSorted, get, has}
use Rattle.thor_value.specs.declared.names.Oref.{Oref}

-- ---- what a trace says of a session, as far as a repository keeps it: nothing of one that isn't live

abbrev pub client_of : Option Session → Option ℕ
client_of None = None
client_of (Some v) = cond (session_lives v) (Some v.client) None

abbrev pub has_cached : Option Session → ℕ → Bool
has_cached None page = false
has_cached (Some v) page = session_lives v && has v.pages page

-- the place of x in its invalid set
abbrev pub invalid_place : Base → List Entry → ℕ → Option Session → Oref → Option ℕ
invalid_place b H s None x = None
invalid_place b H s (Some v) x = invalid b H s v x

-- the messages that were sent to it and that its client hasn't taken
abbrev pub waiting_for : Option Session → List Notice
waiting_for None = []
waiting_for (Some v) = cond (session_lives v) (waiting v) []

-- the client of one that was given up and hasn't ended
abbrev pub retired_at : Stage → ℕ → Option ℕ
retired_at Live client = None
retired_at Retired client = Some client
retired_at Ended client = None

abbrev pub retired_client_of : Option Session → Option ℕ
retired_client_of None = None
retired_client_of (Some v) = retired_at v.stage v.client

-- the places of the news that its client hasn't acknowledged, in order
abbrev pub news_places : Session → List ℕ
news_places v = map place_of (filter (λ m. is_news m && nat_le v.acked (place_of m)) v.sent)

abbrev pub unanswered_by : Option Session → List ℕ
unanswered_by None = []
unanswered_by (Some v) = cond (session_lives v) (news_places v) []

-- A live session's client has taken messages that it was sent, and acknowledges no place that isn't there,
-- where its repository has n entries.
pub record IsWithin (v : Session) (n : ℕ) : Type 0 where
  pub taken : v.taken ≤ length v.sent
  pub acked : v.acked ≤ n

-- ---- what is kept

-- What is kept of the session s says what a trace says of it.
pub record SessionAgrees (b : Base) (H : List Entry) (K : Kept) (s : ℕ) (o : Option Session) : Type 0 where
  pub client : get K.clients s ≡ client_of o
  pub retired : get K.retired s ≡ retired_client_of o
  pub notes : places_of K.sets.noted s ≡ unanswered_by o
  pub pages : (page : ℕ) → has_page K.sets s page ≡ has_cached o page
  pub invalid : (x : Oref) → place_in K.sets s x ≡ invalid_place b H s o x
  pub waits : map notice_of (outbox.waiting K.waiting s) ≡ waiting_for o
  pub within : IfSome o (λ v. session_lives v ≡ true → IsWithin v (length H))

-- The maps stand in the order of their keys.
pub record AreInOrder (K : Kept) : Type 0 where
  pub clients : IsSorted K.clients
  pub retired : IsSorted K.retired
  pub waiting : IsSorted K.waiting
  pub sets : IsOrdered K.sets.invalid
  pub noted : IsSorted K.sets.noted

-- What is kept of the sessions says what the trace says of them, where each is given up whose client leaves more news
-- unacknowledged than it may.
pub record SessionsAgree (b : Base) (T : List Item) (K : Kept) : Type 0 where
  pub silence : b.silence ≡ Some most_noted
  -- the number of the session that began last, and no session has a greater one
  pub last : K.last ≡ last_session T
  pub unused : (s : ℕ) → K.last < s → session b T s ≡ None
  pub each : (s : ℕ) → SessionAgrees b (entries T) K s (session b T s)
  -- a client has one session at most that hasn't ended
  pub live : (c s : ℕ) → (get K.live c ≡ Some s) ↔ ((get K.clients s ≡ Some c) ⊎ (get K.retired s ≡ Some c))
  -- each that has more news than it may was given up
  pub heard : (s : ℕ) → is_silent K.sets.noted s ≡ false
  -- a session that has a page has an invalid set
  pub opened : (s page : ℕ) → has_page K.sets s page ≡ true → has K.sets.invalid s ≡ true
  pub order : AreInOrder K
