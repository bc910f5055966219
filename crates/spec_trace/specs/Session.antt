-- The sessions of a repository with its clients: a fold over the items of its trace, beside the state.
-- A session tells what a client may have cached, what it was sent, and how much of that it has
-- acknowledged. (Cached sets and invalid sets: Adya and others, SIGMOD 1995; invalidations that wait
-- for the client's next call: Liskov and others, SIGMOD 1996. Places, and the end of a silent session,
-- are this project's.)
use Rattle.log_entries.specs.declared.entry.Entry.TheVariants.{Decided, Finished, Life, One, Prepared, Upgraded}
use Rattle.log_entries.specs.declared.entry.Entry.{Entry}
use Rattle.log_entries.specs.declared.request.Request.{Request}
use Rattle.spec_history.specs.History.{Base, State, commit_of, epoch_of, is_life, put, start, writers}
use Rattle.spec_history.specs.Requests.{is_upgrade, written}
use Rattle.spec_trace.specs.Trace.{E, Item, M}
use Rattle.spec_trace.specs.declared.mark.Mark.TheVariants as the
use Rattle.std.specs.List.{filter, fold}
use Rattle.std.specs.Option.{option_and_then, option_map}
use Rattle.std.specs.Ordering.{nat_cmp}
use Rattle.std.specs.Prelude.{Bool, List, None, Option, Some, [], cond, count_by, drop, false, max, nat_eq, nat_le, nat_lt, take, true, ℕ, ◌&&◌, ◌+◌, ◌++◌, ◌∷◌}
use Rattle.thor_value.specs.FiniteMap.{Map, empty, get, has, insert, keys}
use Rattle.thor_value.specs.declared.names.Oref.{Oref}

-- A message, without its bytes: a page at a place is what the history made of it below that place, and
-- an upgrade's text is in its request.
pub data Notice : Type 0 where
  -- a page, and the place at which it was read
  Page : ℕ → ℕ → Notice
  -- a new page, and the place at which it was granted
  Grant : ℕ → ℕ → Notice
  -- objects that were written, and the place of the commit
  Invalid : List Oref → ℕ → Notice
  -- the number of an upgrade, and the place of its commit
  Upgrade : ℕ → ℕ → Notice

abbrev pub place_of : Notice → ℕ
place_of (Page page k) = k
place_of (Grant page k) = k
place_of (Invalid names k) = k
place_of (Upgrade number k) = k

-- The places below this one are known to a client that has taken the message.
abbrev pub bound : Notice → ℕ
bound (Page page k) = k
bound (Grant page k) = k
bound (Invalid names k) = k + 1
bound (Upgrade number k) = k + 1

-- whether the message is news of a commit, and not the answer to a call
abbrev pub is_news : Notice → Bool
is_news (Page page k) = false
is_news (Grant page k) = false
is_news (Invalid names k) = true
is_news (Upgrade number k) = true

-- How far the life of a session has come.
pub data Stage : Type 0 where
  -- its repository has it
  Live : Stage
  -- its repository has given it up, since its client left too much unacknowledged. Its client is told
  -- nothing more and may still decide what it had prepared
  Retired : Stage
  -- a Life has ended it, or its client, which connected anew
  Ended : Stage

abbrev pub is_live : Stage → Bool
is_live Live = true
is_live Retired = false
is_live Ended = false

abbrev pub is_ended : Stage → Bool
is_ended Live = false
is_ended Retired = false
is_ended Ended = true

pub record Session : Type 0 where
  pub client : ℕ
  pub stage : Stage
  -- how many entries there were when it began
  pub began : ℕ
  -- the pages that the client may have, each with the number of entries at its first fetch or grant
  pub pages : Map nat_cmp ℕ
  -- the places below this one are acknowledged: by the answered fetches and the accepted requests
  pub acked : ℕ
  -- the messages that were put into its outbox, in order, and how many of them the client has taken
  pub sent : List Notice
  pub taken : ℕ

-- whether its repository has the session
abbrev pub session_lives : Session → Bool
session_lives v = is_live v.stage

-- whether the session has ended, so that its client may decide nothing by it
abbrev pub session_ended : Session → Bool
session_ended v = is_ended v.stage

abbrev pub retired : Stage → Stage
retired Live = Retired
retired Retired = Retired
retired Ended = Ended

-- a new session of the client, at the place k
abbrev pub begun : ℕ → ℕ → Session
begun client k = record { client = client; stage = Live; began = k; pages = empty; acked = 0; sent = []; taken = 0 }

-- the request that an entry is, if it is one
abbrev pub request_in : Entry → Option Request
request_in (Life n) = None
request_in (One q) = Some q
request_in (Prepared q) = Some q
request_in (Decided t c) = None
request_in (Finished t c) = None
request_in (Upgraded q) = Some q

-- what a request of the session s acknowledges
abbrev pub acked_by : ℕ → ℕ → Option Request → ℕ
acked_by s acked None = acked
acked_by s acked (Some q) = cond (nat_eq q.session s) (max acked q.upto) acked

-- the invalidation of some objects, where there are any
abbrev pub invalid_of : List Oref → ℕ → Option Notice
invalid_of [] k = None
invalid_of (x ∷ xs) k = Some (Invalid (x ∷ xs) k)

-- What the session s is told of the commit of q: of an upgrade's, its number; of another session's,
-- the objects that were written on its pages.
abbrev pub told : ℕ → State → Map nat_cmp ℕ → Request → Option Notice
told s S pages q =
    cond (is_upgrade q) (Some (Upgrade (epoch_of S + 1) S.length))
    (cond (nat_eq q.session s) None (invalid_of (filter (λ x. has pages x.page) (keys (written q))) S.length))

-- an entry is one commit at most
abbrev pub told_of : ℕ → State → Map nat_cmp ℕ → List (ℕ × Request) → Option Notice
told_of s S pages [] = None
told_of s S pages (c ∷ cs) = told s S pages c.1

-- what the session s is sent at an item, where S is the state before it
abbrev pub notice : Base → ℕ → State → Map nat_cmp ℕ → Item → Option Notice
notice b s S pages (E e) = told_of s S pages (commit_of b S e)
notice b s S pages (M (the.Fetched n page upto)) = cond (nat_eq n s) (Some (Page page S.length)) None
notice b s S pages (M (the.Granted n page)) = cond (nat_eq n s) (Some (Grant page S.length)) None
notice b s S pages (M m) = None

abbrev pub push : List Notice → Option Notice → List Notice
push sent None = sent
push sent (Some m) = sent ++ m ∷ []

-- a page that the client may have from now on
abbrev pub cache : Map nat_cmp ℕ → ℕ → ℕ → Map nat_cmp ℕ
cache pages page k = cond (has pages page) pages (insert pages page k)

abbrev pub pages_after : ℕ → State → Map nat_cmp ℕ → Item → Map nat_cmp ℕ
pages_after s S pages (M (the.Fetched n page upto)) = cond (nat_eq n s) (cache pages page S.length) pages
pages_after s S pages (M (the.Granted n page)) = cond (nat_eq n s) (cache pages page S.length) pages
pages_after s S pages (M m) = pages
pages_after s S pages (E e) = pages

abbrev pub acked_after : ℕ → ℕ → Item → ℕ
acked_after s acked (E e) = acked_by s acked (request_in e)
acked_after s acked (M (the.Fetched n page upto)) = cond (nat_eq n s) (max acked upto) acked
acked_after s acked (M m) = acked

abbrev pub taken_after : ℕ → ℕ → Item → ℕ
taken_after s taken (M (the.Took n place)) = cond (nat_eq n s) (taken + 1) taken
taken_after s taken (M m) = taken
taken_after s taken (E e) = taken

-- whether a session hasn't ended behind the item, where it hadn't before: a Life ends each, and a client
-- that connects anew its old one
abbrev pub lives_on : ℕ → Item → Bool
lives_on client (E e) = cond (is_life e) false true
lives_on client (M (the.Connected n c)) = cond (nat_eq c client) false true
lives_on client (M m) = true

-- the live session s behind one more item
abbrev pub moved : Base → ℕ → State → Session → Item → Session
moved b s S v i = record {
  client = v.client;
  stage = cond (lives_on v.client i) Live Ended;
  began = v.began;
  pages = pages_after s S v.pages i;
  acked = acked_after s v.acked i;
  sent = push v.sent (notice b s S v.pages i);
  taken = taken_after s v.taken i;
}

-- how many news the client hasn't acknowledged
abbrev pub unanswered : Session → ℕ
unanswered v = count_by (λ m. is_news m && nat_le v.acked (place_of m)) v.sent

-- whether a session is given up, since its client leaves more than so many news unacknowledged; none
-- ever is where the base has no such number
abbrev pub is_silent : Option ℕ → Session → Bool
is_silent None v = false
is_silent (Some n) v = nat_lt n (unanswered v)

abbrev pub or_retired : Base → Session → Session
or_retired b v = cond (is_silent b.silence v) (record v { stage = retired v.stage }) v

-- a session that isn't live behind one more item: it may end, and nothing else changes
abbrev pub rested : Session → Item → Session
rested v i = record v { stage = cond (lives_on v.client i) v.stage Ended }

-- a session behind one more item
abbrev pub move : Base → ℕ → State → Item → Session → Session
move b s S i v = cond (session_lives v) (or_retired b (moved b s S v i)) (rested v i)

-- what is known of the session s behind one more item
abbrev pub meet : Base → ℕ → State → Option Session → Item → Option Session
meet b s S v (M (the.Connected n c)) = cond (nat_eq n s) (Some (begun c S.length)) (option_map (move b s S (M (the.Connected n c))) v)
meet b s S v (E e) = option_map (move b s S (E e)) v
meet b s S v (M m) = option_map (move b s S (M m)) v

-- the state behind one more item
abbrev pub pass : Base → State → Item → State
pass b S (E e) = put b S e
pass b S (M m) = S

abbrev pub session_from : Base → ℕ → State → Option Session → List Item → Option Session
session_from b s S v [] = v
session_from b s S v (i ∷ is) = session_from b s (pass b S i) (meet b s S v i) is

-- the session s behind all items of a trace, or None where no client has connected under that number
abbrev pub session : Base → List Item → ℕ → Option Session
session b T s = session_from b s (start b) None T

-- the messages that the client has taken, and those that wait for it
abbrev pub taken_of : Session → List Notice
taken_of v = take v.taken v.sent

abbrev pub waiting : Session → List Notice
waiting v = drop v.taken v.sent

-- The places below this one are known to the client: by the last message that it took, or by its
-- beginning.
abbrev pub upto_of : Session → ℕ
upto_of v = fold (λ n m. bound m) v.began (taken_of v)

-- the place of the last of some commits that isn't by the session s
abbrev pub last_other : ℕ → List (ℕ × Request) → Option ℕ
last_other s cs = fold (λ last c. cond (nat_eq c.1.session s) last (Some c.0)) None cs

-- k, where it isn't below the two places
abbrev pub not_below : ℕ → ℕ → ℕ → Option ℕ
not_below c a k = cond (nat_le c k && nat_le a k) (Some k) None

abbrev pub invalid_in : Session → Option ℕ → Option ℕ → Option ℕ
invalid_in v None last = None
invalid_in v (Some c) last = cond (session_lives v) (option_and_then (not_below c v.acked) last) None

-- The invalid set of a session: for each object on one of its pages that another session wrote since
-- the page was first there, where that isn't acknowledged, the place of the last such commit.
abbrev pub invalid : Base → List Entry → ℕ → Session → Oref → Option ℕ
invalid b H s v x = invalid_in v (get v.pages x.page) (last_other s (writers b H x))
