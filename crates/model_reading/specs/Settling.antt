-- What a decision settles: the request of an undecided transaction, and what becomes of it. Each is what the definitions of
-- histories, windows and sessions say of the transaction as it stands.
use Rattle.log_entries.specs.declared.entry.Entry.TheVariants.{Decided, Finished, Life, One, Prepared, Upgraded}
use Rattle.log_entries.specs.declared.entry.Entry.{Entry}
use Rattle.log_entries.specs.declared.request.Request.{Request}
use Rattle.spec_history.specs.History.{Aborted, Base, Known, Open, State, commit, is_open, is_undecided, known_in, put}
use Rattle.spec_trace.specs.Session.{Ended, Grant, Live, Notice, Page, Session, acked_after, acked_by, begun, cache, lives_on, push, request_in, rested, session_lives, taken_after, told}
use Rattle.spec_trace.specs.Trace.{E, M}
use Rattle.spec_trace.specs.declared.mark.Mark.TheVariants as the
use Rattle.spec_trace.specs.declared.mark.Mark.{Mark}
use Rattle.std.specs.Option.{option_map}
use Rattle.std.specs.Ordering.{nat_cmp}
use Rattle.std.specs.Prelude.{Bool, List, None, Option, Some, [], cond, false, is_some, nat_eq, not, true, ℕ, ◌&&◌, ◌+◌, ◌∷◌}
use Rattle.thor_value.specs.FiniteMap.{Map, add, insert, keep}
use Rattle.thor_value.specs.Names.{same_ts}
use Rattle.thor_value.specs.declared.names.Ts.{Ts}
use Rattle.repo_refusals.specs.Window.{Window, cleared, decide, enter, leave, restarted}

-- the place and the request of a transaction that stands so, where it is undecided
abbrev pub open_of : Option Known → Option (ℕ × Request)
open_of None = None
open_of (Some o) = cond (is_open o.fate) (Some (o.place, o.request)) None

-- those of the transaction that an entry decides, where it is undecided
abbrev pub found_by : Base → State → Entry → Option (ℕ × Request)
found_by b S (Life n) = None
found_by b S (One q) = None
found_by b S (Prepared q) = None
found_by b S (Decided t c) = open_of (known_in b S t)
found_by b S (Finished t c) = open_of (known_in b S t)
found_by b S (Upgraded q) = None

-- ---- the state

abbrev pub aborted : State → Ts → ℕ × Request → State
aborted S t x = record S { known = insert S.known t (record { place = x.0; request = x.1; fate = Aborted }) }

abbrev pub settled : State → Ts → Bool → Option (ℕ × Request) → State
settled S t c None = S
settled S t c (Some x) = cond c (commit S t x.0 x.1) (aborted S t x)

-- what an entry changes that decides this
abbrev pub changed : State → Entry → Option (ℕ × Request) → State
changed S (Life n) x = record S { life = n; last_life = S.length }
changed S (Prepared q) x = record S { known = insert S.known q.tx (record { place = S.length; request = q; fate = Open }) }
changed S (One q) x = record (commit S q.tx S.length q) { alone = insert S.alone q.who.client q.tx }
changed S (Upgraded q) x = record (commit S q.tx S.length q) { alone = insert S.alone q.who.client q.tx }
changed S (Decided t c) x = record (settled S t c x) { kept = cond (c && is_some x) (add S.kept t) S.kept }
changed S (Finished t c) x = record (settled S t c x) { left = keep S.left (λ u. not (same_ts u t)) }

abbrev pub put_with : State → Entry → Option (ℕ × Request) → State
put_with S e x = record (changed S e x) { length = S.length + 1 }

-- ---- the window

abbrev pub closed : Window → Ts → Bool → Option (ℕ × Request) → Window
closed W t c None = W
closed W t c (Some x) = cond c (decide W t x.1) (leave W t)

abbrev pub slid_with : Base → State → Window → Entry → Option (ℕ × Request) → Window
slid_with b S W (Life n) x = restarted S.top W (λ t. is_undecided (known_in b (put b S (Life n)) t))
slid_with b S W (One q) x = enter W q true
slid_with b S W (Prepared q) x = enter W q false
slid_with b S W (Decided t c) x = closed W t c x
slid_with b S W (Finished t c) x = closed W t c x
slid_with b S W (Upgraded q) x = cleared q.tx

-- ---- commits

abbrev pub request_of : Bool → Option (ℕ × Request) → Option Request
request_of c None = None
request_of c (Some x) = cond c (Some x.1) None

-- the request of the commit that an entry is
abbrev pub committed_by : Entry → Option (ℕ × Request) → Option Request
committed_by (Life n) x = None
committed_by (Prepared q) x = None
committed_by (One q) x = Some q
committed_by (Upgraded q) x = Some q
committed_by (Decided t c) x = request_of c x
committed_by (Finished t c) x = request_of c x

-- the commit at a place, where there is one
abbrev pub commit_at : ℕ → Option Request → List (ℕ × Request)
commit_at n None = []
commit_at n (Some q) = (n, q) ∷ []

-- what the session s is told of it
abbrev pub told_with : ℕ → State → Map nat_cmp ℕ → Option Request → Option Notice
told_with s S pages None = None
told_with s S pages (Some q) = told s S pages q

-- the live session s behind an entry
abbrev pub passed : ℕ → State → Session → Entry → Option (ℕ × Request) → Session
passed s S v e x = record {
  client = v.client;
  stage = cond (lives_on v.client (E e)) Live Ended;
  began = v.began;
  pages = v.pages;
  acked = acked_by s v.acked (request_in e);
  sent = push v.sent (told_with s S v.pages (committed_by e x));
  taken = v.taken;
}

abbrev pub met_with : ℕ → State → Entry → Option (ℕ × Request) → Session → Session
met_with s S e x v = cond (session_lives v) (passed s S v e x) (rested v (E e))

-- ---- marks, at the place k

abbrev pub cached_with : ℕ → ℕ → Map nat_cmp ℕ → Mark → Map nat_cmp ℕ
cached_with s k pages (the.Fetched n page upto) = cond (nat_eq n s) (cache pages page k) pages
cached_with s k pages (the.Granted n page) = cond (nat_eq n s) (cache pages page k) pages
cached_with s k pages m = pages

abbrev pub sent_with : ℕ → ℕ → Mark → Option Notice
sent_with s k (the.Fetched n page upto) = cond (nat_eq n s) (Some (Page page k)) None
sent_with s k (the.Granted n page) = cond (nat_eq n s) (Some (Grant page k)) None
sent_with s k m = None

-- the live session s behind a mark
abbrev pub marked : ℕ → ℕ → Session → Mark → Session
marked s k v m = record {
  client = v.client;
  stage = cond (lives_on v.client (M m)) Live Ended;
  began = v.began;
  pages = cached_with s k v.pages m;
  acked = acked_after s v.acked (M m);
  sent = push v.sent (sent_with s k m);
  taken = taken_after s v.taken (M m);
}

abbrev pub noted_with : ℕ → ℕ → Mark → Session → Session
noted_with s k m v = cond (session_lives v) (marked s k v m) (rested v (M m))

abbrev pub met_mark : ℕ → ℕ → Option Session → Mark → Option Session
met_mark s k v (the.Connected n c) = cond (nat_eq n s) (Some (begun c k)) (option_map (noted_with s k (the.Connected n c)) v)
met_mark s k v m = option_map (noted_with s k m) v
