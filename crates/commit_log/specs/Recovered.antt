-- What the logs of a repository stand for: the state of the checkpoint, with what each record says put
-- behind it. (That a log of redo records and a buffer of modified objects stand for a store is Thor's:
-- Ghemawat, 1995; the records are this project's.)
use Rattle.std.specs.BTreeMap.{insert_entry, is_at}
use Rattle.std.specs.List.{filter, fold, list_all}
use Rattle.std.specs.Map.{keys_of, lookup, values_of}
use Rattle.std.specs.Option.{is_some, option_and_then}
use Rattle.std.specs.Ordering.{nat_cmp}
use Rattle.std.specs.Prelude.{Bool, Err, List, None, Ok, Option, Result, Some, [], cond, false, map, max, nat_eq, nat_lt, not, true, ◌&&◌, ◌++◌, ◌+◌, ◌^◌, ◌∷◌, ℕ}
use Rattle.thor_value.specs.Names.{later_of, same_oref, same_ts, ts_cmp}
use Rattle.thor_value.specs.declared.names.Oref.{Oref}
use Rattle.thor_value.specs.declared.names.Ts.{Ts}
use Rattle.thor_value.specs.declared.values.Obj.{Obj}
use Rattle.log_entries.specs.declared.entry.Entry.TheVariants.{Decided, Finished, Life, One, Prepared, Upgraded}
use Rattle.log_entries.specs.declared.entry.Entry.{Entry}
use Rattle.log_entries.specs.declared.request.Kind.TheVariants.{App, Transform, Upgrade}
use Rattle.log_entries.specs.declared.request.Kind.{Kind}
use Rattle.log_entries.specs.declared.request.Request.{Request}
use Rattle.log_frame.specs.Log.{Opened, read_log}
use Rattle.page_format.specs.declared.format.StoreFormat.{StoreFormat}
use Rattle.log_codec.specs.Checkpoint.{state_format}
use Rattle.log_codec.specs.Format.{value_of}
use Rattle.log_codec.specs.Grammar.{body_format}
use Rattle.log_codec.specs.declared.body.Body.TheVariants.{Entry as AnEntry, Installed}
use Rattle.log_codec.specs.declared.body.Body.{Body}
use Rattle.log_codec.specs.declared.state.State.{State}

-- ---- the objects

-- the buffer with an object under its name: in the place of the one before, or behind the last
abbrev pub buffered : List (Oref × Obj) → Oref × Obj → List (Oref × Obj)
buffered [] w = w ∷ []
buffered (v ∷ vs) w = cond (same_oref v.0 w.0) (w ∷ vs) (v ∷ buffered vs w)

-- the page behind that of a written object, where it is above n
abbrev pub page_above : ℕ → Oref × Obj → ℕ
page_above n w = max n (w.0.page + 1)

-- a buffered object is of another page
abbrev pub is_off : ℕ → Oref × Obj → Bool
is_off page w = not (nat_eq w.0.page page)

-- ---- transactions

-- the prepared requests with one more
abbrev pub opened_with : List Request → Request → List Request
opened_with qs q = values_of (insert_entry ts_cmp (map (λ p. (p.tx, p)) qs) q.tx q)

-- and without that of a transaction
abbrev pub opened_without : List Request → Ts → List Request
opened_without qs t = filter (λ q. not (same_ts t q.tx)) qs

-- the prepared request of a transaction
abbrev pub request_at : List Request → Ts → Option Request
request_at qs t = lookup (is_at (ts_cmp t)) (map (λ q. (q.tx, q)) qs)

-- the kept decisions without that on a transaction
abbrev pub kept_without : List Ts → Ts → List Ts
kept_without ts t = filter (λ u. not (same_ts t u)) ts

-- and with one more
abbrev pub kept_with : List Ts → Ts → List Ts
kept_with ts t = keys_of (insert_entry ts_cmp (map (λ u. (u, tt {0})) ts) t (tt {0}))

-- the threshold and the texts behind a commit: an upgrade is a fence for every transaction
abbrev pub threshold_after : Ts → Kind → Ts → Ts
threshold_after threshold App t = later_of threshold t
threshold_after threshold Transform t = later_of threshold t
threshold_after threshold (Upgrade text) t = t

abbrev pub texts_after : List (List ℕ) → Kind → List (List ℕ)
texts_after texts App = texts
texts_after texts Transform = texts
texts_after texts (Upgrade text) = texts ++ text ∷ []

-- the pages that a request writes are below the next page
abbrev pub with_pages : State → Request → State
with_pages s q = record s { next_page = fold page_above s.next_page q.writes }

-- a request's transaction commits
abbrev pub committed : State → Request → State
committed s q = record s {
  mob = fold buffered s.mob q.writes;
  threshold = threshold_after s.threshold q.kind q.tx;
  upgrades = texts_after s.upgrades q.kind;
}

-- and is its client's last one that committed here alone
abbrev pub committed_alone : State → Request → State
committed_alone s q = record (committed (with_pages s q) q) { alone = insert_entry nat_cmp s.alone q.who.client q.tx }

-- a prepared transaction is decided
abbrev pub decided : State → Bool → Option Request → State
decided s commit None = s
decided s false (Some q) = s
decided s true (Some q) = committed s q

abbrev pub closed : State → Ts → Bool → State
closed s t commit = record (decided s commit (request_at s.prepared t)) { prepared = opened_without s.prepared t }

abbrev pub kept_by : State → Ts → Bool → State
kept_by s t true = record s { kept = kept_with s.kept t }
kept_by s t false = s

-- ---- records

-- What an entry does to a state, its count aside. A transaction that is prepared is undecided: no decision on it is kept
-- any more.
abbrev pub changed : State → Entry → State
changed s (Life n) = record s { life = n; prepared = filter (λ q. not (nat_eq q.tx.repo s.repo)) s.prepared }
changed s (One q) = committed_alone s q
changed s (Upgraded q) = committed_alone s q
changed s (Prepared q) = record (with_pages s q) { prepared = opened_with s.prepared q; kept = kept_without s.kept q.tx }
changed s (Decided t commit) = kept_by (closed s t commit) t commit
changed s (Finished t commit) = closed s t commit

-- The state behind a record. An entry is counted; that a side of a page is in use is none.
abbrev pub after : State → Body → State
after s (AnEntry e) = record (changed s e) { count = s.count + 1 }
after s (Installed page side) = record s { installed = insert_entry nat_cmp s.installed page side; mob = filter (is_off page) s.mob }

-- ---- what a repository's own log has

-- all names are of one repository
abbrev pub are_of : ℕ → List (Oref × Obj) → Bool
are_of repo writes = list_all (λ w. nat_eq w.0.repo repo) writes

-- what an entry writes is of one repository
abbrev pub is_of : ℕ → Entry → Bool
is_of repo (Life n) = true
is_of repo (One q) = are_of repo q.writes
is_of repo (Prepared q) = are_of repo q.writes
is_of repo (Decided t commit) = true
is_of repo (Finished t commit) = true
is_of repo (Upgraded q) = are_of repo q.writes

-- a record can come next: what it writes is of the repository
abbrev pub can_follow : State → Body → Bool
can_follow s (AnEntry e) = is_of s.repo e
can_follow s (Installed page side) = true

-- all names of a state are of its repository, and no transaction is both prepared and decided
abbrev pub is_whole : State → Bool
is_whole s = are_of s.repo s.mob && list_all (λ q. are_of s.repo q.writes) s.prepared && list_all (λ t. not (is_some (request_at s.prepared t))) s.kept

-- ---- formats

-- a state with this format in the place of its own: the same objects are said to lie on pages of this format
abbrev pub in_format : StoreFormat → State → State
in_format format s = record s { format = format }

-- ---- logs

-- the state behind a record, where it can come next
abbrev pub next : State → Body → Option State
next s body = cond (can_follow s body) (Some (after s body)) None

-- the state behind one record more; none where the record's body is none of the format, or can't come next
abbrev pub after_body : Option State → List ℕ → Option State
after_body before body = option_and_then (λ s. option_and_then (next s) (value_of body_format body)) before

-- a state that a log can begin with
abbrev pub whole : State → Option State
whole s = cond (is_whole s) (Some s) None

-- the end of the sequences that a log can have
abbrev pub sequence_end : ℕ
sequence_end = 2 ^ 62

-- the state of a log's checkpoint and its records
unfoldable pub replayed : List ℕ → List (List ℕ) → Option State
replayed head bodies = fold after_body (option_and_then whole (value_of state_format head)) bodies

-- what an open log stands for
abbrev pub state_in : Opened → Option State
state_in opened = cond (nat_lt opened.sequence sequence_end) (replayed opened.head opened.bodies) None

-- of two logs that one counts whose sequence is greater, the first where they are equal
abbrev pub counts : Opened → Opened → Opened
counts a b = cond (nat_lt a.sequence b.sequence) b a

-- the log that counts; none where neither is open or one is damaged
abbrev pub chosen : Option (Result Opened ℕ) → Option (Result Opened ℕ) → Option Opened
chosen (Some (Ok a)) (Some (Ok b)) = Some (counts a b)
chosen (Some (Ok a)) (Some (Err p)) = None
chosen (Some (Ok a)) None = Some a
chosen (Some (Err p)) other = None
chosen None (Some (Ok b)) = Some b
chosen None (Some (Err p)) = None
chosen None None = None

-- of the disks of a repository, by their number, the log that counts: 0 and 1 have logs
abbrev pub log_in : (ℕ → List ℕ) → Option Opened
log_in images = chosen (read_log (images 0)) (read_log (images 1))

-- the state for which they stand
abbrev pub stands : (ℕ → List ℕ) → Option State
stands images = option_and_then state_in (log_in images)
