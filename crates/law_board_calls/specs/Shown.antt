-- What the items of a trace show: of sessions whose they are, of transactions what became of them here.
-- All of it is read off the items alone.
use Rattle.log_entries.specs.declared.entry.Entry.TheVariants.{Decided, Finished, Life, One, Prepared, Upgraded}
use Rattle.log_entries.specs.declared.request.Request.{Request}
use Rattle.spec_trace.specs.Trace.{E, Item, M}
use Rattle.spec_trace.specs.declared.mark.Mark.TheVariants as the
use Rattle.std.specs.List.{fold}
use Rattle.std.specs.Option.{option_and_then, option_or}
use Rattle.std.specs.Prelude.{Bool, List, None, Option, Some, cond, false, nat_eq, not, ℕ, ◌&&◌, ◌||◌, ◌≡◌}
use Rattle.thor_value.specs.Names.{same_ts}
use Rattle.thor_value.specs.declared.names.Ts.{Ts}

-- ---- sessions

-- the client that connects under this number at the item
abbrev pub connects : ℕ → Item → Option ℕ
connects s (M (the.Connected n client)) = cond (nat_eq n s) (Some client) None
connects s (M m) = None
connects s (E e) = None

-- the client that connected last under this number
abbrev pub client_of : ℕ → List Item → Option ℕ
client_of s T = fold (λ known i. option_or (connects s i) known) None T

-- ---- transactions

-- the request of t that the item prepares
abbrev pub prepares : Ts → Item → Option Request
prepares t (E (Prepared q)) = cond (same_ts q.tx t) (Some q) None
prepares t (E e) = None
prepares t (M m) = None

-- the last request of t that was prepared here
abbrev pub prepared : Ts → List Item → Option Request
prepared t T = fold (λ known i. option_or (prepares t i) known) None T

-- whether t is drawn at the item
abbrev pub draws : Ts → Item → Bool
draws t (M (the.Drew s u)) = same_ts u t
draws t (M m) = false
draws t (E e) = false

-- whether t is decided so at the item, its coordinator's
abbrev pub decides : Ts → Bool → Item → Bool
decides t commit (E (Decided u c)) = same_ts u t && cond commit c (not c)
decides t commit (E e) = false
decides t commit (M m) = false

-- whether t is finished with commit at the item
abbrev pub finishes : Ts → Item → Bool
finishes t (E (Finished u c)) = same_ts u t && c
finishes t (E e) = false
finishes t (M m) = false

-- whether t's decision to commit is forgotten at the item
abbrev pub forgets : Ts → Item → Bool
forgets t (M (the.Forgot u)) = same_ts u t
forgets t (M m) = false
forgets t (E e) = false

-- whether t is prepared and undecided behind one more item
abbrev pub open_after : Ts → Bool → Item → Bool
open_after t now (E (Prepared q)) = now || same_ts q.tx t
open_after t now (E (Decided u c)) = now && not (same_ts u t)
open_after t now (E (Life n)) = false
open_after t now (E e) = now
open_after t now (M m) = now

abbrev pub is_open : Ts → List Item → Bool
is_open t T = fold (open_after t) false T

-- ---- items

-- The client that the item shows, behind the trace T: the one whose session it names, or whose session
-- prepared what it decides. A Life, and what is learned or forgotten of a decision, show none.
abbrev pub shows : List Item → Item → Option ℕ
shows T (E (Life n)) = None
shows T (E (One q)) = client_of q.session T
shows T (E (Prepared q)) = client_of q.session T
shows T (E (Decided t c)) = option_and_then (λ q. client_of q.session T) (prepared t T)
shows T (E (Finished t c)) = None
shows T (E (Upgraded q)) = client_of q.session T
shows T (M (the.Connected s client)) = Some client
shows T (M (the.Fetched s page upto)) = client_of s T
shows T (M (the.Granted s page)) = client_of s T
shows T (M (the.Took s place)) = client_of s T
shows T (M (the.Drew s t)) = client_of s T
shows T (M (the.Forgot t)) = None
shows T (M (the.Refused s q r)) = client_of s T

-- The item needs no call behind the trace T: a Life, and what an opening settles of an earlier run, whose
-- request this trace doesn't have
abbrev pub NeedsNoCall : List Item → Item → Type 0
NeedsNoCall T (E (Life n)) = Unit {0}
NeedsNoCall T (E (One q)) = ⊥
NeedsNoCall T (E (Prepared q)) = ⊥
NeedsNoCall T (E (Decided t c)) = ⊥
NeedsNoCall T (E (Finished t c)) = prepared t T ≡ None
NeedsNoCall T (E (Upgraded q)) = ⊥
NeedsNoCall T (M m) = ⊥
