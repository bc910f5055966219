-- What each entry of a history owes to the entries before it. It is said once, of the state at the
-- entry's place, and no later entry changes it: nothing is proved anew when a transaction commits,
-- aborts or is recovered.
use Rattle.log_entries.specs.RequestForm.{IsWellFormed}
use Rattle.log_entries.specs.declared.entry.Entry.TheVariants.{Life, One, Prepared, Decided, Finished, Upgraded}
use Rattle.log_entries.specs.declared.entry.Entry.{Entry}
use Rattle.log_entries.specs.declared.request.Request.{Request}
use Rattle.spec_history.specs.History.{Base, IsCommitted, Lives, Known, State, epoch_of, is_undecided, put, known_by, known_in, start, state, undecided_in}
use Rattle.spec_history.specs.Participants.{HasParticipants, IsAlone, IsBareUpgrade, IsShared}
use Rattle.spec_history.specs.Requests.{bars, has_created, has_read, has_written, is_upgrade, overwrites}
use Rattle.std.specs.List.{AllByRecursion}
use Rattle.std.specs.Option.{IfSome, IsSomeAnd}
use Rattle.std.specs.Prelude.{◌≡◌, ◌≢◌, ◌⊎◌, Bool, IsTrue, true, false, List, [], ◌∷◌, ◌<◌, ◌+◌, None, Some, take}
use Rattle.thor_value.specs.FiniteMap.{get, len}
use Rattle.thor_value.specs.Names.{Before}
use Rattle.thor_value.specs.declared.names.Oref.{Oref}
use Rattle.thor_value.specs.declared.names.Ts.{Ts}
use Rattle.validation_queue.specs.Contents.{room_for}

-- That q can come behind t, which stands as o. Where q read what t wrote, or one of them is an
-- upgrade, t has committed and is before q. Where q wrote what t read, t is before q. (Backward
-- validation in timestamp order: Adya and others, SIGMOD 1995. Writers read what they write, so two
-- writers of one object meet too.)
abbrev pub Accepts : Request → Ts → Known → Type 0
Accepts q t o = Lives o.fate → (IsTrue (bars q o.request) → IsCommitted o.fate × Before t q.tx) × (IsTrue (overwrites q o.request) → Before t q.tx)

-- What a request q owes to the state S of its repository by itself, the table and the sessions alone: each point is one that a
-- repository can test, behind its verdict and before it writes.
pub record Vouches (b : Base) (S : State) (q : Request) : Type 0 where
  pub formed : IsWellFormed q
  -- it comes behind the Life of the opening
  pub begun : 0 < S.length
  -- it comes once in this run, and its transaction isn't one that an earlier run left prepared
  pub once : known_in b S q.tx ≡ None
  pub unleft : get b.left q.tx ≡ None
  -- where this repository coordinates it, it is a transaction of the present life
  pub alive : q.tx.repo ≡ b.repo → q.tx.life ≡ S.life
  pub participants : HasParticipants b q
  -- it read what it wrote
  pub within : (x : Oref) → IsTrue (has_written q x) → IsTrue (has_read q x)
  -- it speaks of this repository's objects
  pub here : (x : Oref) → IsTrue (has_read q x) → x.repo ≡ b.repo
  -- what it wrote has its epoch as version
  pub versions : AllByRecursion (λ w. w.1.ver ≡ q.epoch) q.writes
  pub upgrades : IsTrue (is_upgrade q) → IsBareUpgrade b q

-- Each name that q gave to an object which it created and wrote is new in the state S: nothing is there, and no transaction has
-- written it. No repository can test that: where a disk of pages doesn't tell what it holds, a page may have named an object
-- that wasn't created yet.
pub record CreatesNew (b : Base) (S : State) (q : Request) : Type 0 where
  pub unused : IsTrue b.tells → (x : Oref) → IsTrue (has_created q x) → IsTrue (has_written q x) → get S.objects x ≡ None
  pub unwritten : IsTrue b.tells → (x : Oref) → IsTrue (has_created q x) → IsTrue (has_written q x) → (t : Ts) → IfSome (known_in b S t) (λ o. has_written o.request x ≡ false)

-- What a request q owes to the state S that it meets.
pub record Admits (b : Base) (S : State) (q : Request) : Type 0 where
  -- what it owes by itself
  pub vouched : Vouches b S q
  -- its client has seen the upgrades that are installed, and no others
  pub current : q.epoch ≡ epoch_of S
  -- it is above all that committed in earlier runs
  pub above : Before b.top q.tx
  -- it can come behind each transaction that is here
  pub accepted : (t : Ts) → IfSome (known_in b S t) (Accepts q t)
  -- a queue of the undecided ones has room for it
  pub room : len (undecided_in b S) < room_for

-- t is one that an earlier run left prepared, it has still to be settled, and it is so, behind the Life of
-- the opening
abbrev pub IsLeftSo : State → Ts → Bool → Type 0
IsLeftSo S t c = (0 < S.length) × IsSomeAnd (get S.left t) (λ l. l.commits ≡ c)

-- What an entry owes to the state at its place. The first entry is a Life, since every other one comes
-- behind a Life; and each Life is one above the last.
abbrev pub owes : Base → State → Entry → Type 0
owes b S (Life n) = n ≡ S.life + 1
owes b S (One q) = Admits b S q × IsAlone b q × (is_upgrade q ≡ false)
owes b S (Prepared q) = Admits b S q × IsShared q
owes b S (Decided t c) = IsTrue (is_undecided (known_in b S t)) × (t.repo ≡ b.repo)
owes b S (Finished t c) = (IsTrue (is_undecided (known_in b S t)) × (t.repo ≢ b.repo)) ⊎ IsLeftSo S t c
owes b S (Upgraded q) = Admits b S q × IsAlone b q × (is_upgrade q ≡ true)

-- each of the entries owes what it owes to the state at its place, the first to S
abbrev pub kept_by : Base → State → List Entry → Type 0
kept_by b S [] = Unit {0}
kept_by b S (e ∷ es) = owes b S e × kept_by b (put b S e) es

-- Each entry of the history owes what it owes to those before it.
abbrev pub sound : Base → List Entry → Type 0
sound b H = kept_by b (start b) H

-- Each transaction of the history gave new names at its place.
abbrev pub each_creates_new : Base → List Entry → Type 0
each_creates_new b H = (t : Ts) (o : Known) → known_by b H t ≡ Some o → CreatesNew b (state b (take o.place H)) o.request
