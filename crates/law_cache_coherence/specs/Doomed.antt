-- Transactions of a client's own that won't commit any more, unless the client commits them by a further call, and sessions
-- of whose transactions no other will. (That what is neither committed nor on its way there counts for nothing is presumed
-- abort, as by Mohan and others, 1986; that each growth and each call keeps it, by what a client sees, is this project's.)
use Rattle.log_entries.specs.declared.entry.Entry.TheVariants.{Decided, Finished, Life, One, Prepared, Upgraded}
use Rattle.log_entries.specs.declared.entry.Entry.{Entry}
use Rattle.client_port.specs.Acting as acting
use Rattle.client_port.specs.Acting.{Acts, Asked, Committed, Connected, Drew, Fetched, Forgot, Granted, Received, Rests}
use Rattle.spec_history.specs.History.{Base, IsCommitted, Known, Open, known_by}
use Rattle.client_port.specs.Views.{Calm, Halted, MayCome, Unsettled, View}
use Rattle.client_port.specs.Works.{alone_entry}
use Rattle.spec_trace.specs.Gaps.{client_in}
use Rattle.spec_trace.specs.Notices.{lives}
use Rattle.spec_trace.specs.Session.{session}
use Rattle.spec_trace.specs.Trace.{Item, entries}
use Rattle.std.specs.Prelude.{Bool, List, None, Option, Some, false, true, ℕ, ◌&&◌, ◌≡◌}
use Rattle.thor_value.specs.Names.{same_ts}
use Rattle.thor_value.specs.declared.names.Ts.{Ts}

-- ---- what calls ask for

-- whether the entry is a decision to commit t
abbrev pub decides : Ts → Entry → Bool
decides t (Life n) = false
decides t (One q) = false
decides t (Prepared q) = false
decides t (Decided u commit) = commit && same_ts u t
decides t (Finished u commit) = false
decides t (Upgraded q) = false

-- whether the entry prepares t, or is a decision to commit it. (What commits at its own entry is never undecided.)
abbrev pub concerns : Ts → Entry → Bool
concerns t (Life n) = false
concerns t (One q) = false
concerns t (Prepared q) = same_ts q.tx t
concerns t (Decided u commit) = commit && same_ts u t
concerns t (Finished u commit) = false
concerns t (Upgraded q) = false

-- the entry for which a call asks
abbrev pub entry_asked : (old new : View) → Acts old new → Option Entry
entry_asked old new (Rests same) = None
entry_asked old new (Connected r c result does) = None
entry_asked old new (Fetched r s page upto result does) = None
entry_asked old new (Granted r s result does) = None
entry_asked old new (Received r s result does) = None
entry_asked old new (Drew r s floor result does) = None
entry_asked old new (acting.Prepared r s q result does) = Some (Prepared q)
entry_asked old new (Committed r s q result does) = Some (alone_entry q)
entry_asked old new (acting.Decided r s t commit result does) = Some (Decided t commit)
entry_asked old new (acting.Finished r t commit result does) = Some (Finished t commit)
entry_asked old new (Forgot r t result does) = None
entry_asked old new (Asked r t result does) = None

-- the call isn't a decision to commit t
abbrev pub LeavesUndecided : (old new : View) → Acts old new → Ts → Type 0
LeavesUndecided old new a t = (e : Entry) → entry_asked old new a ≡ Some e → decides t e ≡ false

-- what the call prepares, and what it decides to commit, is one of these transactions
abbrev pub ActsWithin : (old new : View) → Acts old new → (Ts → Bool) → Type 0
ActsWithin old new a running = (e : Entry) (t : Ts) → entry_asked old new a ≡ Some e → concerns t e ≡ true → running t ≡ true

-- ---- transactions

-- no entry for which the test is true is on its way
abbrev pub NoneComes : (Entry → Bool) → Unsettled → Type 0
NoneComes such Calm = Unit {0}
NoneComes such (MayCome e) = such e ≡ false
NoneComes such Halted = Unit {0}

-- Of the repository that coordinates t, whose trace is T: t was prepared there by a session of the client c, hasn't
-- committed, and no decision to commit it is on its way.
pub record DoomedAt (c : ℕ) (b : Base) (u : Unsettled) (T : List Item) (t : Ts) : Type 0 where
  pub o : Known
  pub there : known_by b (entries T) t ≡ Some o
  pub own : client_in b T o.request.session ≡ Some c
  pub uncommitted : ¬ IsCommitted o.fate
  pub coming : NoneComes (decides t) u

-- The same by what a client sees through its port: its transaction t is doomed, unless it decides to commit it.
abbrev pub IsDoomed : View → Ts → Type 0
IsDoomed port t = DoomedAt port.opened.client (port.opened.base t.repo) (port.unsettled t.repo) (port.seen t.repo) t

-- ---- sessions

-- The session s of the repository r is the client's. While it is live and nothing is unsettled there, each transaction
-- that it prepared and that is undecided there is doomed, or is one of these.
pub record IsQuiet (port : View) (r s : ℕ) (running : Ts → Bool) : Type 0 where
  pub own : client_in (port.opened.base r) (port.seen r) s ≡ Some port.opened.client
  pub doomed : port.unsettled r ≡ Calm → lives (session (port.opened.base r) (port.seen r) s) ≡ true
      → (t : Ts) (o : Known) → known_by (port.opened.base r) (entries (port.seen r)) t ≡ Some o → o.fate ≡ Open → o.request.session ≡ s
      → running t ≡ false → IsDoomed port t
