-- The transactions against which a request is validated: a second fold over the entries, kept apart
-- from the state since it alone knows how many of them a repository remembers. (The validation queue
-- of Adya and others, SIGMOD 1995; the limit, and the threshold that stands for what was forgotten,
-- are this project's.)
use Rattle.log_entries.specs.declared.entry.Entry.TheVariants.{Decided, Finished, Life, One, Prepared, Upgraded}
use Rattle.log_entries.specs.declared.entry.Entry.{Entry}
use Rattle.log_entries.specs.declared.request.Request.{Request}
use Rattle.spec_history.specs.History.{Aborted, Base, Committed, Fate, Open, Known, State, is_undecided, put, known_in, start}
use Rattle.spec_history.specs.Requests.{is_upgrade}
use Rattle.std.specs.Prelude.{Bool, List, None, Option, Some, [], cond, false, nat_le, true, ◌∷◌}
use Rattle.thor_value.specs.FiniteMap.{Map, empty, insert, keep, len, remove}
use Rattle.thor_value.specs.Names.{later_of, ts_cmp}
use Rattle.thor_value.specs.declared.names.Ts.{Ts}
use Rattle.validation_queue.specs.Contents.{room_for}

-- a transaction in the window, and whether it has committed
pub record Member : Type 0 where
  pub decided : Bool
  pub request : Request

-- What a repository remembers of the transactions whose requests it has: the undecided ones and some
-- that committed. The others that committed aren't above the threshold.
pub record Window : Type 0 where
  pub threshold : Ts
  pub members : Map ts_cmp Member

abbrev pub first_decided : List (Ts × Member) → Option Ts
first_decided [] = None
first_decided (e ∷ es) = cond e.1.decided (Some e.0) (first_decided es)

abbrev pub without : Window → Option Ts → Window
without W None = W
without W (Some t) = record { threshold = later_of W.threshold t; members = remove W.members t }

-- The window with room for one more. Where it is full, the decided member with the least timestamp
-- leaves, and the threshold rises to it.
abbrev pub with_room : Window → Window
with_room W = without W (cond (nat_le room_for (len W.members)) (first_decided W.members.pairs) None)

-- the request q comes in
abbrev pub enter : Window → Request → Bool → Window
enter W q decided = let V = with_room W in record { threshold = V.threshold; members = insert V.members q.tx (record { decided = decided; request = q }) }

-- an upgrade commits: every transaction that committed before is below it
abbrev pub cleared : Ts → Window
cleared t = record { threshold = t; members = empty }

-- t, whose request is q, commits
abbrev pub decide : Window → Ts → Request → Window
decide W t q = cond (is_upgrade q) (cleared t) (record { threshold = W.threshold; members = insert W.members t (record { decided = true; request = q }) })

-- t is aborted
abbrev pub leave : Window → Ts → Window
leave W t = record { threshold = W.threshold; members = remove W.members t }

abbrev pub close_by : Window → Ts → Bool → Known → Fate → Window
close_by W t c o Open = cond c (decide W t o.request) (leave W t)
close_by W t c o (Committed at) = W
close_by W t c o Aborted = W

-- t, which stands so, is decided
abbrev pub close : Window → Ts → Bool → Option Known → Window
close W t c None = W
close W t c (Some o) = close_by W t c o o.fate

-- a restart: the members stay of which the test holds, and the others that committed aren't above top
abbrev pub restarted : Ts → Window → (Ts → Bool) → Window
restarted top W test = record { threshold = top; members = keep W.members test }

-- the window behind one more entry, where S is the state before it
abbrev pub slide : Base → State → Window → Entry → Window
slide b S W (Life n) = restarted S.top W (λ t. is_undecided (known_in b (put b S (Life n)) t))
slide b S W (One q) = enter W q true
slide b S W (Prepared q) = enter W q false
slide b S W (Decided t c) = close W t c (known_in b S t)
slide b S W (Finished t c) = close W t c (known_in b S t)
slide b S W (Upgraded q) = cleared q.tx

abbrev pub window_from : Base → State → Window → List Entry → Window
window_from b S W [] = W
window_from b S W (e ∷ es) = window_from b (put b S e) (slide b S W e) es

-- the window behind all entries
abbrev pub window : Base → List Entry → Window
window b H = window_from b (start b) (record { threshold = b.top; members = empty }) H
