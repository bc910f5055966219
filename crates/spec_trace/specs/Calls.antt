-- What a trace tells to calls: the numbers that are given next, who drew a timestamp, which decisions are
-- kept, and what a repository answers about a transaction and to a client that connects.
use Rattle.log_entries.specs.declared.entry.Entry.TheVariants.{Life}
use Rattle.spec_history.specs.History.{Base, State, epoch_of, is_undecided, known_by, start, state}
use Rattle.spec_trace.specs.Session.{pass}
use Rattle.spec_trace.specs.Trace.{E, Item, M, entries}
use Rattle.repo_refusals.specs.Window.{window}
use Rattle.spec_trace.specs.declared.mark.Mark.TheVariants as the
use Rattle.std.specs.List.{fold, list_any}
use Rattle.std.specs.Prelude.{Bool, List, None, Option, Some, [], cond, false, length, max, nat_eq, not, ℕ, ◌&&◌, ◌+◌, ◌∷◌, ◌||◌}
use Rattle.thor_value.specs.FiniteMap.{has, values}
use Rattle.thor_value.specs.Names.{same_ts}
use Rattle.thor_value.specs.declared.names.Ts.{Ts}
use Rattle.validation_queue.specs.Clashes.{first_some}

-- ---- numbers

-- the number under which a client connects at the item, and 0 at another
abbrev pub connected_at : Item → ℕ
connected_at (M (the.Connected s client)) = s
connected_at (M m) = 0
connected_at (E e) = 0

-- the greatest number of a session, and 0 where there is none; restarts begin none anew
abbrev pub last_session : List Item → ℕ
last_session T = fold (λ n i. max n (connected_at i)) 0 T

abbrev pub next_session : List Item → ℕ
next_session T = last_session T + 1

-- one more than the page that is granted at the item, and 0 at another
abbrev pub granted_at : Item → ℕ
granted_at (M (the.Granted s page)) = page + 1
granted_at (M m) = 0
granted_at (E e) = 0

-- the least page that was never granted: restarts don't lower it
abbrev pub next_page : Base → List Item → ℕ
next_page b T = fold (λ n i. max n (granted_at i)) b.next_page T

-- whether the page is granted to the session s at the item
abbrev pub grants : ℕ → ℕ → Item → Bool
grants s page (M (the.Granted n k)) = nat_eq n s && nat_eq k page
grants s page (M m) = false
grants s page (E e) = false

-- whether the page was granted to the session s
abbrev pub was_granted : List Item → ℕ → ℕ → Bool
was_granted T s page = list_any (grants s page) T

-- ---- timestamps

-- the time that was drawn last, behind one more item: behind a Life it is that of the greatest timestamp
-- that committed
abbrev pub drawn_after : State → ℕ → Item → ℕ
drawn_after S last (E (Life n)) = S.top.time
drawn_after S last (E e) = last
drawn_after S last (M (the.Drew s t)) = t.time
drawn_after S last (M m) = last

abbrev pub drawn_from : Base → State → ℕ → List Item → ℕ
drawn_from b S last [] = last
drawn_from b S last (i ∷ is) = drawn_from b (pass b S i) (drawn_after S last i) is

-- the time that was drawn last
abbrev pub last_drawn : Base → List Item → ℕ
last_drawn b T = drawn_from b (start b) b.top.time T

-- the time to draw, where a clock says now: above the last one, and above what the client has seen
abbrev pub drawn_time : ℕ → ℕ → ℕ → ℕ
drawn_time now last floor = max now (max (last + 1) (floor + 1))

abbrev pub draws : Ts → Item → Option ℕ
draws t (M (the.Drew s u)) = cond (same_ts t u) (Some s) None
draws t (M m) = None
draws t (E e) = None

-- the session that drew t, or None where none has
abbrev pub drawer : List Item → Ts → Option ℕ
drawer T t = first_some (draws t) T

-- ---- decisions

abbrev pub forgets : Ts → Item → Bool
forgets t (M (the.Forgot u)) = same_ts t u
forgets t (M m) = false
forgets t (E e) = false

-- whether the decision to commit t was forgotten
abbrev pub is_forgotten : List Item → Ts → Bool
is_forgotten T t = list_any (forgets t) T

-- Whether the decision to commit t is kept: it was made here in this run and not forgotten. So a restart
-- keeps, of the decisions that it recovers, these alone.
abbrev pub is_kept : Base → List Item → Ts → Bool
is_kept b T t = has (state b (entries T)).kept t && not (is_forgotten T t)

-- whether t is the last transaction of its client that committed here with no other participant
abbrev pub is_last_alone : Base → List Item → Ts → Bool
is_last_alone b T t = list_any (same_ts t) (values (state b (entries T)).alone)

-- what a coordinator answers about a transaction
pub data Asked : Type 0 where
  Undecided : Asked
  -- whether it commits
  Settled : Bool → Asked

-- What the coordinator of t answers about it: it is undecided in its present life, or its decision to
-- commit is kept or t is a last single commit, or it is aborted.
abbrev pub asked : Base → List Item → Ts → Asked
asked b T t = cond (is_undecided (known_by b (entries T) t) && nat_eq t.repo b.repo) Undecided (Settled (is_kept b T t || is_last_alone b T t))

-- ---- a client that connects

-- what it is told
pub record Welcomed : Type 0 where
  pub session : ℕ
  pub epoch : ℕ
  pub threshold : Ts
  -- the number of entries: its client knows the places below
  pub place : ℕ
  pub upgrades : List (List ℕ)

abbrev pub welcome : Base → List Item → Welcomed
welcome b T = record {
  session = next_session T;
  epoch = epoch_of (state b (entries T));
  threshold = (window b (entries T)).threshold;
  place = length (entries T);
  upgrades = (state b (entries T)).texts;
}
