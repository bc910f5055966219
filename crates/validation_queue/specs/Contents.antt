-- What a validation queue holds, and how it changes. (The validation queue of Adya and others, SIGMOD
-- 1995; the limit, and the threshold that stands for what has left, are this project's.)
use Rattle.std.specs.BTreeMap.{BTreeMap}
use Rattle.std.specs.Map.{keys_of}
use Rattle.std.specs.Option.{option_map}
use Rattle.std.specs.Prelude.{Bool, List, None, Option, Some, cond, false, find, length, nat_le, not, true, ℕ, ◌≡◌, ◌≤◌}
use Rattle.thor_value.specs.FiniteMap.{Map, empty, get, insert, len, remove}
use Rattle.thor_value.specs.Names.{later_of, ts_cmp}
use Rattle.thor_value.specs.declared.names.Oref.{Oref}
use Rattle.thor_value.specs.declared.names.Ts.{Ts}
use Rattle.thor_value.specs.declared.values.Obj.{Obj}
use Rattle.validation_queue.specs.declared.member.Member.{Member}

-- A transaction as a queue sees it: its timestamp, whether it is an upgrade, and the names that it
-- read and that it wrote.
pub record Transaction : Type 0 where
  pub tx : Ts
  pub upgrade : Bool
  pub read : List Oref
  pub written : List Oref

-- the transaction that a request tells
abbrev pub transaction : Ts → Bool → List Oref → List (Oref × Obj) → Transaction
transaction tx upgrade ros writes = record { tx = tx; upgrade = upgrade; read = ros; written = keys_of writes }

-- What a queue holds: some transactions by their timestamps, and a timestamp at or above those of the
-- committed ones that have left.
pub record Contents : Type 0 where
  pub threshold : Ts
  pub members : Map ts_cmp Member

-- how many transactions a queue has room for
abbrev pub room_for : ℕ
room_for = 1024

-- a queue with no transaction
abbrev pub cleared : Ts → Contents
cleared threshold = record { threshold = threshold; members = empty }

-- the least decided transaction
abbrev pub first_decided : Contents → Option Ts
first_decided Q = option_map (λ e. e.0) (find (λ e. e.1.decided) Q.members.pairs)

-- the least undecided transaction
abbrev pub first_undecided : Contents → Option Ts
first_undecided Q = option_map (λ e. e.0) (find (λ e. not e.1.decided) Q.members.pairs)

-- whether m has to be decided before a request can be accepted: for an upgrade's request each
-- undecided transaction has to, for another's an upgrade
abbrev pub is_blocking : Bool → Member → Bool
is_blocking upgrade m = cond m.decided false (cond upgrade true m.upgrade)

-- the least of those
abbrev pub first_blocking : Contents → Bool → Option Ts
first_blocking Q upgrade = option_map (λ e. e.0) (find (λ e. is_blocking upgrade e.1) Q.members.pairs)

-- What a queue keeps of its members: there is room for them, and where it says that all are decided, they are.
pub record IsKept (all_decided : Bool) (members : List (Ts × Member)) : Type 0 where
  pub within : length members ≤ room_for
  pub decided : all_decided ≡ true → find (λ e. not e.1.decided) members ≡ None

-- the members of a tree
abbrev pub members_of : BTreeMap Ts Member → Map ts_cmp Member
members_of tree = record { pairs = tree.entries }

-- whether there is no room for one more
abbrev pub is_full : Contents → Bool
is_full Q = nat_le room_for (len Q.members)

-- the transaction that leaves where one more comes in: where there is no room, the least decided one
abbrev pub leaving : Contents → Option Ts
leaving Q = cond (is_full Q) (first_decided Q) None

-- a threshold that isn't below one that leaves
abbrev pub raise : Ts → Option Ts → Ts
raise threshold None = threshold
raise threshold (Some t) = later_of threshold t

-- the members without one that leaves
abbrev pub omit : Map ts_cmp Member → Option Ts → Map ts_cmp Member
omit members None = members
omit members (Some t) = remove members t

-- With room for one more. The threshold stands for the transaction that leaves.
abbrev pub with_room : Contents → Contents
with_room Q = record { threshold = raise Q.threshold (leaving Q); members = omit Q.members (leaving Q) }

-- the transaction as a member
abbrev pub member : Transaction → Bool → Member
member t decided = record { decided = decided; upgrade = t.upgrade; read = t.read; written = t.written }

-- with t as one more
abbrev pub with_one : Contents → Transaction → Bool → Contents
with_one Q t decided = record { threshold = Q.threshold; members = insert Q.members t.tx (member t decided) }

-- t comes in
abbrev pub enter : Contents → Transaction → Bool → Contents
enter Q t decided = with_one (with_room Q) t decided

abbrev pub mark : Contents → Ts → Option Member → Contents
mark Q t None = Q
mark Q t (Some m) = record { threshold = Q.threshold; members = insert Q.members t (record m { decided = true }) }

-- the transaction t, where it is there, is decided: to commit, or it is aborted and leaves
abbrev pub decide : Contents → Ts → Bool → Contents
decide Q t commit = cond commit (mark Q t (get Q.members t)) (record { threshold = Q.threshold; members = remove Q.members t })
