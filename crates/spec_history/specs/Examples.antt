-- Small histories of one repository, on which the definitions are computed. The objects x and y have
-- one field each, 0 in the base.
use Rattle.log_entries.specs.declared.entry.Entry.TheVariants.{Decided, Finished, Life, One, Prepared, Upgraded}
use Rattle.log_entries.specs.declared.entry.Entry.{Entry}
use Rattle.log_entries.specs.declared.request.Kind.TheVariants.{App, Upgrade}
use Rattle.log_entries.specs.declared.request.Kind.{Kind}
use Rattle.log_entries.specs.declared.request.Request.{Request}
use Rattle.spec_history.specs.History.{Base}
use Rattle.spec_history.specs.Opening.{Recovered, opened}
use Rattle.std.specs.Prelude.{Bool, List, None, [], false, pos, true, ℕ, ◌∷◌}
use Rattle.thor_value.specs.FiniteMap.{empty, insert, overwrite}
use Rattle.thor_value.specs.Names.{zero_ts}
use Rattle.thor_value.specs.declared.names.Oref.{Oref}
use Rattle.thor_value.specs.declared.names.Ts.{Ts}
use Rattle.thor_value.specs.declared.values.Answer.TheVariants.{Ints}
use Rattle.thor_value.specs.declared.values.Obj.{Obj}
use Rattle.thor_value.specs.declared.values.Value.TheVariants.{Int}

abbrev pub x : Oref
x = record { repo = 0; page = 0; slot = 0 }

abbrev pub y : Oref
y = record { repo = 0; page = 0; slot = 1 }

-- a name on a page that no object of the base is on
abbrev pub z : Oref
z = record { repo = 0; page = 1; slot = 0 }

-- the object with this number in its field
abbrev pub box : ℕ → Obj
box n = record { class = 0; ver = 0; fields = Int (pos n) ∷ [] }

-- an object of repository 1
abbrev pub far : Oref
far = record { repo = 1; page = 0; slot = 0 }

-- repository 0 of two, never opened before
abbrev pub home : Base
home = record {
  repo = 0;
  repos = 2;
  life = 0;
  count = 0;
  limit = 1048576;
  objects = overwrite empty ((x, box 0) ∷ (y, box 0) ∷ []);
  top = zero_ts;
  roots = x ∷ y ∷ far ∷ [];
  texts = [];
  next_page = 1;
  alone = empty;
  left = empty;
  silence = None;
  tells = true;
}

-- repository 1 of them
abbrev pub away : Base
away = record home { repo = 1; objects = overwrite empty ((far, box 0) ∷ []) }

-- the transaction of this time that repository 0 coordinates in its first life, and in its second, and one
-- that repository 1 coordinates in its second
abbrev pub at : ℕ → Ts
at n = record { time = n; repo = 0; life = 1 }

abbrev pub again : ℕ → Ts
again n = record { time = n; repo = 0; life = 2 }

abbrev pub abroad : ℕ → Ts
abroad n = record { time = n; repo = 1; life = 2 }

abbrev request : Ts → Kind → ℕ → List Oref → List (Oref × Obj) → List Oref → List ℕ → Request
request t kind epoch ros writes fresh others = record {
  tx = t;
  who = record { client = 1; index = 1 };
  session = 1;
  kind = kind;
  epoch = epoch;
  upto = 0;
  ros = ros;
  writes = writes;
  fresh = fresh;
  answer = Ints [];
  others = others;
}

-- t reads x
abbrev pub reading_x : ℕ → Request
reading_x n = request (at n) App 0 (x ∷ []) [] [] []

-- t reads x and writes k there
abbrev pub setting_x : ℕ → ℕ → Request
setting_x n k = request (at n) App 0 (x ∷ []) ((x, box k) ∷ []) [] []

-- the same in the second life of repository 0, where t commits alone
abbrev pub set_x_again : ℕ → ℕ → Entry
set_x_again n k = One (request (again n) App 0 (x ∷ []) ((x, box k) ∷ []) [] [])

-- the same in its first life
abbrev pub read_x : ℕ → Entry
read_x n = One (reading_x n)

abbrev pub set_x : ℕ → ℕ → Entry
set_x n k = One (setting_x n k)

-- t commits alone: it writes k to x, and didn't read it
abbrev pub blind_x : ℕ → ℕ → Entry
blind_x n k = One (request (at n) App 0 [] ((x, box k) ∷ []) [] [])

abbrev pub set_y : ℕ → ℕ → Entry
set_y n k = One (request (at n) App 0 (y ∷ []) ((y, box k) ∷ []) [] [])

-- t commits alone: it creates z
abbrev pub creating_z : ℕ → Request
creating_z n = request (at n) App 0 (z ∷ []) ((z, box 7) ∷ []) (z ∷ []) []

abbrev pub create_z : ℕ → Entry
create_z n = One (creating_z n)

-- t is prepared with the other repository: it reads x and writes k there
abbrev pub preparing_x : ℕ → ℕ → Request
preparing_x n k = request (at n) App 0 (x ∷ []) ((x, box k) ∷ []) [] (1 ∷ [])

abbrev pub prepare_x : ℕ → ℕ → Entry
prepare_x n k = Prepared (preparing_x n k)

-- the part of t at repository 1, where repository 0 coordinates it: it reads the object there and writes k
abbrev pub setting_far : ℕ → ℕ → Request
setting_far n k = request (at n) App 0 (far ∷ []) ((far, box k) ∷ []) [] (0 ∷ [])

abbrev pub prepare_far : ℕ → ℕ → Entry
prepare_far n k = Prepared (setting_far n k)

-- t reads it, and commits alone
abbrev pub read_far : Ts → Entry
read_far t = One (request t App 0 (far ∷ []) [] [] [])

-- an upgrade of both repositories
abbrev pub upgrading : ℕ → Request
upgrading n = request (at n) (Upgrade (117 ∷ [])) 0 [] [] [] (1 ∷ [])

abbrev pub prepare_upgrade : ℕ → Entry
prepare_upgrade n = Prepared (upgrading n)

-- t reads x, and has seen one upgrade
abbrev pub reading_upgraded : ℕ → Request
reading_upgraded n = request (at n) App 1 (x ∷ []) [] [] []

abbrev pub read_upgraded : ℕ → Entry
read_upgraded n = One (reading_upgraded n)

-- ---- sound histories

-- two commits and a read
abbrev pub two_commits : List Entry
two_commits = Life 1 ∷ set_x 1 5 ∷ set_x 2 6 ∷ read_x 3 ∷ []

-- the first is decided behind the second
abbrev pub decided_late : List Entry
decided_late = Life 1 ∷ prepare_x 1 5 ∷ set_y 2 7 ∷ Decided (at 1) true ∷ []

-- a transaction of this repository that it hadn't decided when it was restarted
abbrev pub lost_by_life : List Entry
lost_by_life = Life 1 ∷ prepare_x 1 5 ∷ Life 2 ∷ set_x_again 2 6 ∷ []

-- at repository 1, a transaction of the other one outlives a restart of this one
abbrev pub outlives : List Entry
outlives = Life 1 ∷ prepare_far 1 5 ∷ Life 2 ∷ Finished (at 1) true ∷ read_far (abroad 2) ∷ []

-- an upgrade that waited for a transaction, and a request that had seen it
abbrev pub upgraded : List Entry
upgraded = Life 1 ∷ prepare_x 1 5 ∷ Decided (at 1) true ∷ prepare_upgrade 2 ∷ Decided (at 2) true ∷ read_upgraded 3 ∷ []

-- a new object
abbrev pub created : List Entry
created = Life 1 ∷ create_z 1 ∷ []

-- What repository 1 stands for after a run that left the transaction 9 prepared, and the base where its
-- coordinator kept the decision to commit it, and where it didn't.
abbrev pub recovered : Recovered
recovered = record {
  repo = 1;
  repos = 2;
  life = 1;
  count = 7;
  objects = overwrite empty ((far, box 0) ∷ []);
  top = zero_ts;
  roots = far ∷ [];
  texts = [];
  next_page = 1;
  alone = empty;
  prepared = insert empty (at 9) (setting_far 9 4);
}

abbrev pub left_over : Bool → Base
left_over commits = opened recovered 1048576 None true (λ t. commits)

-- the opening settles it
abbrev pub settled_by_opening : Bool → List Entry
settled_by_opening commits = Life 2 ∷ Finished (at 9) commits ∷ read_far (abroad 10) ∷ []

-- where there is one repository alone, it installs an upgrade at once
abbrev pub only : Base
only = record home { repos = 1; roots = x ∷ y ∷ [] }

abbrev pub upgrading_alone : ℕ → Request
upgrading_alone n = request (at n) (Upgrade (117 ∷ [])) 0 [] [] [] []

abbrev pub upgraded_alone : List Entry
upgraded_alone = Life 1 ∷ set_x 1 5 ∷ Upgraded (upgrading_alone 2) ∷ read_upgraded 3 ∷ []

-- What soundness doesn't see, since no repository can test it: a name is created twice, and a request writes
-- what isn't there and isn't new.
abbrev pub created_twice : List Entry
created_twice = Life 1 ∷ create_z 1 ∷ create_z 2 ∷ []

abbrev pub writes_nowhere : List Entry
writes_nowhere = Life 1 ∷ One (request (at 1) App 0 (z ∷ []) ((z, box 7) ∷ []) [] []) ∷ []

-- ---- histories that aren't sound

-- the second reads what an undecided transaction with a lesser timestamp wrote
abbrev pub earlier : List Entry
earlier = Life 1 ∷ prepare_x 1 5 ∷ read_x 2 ∷ []

-- the second reads what one with a greater timestamp wrote
abbrev pub later_write : List Entry
later_write = Life 1 ∷ set_x 5 5 ∷ read_x 2 ∷ []

-- the second writes what one with a greater timestamp read
abbrev pub later_read : List Entry
later_read = Life 1 ∷ read_x 5 ∷ set_x 2 6 ∷ []

-- Two that write x without reading it, 9 and then 5: no reader meets them, and the object would end
-- with the write of 5, though 9 is the later one
abbrev pub blind_writers : List Entry
blind_writers = Life 1 ∷ blind_x 9 9 ∷ blind_x 5 5 ∷ []

-- an upgrade that doesn't wait for a transaction that is prepared
abbrev pub upgrade_in_haste : List Entry
upgrade_in_haste = Life 1 ∷ prepare_x 1 5 ∷ prepare_upgrade 2 ∷ []

-- a request that hasn't seen the upgrade
abbrev pub left_behind : List Entry
left_behind = Life 1 ∷ prepare_upgrade 1 ∷ Decided (at 1) true ∷ read_x 2 ∷ []

-- a request that has seen the upgrade and would come before it
abbrev pub before_upgrade : List Entry
before_upgrade = Life 1 ∷ prepare_upgrade 5 ∷ Decided (at 5) true ∷ read_upgraded 2 ∷ []

-- what an earlier run left is settled more than once
abbrev pub settled_twice : List Entry
settled_twice = Life 2 ∷ Finished (at 9) true ∷ Finished (at 9) false ∷ Finished (at 9) true ∷ []

-- it is prepared anew
abbrev pub left_prepared : List Entry
left_prepared = Life 2 ∷ prepare_far 9 4 ∷ Finished (at 9) true ∷ []

abbrev pub prepared_anew : List Entry
prepared_anew = Life 2 ∷ Finished (at 9) true ∷ prepare_far 9 4 ∷ []

-- where the greatest timestamp that committed in earlier runs is 5: an upgrade and another transaction that
-- aren't above it
abbrev pub grown_old : Base
grown_old = record home { top = at 5 }

abbrev pub upgrade_below_base : List Entry
upgrade_below_base = Life 1 ∷ prepare_upgrade 2 ∷ []

abbrev pub at_base : List Entry
at_base = Life 1 ∷ set_x 5 5 ∷ []

-- its own coordinator finishes a transaction, which nobody decided
abbrev pub finished_at_home : List Entry
finished_at_home = Life 1 ∷ prepare_x 1 5 ∷ Finished (at 1) true ∷ []

-- no Life comes first, one comes again, one is left out
abbrev pub without_life : List Entry
without_life = read_x 1 ∷ []

abbrev pub same_life : List Entry
same_life = Life 1 ∷ Life 1 ∷ []

abbrev pub skipped_life : List Entry
skipped_life = Life 1 ∷ Life 3 ∷ []

-- requests that owe something by themselves: one of a life that hasn't begun
abbrev pub other_life : List Entry
other_life = Life 1 ∷ set_x_again 1 5 ∷ []

-- one whose coordinator isn't the least of its participants, one that names its own repository among the
-- others, one that names a repository that isn't there, and one whose coordinator takes no part
abbrev pub coordinated_above : List Entry
coordinated_above = Life 1 ∷ Prepared (request (abroad 1) App 0 (x ∷ []) [] [] (1 ∷ [])) ∷ []

abbrev pub beside_itself : List Entry
beside_itself = Life 1 ∷ Prepared (request (at 1) App 0 (x ∷ []) [] [] (0 ∷ 1 ∷ [])) ∷ []

abbrev pub with_nobody : List Entry
with_nobody = Life 1 ∷ Prepared (request (at 1) App 0 (x ∷ []) [] [] (2 ∷ [])) ∷ []

abbrev pub coordinated_outside : List Entry
coordinated_outside = Life 1 ∷ One (request (at 1) App 0 (far ∷ []) [] [] []) ∷ []

-- one that is prepared though it takes part alone
abbrev pub prepared_alone : List Entry
prepared_alone = Life 1 ∷ Prepared (reading_x 1) ∷ []

-- an upgrade that writes, which nobody would be told; and one that a repository installs without the other
abbrev pub upgrade_that_writes : List Entry
upgrade_that_writes = Life 1 ∷ Prepared (request (at 1) (Upgrade (117 ∷ [])) 0 (x ∷ []) ((x, box 5) ∷ []) [] (1 ∷ [])) ∷ []

abbrev pub upgraded_by_one : List Entry
upgraded_by_one = Life 1 ∷ Upgraded (upgrading_alone 1) ∷ []

-- one that writes a version of another epoch, one whose names don't rise, and one with a number that no format
-- has
abbrev pub other_version : List Entry
other_version = Life 1 ∷ One (request (at 1) App 0 (x ∷ []) ((x, record (box 7) { ver = 1 }) ∷ []) [] []) ∷ []

abbrev pub out_of_order : List Entry
out_of_order = Life 1 ∷ One (request (at 1) App 0 (y ∷ x ∷ []) [] [] []) ∷ []

abbrev pub out_of_range : List Entry
out_of_range = Life 1 ∷ One (record (reading_x 1) { session = 4294967296 }) ∷ []

-- a decision behind the Life that aborted its transaction
abbrev pub decided_when_lost : List Entry
decided_when_lost = Life 1 ∷ prepare_x 1 5 ∷ Life 2 ∷ Decided (at 1) true ∷ []

-- The second read x while one with a greater timestamp that wrote it was undecided, and that one was
-- aborted afterwards. The history has local order, since an aborted transaction is in nobody's way,
-- and it isn't sound, since an entry's duty is judged at its place and never again. So `sound` is the
-- condition that growth keeps: local order alone could be had back by what comes later, and what
-- comes later could as well have been a commit.
abbrev pub mended : List Entry
mended = Life 1 ∷ prepare_x 5 5 ∷ read_x 2 ∷ Decided (at 5) false ∷ []
