-- What the fields of a table say.
use Rattle.link_table.specs.Tables.{State, same_pair}
use Rattle.link_table.specs.declared.table.Table.{Table}
use Rattle.slab.specs.Slab.{get, slab_len}
use Rattle.std.specs.HashMap as hash
use Rattle.std.specs.Prelude.{nat_eq, ◌≤◌}
use Rattle.slab.specs.Slab.{HasRoomFor}
use Rattle.std.specs.HashMap.{spare}

abbrev pub state_of : Table → State
state_of t = record {
  nodes = get t.nodes;
  count = slab_len t.nodes;
  all = t.all;
  lefts = hash.get nat_eq t.lefts;
  rights = hash.get nat_eq t.rights;
  keys = hash.get same_pair t.keys;
}

-- one more pair takes no memory
pub record HasRoom (t : Table) : Type 0 where
  pub nodes : HasRoomFor t.nodes 1
  pub keys : 1 ≤ spare t.keys
  pub lefts : 1 ≤ spare t.lefts
  pub rights : 1 ≤ spare t.rights
