-- Tables of the code as finite maps.
use Rattle.std.specs.BTreeMap.{BTreeMap}
use Rattle.std.specs.Ordering.{nat_cmp}
use Rattle.std.specs.Prelude.{ℕ}
use Rattle.thor_value.specs.FiniteMap.{Map, Set}
use Rattle.thor_value.specs.Names.{oref_cmp}
use Rattle.thor_value.specs.declared.names.Oref.{Oref}
use Rattle.thor_value.specs.declared.values.Obj.{Obj}

-- objects by their names
abbrev pub objects_in : BTreeMap Oref Obj → Map oref_cmp Obj
objects_in m = record { pairs = m.entries }

-- names in their order
abbrev pub names_in : BTreeMap Oref (Unit {0}) → Set oref_cmp
names_in m = record { pairs = m.entries }

-- numbers by pages
abbrev pub pages_in : BTreeMap ℕ ℕ → Map nat_cmp ℕ
pages_in m = record { pairs = m.entries }
