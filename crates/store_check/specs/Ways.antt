-- The way from an object up to its owners, step by step.
use Rattle.class_defs.specs.Levels.{level}
use Rattle.class_defs.specs.Stored.{Objects}
use Rattle.class_defs.specs.declared.store.Schemas.{Schemas}
use Rattle.std.specs.List.{fold}
use Rattle.std.specs.Prelude.{Bool, List, Option, Some, None, false, if◌then◌else◌, is_some, length, min, nat_le, not, suc, true, zero, ℕ, ◌&&◌}
use Rattle.thor_value.specs.FiniteMap.{Map, empty, get, insert}
use Rattle.thor_value.specs.Names.{oref_cmp}
use Rattle.thor_value.specs.declared.names.Oref.{Oref}
use Rattle.thor_value.specs.declared.values.Obj.{Obj}
use Rattle.store_check.specs.Naming.{Namings, sole}
use Rattle.store_check.specs.declared.ways.Way.{Way}

-- the ways of the objects of a map
abbrev pub Ways : Type 0
Ways = Map oref_cmp Way

abbrev pub level_of : Schemas → Option Obj → ℕ
level_of s (Some o) = level s (length s.upgraded) o
level_of s None = length s.upgraded

-- the way by one owner more
abbrev pub through_owner : ℕ → Way → Way
through_owner l w = record { next = w.next; least = min l w.least }

-- the way that goes on from where another has led, if it leads somewhere
abbrev pub onward : Option Oref → ℕ → (Oref → Way) → Way
onward None least rest = record { next = None; least = least }
onward (Some a) least rest = through_owner least (rest a)

-- the way from an object, if it has an owner, from whom it goes on so
abbrev pub stepped : Schemas → Option Oref → (Oref → Way) → Way
stepped s None rest = record { next = None; least = length s.upgraded }
stepped s (Some a) rest = rest a

-- n steps from an object to its owner, and so on: where they lead, and the least level of these owners
unfoldable pub way : Schemas → Objects → Namings → ℕ → Oref → Way
way s m n zero x = record { next = Some x; least = length s.upgraded }
way s m n (suc k) x = stepped s (sole (get n x)) (λ a. through_owner (level_of s (get m a)) (way s m n k a))

-- one step from an object
abbrev pub one_step : Schemas → Objects → Namings → Oref → Way
one_step s m n x = stepped s (sole (get n x)) (λ a. record { next = Some a; least = level_of s (get m a) })

abbrev pub way_or_none : Option Way → Way
way_or_none (Some w) = w
way_or_none None = record { next = None; least = zero }

-- twice as many steps from an object
abbrev pub longer : Ways → Oref → Way
longer ws x = onward (way_or_none (get ws x)).next (way_or_none (get ws x)).least (λ a. way_or_none (get ws a))

-- a way for each of these names
abbrev pub ways_for : (Oref → Way) → List Oref → Ways
ways_for f names = fold (λ ws x. insert ws x (f x)) empty names

-- whether a way has ended, and a part of this version lags behind no owner on it
abbrev pub is_way_for : ℕ → Way → Bool
is_way_for ver w = not (is_some w.next) && nat_le ver w.least

-- whether the way from an object hasn't ended yet, or one before hasn't
unfoldable pub goes_on : Ways → Bool → Oref → Bool
goes_on ws before x = if is_some (way_or_none (get ws x)).next then true else before

-- whether one of these ways hasn't ended yet
abbrev pub some_goes_on : Ways → List Oref → Bool
some_goes_on ws names = fold (λ before x. goes_on ws before x) false names
