-- How the code keeps which names are spent: a mark for each name that was ever granted, so that a commit needs no memory.
use Rattle.std.specs.Prelude.{◌≡◌, Bool, true, List, map}
use Rattle.std.specs.BTreeMap.{BTreeMap}
use Rattle.std.specs.List.{AllByRecursion, filter}
use Rattle.thor_value.specs.FiniteMap.{IsSorted, Map, Set, has}
use Rattle.thor_value.specs.Names.{oref_cmp}
use Rattle.thor_value.specs.declared.names.Oref.{Oref}
use Rattle.method_eval.specs.declared.held.Held.{Held}

-- the marks of a tree
abbrev pub marks_of : BTreeMap Oref Bool → Map oref_cmp Bool
marks_of tree = record { pairs = tree.entries }

-- the names that are marked as spent
abbrev pub spent_in : Map oref_cmp Bool → Set oref_cmp
spent_in marks = record { pairs = map (λ e. (e.0, tt)) (filter (λ e. e.1) marks.pairs) }

-- The marks stand in the order of the names, and each held name has one.
pub record AreMarked (marks : Map oref_cmp Bool) (held : List Held) : Type 0 where
  pub sorted : IsSorted marks
  pub marked : AllByRecursion (λ h. has marks h.oref ≡ true) held
