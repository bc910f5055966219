-- The names that were seen, as a set of their texts.
use Rattle.std.specs.Prelude.{◌≡◌, ℕ, List, Vec}
use Rattle.std.specs.HashSet.{HashSet}
use Rattle.std.specs.List.{list_any}
use Rattle.std.specs.Str.{bytes_eq}
use Rattle.class_defs.specs.declared.expressions.Name.{Name}

-- a text is in the set just where one of the names has it
pub record Has {Y S : Type 0} (seen : HashSet (Vec ℕ Y) S) (names : List Name) : Type 0 where
  pub each : (text : List ℕ) → list_any (λ k. bytes_eq text k.items) seen.keys ≡ list_any (λ m. bytes_eq m.text text) names
