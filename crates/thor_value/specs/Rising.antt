-- Names that rise.
use Rattle.std.specs.Prelude.{◌≡◌, ◌<◌, ◌≤◌, ◌++◌, ◌∷◌, ℕ, List, [], length, map, true, false}
use Rattle.std.specs.BTreeMap.{is_at}
use Rattle.std.specs.BTreeSet.{insert_key}
use Rattle.std.specs.List.{insert, list_any, slice_index_or}
use Rattle.std.specs.List.Sorted.{IsStrictlySortedBy}
use Rattle.std.specs.declared.cmp.Ordering.TheVariants.{Equal}
use Rattle.thor_value.specs.FiniteMap.{Set}
use Rattle.thor_value.specs.Names.{oref_cmp}
use Rattle.thor_value.specs.declared.names.Oref.{Oref}

abbrev pub Rise : List Oref → Type 0
Rise xs = IsStrictlySortedBy oref_cmp xs

-- the name is among them, at this place
pub record IsThere (xs : List Oref) (x : Oref) (at : ℕ) : Type 0 where
  pub within : at < length xs
  pub here : oref_cmp (slice_index_or xs at x) x ≡ Equal
  pub there : list_any (is_at (oref_cmp x)) xs ≡ true
  pub put : insert_key oref_cmp xs x ≡ xs

-- the name isn't among them, and would stand at this place
pub record IsGap (xs : List Oref) (x : Oref) (at : ℕ) : Type 0 where
  pub within : at ≤ length xs
  pub absent : list_any (is_at (oref_cmp x)) xs ≡ false
  pub put : insert_key oref_cmp xs x ≡ insert xs at x
  pub rise : Rise (insert xs at x)

-- the name comes behind them all
pub record IsBehind (xs : List Oref) (x : Oref) : Type 0 where
  pub absent : list_any (is_at (oref_cmp x)) xs ≡ false
  pub put : insert_key oref_cmp xs x ≡ xs ++ x ∷ []
  pub rise : Rise (xs ++ x ∷ [])

-- the set that has these names
abbrev pub set_of : List Oref → Set oref_cmp
set_of xs = record { pairs = map (λ x. (x, tt)) xs }
