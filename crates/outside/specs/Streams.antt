-- What a source gives and a sink takes (this project's). The bytes that are left in a source, and those
-- that a sink took, are an `Option`: `None` where the source or the sink doesn't tell them.
use Rattle.std.specs.Prelude.{◌≡◌, ℕ, Option, List, [], ◌++◌, length, take, IfSome, ◌<◌}
use Rattle.std.specs.Option.{option_map}

-- These bytes were taken from the front of what was left. Nothing is said where it isn't told, but that
-- it isn't told afterwards either.
abbrev pub Took : Option (List ℕ) → List ℕ → Option (List ℕ) → Type 0
Took before bytes after = before ≡ option_map (λ rest. bytes ++ rest) after

-- these bytes were put behind what a sink had taken
abbrev pub Put : Option (List ℕ) → List ℕ → Option (List ℕ) → Type 0
Put before bytes after = after ≡ option_map (λ had. had ++ bytes) before

-- a front of these bytes, none or all of them included, was put behind what a sink had taken
abbrev pub PutFront : Option (List ℕ) → List ℕ → Option (List ℕ) → Type 0
PutFront before bytes after = (count : ℕ) × Put before (take count bytes) after

-- nothing is left, where it is told
abbrev pub IsAtEnd : Option (List ℕ) → Type 0
IsAtEnd left = IfSome left (λ rest. rest ≡ [])

-- these are all the bytes that are left, where it is told
abbrev pub IsAllOf : List ℕ → Option (List ℕ) → Type 0
IsAllOf bytes left = IfSome left (λ rest. rest ≡ bytes)

-- more than so many bytes are left, where it is told
abbrev pub IsMoreThan : ℕ → Option (List ℕ) → Type 0
IsMoreThan limit left = IfSome left (λ rest. limit < length rest)
