-- The bytes of names, timestamps and values (this project's). Numbers are written with the highest byte
-- first.
use Rattle.std.specs.Prelude.{◌≡◌, ℕ, ◌<◌, ◌^◌, List, [], ◌∷◌, ◌++◌, length, true, FitsSigned}
use Rattle.std.specs.Int.{w32, w64, to_be_bytes, cast_unsigned}
use Rattle.thor_value.specs.declared.names.Oref.{Oref}
use Rattle.thor_value.specs.declared.names.Ts.{Ts}
use Rattle.thor_value.specs.declared.values.Value.{Value}
use Rattle.thor_value.specs.declared.values.Value.TheVariants.{Int, Ref, Null, Text}
use Rattle.thor_value.specs.Words.{fits_word}

-- the names that a store can have: up to 8 repositories, 65,536 pages in each, 12 slots in each
pub record OrefFits (o : Oref) : Type 0 where
  pub repo : o.repo < 8
  pub page : o.page < 65536
  pub slot : o.slot < 12

-- the timestamps that a store can have
pub record TsFits (t : Ts) : Type 0 where
  pub time : t.time < 2 ^ 62
  pub repo : t.repo < 8
  pub life : t.life < 2 ^ 32

-- the name that a value refers to, where it refers to one, is one that a store can have
abbrev pub NameFits : Value → Type 0
NameFits (Int z) = Unit {0}
NameFits (Ref o) = OrefFits o
NameFits Null = Unit {0}
NameFits (Text w) = Unit {0}

-- the values that a store can have
abbrev pub ValueFits : Value → Type 0
ValueFits (Int z) = FitsSigned w64 z
ValueFits (Ref o) = OrefFits o
ValueFits Null = Unit {0}
ValueFits (Text w) = fits_word w ≡ true

-- a name: one byte of repository, four of page, one of slot
abbrev pub oref_bytes : Oref → List ℕ
oref_bytes o = o.repo ∷ (to_be_bytes w32 o.page ++ o.slot ∷ [])

-- a timestamp: eight bytes of time, one of repository, four of life
abbrev pub ts_bytes : Ts → List ℕ
ts_bytes t = to_be_bytes w64 t.time ++ t.repo ∷ to_be_bytes w32 t.life

-- a text: one byte that counts its bytes, and these
abbrev pub word_bytes : List ℕ → List ℕ
word_bytes w = length w ∷ w

-- a value: 1 and eight bytes of a number as two's complement, 2 and a name, 3 for null, or 4 and a text
abbrev pub value_bytes : Value → List ℕ
value_bytes (Int z) = 1 ∷ to_be_bytes w64 (cast_unsigned w64 z)
value_bytes (Ref o) = 2 ∷ oref_bytes o
value_bytes Null = 3 ∷ []
value_bytes (Text w) = 4 ∷ word_bytes w
