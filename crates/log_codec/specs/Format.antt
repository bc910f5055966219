-- Formats of bytes, and how a format of the whole is made of those of its parts (this project's). A format
-- says which values it spells and how, and what reading bytes from the front gives. Readers and writers are
-- said by a format alone, and a law of each way to make one says that reading and spelling fit together.
use Rattle.std.specs.Prelude.{◌≡◌, ℕ, zero, suc, ◌<◌, ◌^◌, Bool, if◌then◌else◌, IsTrue, List, [], ◌∷◌, ◌++◌, length, Option, Some, None, Result, Ok, Err}
use Rattle.std.specs.Option.{IfSome, IsSomeAnd}
use Rattle.std.specs.List.{flat_map, AllByRecursion}
use Rattle.std.specs.Int.{Width, w16, w32, w64, to_be_bytes}
use Rattle.thor_value.specs.Reading.{number_at}
use Rattle.log_codec.specs.declared.fault.BodyFault.{BodyFault}
use Rattle.log_codec.specs.declared.fault.BodyFault.TheVariants.{NotOne, NoMemory}

-- a step, and then another on what the first gave
infixl 10 ◌>>=◌
abbrev pub ◌>>=◌ : {A B : Type 0} → Option A → (A → Option B) → Option B
(Some x) >>= f = f x
None >>= f = None

-- a format of values of V
pub record Format (V : Type 0) : Type 1 where
  -- the values that it spells, if their lists aren't too long
  pub Fits : V → Type 0
  -- their lists aren't too long: each is counted by four bytes
  pub Countable : V → Type 0
  -- the bytes of a value
  pub spelling : V → List ℕ
  -- the value at the front of bytes, and the bytes behind it
  pub reading : List ℕ → Option (V × List ℕ)

-- ---- formats of numbers and of what has a reader of its own

abbrev pub found_by : {X F : Type 0} → Result X F → Option X
found_by (Ok x) = Some x
found_by (Err e) = None

-- what a reader reads, whichever fault it meets
unfoldable pub as_read : {V F : Type 0} → (List ℕ → Result (V × List ℕ) F) → List ℕ → Option (V × List ℕ)
as_read reader bytes = found_by (reader bytes)

unfoldable pub as_spelled : {V : Type 0} → (V → List ℕ) → V → List ℕ
as_spelled spelling v = spelling v

-- the format of what has a spelling and a reader already
abbrev pub read_by : {V F : Type 0} → (V → Type 0) → (V → List ℕ) → (List ℕ → Result (V × List ℕ) F) → Format V
read_by Has spelling reader = record { Fits = Has; Countable = λ v. Unit {0}; spelling = as_spelled spelling; reading = as_read reader }

-- a number of a width, the highest byte first
abbrev pub number : Width → ℕ → Format ℕ
number w limit = read_by (λ n. n < limit) (to_be_bytes w) (number_at {F = Unit {0}} tt w)

abbrev pub u16_format : Format ℕ
u16_format = number w16 (2 ^ 16)

abbrev pub u32_format : Format ℕ
u32_format = number w32 (2 ^ 32)

abbrev pub u64_format : Format ℕ
u64_format = number w64 (2 ^ 64)

abbrev pub first_byte : List ℕ → Option (ℕ × List ℕ)
first_byte [] = None
first_byte (b ∷ bytes) = Some (b, bytes)

-- one byte, whichever
abbrev pub u8_format : Format ℕ
u8_format = record { Fits = λ n. Unit {0}; Countable = λ n. Unit {0}; spelling = λ n. n ∷ []; reading = first_byte }

-- ---- formats made of others

-- one value, and another behind it
infixr 6 ◌then◌
abbrev pub ◌then◌ : {A B : Type 0} → Format A → Format B → Format (A × B)
a then b = record {
  Fits = λ v. a.Fits v.0 × b.Fits v.1;
  Countable = λ v. a.Countable v.0 × b.Countable v.1;
  spelling = λ v. a.spelling v.0 ++ b.spelling v.1;
  reading = λ bytes. a.reading bytes >>= λ x. b.reading x.1 >>= λ y. Some ((x.0, y.0), y.1);
}

abbrev pub spelled : {V : Type 0} → (V → List ℕ) → Option V → List ℕ
spelled spelling (Some v) = spelling v
spelled spelling None = []

-- The values of W that `make` makes of V; `parts` gives what such a value was made of.
abbrev pub made : {V W : Type 0} → (V → W) → (W → Option V) → Format V → Format W
made make parts f = record {
  Fits = λ w. IsSomeAnd (parts w) f.Fits;
  Countable = λ w. IfSome (parts w) f.Countable;
  spelling = λ w. spelled f.spelling (parts w);
  reading = λ bytes. f.reading bytes >>= λ x. Some (make x.0, x.1);
}

-- the values alone that pass a test
abbrev pub such_that : {V : Type 0} → (V → Bool) → Format V → Format V
such_that test f = record f {
  Fits = λ v. f.Fits v × IsTrue (test v);
  reading = λ bytes. f.reading bytes >>= λ x. if test x.0 then Some x else None;
}

-- a format whose values are said in other words
abbrev pub of_those : {V : Type 0} → (V → Type 0) → Format V → Format V
of_those Fits f = record f { Fits = Fits }

-- one value, which has no bytes
abbrev pub only : {W : Type 0} → W → Format W
only v = record { Fits = λ w. w ≡ v; Countable = λ w. Unit {0}; spelling = λ w. []; reading = λ bytes. Some (v, bytes) }

-- no value
abbrev pub no_format : {W : Type 0} → Format W
no_format = record { Fits = λ w. ⊥; Countable = λ w. Unit {0}; spelling = λ w. []; reading = λ bytes. None }

-- one byte that says which kind of value stands behind it, in that kind's format
abbrev pub choice : {W : Type 0} → (W → ℕ) → (ℕ → Format W) → Format W
choice kind behind = record {
  Fits = λ w. (behind (kind w)).Fits w;
  Countable = λ w. (behind (kind w)).Countable w;
  spelling = λ w. kind w ∷ (behind (kind w)).spelling w;
  reading = λ bytes. first_byte bytes >>= λ k. (behind k.0).reading k.1;
}

-- so many values, one behind the other
unfoldable pub several : {V : Type 0} → (List ℕ → Option (V × List ℕ)) → ℕ → List ℕ → Option (List V × List ℕ)
several reading zero bytes = Some ([], bytes)
several reading (suc n) bytes = reading bytes >>= λ first. several reading n first.1 >>= λ others. Some (first.0 ∷ others.0, others.1)

-- a list, counted by four bytes
abbrev pub list : {V : Type 0} → Format V → Format (List V)
list f = record {
  Fits = AllByRecursion f.Fits;
  Countable = λ vs. (length vs < 2 ^ 32) × AllByRecursion f.Countable vs;
  spelling = λ vs. u32_format.spelling (length vs) ++ flat_map f.spelling vs;
  reading = λ bytes. u32_format.reading bytes >>= λ count. several f.reading count.0 count.1;
}

-- a short list, counted by one byte
abbrev pub short_list : {V : Type 0} → Format V → Format (List V)
short_list f = record {
  Fits = λ vs. (length vs < 2 ^ 8) × AllByRecursion f.Fits vs;
  Countable = AllByRecursion f.Countable;
  spelling = λ vs. length vs ∷ flat_map f.spelling vs;
  reading = λ bytes. first_byte bytes >>= λ count. several f.reading count.0 count.1;
}

-- ---- whole bodies

-- these bytes, from the first to the last, spell the value
pub record IsSpelled {V : Type 0} (f : Format V) (bytes : List ℕ) (v : V) : Type 0 where
  pub fits : f.Fits v
  pub countable : f.Countable v
  pub whole : bytes ≡ f.spelling v

abbrev pub to_the_end : {V : Type 0} → V × List ℕ → Option V
to_the_end (v, []) = Some v
to_the_end (v, b ∷ bytes) = None

-- the value that these bytes spell, from the first to the last
abbrev pub value_of : {V : Type 0} → Format V → List ℕ → Option V
value_of f bytes = f.reading bytes >>= to_the_end

-- ---- what functions answer

-- a fault says that reading gives nothing, unless memory ran out
abbrev pub Fails : {Y : Type 0} → BodyFault → Option Y → Type 0
Fails NotOne read = read ≡ None
Fails NoMemory read = Unit {0}

-- a function answers what reading gives, as `view` sees it, unless memory ran out
abbrev pub Gives : {X Y : Type 0} → (X → Y) → Result X BodyFault → Option Y → Type 0
Gives view (Ok x) read = read ≡ Some (view x)
Gives view (Err e) read = Fails e read

-- a call answered so, unless memory ran out
abbrev pub Answered : {X : Type 0} → Result X BodyFault → Result X BodyFault → Type 0
Answered (Err NoMemory) answer = Unit {0}
Answered r answer = r ≡ answer
