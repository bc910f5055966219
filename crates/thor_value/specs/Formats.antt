-- Formats of bytes (this project's). A format says which values have a spelling, and gives each of
-- these its bytes. What a reader answers is said by the spellings alone.
use Rattle.std.specs.Prelude.{◌≡◌, ℕ, ◌<◌, ◌≤◌, List, ◌++◌, length, take, drop, Result, Ok, Err}

-- the bytes begin with the spelling of a value
abbrev pub BeginsWithOne : {V : Type 0} → (V → Type 0) → (V → List ℕ) → List ℕ → Type 0
BeginsWithOne {V = V} Has spelling bytes = (v : V) × (rest : List ℕ) × Has v × (bytes ≡ spelling v ++ rest)

-- the bytes begin the spelling of a value, and are not all of it
abbrev pub BeginsOne : {V : Type 0} → (V → Type 0) → (V → List ℕ) → List ℕ → Type 0
BeginsOne {V = V} Has spelling bytes = (v : V) × (more : List ℕ) × Has v × (spelling v ≡ bytes ++ more) × (0 < length more)

-- the value has a spelling, and so many bytes at the front are that spelling
pub record IsAtFront {V : Type 0} (Has : V → Type 0) (spelling : V → List ℕ) (bytes : List ℕ) (v : V) (count : ℕ) : Type 0 where
  pub has : Has v
  pub front : take count bytes ≡ spelling v
  pub all_of_it : count ≡ length (spelling v)

-- No spelling begins another: where two spellings begin the same bytes, they are of one value.
abbrev pub AreApart : {V : Type 0} → (V → Type 0) → (V → List ℕ) → Type 0
AreApart {V = V} Has spelling = (a b : V) (x y : List ℕ) → Has a → Has b → spelling a ++ x ≡ spelling b ++ y → (a ≡ b) × (x ≡ y)

-- ---- reading from left to right, with the first fault that is met

infixl 10 ◌>>=◌
abbrev pub ◌>>=◌ : {A B F : Type 0} → Result A F → (A → Result B F) → Result B F
(Ok x) >>= f = f x
(Err e) >>= f = Err e

-- a function that returns a value and the bytes behind it gives what reading gives
abbrev pub Gives : {X Y F : Type 0} → (X → Y) → Result X F → Result Y F → Type 0
Gives view (Ok x) read = read ≡ Ok (view x)
Gives view (Err e) read = read ≡ Err e

-- a function that returns a value and its length gives what reading gives
abbrev pub Counts : {V F : Type 0} → List ℕ → Result (V × ℕ) F → Result (V × List ℕ) F → Type 0
Counts bytes (Ok x) read = (read ≡ Ok (x.0, drop x.1 bytes)) × (x.1 ≤ length bytes)
Counts bytes (Err e) read = read ≡ Err e
