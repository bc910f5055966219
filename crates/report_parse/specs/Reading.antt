-- How bytes are read from the front, part by part. What the reader's own functions answer; nothing that is promised to
-- a caller speaks of it.
use Rattle.std.specs.Prelude.{◌≡◌, ℕ, zero, suc, ◌==◌, Bool, if◌then◌else◌, List, [], ◌∷◌, length, Option, Some, None, Result, Ok, Err}
use Rattle.report_parse.specs.declared.unread.Unread.{Unread}
use Rattle.report_parse.specs.declared.unread.Unread.TheVariants.{Absent, NoMemory}

-- what a reader gives: the part at the front of bytes, and the bytes behind it; None where they begin with none
abbrev pub Reading : Type 0 → Type 0
Reading X = List ℕ → Option (X × List ℕ)

infixl 10 ◌>>=◌
abbrev pub ◌>>=◌ : {A B : Type 0} → Option A → (A → Option B) → Option B
(Some x) >>= f = f x
None >>= f = None

-- the bytes behind a fixed text
unfoldable pub strip : List ℕ → List ℕ → Option (List ℕ)
strip [] bytes = Some bytes
strip (t ∷ text) [] = None
strip (t ∷ text) (b ∷ bytes) = if t == b then strip text bytes else None

-- a part made of what is read
abbrev pub made : {X Y : Type 0} → (X → Y) → Reading X → Reading Y
made make read bytes = read bytes >>= λ x. Some (make x.0, x.1)

-- one part, and another behind it
infixr 6 ◌then◌
abbrev pub ◌then◌ : {X Y : Type 0} → Reading X → Reading Y → Reading (X × Y)
(first then second) bytes = first bytes >>= λ x. second x.1 >>= λ y. Some ((x.0, y.0), y.1)

-- a part behind a fixed text
abbrev pub after_text : {X : Type 0} → List ℕ → Reading X → Reading X
after_text text read bytes = strip text bytes >>= read

-- a part before a fixed text
abbrev pub before : {X : Type 0} → List ℕ → Reading X → Reading X
before text read bytes = read bytes >>= λ x. strip text x.1 >>= λ rest. Some (x.0, rest)

-- a part that passes a test
abbrev pub such_that : {X : Type 0} → (X → Bool) → Reading X → Reading X
such_that test read bytes = read bytes >>= λ x. if test x.0 then Some x else None

-- a part of no bytes
abbrev pub only : {X : Type 0} → X → Reading X
only x bytes = Some (x, bytes)

abbrev pub chosen : {X : Type 0} → Option (List ℕ) → Reading X → Option (X × List ℕ) → Option (X × List ℕ)
chosen (Some rest) read other = read rest
chosen None read other = other

-- what stands behind the first of some fixed texts with which the bytes begin
abbrev pub first_of : {X : Type 0} → List (List ℕ × Reading X) → Reading X
first_of [] bytes = None
first_of (c ∷ cs) bytes = chosen (strip c.0 bytes) c.1 (first_of cs bytes)

abbrev pub gathered : {X : Type 0} → List ℕ → Option (X × List ℕ) → (List ℕ → List X × List ℕ) → List X × List ℕ
gathered bytes None others = ([], bytes)
gathered bytes (Some x) others = (x.0 ∷ (others x.1).0, (others x.1).1)

-- parts one behind the other, as many as there are, up to a number
unfoldable pub many : {X : Type 0} → Reading X → ℕ → List ℕ → List X × List ℕ
many read zero bytes = ([], bytes)
many read (suc n) bytes = gathered bytes (read bytes) (many read n)

-- all of them
abbrev pub all_of : {X : Type 0} → Reading X → Reading (List X)
all_of read bytes = Some (many read (length bytes) bytes)

-- what a function returned, as `view` sees it, is what reading gives, unless memory ran out
abbrev pub Fails : {Y : Type 0} → Unread → Option Y → Type 0
Fails Absent read = read ≡ None
Fails NoMemory read = Unit {0}

abbrev pub Gives : {X Y : Type 0} → (X → Y) → Result X Unread → Option Y → Type 0
Gives view (Ok x) read = read ≡ Some (view x)
Gives view (Err e) read = Fails e read

-- so for a function that takes no memory
abbrev pub Sees : {X Y : Type 0} → (X → Y) → Option X → Option Y → Type 0
Sees view (Some x) read = read ≡ Some (view x)
Sees view None read = read ≡ None
