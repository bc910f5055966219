-- The steps of a write to a disk in memory.
use Rattle.std.specs.Prelude.{ℕ, ◌+◌, ◌-◌, min, List, ◌++◌, length, take, drop, replicate}
use Rattle.disk_trait.specs.Change.{PutBack}

-- the bytes with what a write at a place has past their end, behind zeros up to the place
abbrev pub grown : List ℕ → ℕ → List ℕ → List ℕ
grown old at put = old ++ replicate (at - length old) 0 ++ drop (length old - at) put

-- the bytes with some put in the place of as many
abbrev pub over : List ℕ → ℕ → List ℕ → List ℕ
over bytes from put = take from bytes ++ put ++ drop (from + length put) bytes

-- how many of the bytes a write of n bytes at a place puts others in the place of
abbrev pub inside : List ℕ → ℕ → ℕ → ℕ
inside bytes at n = min (at + n) (length bytes) - min at (length bytes)

-- what gives the bytes back after a write of n bytes at a place
abbrev pub change_of : List ℕ → ℕ → ℕ → PutBack
change_of bytes at n = record { from = min at (length bytes); end = at + n; old = take (inside bytes at n) (drop (min at (length bytes)) bytes) }
