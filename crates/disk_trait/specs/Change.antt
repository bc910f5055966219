-- How a disk's bytes got what they were before.
use Rattle.std.specs.Prelude.{ℕ, List, ◌++◌, take, drop}

-- `old` stood in place of what stands from `from` up to `end`
pub record PutBack : Type 0 where
  pub from : ℕ
  pub end : ℕ
  pub old : List ℕ

-- the bytes before the change
abbrev pub put_back : PutBack → List ℕ → List ℕ
put_back change bytes = take change.from bytes ++ change.old ++ drop change.end bytes
