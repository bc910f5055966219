-- A source or a sink in memory, as contracts see it (this project's).
use Rattle.std.specs.Prelude.{ℕ, ℤ, List}

-- what a source in memory has left, which of its calls fail, the number of the next call, and how many failed
pub record Supply : Type 0 where
  pub rest : List ℕ
  pub fails : List ℤ
  pub next : ℤ
  pub faults : ℕ

-- the same of a sink in memory, with what it took
pub record Store : Type 0 where
  pub taken : List ℕ
  pub fails : List ℤ
  pub next : ℤ
  pub faults : ℕ
