-- A clock that counts how often it was asked.
use Rattle.std.specs.Prelude.{ℕ, ◌+◌, ◌-◌, ◌^◌, min, max}

-- the number that it gives next, and the greatest that it gave
pub record Ticks : Type 0 where
  pub next : ℕ
  pub greatest : ℕ

abbrev pub ticks_from : ℕ → Ticks
ticks_from first = record { next = first; greatest = 0 }

-- after it was asked once; it stays at 2 ^ 64 - 1
abbrev pub ticks_after : Ticks → Ticks
ticks_after clock = record { next = min (clock.next + 1) (2 ^ 64 - 1); greatest = max clock.greatest clock.next }
