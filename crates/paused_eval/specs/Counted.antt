-- The nodes that were counted, beside the steps that were taken.
use Rattle.std.specs.Prelude.{ℕ, ◌-◌}

-- how many more nodes were counted than steps were taken, and how many fewer
unfoldable pub surplus : ℕ → ℕ → ℕ × ℕ
surplus count steps = (count - steps, steps - count)
