-- Whether the next upgrade can be counted.
use Rattle.law_repo_calls.specs.Vouching.{IsCounted}
use Rattle.repo_core.specs.Behind.{epoch_of}
use Rattle.repo_core.specs.Shown.{Shown}
use Rattle.std.proofs.Common.{arith, length, ℕ, ◌+◌, ◌-◌, ◌<◌, ◌^◌}
use Rattle.std.specs.Prelude.{min}

below : (n : ℕ) → min n (2 ^ 32 - 1) < 2 ^ 32 - 1 → n + 1 < 2 ^ 32
below n l = omega (arith, l)

pub counted : (x : Shown) → epoch_of x.held < 2 ^ 32 - 1 → IsCounted x
counted x l = below (length x.held.upgrades) l
