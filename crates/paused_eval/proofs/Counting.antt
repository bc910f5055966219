-- A node is counted where its step is taken.
use Rattle.std.proofs.Common.{◌≡◌, ◌+◌, ◌-◌, ℕ, arith, ap, refl}
use Rattle.paused_eval.specs.Counted.{surplus}

pub counted_step : (count more steps : ℕ) → more ≡ count + 1 → surplus more (steps + 1) ≡ surplus count steps
unfolding surplus
counted_step count more steps e =
    let a : more - (steps + 1) ≡ count - steps = omega (arith, e) in
    let b : (steps + 1) - more ≡ steps - count = omega (arith, e) in
    rw (a, b) refl

-- as many nodes were counted as steps were taken
pub as_many : (v w s t : ℕ) → surplus w t ≡ surplus v s → w + s ≡ v + t
unfolding surplus
as_many v w s t h =
    let a : w - t ≡ v - s = ap (λ p. p.0) h in
    let b : t - w ≡ s - v = ap (λ p. p.1) h in
    omega (arith, a, b)
