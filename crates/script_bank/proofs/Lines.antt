use native.Mathlib.Numerals.{unary_clauses}
use native.Mathlib.Omega.{arith}
use Rattle.std.proofs.Common.{◌≡◌, ◌+◌, ◌*◌, ◌-◌, ◌/◌, ◌%◌, ◌++◌, ◌<◌, ℕ, List, refl}
use Rattle.script_bank.specs.Bank.{draws_before, lines, next_state, state}

-- the lines with one more
pub lines_next : (line : ℕ → List ℕ) (k : ℕ) → lines line (k + 1) ≡ lines line k ++ line k
lines_next line k = simp unary_clauses refl

-- two numbers are drawn for an item
pub item_draws : (n client place : ℕ) → next_state (next_state (state n (draws_before n client place))) ≡ state n (draws_before n client (place + 1))
item_draws n client place =
    let e : draws_before n client (place + 1) ≡ draws_before n client place + 2 = omega arith in
    rw e (simp unary_clauses refl)

-- behind the items of a client come those of the next
pub client_draws : (n client : ℕ) → draws_before n client (25 * n) ≡ draws_before n (client + 1) 0
client_draws n client = omega arith
