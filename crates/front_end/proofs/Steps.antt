-- What is left for a client is one number.
use Rattle.client_state.proofs.Owing.{calls_are_few, count_is_few}
use Rattle.client_state.specs.Owing.{calls_in, calls_of_abort, most_listed}
use Rattle.client_state.specs.declared.duties.Abort.{Abort}
use Rattle.client_state.specs.declared.phase.Phase.{Phase}
use Rattle.client_state.specs.declared.phase.Phase.TheVariants.{Asking, Beginning, Between, Drawn, Evaluated, Evaluating, Preparing, Transforming}
use Rattle.front_end.specs.Moving.{as_number, bound_of, left_of, steps_left, tries_of, uncounted}
use Rattle.front_end.specs.declared.client.Client.{Client}
use Rattle.front_end.specs.declared.front_end.FrontEnd.{FrontEnd}
use Rattle.client_items.specs.Falling.{Falls, Left, most_calls}
use Rattle.std.proofs.Common.{arith, inl, inr, refl, subst, sym, ℕ, ◌*◌, ◌+◌, ◌<◌, ◌≡◌}
use Rattle.std.specs.Prelude.{None, Option, Some, ◌≤◌}

-- a digit in front has fallen, and the one behind it stays below the base
digit_falls : (b a c d e : ℕ) → c < a → e < b → c * b + e < a * b + d
digit_falls b a c d e less below = grind arith

-- the last digit has fallen
last_falls : (b a c d e : ℕ) → c ≡ a → e < d → c * b + e < a * b + d
last_falls b a c d e same less = rw same (omega (arith, less))

pub falls_as_number : (tries bound : ℕ) (old new : Left) → new.tries ≤ tries → new.calls ≤ most_calls → new.uncounted < bound → Falls old new → as_number tries bound new < as_number tries bound old
falls_as_number tries bound old new t c u (inl items) = digit_falls bound _ _ _ _ (digit_falls (most_calls + 1) _ _ _ _ (digit_falls (tries + 1) _ _ _ _ items (omega (arith, t))) (omega (arith, c))) u
falls_as_number tries bound old new t c u (inr (inl h)) = digit_falls bound _ _ _ _ (digit_falls (most_calls + 1) _ _ _ _ (last_falls (tries + 1) _ _ _ _ h.0 h.1) (omega (arith, c))) u
falls_as_number tries bound old new t c u (inr (inr (inl h))) = digit_falls bound _ _ _ _ (last_falls (most_calls + 1) (old.items * (tries + 1) + old.tries) (new.items * (tries + 1) + new.tries) _ _ (rw (h.0, h.1) refl) h.2) u
falls_as_number tries bound old new t c u (inr (inr (inr h))) = last_falls bound ((old.items * (tries + 1) + old.tries) * (most_calls + 1) + old.calls) ((new.items * (tries + 1) + new.tries) * (most_calls + 1) + new.calls) _ _ (rw (h.0, h.1, h.2) refl) h.3

-- what a client owes has a bound
few_to_abort : (a : Option Abort) → calls_of_abort a ≤ most_listed + 2
few_to_abort None = omega arith
few_to_abort (Some a) = let m = count_is_few a.prepared in omega (arith, m)

few_in : (tries : ℕ) (p : Phase) → calls_in tries p ≤ tries + (most_listed + 2)
few_in tries Between = omega arith
few_in tries Beginning = omega arith
few_in tries (Evaluating run awaited) = omega arith
few_in tries (Transforming run transform) = omega arith
few_in tries (Evaluated transaction) = omega arith
few_in tries (Drawn t transaction) = omega arith
few_in tries (Preparing t transaction coordinator prepared) = let m = count_is_few prepared in omega (arith, m)
few_in tries (Asking sent answers) = let m = count_is_few sent.participants in omega (arith, m)

few_uncounted : (tries : ℕ) (c : Client) → uncounted tries c < bound_of tries
few_uncounted tries c = let a = few_to_abort c.duties.abort in let v = calls_are_few c.duties.verdicts in let p = few_in tries c.phase in omega (arith, a, v, p)

-- where what is left falls, the number of steps falls
pub steps_fall : (old new : FrontEnd) → tries_of new ≡ tries_of old → Falls (left_of old) (left_of new) → steps_left new < steps_left old
steps_fall old new same falls = subst (λ (n : ℕ). as_number n (bound_of n) (left_of new) < steps_left old) (sym same) (falls_as_number (tries_of old) (bound_of (tries_of old)) (left_of old) (left_of new) (omega (arith, same)) (omega arith) (subst (λ (n : ℕ). uncounted (tries_of new) new.client < bound_of n) same (few_uncounted (tries_of new) new.client)) falls)
