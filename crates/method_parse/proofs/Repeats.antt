-- One turn of a repetition, as a loop takes it.
use Rattle.std.proofs.Common.{◌≡◌, ℕ, zero, suc, ◌-◌, ◌+◌, ◌≤◌, ◌<◌, Bool, true, false, List, Result, Ok, refl, ap, ◌∙◌, arith}
use Rattle.script_text.specs.declared.token.Token.{Token}
use Rattle.method_parse.specs.declared.error.ParseError.{ParseError}
use Rattle.method_parse.specs.declared.error.ParseError.TheVariants as errors
use Rattle.method_parse.specs.Reader.{Reader, onward, next, repeat, Fails}

module _ {X : Type 0} (test : X → Token → Bool) (step : X → Reader X) where
  pub one_turn : (n i : ℕ) (x : X) (tokens : List Token) → i < n → next (test x) tokens ≡ true
      → repeat (n - i) test step x tokens ≡ onward (step x tokens) (repeat (n - (i + 1)) test step)
  unfolding repeat
  one_turn n i x tokens lt passes =
      let k : n - i ≡ suc (n - (i + 1)) = omega arith in
      rw (k, passes) refl

  pub no_turn : (k : ℕ) (x : X) (tokens : List Token) → next (test x) tokens ≡ false → repeat k test step x tokens ≡ Ok (x, tokens)
  unfolding repeat
  no_turn zero x tokens fails = refl
  no_turn (suc k) x tokens fails = rw fails refl

  pub goes_on : (n i : ℕ) (x y : X) (tokens rest : List Token) (total : Result (X × List Token) ℕ) → i < n → next (test x) tokens ≡ true
      → step x tokens ≡ Ok (y, rest) → total ≡ repeat (n - i) test step x tokens → total ≡ repeat (n - (i + 1)) test step y rest
  goes_on n i x y tokens rest total lt passes read so_far =
      so_far ∙ one_turn n i x tokens lt passes ∙ ap (λ (r : Result (X × List Token) ℕ). onward r (repeat (n - (i + 1)) test step)) read

  pub stops : (n i : ℕ) (x : X) (tokens : List Token) (total : Result (X × List Token) ℕ) → next (test x) tokens ≡ false
      → total ≡ repeat (n - i) test step x tokens → total ≡ Ok (x, tokens)
  stops n i x tokens total fails so_far = so_far ∙ no_turn (n - i) x tokens fails

  pub ends : (n i : ℕ) (x : X) (tokens : List Token) (total : Result (X × List Token) ℕ) → n ≤ i
      → total ≡ repeat (n - i) test step x tokens → total ≡ Ok (x, tokens)
  unfolding repeat
  ends n i x tokens total le so_far =
      let k : n - i ≡ 0 = omega arith in
      so_far ∙ ap (λ (k : ℕ). repeat k test step x tokens) k

  pub breaks : (e : ParseError) (n i : ℕ) (x : X) (tokens : List Token) (total : Result (X × List Token) ℕ) → i < n → next (test x) tokens ≡ true
      → Fails e (step x tokens) → total ≡ repeat (n - i) test step x tokens → Fails e total
  breaks errors.NoMemory n i x tokens total lt passes fails so_far = tt
  breaks (errors.Stuck left) n i x tokens total lt passes fails so_far =
      so_far ∙ one_turn n i x tokens lt passes ∙ ap (λ (r : Result (X × List Token) ℕ). onward r (repeat (n - (i + 1)) test step)) fails
