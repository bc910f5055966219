-- Things in turn that are spelled are read, as many as there are.
use Rattle.std.proofs.Common.{◌≡◌, ◌≤◌, Bool, false, true, List, [], ◌∷◌, ◌++◌, length, map, arith}
use Rattle.std.specs.List.{AllByRecursion}
use Rattle.std.proofs.lemmas.List.{length-append}
use Rattle.class_defs.specs.Words.{Word, in_turn}
use Rattle.script_text.specs.declared.token.Token.{Token}
use Rattle.method_parse.specs.Matching.{AreWords}
use Rattle.method_parse.specs.Reader.{Reader, ◌>>=◌, give, next, repeat_all}
use Rattle.method_parse.proofs.ListOnly.{same_length}
use Rattle.method_parse.proofs.SetupOnly.{turns_read}
use Rattle.method_parse.proofs.StatementOnly.{gives}

module _ {X : Type 0} (f : X → List Word) (some : (x : X) → 1 ≤ length (f x)) where
  turn_long : (xs : List X) → length xs ≤ length (in_turn (map f xs))
  turn_long [] = omega arith
  turn_long (x ∷ xs) = omega (arith, some x, turn_long xs, length-append (f x) (in_turn (map f xs)))

  pub all_read : (P : X → Type 0) (one : Reader X) (test : Token → Bool)
      → ((x : X) (ts rest : List Token) → AreWords ts (f x) → P x → one (ts ++ rest) ≡ gives x rest)
      → ((x : X) (ts rest : List Token) → AreWords ts (f x) → next test (ts ++ rest) ≡ true)
      → (xs before : List X) (ts rest : List Token) → AreWords ts (in_turn (map f xs)) → AllByRecursion P xs → next test rest ≡ false
      → repeat_all (λ ys. test) (λ ys. one >>= λ x. give (ys ++ x ∷ [])) before (ts ++ rest) ≡ gives (before ++ xs) rest
  all_read P one test reads begins xs before ts rest h all ends =
      turns_read f P one test reads begins xs before (length (ts ++ rest)) ts rest h all
      (omega (arith, length-append ts rest, same_length ts (in_turn (map f xs)) h, turn_long xs)) ends
