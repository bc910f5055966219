-- How one option goes before those behind it.
use Rattle.std.proofs.Common.{◌≡◌, ℕ, List, [], ◌∷◌, Option, Some, None, Result, refl, ap, sym, ◌∙◌, subst}
use Rattle.std.specs.Prelude.{option_and_then}
use Rattle.top_words.specs.Words.{Gives, either_way, equals_at, with_joined, with_option, with_options}
use Rattle.top_words.specs.declared.command.Given.{Given}
use Rattle.top_words.specs.declared.command.WordsFault.{WordsFault}

and_all : (o : Option Given) → o ≡ option_and_then (λ more. with_options more []) o
and_all None = refl
and_all (Some g) = refl

joined : (given : Given) (word : List ℕ) (rest : List (List ℕ)) (place : ℕ) → equals_at word ≡ Some place → with_options given (word ∷ rest) ≡ option_and_then (λ more. with_options more rest) (with_joined given word place)
joined given word [] place is = ap (option_and_then (with_joined given word)) is ∙ and_all (with_joined given word place)
joined given word (value ∷ rest) place is =
    ap (λ o. either_way o (λ at. option_and_then (λ more. with_options more (value ∷ rest)) (with_joined given word at)) (option_and_then (λ more. with_options more rest) (with_option given word value))) is

apart : (given : Given) (word value : List ℕ) (rest : List (List ℕ)) → equals_at word ≡ None → with_options given (word ∷ value ∷ rest) ≡ option_and_then (λ more. with_options more rest) (with_option given word value)
apart given word value rest is =
    ap (λ o. either_way o (λ at. option_and_then (λ more. with_options more (value ∷ rest)) (with_joined given word at)) (option_and_then (λ more. with_options more rest) (with_option given word value))) is

-- an option that is one word, and those behind it
pub joined_gives : (given more : Given) (word : List ℕ) (words rest : List (List ℕ)) (place : ℕ) (r : Result Given WordsFault) → words ≡ word ∷ rest → equals_at word ≡ Some place → with_joined given word place ≡ Some more → Gives (with_options more rest) r → Gives (with_options given words) r
joined_gives given more word words rest place r split is one gives =
    subst (λ o. Gives o r) (sym (ap (with_options given) split ∙ joined given word rest place is ∙ ap (option_and_then (λ g. with_options g rest)) one)) gives

-- an option that is two words, and those behind it
pub apart_gives : (given more : Given) (word value : List ℕ) (words rest : List (List ℕ)) (r : Result Given WordsFault) → words ≡ word ∷ value ∷ rest → equals_at word ≡ None → with_option given word value ≡ Some more → Gives (with_options more rest) r → Gives (with_options given words) r
apart_gives given more word value words rest r split is one gives =
    subst (λ o. Gives o r) (sym (ap (with_options given) split ∙ apart given word value rest is ∙ ap (option_and_then (λ g. with_options g rest)) one)) gives

-- an option without its value
pub alone_gives : (given : Given) (word : List ℕ) (words : List (List ℕ)) → words ≡ word ∷ [] → equals_at word ≡ None → with_options given words ≡ None
alone_gives given word words split is = ap (with_options given) split ∙ ap (option_and_then (with_joined given word)) is
