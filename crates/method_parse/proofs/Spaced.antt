-- The text of lists of words, as printers write it.
use Rattle.std.proofs.Common.{◌≡◌, ◌≤◌, ℕ, length, take, List, [], ◌∷◌, ◌++◌, map, refl, ap, sym, ◌∙◌}
use Rattle.std.specs.List.{flat_map}
use Rattle.std.proofs.lemmas.Grind.{flat_map-append}
use Rattle.std.proofs.lemmas.List.{take_all}
use Rattle.class_defs.specs.Words.{Word, behind_commas, with_commas, in_turn}
use Rattle.class_defs.specs.Printed.{spaced_word, spaced_words}

-- words behind a comma
abbrev pub comma_text : {X : Type 0} → (X → List Word) → X → List ℕ
comma_text f x = 32 ∷ 44 ∷ spaced_words (f x)

-- the words of one of several
abbrev pub one_text : {X : Type 0} → (X → List Word) → X → List ℕ
one_text f x = spaced_words (f x)

-- the words of the first
abbrev pub first_text : {X : Type 0} → (X → List Word) → List X → List ℕ
first_text f [] = []
first_text f (x ∷ xs) = spaced_words (f x)

pub spaced_both : (v w : List Word) → spaced_words (v ++ w) ≡ spaced_words v ++ spaced_words w
spaced_both v w = flat_map-append spaced_word v w

module _ {X : Type 0} (f : X → List Word) where
  pub spaced_commas : (xs : List X) → spaced_words (behind_commas (map f xs)) ≡ flat_map (comma_text f) xs
  spaced_commas [] = refl
  spaced_commas (x ∷ xs) = ap (λ (t : List ℕ). 32 ∷ 44 ∷ t)
      (spaced_both (f x) (behind_commas (map f xs)) ∙ ap (λ (t : List ℕ). spaced_words (f x) ++ t) (spaced_commas xs))

  pub spaced_list : (xs : List X) (x : X) → spaced_words (with_commas (map f (x ∷ xs))) ≡ spaced_words (f x) ++ flat_map (comma_text f) xs
  spaced_list xs x = spaced_both (f x) (behind_commas (map f xs)) ∙ ap (λ (t : List ℕ). spaced_words (f x) ++ t) (spaced_commas xs)

  pub spaced_turns : (xs : List X) → spaced_words (in_turn (map f xs)) ≡ flat_map (one_text f) xs
  spaced_turns [] = refl
  spaced_turns (x ∷ xs) = spaced_both (f x) (in_turn (map f xs)) ∙ ap (λ (t : List ℕ). spaced_words (f x) ++ t) (spaced_turns xs)

  -- all of a list of one or more, where a loop over those behind the first has ended
  pub list_end : (xs more : List X) (x : X) (old out : List ℕ) (i : ℕ) → xs ≡ x ∷ more → length more ≤ i
      → out ≡ old ++ (first_text f xs ++ flat_map (comma_text f) (take i more))
      → out ≡ old ++ spaced_words (with_commas (map f xs))
  list_end xs more x old out i e l o =
      o ∙ ap (λ (t : List ℕ). old ++ t)
      (ap (λ (ys : List X). first_text f ys ++ flat_map (comma_text f) (take i more)) e
      ∙ ap (λ (ys : List X). spaced_words (f x) ++ flat_map (comma_text f) ys) (take_all i more l)
      ∙ sym (spaced_list more x) ∙ ap (λ (ys : List X). spaced_words (with_commas (map f ys))) (sym e))

  -- all of a list, where a loop over it has ended
  pub turns_end : (xs ys : List X) (old out : List ℕ) (i : ℕ) → ys ≡ xs → length ys ≤ i
      → out ≡ old ++ flat_map (one_text f) (take i ys) → out ≡ old ++ spaced_words (in_turn (map f xs))
  turns_end xs ys old out i e l o =
      o ∙ ap (λ (t : List ℕ). old ++ t)
      (ap (λ (zs : List X). flat_map (one_text f) zs) (take_all i ys l ∙ e) ∙ sym (spaced_turns xs))
