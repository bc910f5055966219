-- The least of faults that are found piece by piece.
use Rattle.std.proofs.Common.{ℕ, ◌+◌, ◌<◌, take, get_or, sym, ◌∙◌, ◌≡◌, List, [], ◌∷◌, ◌++◌, Option, refl, map, length, ap, suc}
use Rattle.std.specs.List.{flat_map}
use Rattle.std.proofs.lemmas.List.{take_more, flat_map_more}
use Rattle.class_defs.specs.Rules.{least_with, lesser}
use Rattle.class_defs.specs.declared.rules.RuleFault.{RuleFault}

pub least_append : (found : Option RuleFault) (xs ys : List RuleFault) → least_with found (xs ++ ys) ≡ least_with (least_with found xs) ys
least_append found [] ys = refl
least_append found (x ∷ xs) ys = least_append (lesser found x) xs ys

-- the list of what is said of each is as long
pub same_count : {A B : Type 0} (f : A → B) (xs : List A) → length (map f xs) ≡ length xs
same_count f [] = refl
same_count f (x ∷ xs) = ap suc (same_count f xs)

-- one more of several, each of which breaks something of its own
pub each_more : {X : Type 0} (f : X → List RuleFault) (all : List X) (i : ℕ) (x : X) (found : Option RuleFault) → i < length all → x ≡ get_or all i x → least_with (least_with found (flat_map f (take i all))) (f x) ≡ least_with found (flat_map f (take (i + 1) all))
each_more f all i x found within is =
    sym (least_append found (flat_map f (take i all)) (f x))
    ∙ ap (least_with found) (
    flat_map_more f [] (take i all) x
    ∙ ap (λ q. flat_map f (take i all ++ q ∷ [])) is
    ∙ ap (flat_map f) (sym (take_more all i x within)))
