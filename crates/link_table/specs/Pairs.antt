-- A relation of pairs of numbers, as the list of its pairs in the order in which they were linked. No
-- pair stands in it twice.
use Rattle.std.specs.List.{filter, list_any}
use Rattle.std.specs.Prelude.{Bool, List, None, Option, Some, [], cond, map, nat_eq, not, ℕ, ◌&&◌, ◌++◌, ◌∷◌}

-- whether it is the pair of these two
abbrev pub is_pair : ℕ → ℕ → ℕ × ℕ → Bool
is_pair left right p = nat_eq p.0 left && nat_eq p.1 right

-- whether the two are linked
abbrev pub is_linked : List (ℕ × ℕ) → ℕ → ℕ → Bool
is_linked R left right = list_any (is_pair left right) R

-- the rights of a left, in the order in which they were linked with it
abbrev pub rights : List (ℕ × ℕ) → ℕ → List ℕ
rights R left = map (λ p. p.1) (filter (λ p. nat_eq p.0 left) R)

-- the lefts of a right, in the same order
abbrev pub lefts : List (ℕ × ℕ) → ℕ → List ℕ
lefts R right = map (λ p. p.0) (filter (λ p. nat_eq p.1 right) R)

-- with a new pair, which goes last
abbrev pub link : List (ℕ × ℕ) → ℕ → ℕ → List (ℕ × ℕ)
link R left right = R ++ (left, right) ∷ []

-- without one pair
abbrev pub unlink : List (ℕ × ℕ) → ℕ → ℕ → List (ℕ × ℕ)
unlink R left right = filter (λ p. not (is_pair left right p)) R

-- without the pairs of a left
abbrev pub unlink_left : List (ℕ × ℕ) → ℕ → List (ℕ × ℕ)
unlink_left R left = filter (λ p. not (nat_eq p.0 left)) R

-- the first of a list
abbrev pub first : {X : Type 0} → List X → Option X
first [] = None
first (x ∷ xs) = Some x

-- what stands behind x in a list, where x is there and isn't the last
abbrev pub next_after : List ℕ → ℕ → Option ℕ
next_after [] x = None
next_after (y ∷ ys) x = cond (nat_eq y x) (first ys) (next_after ys x)

-- one step of a walk: the first, or what stands behind the one that came last
abbrev pub next : List ℕ → Option ℕ → Option ℕ
next xs None = first xs
next xs (Some x) = next_after xs x
