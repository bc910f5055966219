-- Lists that are told apart by a function of their elements, one place after the other.
use Rattle.std.proofs.Common.{◌≡◌, ◌+◌, ◌<◌, ℕ, List, [], ◌∷◌, ◌++◌, length, map, take, get_or, ap, ap₂, sym, ◌∙◌, arith}
use Rattle.std.proofs.lemmas.List.{get_or-map, map_more}

module _ {X Y : Type 0} (f : X → Y) (xs ys : List X) where
  pub same_more : (i : ℕ) (x y : X) → i < length xs → length xs ≡ length ys → x ≡ get_or xs i x → y ≡ get_or ys i y → f x ≡ f y
      → map f (take i xs) ≡ map f (take i ys) → map f (take (i + 1) xs) ≡ map f (take (i + 1) ys)
  same_more i x y less long is other e before =
      map_more f xs i x less
      ∙ ap₂ (λ (l : List Y) (z : Y). l ++ z ∷ []) before (ap f (sym is) ∙ e ∙ ap f other)
      ∙ sym (map_more f ys i y (omega (arith, less, long)))

  pub same_at : (i : ℕ) (x y : X) → i < length xs → length xs ≡ length ys → x ≡ get_or xs i x → y ≡ get_or ys i y → map f xs ≡ map f ys → f x ≡ f y
  same_at i x y less long is other e =
      ap f is
      ∙ sym (get_or-map f xs i x (f x) less)
      ∙ ap (λ (l : List Y). get_or l i (f x)) e
      ∙ get_or-map f ys i y (f x) (omega (arith, less, long))
      ∙ ap f (sym other)
