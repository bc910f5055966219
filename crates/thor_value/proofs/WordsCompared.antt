-- Two texts in memory aren't equal where their lengths or their last bytes aren't.
use Rattle.std.proofs.Common.{◌≡◌, ℕ, Bool, true, false, List, length, refl, sym, ap, ◌∙◌}
use Rattle.std.specs.Str.{bytes_eq}
use Rattle.std.proofs.lemmas.Slice.Eq.{bytes_eq-Decides}
use Rattle.thor_value.specs.Words.{IsPadded, bytes_in, last_byte}
use Rattle.thor_value.specs.declared.words.Word.TheInside.{Inside}

unequal : (b : Bool) → (b ≡ true → ⊥) → false ≡ b
unequal true not = absurd (not refl)
unequal false not = refl

pub lengths_compared : (a b : Inside) → IsPadded a → IsPadded b → (a.len ≡ b.len → ⊥) → false ≡ bytes_eq (bytes_in a) (bytes_in b)
lengths_compared a b h g other =
    unequal (bytes_eq (bytes_in a) (bytes_in b)) (λ e. other (h.len ∙ ap length ((bytes_eq-Decides (bytes_in a) (bytes_in b)).0 e) ∙ sym g.len))

pub lasts_compared : (x y : List ℕ) (p q : ℕ) → p ≡ last_byte x → q ≡ last_byte y → (p ≡ q → ⊥) → false ≡ bytes_eq x y
lasts_compared x y p q h g other =
    unequal (bytes_eq x y) (λ e. other (h ∙ ap last_byte ((bytes_eq-Decides x y).0 e) ∙ sym g))

pub ruleset compared = (lengths_compared, lasts_compared)
