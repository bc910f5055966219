-- What an expression that was read is: its words, and that it fits into its room.
use Rattle.std.proofs.Common.{◌≡◌, ℕ, ◌≤◌, ◌<◌, max, true, List, [], ◌∷◌, ◌++◌, map, refl, sym, ap, ◌∙◌, append_assoc, arith}
use Rattle.std.specs.Prelude.{codes, ◌&&◌}
use Rattle.std.proofs.lemmas.List.{append-nil}
use Rattle.std.proofs.lemmas.Bool.{and_from, and_parts}
use Rattle.script_text.specs.declared.token.Token.{Token}
use Rattle.class_defs.specs.declared.expressions.Expr.{Expr}
use Rattle.class_defs.specs.declared.places.Place.{Place}
use Rattle.class_defs.specs.Words.{Word, Fixed, behind_commas, with_commas}
use Rattle.class_defs.specs.Spelling.{expr_words}
use Rattle.class_defs.specs.Shape.{Shape, shape, deepest, most_nested, all_proper}
use Rattle.method_parse.specs.declared.deep.Deep.{Deep}
use Rattle.method_parse.specs.declared.deep.Arguments.{Arguments}
use Rattle.method_parse.specs.declared.deep.Level.{Level}
use Rattle.method_parse.specs.declared.deep.Level.TheVariants as levels
use Rattle.method_parse.specs.Matching.{AreWords}

-- the number of a level
abbrev pub tightness : Level → ℕ
tightness levels.Comparison = 0
tightness levels.Sum = 1
tightness levels.Term = 2
tightness levels.Unary = 3

-- a shape of a depth that fits into a room, at a level
pub record FitsIn (brackets room level depth : ℕ) (s : Shape) : Type 0 where
  pub deep : s.depth ≡ depth
  pub positive : 0 < depth
  pub within : depth ≤ room
  pub nested : s.nesting ≤ brackets
  pub tight : level ≤ s.level
  pub proper : s.proper ≡ true

-- an expression that tokens spell, in a room, at a level
pub record IsRead (place : Place) (brackets room level : ℕ) (d : Deep) (ts : List Token) : Type 0 where
  pub spelled : AreWords ts (expr_words d.expr)
  pub fits : FitsIn brackets room level d.depth (shape place d.expr)

pub looser : (place : Place) (brackets room level less : ℕ) (d : Deep) (ts : List Token) → less ≤ level → IsRead place brackets room level d ts → IsRead place brackets room less d ts
looser place brackets room level less d ts le read = record {
  spelled = read.spelled;
  fits = record {
    deep = read.fits.deep;
    positive = read.fits.positive;
    within = read.fits.within;
    nested = read.fits.nested;
    tight = omega (arith, read.fits.tight);
    proper = read.fits.proper;
  };
}

-- arguments that fit into a room
pub record ListFits (place : Place) (brackets room : ℕ) (a : Arguments) : Type 0 where
  pub deep : deepest (map (shape place) a.exprs) ≡ a.depth
  pub within : a.depth ≤ room
  pub nested : most_nested (map (shape place) a.exprs) ≤ brackets
  pub proper : all_proper (map (shape place) a.exprs) ≡ true

pub record IsListed (place : Place) (brackets room : ℕ) (a : Arguments) (ts : List Token) : Type 0 where
  pub spelled : AreWords ts (with_commas (map expr_words a.exprs))
  pub fits : ListFits place brackets room a

abbrev pub IsFilled : List Expr → Type 0
IsFilled [] = ⊥
IsFilled (x ∷ xs) = Unit {0}

-- at least one argument
pub record IsBegun (place : Place) (brackets room : ℕ) (a : Arguments) (ts : List Token) : Type 0 where
  pub listed : IsListed place brackets room a ts
  pub filled : IsFilled a.exprs

-- arguments in their parentheses
pub record IsApplied (place : Place) (brackets room : ℕ) (a : Arguments) (ts : List Token) : Type 0 where
  pub spelled : AreWords ts (Fixed (codes "(") ∷ (with_commas (map expr_words a.exprs) ++ Fixed (codes ")") ∷ []))
  pub fits : ListFits place brackets room a

behind-push : (xs : List Expr) (x : Expr) → behind_commas (map expr_words (xs ++ x ∷ [])) ≡ behind_commas (map expr_words xs) ++ Fixed (codes ",") ∷ expr_words x
behind-push [] x = ap (λ (w : List Word). Fixed (codes ",") ∷ w) (append-nil (expr_words x))
behind-push (y ∷ ys) x = ap (λ (w : List Word). Fixed (codes ",") ∷ w)
    (ap (λ (w : List Word). expr_words y ++ w) (behind-push ys x) ∙ sym (append_assoc (expr_words y) (behind_commas (map expr_words ys)) (Fixed (codes ",") ∷ expr_words x)))

pub commas-push : (xs : List Expr) (x : Expr) → IsFilled xs → with_commas (map expr_words (xs ++ x ∷ [])) ≡ with_commas (map expr_words xs) ++ Fixed (codes ",") ∷ expr_words x
commas-push [] x filled = absurd filled
commas-push (y ∷ ys) x filled =
    ap (λ (w : List Word). expr_words y ++ w) (behind-push ys x) ∙ sym (append_assoc (expr_words y) (behind_commas (map expr_words ys)) (Fixed (codes ",") ∷ expr_words x))

pub filled-push : (xs : List Expr) (x : Expr) → IsFilled (xs ++ x ∷ [])
filled-push [] x = tt
filled-push (y ∷ ys) x = tt

pub deepest-push : (f : Expr → Shape) (xs : List Expr) (x : Expr) → deepest (map f (xs ++ x ∷ [])) ≡ max (deepest (map f xs)) (f x).depth
deepest-push f [] x = omega arith
deepest-push f (y ∷ ys) x = omega (arith, deepest-push f ys x)

pub nested-push : (f : Expr → Shape) (xs : List Expr) (x : Expr) → most_nested (map f (xs ++ x ∷ [])) ≡ max (most_nested (map f xs)) (f x).nesting
nested-push f [] x = omega arith
nested-push f (y ∷ ys) x = omega (arith, nested-push f ys x)

pub proper-push : (f : Expr → Shape) (xs : List Expr) (x : Expr) → all_proper (map f xs) ≡ true → (f x).proper ≡ true → all_proper (map f (xs ++ x ∷ [])) ≡ true
proper-push f [] x p q = and_from (f x).proper true q refl
proper-push f (y ∷ ys) x p q =
    let b = and_parts (f y).proper (all_proper (map f ys)) p in
    and_from (f y).proper (all_proper (map f (ys ++ x ∷ []))) b.0 (proper-push f ys x b.1 q)
