-- That values that fit don't get stuck where the rules let them stand.
use Rattle.std.proofs.Common.{◌≡◌, ◌⊎◌, inl, inr, arith, Bool, true, false, List, [], ◌∷◌, Option, Some, None, refl, ℕ}
use Rattle.std.proofs.lemmas.Bool.Decides.{nat_tests}
use Rattle.std.proofs.lemmas.Bool.{and_parts}
use Rattle.std.proofs.Math.Bool.{or-true}
use Rattle.std.specs.Prelude.{◌==◌, ◌&&◌, ◌||◌, option_map}
use Rattle.thor_value.specs.declared.names.Oref.{Oref}
use Rattle.thor_value.specs.declared.values.Value.{Value}
use Rattle.thor_value.specs.declared.values.Value.TheVariants as value
use Rattle.law_type_soundness.proofs.FitArguments.{ArgumentsFit}
use Rattle.law_type_soundness.proofs.FitObjects.{null_suits, value_suits}
use Rattle.class_defs.specs.ExpressionRules.{comparable, is_number, is_printable, takes}
use Rattle.class_defs.specs.Rules.{fits}
use Rattle.law_type_soundness.specs.Fits.{ValueFits}
use Rattle.law_type_soundness.specs.Strict.{are_arguments, are_comparable, are_operands, is_classed, is_int, is_of, is_text}
use Rattle.class_defs.specs.declared.classes.Class.{Class}
use Rattle.class_defs.specs.declared.classes.Parameter.{Parameter}
use Rattle.class_defs.specs.declared.expressions.Operator.{Operator}
use Rattle.class_defs.specs.declared.expressions.Operator.TheVariants.{Add, Subtract, Multiply, Equal, Unequal, Less}
use Rattle.class_defs.specs.declared.store.Object.{Object}
use Rattle.class_defs.specs.declared.types.ExprType.{ExprType}
use Rattle.class_defs.specs.declared.types.ExprType.TheVariants as type

pub same_number : (c d : ℕ) → c ≡ d → (c == d) ≡ true
same_number c d e = grind (arith, nat_tests)

classed_so : (o : Option Object) (c : ℕ) → option_map (λ (p : Object). p.class) o ≡ Some c → is_classed o c ≡ true
classed_so (Some p) c h = same_number p.class c cc
classed_so None c h = cc

pub is_of_so : (f : Oref → Option Object) (t : ExprType) (v : Value) → ValueFits f t v → is_of f t v ≡ true
is_of_so f type.Int (value.Int n) h = refl
is_of_so f type.Text (value.Int n) h = absurd h
is_of_so f type.Text (value.Text n) h = refl
is_of_so f type.Int (value.Text n) h = absurd h
is_of_so f type.Int (value.Ref x) h = absurd h
is_of_so f type.Text (value.Ref x) h = absurd h
is_of_so f type.Int value.Null h = absurd h
is_of_so f type.Text value.Null h = absurd h
is_of_so f type.Null (value.Int n) h = absurd h
is_of_so f type.Null (value.Text n) h = absurd h
is_of_so f type.Null (value.Ref x) h = absurd h
is_of_so f type.Null value.Null h = refl
is_of_so f (type.Class c) (value.Int n) h = absurd h
is_of_so f (type.Class c) (value.Text n) h = absurd h
is_of_so f (type.Class c) (value.Ref x) h = classed_so (f x) c h
is_of_so f (type.Class c) value.Null h = refl
is_of_so f type.Untold v h = absurd h

int_so : (f : Oref → Option Object) (v : Value) → ValueFits f type.Int v → is_int v ≡ true
int_so f (value.Int n) h = refl
int_so f (value.Text n) h = absurd h
int_so f (value.Ref x) h = absurd h
int_so f value.Null h = absurd h

text_so : (f : Oref → Option Object) (v : Value) → ValueFits f type.Text v → is_text v ≡ true
text_so f (value.Int n) h = absurd h
text_so f (value.Text w) h = refl
text_so f (value.Ref x) h = absurd h
text_so f value.Null h = absurd h

-- a value of a type that may stand where a number may is one
pub number_so : (f : Oref → Option Object) (k : ExprType) (v : Value) → is_number k ≡ true → ValueFits f k v → is_int v ≡ true
number_so f k v h fit = int_so f v (value_suits f type.Int k v tt h fit)

-- and one that may stand where a text may is a text
worded_so : (f : Oref → Option Object) (k : ExprType) (v : Value) → fits type.Text k ≡ true → ValueFits f k v → is_text v ≡ true
worded_so f k v h fit = text_so f v (value_suits f type.Text k v tt h fit)

one_of : (a b : Bool) → (a || b) ≡ true → (a ≡ true) ⊎ (b ≡ true)
one_of true b h = inl refl
one_of false b h = inr h

-- a value of a type that may be printed can be
pub printable_so : (f : Oref → Option Object) (k : ExprType) (v : Value) → is_printable k ≡ true → ValueFits f k v → (is_int v || is_text v) ≡ true
printable_so f k v h fit =
    elim (one_of (is_number k) (fits type.Text k) h) [
      | inl number ↦ rw (number_so f k v number fit) refl
      | inr text ↦ rw (worded_so f k v text fit) (or-true (is_int v))
    ]

reference_so : (f : Oref → Option Object) (c : ℕ) (v u : Value) → ValueFits f (type.Class c) v → are_comparable value.Null u ≡ true
    → are_comparable v u ≡ true
reference_so f c (value.Int n) u h k = absurd h
reference_so f c (value.Text n) u h k = absurd h
reference_so f c (value.Ref x) (value.Int n) h k = k
reference_so f c (value.Ref x) (value.Text n) h k = k
reference_so f c (value.Ref x) (value.Ref y) h k = refl
reference_so f c (value.Ref x) value.Null h k = refl
reference_so f c value.Null u h k = k

null_beside : (f : Oref → Option Object) (c : ℕ) (v : Value) → ValueFits f (type.Class c) v → are_comparable value.Null v ≡ true
null_beside f c (value.Int n) h = absurd h
null_beside f c (value.Text n) h = absurd h
null_beside f c (value.Ref x) h = refl
null_beside f c value.Null h = refl

ints_so : (f : Oref → Option Object) (a b : Value) → ValueFits f type.Int a → is_int b ≡ true → are_comparable a b ≡ true
ints_so f (value.Int n) b h k = k
ints_so f (value.Text n) b h k = absurd h
ints_so f (value.Ref x) b h k = absurd h
ints_so f value.Null b h k = absurd h

words_so : (f : Oref → Option Object) (a b : Value) → ValueFits f type.Text a → is_text b ≡ true → are_comparable a b ≡ true
words_so f (value.Int n) b h k = absurd h
words_so f (value.Text w) b h k = k
words_so f (value.Ref x) b h k = absurd h
words_so f value.Null b h k = absurd h

-- values of types that can be compared can be
comparable_so : (f : Oref → Option Object) (classes : List Class) (j k : ExprType) (a b : Value) → comparable classes j k ≡ true → ValueFits f j a
    → ValueFits f k b → are_comparable a b ≡ true
comparable_so f classes type.Int k a b h fit good = ints_so f a b fit (number_so f k b h good)
comparable_so f classes type.Text k a b h fit good = words_so f a b fit (worded_so f k b h good)
comparable_so f classes type.Null type.Int a b h fit good = cc
comparable_so f classes type.Null type.Text a b h fit good = cc
comparable_so f classes type.Null type.Null a b h fit good = cc
comparable_so f classes type.Null (type.Class d) a b h fit good = reference_so f 0 a b (null_suits f 0 a fit) (null_beside f d b good)
comparable_so f classes type.Null type.Untold a b h fit good = absurd good
comparable_so f classes (type.Class c) type.Int a b h fit good = cc
comparable_so f classes (type.Class c) type.Text a b h fit good = cc
comparable_so f classes (type.Class c) type.Null a b h fit good = reference_so f c a b fit (null_beside f c b (null_suits f c b good))
comparable_so f classes (type.Class c) (type.Class d) a b h fit good = reference_so f c a b fit (null_beside f d b good)
comparable_so f classes (type.Class c) type.Untold a b h fit good = absurd good
comparable_so f classes type.Untold k a b h fit good = absurd fit

numbers_so : (f : Oref → Option Object) (j k : ExprType) (a b : Value) → (is_number j && is_number k) ≡ true → ValueFits f j a → ValueFits f k b
    → (is_int a && is_int b) ≡ true
numbers_so f j k a b h fit good = let p = and_parts (is_number j) (is_number k) h in rw (number_so f j a p.0 fit, number_so f k b p.1 good) refl

-- an operator takes values of types that it takes
pub operands_so : (f : Oref → Option Object) (classes : List Class) (operator : Operator) (j k : ExprType) (a b : Value)
    → takes classes operator j k ≡ true → ValueFits f j a → ValueFits f k b → are_operands operator a b ≡ true
operands_so f classes Add j k a b h fit good = numbers_so f j k a b h fit good
operands_so f classes Subtract j k a b h fit good = numbers_so f j k a b h fit good
operands_so f classes Multiply j k a b h fit good = numbers_so f j k a b h fit good
operands_so f classes Less j k a b h fit good = numbers_so f j k a b h fit good
operands_so f classes Equal j k a b h fit good = comparable_so f classes j k a b h fit good
operands_so f classes Unequal j k a b h fit good = comparable_so f classes j k a b h fit good

-- and a method takes arguments that fit its parameters
pub arguments_so : (f : Oref → Option Object) (classes : List Class) (ps : List Parameter) (vs : List Value) → ArgumentsFit f classes ps vs
    → are_arguments f classes ps vs ≡ true
arguments_so f classes [] [] h = refl
arguments_so f classes [] (v ∷ vs) h = absurd h
arguments_so f classes (p ∷ ps) [] h = absurd h
arguments_so f classes (p ∷ ps) (v ∷ vs) h = rw (is_of_so f _ v h.0) (arguments_so f classes ps vs h.1)
