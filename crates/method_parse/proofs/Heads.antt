-- What an expression begins with.
use Rattle.std.proofs.Common.{◌≡◌, ℕ, ℤ, zero, suc, ◌≤◌, ◌<◌, true, false, List, ◌∷◌, ◌++◌, pos, refl, sym, ap, subst, ◌∙◌, arith, ◌⊎◌, inl, inr}
use Rattle.std.specs.Prelude.{codes, option_map, Some}
use Rattle.std.specs.Str.{bytes_eq}
use Rattle.script_text.specs.declared.token.Token.{Token}
use Rattle.script_text.specs.declared.token.TokenKind.{TokenKind}
use Rattle.script_text.specs.declared.token.TokenKind.TheVariants as kinds
use Rattle.class_defs.specs.declared.expressions.Expr.{Expr, out-Expr, roll-Expr, roll-out-Expr}
use Rattle.class_defs.specs.declared.expressions.Expr.TheOpen.{Expr-F}
use Rattle.class_defs.specs.declared.expressions.Expr.TheFolds.{fold-roll-Expr, map-Expr}
use Rattle.class_defs.specs.declared.literals.Literal.TheVariants as literal
use Rattle.class_defs.specs.declared.literals.Literal.{Literal}
use Rattle.class_defs.specs.declared.places.Place.{Place}
use Rattle.class_defs.specs.Words.{Word}
use Rattle.class_defs.specs.Spelling.{expr_step, expr_words, literal_word}
use Rattle.class_defs.specs.Shape.{Shape, shape_step, shape}
use Rattle.script_text.specs.Marks.{number_by, text_by}
use Rattle.method_parse.specs.Matching.{IsWord, AreWords, is, is_name_kind, is_fixed_kind}
use Rattle.method_parse.proofs.NameTokens.{name_kind}
use Rattle.method_parse.proofs.Eats.{is_not, split, first}

-- the words and the shape of one level
pub words_of : (o : Expr-F Expr) → expr_words (roll-Expr o) ≡ expr_step (map-Expr Expr (List Word) expr_words o)
words_of o = fold-roll-Expr (List Word) expr_step o

pub shape_of : (p : Place) (o : Expr-F Expr) → shape p (roll-Expr o) ≡ shape_step p (map-Expr Expr Shape (shape p) o)
shape_of p o = fold-roll-Expr Shape (shape_step p) o

pub depth_of : (p : Place) (o : Expr-F Expr) → (shape p (roll-Expr o)).depth ≡ (shape_step p (map-Expr Expr Shape (shape p) o)).depth
depth_of p o = ap (λ (s : Shape). s.depth) (shape_of p o)

positive_roll : (p : Place) (o : Expr-F Expr) → 0 < (shape p (roll-Expr o)).depth
positive_roll p (Expr-F.Literal v l) = omega (arith, depth_of p (Expr-F.Literal v l))
positive_roll p (Expr-F.Null l) = omega (arith, depth_of p (Expr-F.Null l))
positive_roll p (Expr-F.This l) = omega (arith, depth_of p (Expr-F.This l))
positive_roll p (Expr-F.Field n) = omega (arith, depth_of p (Expr-F.Field n))
positive_roll p (Expr-F.Variable n) = omega (arith, depth_of p (Expr-F.Variable n))
positive_roll p (Expr-F.New n a) = omega (arith, depth_of p (Expr-F.New n a))
positive_roll p (Expr-F.Parens x l) = omega (arith, depth_of p (Expr-F.Parens x l))
positive_roll p (Expr-F.Negate x l) = omega (arith, depth_of p (Expr-F.Negate x l))
positive_roll p (Expr-F.Binary o x y l) = omega (arith, depth_of p (Expr-F.Binary o x y l))
positive_roll p (Expr-F.Call x n xs) = omega (arith, depth_of p (Expr-F.Call x n xs))

-- an expression is at least one deep
pub positive : (p : Place) (x : Expr) → 0 < (shape p x).depth
positive p x = subst (λ (y : Expr). 0 < (shape p y).depth) (roll-out-Expr x) (positive_roll p (out-Expr x))

-- the keywords and symbols that begin an expression
pub data Starter : Type 0 where
  AtNull : Starter
  AtThis : Starter
  AtNew : Starter
  AtOpen : Starter
  AtMinus : Starter

abbrev pub starter_text : Starter → List ℕ
starter_text AtNull = codes "null"
starter_text AtThis = codes "this"
starter_text AtNew = codes "new"
starter_text AtOpen = codes "("
starter_text AtMinus = codes "-"

-- a token that begins an expression: a name or number, or one of these
abbrev pub IsHead : Token → Type 0
IsHead t = (is_fixed_kind t.kind ≡ false) ⊎ ((s : Starter) × (t.text ≡ starter_text s))

pub head_not : (t : Token) (other : List ℕ) → IsHead t → ((s : Starter) → bytes_eq (starter_text s) other ≡ false) → is other t ≡ false
head_not t other (inl plain) apart = rw plain refl
head_not t other (inr s) apart = is_not (starter_text s.0) other t s.1 (apart s.0)

-- the tokens begin with one that begins an expression
pub record Headed (ts : List Token) : Type 0 where
  pub token : Token
  pub rest : List Token
  pub parts : ts ≡ token ∷ rest
  pub head : IsHead token

headed_behind : (ts front rest : List Token) → ts ≡ front ++ rest → Headed front → Headed ts
headed_behind ts front rest parts h = record { token = h.token; rest = h.rest ++ rest; parts = parts ∙ ap (λ (u : List Token). u ++ rest) h.parts; head = h.head }

name_plain : (k : TokenKind) → is_name_kind k ≡ true → is_fixed_kind k ≡ false
name_plain kinds.Name e = refl
name_plain kinds.Number e = absurd cc
name_plain kinds.Keyword e = absurd cc
name_plain kinds.Symbol e = absurd cc
name_plain kinds.Quoted e = refl

number_plain : (k : TokenKind) (text : List ℕ) (v : ℤ) → option_map pos (number_by k text) ≡ Some v → is_fixed_kind k ≡ false
number_plain kinds.Name text v e = refl
number_plain kinds.Number text v e = refl
number_plain kinds.Keyword text v e = absurd cc
number_plain kinds.Symbol text v e = absurd cc
number_plain kinds.Quoted text v e = refl

quoted_plain : (k : TokenKind) (text w : List ℕ) → text_by k text ≡ Some w → is_fixed_kind k ≡ false
quoted_plain kinds.Name text w e = refl
quoted_plain kinds.Number text w e = refl
quoted_plain kinds.Keyword text w e = absurd cc
quoted_plain kinds.Symbol text w e = absurd cc
quoted_plain kinds.Quoted text w e = refl

literal_plain : (t : Token) (v : Literal) (l : ℕ) → IsWord t (literal_word v l) → is_fixed_kind t.kind ≡ false
literal_plain t (literal.Int v) l w = number_plain t.kind t.text v w.0
literal_plain t (literal.Text v) l w = quoted_plain t.kind t.text v w.0

at_word : (ts : List Token) (w : Word) (ws : List Word) → AreWords ts (w ∷ ws) → ((t : Token) → IsWord t w → IsHead t) → Headed ts
at_word ts w ws h head = let f = first ts w ws h in record { token = f.token; rest = f.rest; parts = f.parts; head = head f.token f.is }

by_form : (m : ℕ) (p : Place) → ((x : Expr) → (shape p x).depth ≤ m → (ts : List Token) → AreWords ts (expr_words x) → Headed ts)
    → (o : Expr-F Expr) → (shape p (roll-Expr o)).depth ≤ suc m → (ts : List Token) → AreWords ts (expr_step (map-Expr Expr (List Word) expr_words o)) → Headed ts
by_form m p on (Expr-F.Literal v l) le ts h = at_word ts _ _ h (λ t w. inl (literal_plain t v l w))
by_form m p on (Expr-F.Null l) le ts h = at_word ts _ _ h (λ t w. inr (AtNull, w.1))
by_form m p on (Expr-F.This l) le ts h = at_word ts _ _ h (λ t w. inr (AtThis, w.1))
by_form m p on (Expr-F.Field n) le ts h = at_word ts _ _ h (λ t w. inr (AtThis, w.1))
by_form m p on (Expr-F.Variable n) le ts h = at_word ts _ _ h (λ t w. inl (name_plain t.kind (name_kind t.kind t.text w.0)))
by_form m p on (Expr-F.New n a) le ts h = at_word ts _ _ h (λ t w. inr (AtNew, w.1))
by_form m p on (Expr-F.Parens x l) le ts h = at_word ts _ _ h (λ t w. inr (AtOpen, w.1))
by_form m p on (Expr-F.Negate x l) le ts h = at_word ts _ _ h (λ t w. inr (AtMinus, w.1))
by_form m p on (Expr-F.Binary o x y l) le ts h =
    let s = split ts (expr_words x) _ h in
    headed_behind ts s.front s.rest s.parts (on x (omega (arith, depth_of p (Expr-F.Binary o x y l))) s.front s.first)
by_form m p on (Expr-F.Call x n xs) le ts h =
    let s = split ts (expr_words x) _ h in
    headed_behind ts s.front s.rest s.parts (on x (omega (arith, depth_of p (Expr-F.Call x n xs))) s.front s.first)

-- every expression begins so, with what it takes on the left
begins_within : (m : ℕ) (p : Place) (x : Expr) → (shape p x).depth ≤ m → (ts : List Token) → AreWords ts (expr_words x) → Headed ts
begins_within zero p x le ts h = absurd (omega (arith, positive p x))
begins_within (suc m) p x le ts h =
    let back : roll-Expr (out-Expr x) ≡ x = roll-out-Expr x in
    let words : expr_words x ≡ expr_step (map-Expr Expr (List Word) expr_words (out-Expr x)) = ap expr_words (sym back) ∙ words_of (out-Expr x) in
    by_form m p (λ y. begins_within m p y) (out-Expr x) (subst (λ (y : Expr). (shape p y).depth ≤ suc m) (sym back) le) ts (subst (λ (w : List Word). AreWords ts w) words h)

pub begins : (p : Place) (x : Expr) (ts : List Token) → AreWords ts (expr_words x) → Headed ts
begins p x ts h = begins_within (shape p x).depth p x (omega arith) ts h
