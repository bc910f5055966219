-- Expressions with operators that are spelled are read.
use Rattle.std.proofs.Common.{◌≡◌, ℕ, zero, suc, ◌+◌, ◌-◌, ◌≤◌, ◌<◌, max, Bool, true, false, leb, List, [], ◌∷◌, ◌++◌, Some, Result, pos, ℤ, refl, sym, ap, subst, ◌∙◌, append_assoc, arith}
use Rattle.std.specs.Prelude.{codes, ◌&&◌, nat_lt, nat_le, option_map}
use Rattle.std.specs.Option.{is_some}
use Rattle.std.proofs.lemmas.Bool.{leb-true, leb-false, lt-ltb, and_from, and_parts}
use Rattle.script_text.specs.declared.token.Token.{Token}
use Rattle.script_text.specs.declared.token.TokenKind.{TokenKind}
use Rattle.script_text.specs.declared.token.TokenKind.TheVariants as kinds
use Rattle.class_defs.specs.declared.expressions.Operator.{Operator}
use Rattle.class_defs.specs.declared.expressions.Operator.TheVariants as operators
use Rattle.class_defs.specs.declared.expressions.Expr.{Expr, out-Expr, roll-Expr, roll-out-Expr}
use Rattle.class_defs.specs.declared.expressions.Expr.TheOpen.{Expr-F}
use Rattle.class_defs.specs.declared.expressions.Expr.TheVariants as e
use Rattle.class_defs.specs.declared.literals.Literal.TheVariants as literal
use Rattle.class_defs.specs.declared.literals.Literal.{Literal}
use Rattle.class_defs.specs.declared.places.Place.{Place}
use Rattle.class_defs.specs.Words.{Word, Fixed, FixedAt, symbol_of}
use Rattle.class_defs.specs.Spelling.{expr_words, literal_word}
use Rattle.class_defs.specs.Shape.{Shape, shape, level_of, left_level, right_level}
use Rattle.script_text.specs.Marks.{number_by, text_by}
use Rattle.method_parse.specs.declared.deep.Deep.{Deep}
use Rattle.method_parse.specs.declared.deep.Level.{Level}
use Rattle.method_parse.specs.declared.deep.Level.TheVariants as levels
use Rattle.method_parse.specs.declared.deep.Room.{Room}
use Rattle.method_parse.specs.Matching.{IsWord, AreWords, is, is_fixed_kind, is_name_kind}
use Rattle.method_parse.proofs.NameTokens.{name_kind}
use Rattle.method_parse.specs.Reader.{Reader, ◌>>=◌, onward, give, next, repeat}
use Rattle.method_parse.specs.Expressions.{Parts, is_minus, unary, operator_of, operator_by, operator_in, with_operator_line, operator, tighter, joined, is_join, most_joins, joins, at_level, expression_in}
use Rattle.method_parse.proofs.Repeats.{no_turn}
use Rattle.method_parse.proofs.Fits.{tightness}
use Rattle.method_parse.proofs.Equations as eq
use Rattle.method_parse.proofs.Eats.{fixed_is, is_not, split, line_then, Stops, StopWord, stops_before}
use Rattle.method_parse.proofs.Heads.{positive}
use Rattle.method_parse.proofs.ListOnly.{deep, Suits, ReadsAll, bind_assoc, turn}
use Rattle.method_parse.proofs.ExpressionOnly.{got, read_is, deep_is, depth_is, postfix_reads}

-- the operator of a symbol
by_symbol : (level : Level) (o : Operator) → tightness level ≡ level_of o → operator_of level (symbol_of o) ≡ Some o
by_symbol levels.Unary operators.Add of = absurd (omega arith)
by_symbol levels.Unary operators.Subtract of = absurd (omega arith)
by_symbol levels.Unary operators.Multiply of = absurd (omega arith)
by_symbol levels.Unary operators.Equal of = absurd (omega arith)
by_symbol levels.Unary operators.Unequal of = absurd (omega arith)
by_symbol levels.Unary operators.Less of = absurd (omega arith)
by_symbol levels.Term operators.Add of = absurd (omega arith)
by_symbol levels.Term operators.Subtract of = absurd (omega arith)
by_symbol levels.Term operators.Multiply of = refl
by_symbol levels.Term operators.Equal of = absurd (omega arith)
by_symbol levels.Term operators.Unequal of = absurd (omega arith)
by_symbol levels.Term operators.Less of = absurd (omega arith)
by_symbol levels.Sum operators.Add of = refl
by_symbol levels.Sum operators.Subtract of = refl
by_symbol levels.Sum operators.Multiply of = absurd (omega arith)
by_symbol levels.Sum operators.Equal of = absurd (omega arith)
by_symbol levels.Sum operators.Unequal of = absurd (omega arith)
by_symbol levels.Sum operators.Less of = absurd (omega arith)
by_symbol levels.Comparison operators.Add of = absurd (omega arith)
by_symbol levels.Comparison operators.Subtract of = absurd (omega arith)
by_symbol levels.Comparison operators.Multiply of = absurd (omega arith)
by_symbol levels.Comparison operators.Equal of = refl
by_symbol levels.Comparison operators.Unequal of = refl
by_symbol levels.Comparison operators.Less of = refl

-- the operator that a token is
pub operator_found : (level : Level) (o : Operator) (k : TokenKind) (text : List ℕ) → is_fixed_kind k ≡ true → text ≡ symbol_of o → tightness level ≡ level_of o → operator_by level k text ≡ Some o
operator_found level o kinds.Name text f same of = absurd cc
operator_found level o kinds.Number text f same of = absurd cc
operator_found level o kinds.Quoted text f same of = absurd cc
operator_found level o kinds.Keyword text f same of = ap (operator_of level) same ∙ by_symbol level o of
operator_found level o kinds.Symbol text f same of = ap (operator_of level) same ∙ by_symbol level o of

-- an expression of a tighter level stops at an operator
pub operator_stops : (o : Operator) → StopWord (level_of o + 1) (symbol_of o)
operator_stops operators.Add = record { dot = refl; open_next = refl; place = refl; term = λ le. refl; sum = λ le. absurd (omega arith); comparison = λ le. absurd (omega arith) }
operator_stops operators.Subtract = record { dot = refl; open_next = refl; place = refl; term = λ le. refl; sum = λ le. absurd (omega arith); comparison = λ le. absurd (omega arith) }
operator_stops operators.Multiply = record { dot = refl; open_next = refl; place = refl; term = λ le. absurd (omega arith); sum = λ le. absurd (omega arith); comparison = λ le. absurd (omega arith) }
operator_stops operators.Equal = record { dot = refl; open_next = refl; place = refl; term = λ le. refl; sum = λ le. refl; comparison = λ le. absurd (omega arith) }
operator_stops operators.Unequal = record { dot = refl; open_next = refl; place = refl; term = λ le. refl; sum = λ le. refl; comparison = λ le. absurd (omega arith) }
operator_stops operators.Less = record { dot = refl; open_next = refl; place = refl; term = λ le. refl; sum = λ le. refl; comparison = λ le. absurd (omega arith) }

pub left_above : (o : Operator) → level_of o ≤ left_level o
left_above operators.Add = omega arith
left_above operators.Subtract = omega arith
left_above operators.Multiply = omega arith
left_above operators.Equal = omega arith
left_above operators.Unequal = omega arith
left_above operators.Less = omega arith

pub left_some : (o : Operator) → 1 ≤ left_level o
left_some operators.Add = omega arith
left_some operators.Subtract = omega arith
left_some operators.Multiply = omega arith
left_some operators.Equal = omega arith
left_some operators.Unequal = omega arith
left_some operators.Less = omega arith

pub loosen : (level higher : ℕ) (rest : List Token) → level ≤ higher → Stops level rest → Stops higher rest
loosen level higher rest le stops = record {
  dot = stops.dot;
  open_next = stops.open_next;
  place = stops.place;
  term = λ h. stops.term (omega arith);
  sum = λ h. stops.sum (omega arith);
  comparison = λ h. stops.comparison (omega arith);
}

pub weak : (ts : List Token) (text : List ℕ) (line : ℕ) (ws : List Word) → AreWords ts (FixedAt text line ∷ ws) → AreWords ts (Fixed text ∷ ws)
weak [] text line ws h = absurd h
weak (t ∷ ts) text line ws h = ((h.0.0, h.0.1), h.1)

name_plain : (k : TokenKind) → is_name_kind k ≡ true → is_fixed_kind k ≡ false
name_plain kinds.Name e = refl
name_plain kinds.Number e = absurd cc
name_plain kinds.Keyword e = absurd cc
name_plain kinds.Symbol e = absurd cc
name_plain kinds.Quoted e = refl

pub number_plain : (k : TokenKind) (text : List ℕ) (v : ℤ) → option_map pos (number_by k text) ≡ Some v → is_fixed_kind k ≡ false
number_plain kinds.Name text v e = refl
number_plain kinds.Number text v e = refl
number_plain kinds.Keyword text v e = absurd cc
number_plain kinds.Symbol text v e = absurd cc
number_plain kinds.Quoted text v e = refl

pub quoted_plain : (k : TokenKind) (text w : List ℕ) → text_by k text ≡ Some w → is_fixed_kind k ≡ false
quoted_plain kinds.Name text w e = refl
quoted_plain kinds.Number text w e = refl
quoted_plain kinds.Keyword text w e = absurd cc
quoted_plain kinds.Symbol text w e = absurd cc
quoted_plain kinds.Quoted text w e = refl

pub literal_plain : (t : Token) (v : Literal) (l : ℕ) → IsWord t (literal_word v l) → is_fixed_kind t.kind ≡ false
literal_plain t (literal.Int v) l w = number_plain t.kind t.text v w.0
literal_plain t (literal.Text v) l w = quoted_plain t.kind t.text v w.0

pub operator_takes : {B : Type 0} (level : Level) (o : Operator) (line : ℕ) (ws : List Word) (ts rest : List Token) (result : Result (B × List Token) ℕ) (next : Operator × ℕ → Reader B)
    → tightness level ≡ level_of o → AreWords ts (FixedAt (symbol_of o) line ∷ ws) → ((us : List Token) → AreWords us ws → next (o, line) (us ++ rest) ≡ result) → (operator level >>= next) (ts ++ rest) ≡ result
unfolding operator
operator_takes level o line ws [] rest result next of h goes = absurd h
operator_takes level o line ws (t ∷ us) rest result next of h goes =
    let found : with_operator_line (operator_in level t) t.line ≡ Some (o, line) = rw (operator_found level o t.kind t.text h.0.0 h.0.1 of) (ap (λ (l : ℕ). Some (o, l)) h.0.2) in
    rw found (goes us h.1)

module _ (place : Place) (room : Room) (below : ℕ) (deeper : room.depth ≡ below + 1) (inner : Reader Deep) (parts : Parts)
    (inner_reads : 0 < room.brackets → 0 < below → ReadsAll place (room.brackets - 1) below 0 inner)
    (parts_read : 0 < below → (level : Level) → ReadsAll place room.brackets below (tightness level) (parts level)) where
  abbrev Fit : ℕ → Expr → Type 0
  Fit level x = Suits room.brackets room.depth level (shape place x)

  abbrev Here : ℕ → Reader Deep → Type 0
  Here level reader = ReadsAll place room.brackets room.depth level reader

  -- ---- a minus before an operand

  no_minus_at : (ts rest : List Token) (w : Word) (ws : List Word) → AreWords ts (w ∷ ws) → ((t : Token) → IsWord t w → is (codes "-") t ≡ false) → next (is_minus room) (ts ++ rest) ≡ false
  no_minus_at [] rest w ws h other = absurd h
  no_minus_at (t ∷ ts) rest w ws h other = rw (other t h.0) refl

  abbrev NoMinus : ℕ → Type 0
  NoMinus m = (x : Expr) → (shape place x).depth ≤ m → Fit 4 x → (ts rest : List Token) → AreWords ts (expr_words x) → next (is_minus room) (ts ++ rest) ≡ false

  loose : (x : Expr) (s : Shape) → shape place x ≡ s → s.level ≤ 3 → Fit 4 x → ⊥
  loose x s same le fit = let level : (shape place x).level ≡ s.level = ap (λ (t : Shape). t.level) same in omega (arith, fit.tight)

  level_small : (o : Operator) → level_of o ≤ 2
  level_small operators.Add = omega arith
  level_small operators.Subtract = omega arith
  level_small operators.Multiply = omega arith
  level_small operators.Equal = omega arith
  level_small operators.Unequal = omega arith
  level_small operators.Less = omega arith

  no_minus_form : (m : ℕ) → NoMinus m → (o : Expr-F Expr) → (x : Expr) → roll-Expr o ≡ x → (shape place x).depth ≤ suc m → Fit 4 x → (ts rest : List Token) → AreWords ts (expr_words x) → next (is_minus room) (ts ++ rest) ≡ false
  no_minus_form m to (Expr-F.Literal v l) x is le fit ts rest h = no_minus_at ts rest _ _ (subst (λ (w : List Word). AreWords ts w) (ap expr_words (sym is ∙ e.rolls-Literal v l) ∙ eq.words-Literal v l) h) (λ t w. rw (literal_plain t v l w) refl)
  no_minus_form m to (Expr-F.Null l) x is le fit ts rest h = no_minus_at ts rest _ _ (subst (λ (w : List Word). AreWords ts w) (ap expr_words (sym is ∙ e.rolls-Null l) ∙ eq.words-Null l) h) (λ t w. is_not (codes "null") (codes "-") t w.1 refl)
  no_minus_form m to (Expr-F.This l) x is le fit ts rest h = no_minus_at ts rest _ _ (subst (λ (w : List Word). AreWords ts w) (ap expr_words (sym is ∙ e.rolls-This l) ∙ eq.words-This l) h) (λ t w. is_not (codes "this") (codes "-") t w.1 refl)
  no_minus_form m to (Expr-F.Field n) x is le fit ts rest h = no_minus_at ts rest _ _ (subst (λ (w : List Word). AreWords ts w) (ap expr_words (sym is ∙ e.rolls-Field n) ∙ eq.words-Field n) h) (λ t w. is_not (codes "this") (codes "-") t w.1 refl)
  no_minus_form m to (Expr-F.Variable n) x is le fit ts rest h = no_minus_at ts rest _ _ (subst (λ (w : List Word). AreWords ts w) (ap expr_words (sym is ∙ e.rolls-Variable n) ∙ eq.words-Variable n) h) (λ t w. rw (name_plain t.kind (name_kind t.kind t.text w.0)) refl)
  no_minus_form m to (Expr-F.New n a) x is le fit ts rest h = no_minus_at ts rest _ _ (subst (λ (w : List Word). AreWords ts w) (ap expr_words (sym is ∙ e.rolls-New n a) ∙ eq.words-New n a) h) (λ t w. is_not (codes "new") (codes "-") t w.1 refl)
  no_minus_form m to (Expr-F.Parens y l) x is le fit ts rest h = no_minus_at ts rest _ _ (subst (λ (w : List Word). AreWords ts w) (ap expr_words (sym is ∙ e.rolls-Parens y l) ∙ eq.words-Parens y l) h) (λ t w. is_not (codes "(") (codes "-") t w.1 refl)
  no_minus_form m to (Expr-F.Negate y l) x is le fit ts rest h = absurd (loose x _ (ap (shape place) (sym is ∙ e.rolls-Negate y l) ∙ eq.shape-Negate place y l) (omega arith) fit)
  no_minus_form m to (Expr-F.Binary o y z l) x is le fit ts rest h = absurd (loose x _ (ap (shape place) (sym is ∙ e.rolls-Binary o y z l) ∙ eq.shape-Binary place o y z l) (omega (arith, level_small o)) fit)
  no_minus_form m to (Expr-F.Call r n xs) x is le fit ts rest h =
      let back : x ≡ e.Call r n xs = sym is ∙ e.rolls-Call r n xs in
      let w = subst (λ (w : List Word). AreWords ts w) (ap expr_words back ∙ eq.words-Call r n xs) h in
      let s = split ts (expr_words r) _ w in
      let f = subst (λ (s : Shape). Suits room.brackets room.depth 4 s) (ap (shape place) back ∙ eq.shape-Call place r n xs) fit in
      let all = and_parts ((shape place r).proper && nat_le 4 (shape place r).level) _ f.proper in
      let two = and_parts (shape place r).proper (nat_le 4 (shape place r).level) all.0 in
      let e1 : ts ++ rest ≡ s.front ++ (s.rest ++ rest) = ap (λ (u : List Token). u ++ rest) s.parts ∙ append_assoc s.front s.rest rest in
      ap (next (is_minus room)) e1
      ∙ to r (omega (arith, depth_is (ap (shape place) back ∙ eq.shape-Call place r n xs)))
      (record { within = omega (arith, f.within); nested = omega (arith, f.nested); tight = leb-true 4 (shape place r).level two.1; proper = two.0 }) s.front (s.rest ++ rest) s.first

  no_minus : (m : ℕ) → NoMinus m
  no_minus zero x le fit ts rest h = absurd (omega (arith, positive place x))
  no_minus (suc m) x le fit ts rest h = no_minus_form m (no_minus m) (out-Expr x) x (roll-out-Expr x) le fit ts rest h

  postfix_case : (x : Expr) → Fit 4 x → (ts rest : List Token) → AreWords ts (expr_words x) → Stops 3 rest → unary place room inner parts (ts ++ rest) ≡ got (deep place x) rest
  unfolding unary
  postfix_case x fit ts rest h stops =
      rw (no_minus (shape place x).depth x (omega arith) fit ts rest h) (postfix_reads place room below deeper inner parts inner_reads parts_read x ts rest h fit (loosen 3 4 rest (omega arith) stops))

  minus_passes : 0 < below → (ts rest : List Token) (ws : List Word) → AreWords ts (Fixed (codes "-") ∷ ws) → next (is_minus room) (ts ++ rest) ≡ true
  minus_passes enough [] rest ws h = absurd h
  minus_passes enough (t ∷ ts) rest ws h = and_from (is (codes "-") t) (nat_lt 1 room.depth) (fixed_is (codes "-") t h.0.0 h.0.1) (lt-ltb 1 room.depth (omega arith))

  negate_case : (x : Expr) (l : ℕ) → Fit 3 (e.Negate x l) → (ts rest : List Token) → AreWords ts (expr_words (e.Negate x l)) → Stops 3 rest → unary place room inner parts (ts ++ rest) ≡ got (deep place (e.Negate x l)) rest
  unfolding unary
  negate_case x l fit ts rest h stops =
      let k : AreWords ts (FixedAt (codes "-") l ∷ expr_words x) = subst (λ (w : List Word). AreWords ts w) (eq.words-Negate x l) h in
      let f : Suits room.brackets room.depth 3 (record { level = 3; depth = (shape place x).depth + 1; nesting = (shape place x).nesting; proper = (shape place x).proper && nat_le 3 (shape place x).level }) = subst (λ (s : Shape). Suits room.brackets room.depth 3 s) (eq.shape-Negate place x l) fit in
      let two = and_parts (shape place x).proper (nat_le 3 (shape place x).level) f.proper in
      let enough : 0 < below = omega (arith, f.within, positive place x) in
      let part : Suits room.brackets below 3 (shape place x) = record { within = omega (arith, f.within); nested = f.nested; tight = leb-true 3 (shape place x).level two.1; proper = two.0 } in
      rw (minus_passes enough ts rest _ (weak ts (codes "-") l (expr_words x) k))
      (line_then rest _ (codes "-") l (expr_words x) ts (λ line. parts levels.Unary >>= λ operand. give (record { expr = e.Negate operand.expr line; depth = operand.depth + 1 })) k (λ us m.
      ap (λ r. onward r (λ operand. give (record { expr = e.Negate operand.expr l; depth = operand.depth + 1 }))) (parts_read enough levels.Unary x us rest m part stops)
      ∙ read_is place (e.Negate x l) ((shape place x).depth + 1) rest (depth_is (eq.shape-Negate place x l))))

  tighter_four : (x : Expr) (s : Shape) → shape place x ≡ s → 4 ≤ s.level → Fit 3 x → Fit 4 x
  tighter_four x s same le fit = record { within = fit.within; nested = fit.nested; tight = subst (λ (t : Shape). 4 ≤ t.level) (sym same) le; proper = fit.proper }

  unary_form : (o : Expr-F Expr) (x : Expr) → roll-Expr o ≡ x → Fit 3 x → (ts rest : List Token) → AreWords ts (expr_words x) → Stops 3 rest → unary place room inner parts (ts ++ rest) ≡ got (deep place x) rest
  unary_form (Expr-F.Literal v l) x is fit ts rest h stops = postfix_case x (tighter_four x _ (ap (shape place) (sym is ∙ e.rolls-Literal v l) ∙ eq.shape-Literal place v l) (omega arith) fit) ts rest h stops
  unary_form (Expr-F.Null l) x is fit ts rest h stops = postfix_case x (tighter_four x _ (ap (shape place) (sym is ∙ e.rolls-Null l) ∙ eq.shape-Null place l) (omega arith) fit) ts rest h stops
  unary_form (Expr-F.This l) x is fit ts rest h stops = postfix_case x (tighter_four x _ (ap (shape place) (sym is ∙ e.rolls-This l) ∙ eq.shape-This place l) (omega arith) fit) ts rest h stops
  unary_form (Expr-F.Field n) x is fit ts rest h stops = postfix_case x (tighter_four x _ (ap (shape place) (sym is ∙ e.rolls-Field n) ∙ eq.shape-Field place n) (omega arith) fit) ts rest h stops
  unary_form (Expr-F.Variable n) x is fit ts rest h stops = postfix_case x (tighter_four x _ (ap (shape place) (sym is ∙ e.rolls-Variable n) ∙ eq.shape-Variable place n) (omega arith) fit) ts rest h stops
  unary_form (Expr-F.New n a) x is fit ts rest h stops = postfix_case x (tighter_four x _ (ap (shape place) (sym is ∙ e.rolls-New n a) ∙ eq.shape-New place n a) (omega arith) fit) ts rest h stops
  unary_form (Expr-F.Parens y l) x is fit ts rest h stops = postfix_case x (tighter_four x _ (ap (shape place) (sym is ∙ e.rolls-Parens y l) ∙ eq.shape-Parens place y l) (omega arith) fit) ts rest h stops
  unary_form (Expr-F.Call r n xs) x is fit ts rest h stops = postfix_case x (tighter_four x _ (ap (shape place) (sym is ∙ e.rolls-Call r n xs) ∙ eq.shape-Call place r n xs) (omega arith) fit) ts rest h stops
  unary_form (Expr-F.Negate y l) x is fit ts rest h stops =
      let back : e.Negate y l ≡ x = sym (e.rolls-Negate y l) ∙ is in
      subst (λ (z : Expr). unary place room inner parts (ts ++ rest) ≡ got (deep place z) rest) back
      (negate_case y l (subst (λ (z : Expr). Fit 3 z) (sym back) fit) ts rest (subst (λ (z : Expr). AreWords ts (expr_words z)) (sym back) h) stops)
  unary_form (Expr-F.Binary o y z l) x is fit ts rest h stops =
      let level : (shape place x).level ≡ level_of o = ap (λ (s : Shape). s.level) (ap (shape place) (sym is ∙ e.rolls-Binary o y z l) ∙ eq.shape-Binary place o y z l) in
      absurd (omega (arith, fit.tight, level_small o))

  unary_reads : Here 3 (unary place room inner parts)
  unary_reads x ts rest h fit stops = unary_form (out-Expr x) x (roll-out-Expr x) fit ts rest h stops

  -- ---- operators of one level, one behind the other

  record BinaryFit (o : Operator) (l r : Expr) : Type 0 where
    left : Fit (left_level o) l
    right : Suits room.brackets below (right_level o) (shape place r)
    less : (shape place l).depth < room.depth
    enough : 0 < below

  binary_fit : (level : ℕ) (o : Operator) (l r : Expr) (line : ℕ) → Fit level (e.Binary o l r line) → BinaryFit o l r
  binary_fit level o l r line fit =
      let f : Suits room.brackets room.depth level (record { level = level_of o; depth = max (shape place l).depth (shape place r).depth + 1; nesting = max (shape place l).nesting (shape place r).nesting; proper = ((shape place l).proper && nat_le (left_level o) (shape place l).level) && ((shape place r).proper && nat_le (right_level o) (shape place r).level) })
      = subst (λ (s : Shape). Suits room.brackets room.depth level s) (eq.shape-Binary place o l r line) fit in
      let all = and_parts ((shape place l).proper && nat_le (left_level o) (shape place l).level) ((shape place r).proper && nat_le (right_level o) (shape place r).level) f.proper in
      let a = and_parts (shape place l).proper (nat_le (left_level o) (shape place l).level) all.0 in
      let b = and_parts (shape place r).proper (nat_le (right_level o) (shape place r).level) all.1 in
      record {
        left = record { within = omega (arith, f.within); nested = omega (arith, f.nested); tight = leb-true (left_level o) (shape place l).level a.1; proper = a.0 };
        right = record { within = omega (arith, f.within); nested = omega (arith, f.nested); tight = leb-true (right_level o) (shape place r).level b.1; proper = b.0 };
        less = omega (arith, f.within);
        enough = omega (arith, f.within, positive place l);
      }

  module _ (level : Level) (next_level : tightness (tighter level) ≡ tightness level + 1) (low : tightness level ≤ 2) (tight_reader : Reader Deep) (tight_reads : Here (tightness level + 1) tight_reader) where
    abbrev join_on : ℕ → Deep → Reader Deep
    join_on n = repeat n (is_join level room) (joined level parts)

    join_passes : (o : Operator) (d : Deep) (line : ℕ) → tightness level ≡ level_of o → d.depth < room.depth → (us rest : List Token) (ws : List Word) → AreWords us (FixedAt (symbol_of o) line ∷ ws) → next (is_join level room d) (us ++ rest) ≡ true
    join_passes o d line of less [] rest ws h = absurd h
    join_passes o d line of less (t ∷ us) rest ws h =
        and_from (is_some (operator_in level t)) (nat_lt d.depth room.depth) (ap is_some (operator_found level o t.kind t.text h.0.0 h.0.1 of)) (lt-ltb d.depth room.depth less)

    join_step : (o : Operator) (l r : Expr) (line : ℕ) (k : ℕ) (us rest : List Token) → tightness level ≡ level_of o → BinaryFit o l r → AreWords us (FixedAt (symbol_of o) line ∷ expr_words r) → Stops (tightness level + 1) rest
        → join_on (suc k) (deep place l) (us ++ rest) ≡ join_on k (deep place (e.Binary o l r line)) rest
    unfolding joined
    join_step o l r line k us rest of fit h stops =
        let right : Suits room.brackets below (tightness (tighter level)) (shape place r) = record { within = fit.right.within; nested = fit.right.nested; tight = omega (arith, fit.right.tight); proper = fit.right.proper } in
        turn (is_join level room) (joined level parts) k (deep place l) (us ++ rest) (join_passes o (deep place l) line of fit.less us rest _ h)
        ∙ (bind_assoc (operator level (us ++ rest)) (λ o. parts (tighter level) >>= λ right. give (record { expr = e.Binary o.0 l right.expr o.1; depth = max (shape place l).depth right.depth + 1 })) (join_on k)
        ∙ operator_takes level o line (expr_words r) us rest _ (λ o vs. onward ((parts (tighter level) >>= λ right. give (record { expr = e.Binary o.0 l right.expr o.1; depth = max (shape place l).depth right.depth + 1 })) vs) (join_on k)) of h (λ vs m.
        ap (λ res. onward (onward res (λ right. give (record { expr = e.Binary o l right.expr line; depth = max (shape place l).depth right.depth + 1 }))) (join_on k))
        (parts_read fit.enough (tighter level) r vs rest m right (subst (λ (n : ℕ). Stops n rest) (sym next_level) stops))
        ∙ ap (λ (d : Deep). join_on k d rest) (deep_is place (e.Binary o l r line) (max (shape place l).depth (shape place r).depth + 1) (depth_is (eq.shape-Binary place o l r line)))))

    record Row (x : Expr) : Type 0 where
      turns : ℕ
      small : turns < (shape place x).depth
      none : tightness level + 1 ≤ (shape place x).level → turns ≡ 0
      one : tightness level ≡ 0 → turns ≤ 1
      reads : (ts rest : List Token) (n : ℕ) → AreWords ts (expr_words x) → Stops (tightness level + 1) rest → onward (tight_reader (ts ++ rest)) (join_on (n + turns)) ≡ join_on n (deep place x) rest

    row_base : (x : Expr) → Fit (tightness level + 1) x → Row x
    row_base x fit = record {
      turns = 0;
      small = positive place x;
      none = λ le. refl;
      one = λ z. omega arith;
      reads = λ ts rest n h stops.
          let same : n + 0 ≡ n = omega arith in
          ap (λ (r : Result (Deep × List Token) ℕ). onward r (join_on (n + 0))) (tight_reads x ts rest h fit stops) ∙ ap (λ (k : ℕ). join_on k (deep place x) rest) same;
    }

    row_step : (o : Operator) (l r : Expr) (line : ℕ) → tightness level ≡ level_of o → BinaryFit o l r → Row l → Row (e.Binary o l r line)
    row_step o l r line of fit s = record {
      turns = s.turns + 1;
      small = omega (arith, s.small, depth_is (eq.shape-Binary place o l r line));
      none = λ le. let is : (shape place (e.Binary o l r line)).level ≡ level_of o = ap (λ (s : Shape). s.level) (eq.shape-Binary place o l r line) in absurd (omega arith);
      one = λ z. omega (arith, s.none (omega (arith, left_some o, fit.left.tight)));
      reads = λ ts rest k h stops.
          let w : AreWords ts (expr_words l ++ FixedAt (symbol_of o) line ∷ expr_words r) = subst (λ (w : List Word). AreWords ts w) (eq.words-Binary o l r line) h in
          let t = split ts (expr_words l) (FixedAt (symbol_of o) line ∷ expr_words r) w in
          let e1 : ts ++ rest ≡ t.front ++ (t.rest ++ rest) = ap (λ (u : List Token). u ++ rest) t.parts ∙ append_assoc t.front t.rest rest in
          let e2 : k + (s.turns + 1) ≡ suc k + s.turns = omega arith in
          let stop : Stops (tightness level + 1) (t.rest ++ rest) = subst (λ (n : ℕ). Stops (n + 1) (t.rest ++ rest)) (sym of) (stops_before (level_of o + 1) (symbol_of o) t.rest rest (expr_words r) (operator_stops o) (weak t.rest (symbol_of o) line (expr_words r) t.second)) in
          ap (λ (u : List Token). onward (tight_reader u) (join_on (k + (s.turns + 1)))) e1
          ∙ (ap (λ (m : ℕ). onward (tight_reader (t.front ++ (t.rest ++ rest))) (join_on m)) e2
          ∙ (s.reads t.front (t.rest ++ rest) (suc k) t.first stop ∙ join_step o l r line k t.rest rest of fit t.second stops));
    }

    abbrev RowTo : ℕ → Type 0
    RowTo m = (x : Expr) → (shape place x).depth ≤ m → Fit (tightness level) x → Row x

    raise : (x : Expr) (s : Shape) → shape place x ≡ s → 3 ≤ s.level → Fit (tightness level) x → Fit (tightness level + 1) x
    raise x s same le fit = record { within = fit.within; nested = fit.nested; tight = let is : (shape place x).level ≡ s.level = ap (λ (t : Shape). t.level) same in omega arith; proper = fit.proper }

    binary_row : (m : ℕ) → RowTo m → (o : Operator) (l r : Expr) (line : ℕ) → (shape place (e.Binary o l r line)).depth ≤ suc m → Fit (tightness level) (e.Binary o l r line) → (b : Bool) → leb (tightness level + 1) (level_of o) ≡ b → Row (e.Binary o l r line)
    binary_row m to o l r line le fit true b =
        let is : (shape place (e.Binary o l r line)).level ≡ level_of o = ap (λ (s : Shape). s.level) (eq.shape-Binary place o l r line) in
        row_base (e.Binary o l r line) (record { within = fit.within; nested = fit.nested; tight = omega (arith, leb-true (tightness level + 1) (level_of o) b); proper = fit.proper })
    binary_row m to o l r line le fit false b =
        let is : (shape place (e.Binary o l r line)).level ≡ level_of o = ap (λ (s : Shape). s.level) (eq.shape-Binary place o l r line) in
        let of : tightness level ≡ level_of o = omega (arith, leb-false (tightness level + 1) (level_of o) b, fit.tight) in
        let f = binary_fit (tightness level) o l r line fit in
        row_step o l r line of f (to l (omega (arith, depth_is (eq.shape-Binary place o l r line))) (record { within = f.left.within; nested = f.left.nested; tight = omega (arith, left_above o, f.left.tight); proper = f.left.proper }))

    row_form : (m : ℕ) → RowTo m → (o : Expr-F Expr) (x : Expr) → roll-Expr o ≡ x → (shape place x).depth ≤ suc m → Fit (tightness level) x → Row x
    row_form m to (Expr-F.Literal v l) x is le fit = row_base x (raise x _ (ap (shape place) (sym is ∙ e.rolls-Literal v l) ∙ eq.shape-Literal place v l) (omega arith) fit)
    row_form m to (Expr-F.Null l) x is le fit = row_base x (raise x _ (ap (shape place) (sym is ∙ e.rolls-Null l) ∙ eq.shape-Null place l) (omega arith) fit)
    row_form m to (Expr-F.This l) x is le fit = row_base x (raise x _ (ap (shape place) (sym is ∙ e.rolls-This l) ∙ eq.shape-This place l) (omega arith) fit)
    row_form m to (Expr-F.Field n) x is le fit = row_base x (raise x _ (ap (shape place) (sym is ∙ e.rolls-Field n) ∙ eq.shape-Field place n) (omega arith) fit)
    row_form m to (Expr-F.Variable n) x is le fit = row_base x (raise x _ (ap (shape place) (sym is ∙ e.rolls-Variable n) ∙ eq.shape-Variable place n) (omega arith) fit)
    row_form m to (Expr-F.New n a) x is le fit = row_base x (raise x _ (ap (shape place) (sym is ∙ e.rolls-New n a) ∙ eq.shape-New place n a) (omega arith) fit)
    row_form m to (Expr-F.Parens y l) x is le fit = row_base x (raise x _ (ap (shape place) (sym is ∙ e.rolls-Parens y l) ∙ eq.shape-Parens place y l) (omega arith) fit)
    row_form m to (Expr-F.Negate y l) x is le fit = row_base x (raise x _ (ap (shape place) (sym is ∙ e.rolls-Negate y l) ∙ eq.shape-Negate place y l) (omega arith) fit)
    row_form m to (Expr-F.Call r n xs) x is le fit = row_base x (raise x _ (ap (shape place) (sym is ∙ e.rolls-Call r n xs) ∙ eq.shape-Call place r n xs) (omega arith) fit)
    row_form m to (Expr-F.Binary o l r line) x is le fit =
        let back : e.Binary o l r line ≡ x = sym (e.rolls-Binary o l r line) ∙ is in
        subst (λ (z : Expr). Row z) back
        (binary_row m to o l r line (subst (λ (z : Expr). (shape place z).depth ≤ suc m) (sym back) le) (subst (λ (z : Expr). Fit (tightness level) z) (sym back) fit) (leb (tightness level + 1) (level_of o)) refl)

    row : (m : ℕ) → RowTo m
    row zero x le fit = absurd (omega (arith, positive place x))
    row (suc m) x le fit = row_form m (row m) (out-Expr x) x (roll-out-Expr x) le fit

    no_join : (d : Deep) (rest : List Token) → next (λ t. is_some (operator_in level t)) rest ≡ false → next (is_join level room d) rest ≡ false
    no_join d [] h = refl
    no_join d (t ∷ ts) h = rw h refl

    level_reads : ((x : Expr) → Fit (tightness level) x → Row x → (most : ℕ) × (most_joins level room ≡ most) × ((s : Row x) → s.turns ≤ most)) → ((rest : List Token) → Stops (tightness level) rest → next (λ t. is_some (operator_in level t)) rest ≡ false)
        → Here (tightness level) (tight_reader >>= joins level room parts)
    unfolding joins
    level_reads bound quiet x ts rest h fit stops =
        let s = row (shape place x).depth x (omega arith) fit in
        let b = bound x fit s in
        let n : most_joins level room ≡ (most_joins level room - s.turns) + s.turns = omega (arith, b.1, b.2 s) in
        ap (λ (k : ℕ). onward (tight_reader (ts ++ rest)) (join_on k)) n
        ∙ (s.reads ts rest (most_joins level room - s.turns) h (loosen (tightness level) (tightness level + 1) rest (omega arith) stops)
        ∙ no_turn (is_join level room) (joined level parts) (most_joins level room - s.turns) (deep place x) rest (no_join (deep place x) rest (quiet rest stops)))

  term_reads : Here 2 (unary place room inner parts >>= joins levels.Term room parts)
  term_reads = level_reads levels.Term refl (omega arith) (unary place room inner parts) unary_reads (λ x fit s. (room.depth, refl, λ t. omega (arith, t.small, fit.within))) (λ rest stops. stops.term (omega arith))

  sum_reads : Here 1 ((unary place room inner parts >>= joins levels.Term room parts) >>= joins levels.Sum room parts)
  sum_reads = level_reads levels.Sum refl (omega arith) (unary place room inner parts >>= joins levels.Term room parts) term_reads (λ x fit s. (room.depth, refl, λ t. omega (arith, t.small, fit.within))) (λ rest stops. stops.sum (omega arith))

  comparison_reads : Here 0 (((unary place room inner parts >>= joins levels.Term room parts) >>= joins levels.Sum room parts) >>= joins levels.Comparison room parts)
  comparison_reads = level_reads levels.Comparison refl (omega arith) ((unary place room inner parts >>= joins levels.Term room parts) >>= joins levels.Sum room parts) sum_reads (λ x fit s. (1, refl, λ t. t.one refl)) (λ rest stops. stops.comparison (omega arith))

  pub at_level_reads : (level : Level) → Here (tightness level) (at_level place room inner parts level)
  unfolding at_level
  at_level_reads levels.Unary = unary_reads
  at_level_reads levels.Term = term_reads
  at_level_reads levels.Sum = sum_reads
  at_level_reads levels.Comparison = comparison_reads

-- an expression that is spelled is read, in a room with place for it
pub expression_reads : (place : Place) (brackets depth : ℕ) (level : Level) → 0 < depth → ReadsAll place brackets depth (tightness level) (expression_in place brackets depth level)
unfolding expression_in
expression_reads place brackets zero level lt = absurd (omega arith)
expression_reads place brackets (suc depth) level lt =
    at_level_reads place (record { brackets = brackets; depth = suc depth }) depth (omega arith)
    (expression_in place (brackets - 1) depth levels.Comparison) (expression_in place brackets depth)
    (λ some deep. expression_reads place (brackets - 1) depth levels.Comparison deep)
    (λ deep l. expression_reads place brackets depth l deep) level
