-- Statements and blocks that are spelled are read.
use Rattle.std.proofs.Common.{◌≡◌, ℕ, zero, suc, ◌+◌, ◌-◌, ◌≤◌, ◌<◌, Bool, true, false, List, [], ◌∷◌, ◌++◌, length, map, Result, Ok, refl, sym, ap, subst, ◌∙◌, append_assoc, arith, inl, inr}
use Rattle.std.specs.Prelude.{codes, ◌&&◌, not}
use Rattle.std.specs.Str.{bytes_eq}
use Rattle.std.proofs.lemmas.List.{append-nil, length-append}
use Rattle.std.proofs.lemmas.Bool.{lt-ltb, and_parts}
use Rattle.script_text.specs.declared.token.Token.{Token}
use Rattle.script_text.specs.declared.token.TokenKind.{TokenKind}
use Rattle.script_text.specs.declared.token.TokenKind.TheVariants as kinds
use Rattle.class_defs.specs.declared.expressions.Name.{Name}
use Rattle.class_defs.specs.declared.expressions.TypeName.{TypeName}
use Rattle.class_defs.specs.declared.expressions.Expr.{Expr, out-Expr, roll-Expr, roll-out-Expr, out-roll-Expr}
use Rattle.class_defs.specs.declared.expressions.Expr.TheOpen.{Expr-F}
use Rattle.class_defs.specs.declared.expressions.Expr.TheVariants as e
use Rattle.class_defs.specs.declared.statements.Stmt.{Stmt, out-Stmt, roll-Stmt, roll-out-Stmt}
use Rattle.class_defs.specs.declared.statements.Stmt.TheOpen.{Stmt-F}
use Rattle.class_defs.specs.declared.statements.Stmt.TheVariants as s
use Rattle.class_defs.specs.declared.places.Place.{Place}
use Rattle.class_defs.specs.Words.{Word, Fixed, FixedAt, name_word, in_turn}
use Rattle.class_defs.specs.Spelling as spelling
use Rattle.class_defs.specs.Spelling.{expr_words, condition_words, braces as brace_words, stmt_words}
use Rattle.class_defs.specs.Shape.{shape, Shape, Form, form, inside, in_braces, with_value, with_condition, both, in_method, in_item}
use Rattle.class_defs.specs.Grammar.{max_depth}
use Rattle.method_parse.specs.declared.deep.Deep.{Deep}
use Rattle.method_parse.specs.declared.deep.Level.TheVariants as levels
use Rattle.method_parse.specs.declared.deep.StmtStart.{StmtStart}
use Rattle.method_parse.specs.declared.deep.StmtStart.TheVariants as starts
use Rattle.method_parse.specs.Matching.{AreWords, is, is_fixed_kind, is_name_kind}
use Rattle.method_parse.proofs.NameTokens.{name_kind}
use Rattle.method_parse.specs.Reader.{Reader, ◌>>=◌, onward, give, word, name, type_word, next, repeat}
use Rattle.method_parse.specs.Statements.{expression, ended, condition, variable, returned, printed, evaluated, assigned_name, assigned_field, after_expression_by, after_expression, simple, after_branch, branch, while_loop, fixed_start, start_by, start, statement_by, statement, is_not_end, goes_on, more_statements, statements, braces, block_in}
use Rattle.method_parse.proofs.Repeats.{no_turn}
use Rattle.method_parse.proofs.Equations as eq
use Rattle.method_parse.proofs.Eats.{fixed_is, is_not, split, nothing, word_then, line_then, name_then, type_then, part_then, Stops, stops_before, stop_close, stop_semicolon, stop_equals}
use Rattle.method_parse.proofs.Heads.{Starter, AtNull, AtThis, AtNew, AtOpen, AtMinus, starter_text, IsHead, head_not, begins}
use Rattle.method_parse.proofs.ListOnly.{head_passes, head_fails, turn}
use Rattle.method_parse.proofs.OperatorOnly.{expression_reads}
use Rattle.method_parse.proofs.StatementLaws.{ExprFits, FormFits}

abbrev pub gives : {X : Type 0} → X → List Token → Result (X × List Token) ℕ
gives x rest = Ok (x, rest)

expr_reads : (place : Place) (brackets : ℕ) (x : Expr) (ts rest : List Token) → AreWords ts (expr_words x) → ExprFits place brackets x → Stops 0 rest → expression place brackets (ts ++ rest) ≡ gives x rest
unfolding expression
expr_reads place brackets x ts rest h fits stops =
    ap (λ r. onward r (λ (d : Deep). give d.expr)) (expression_reads place brackets max_depth levels.Comparison (omega arith) x ts rest h (record { within = fits.deep; nested = fits.nested; tight = omega arith; proper = fits.proper }) stops)

-- the first token of a statement
record Opens (ts : List Token) : Type 0 where
  token : Token
  rest : List Token
  parts : ts ≡ token ∷ rest
  no_else : is (codes "else") token ≡ false
  no_end : is (codes "}") token ≡ false

name_is : (k : TokenKind) (a : Bool) → is_name_kind k ≡ true → (is_fixed_kind k && a) ≡ false
name_is kinds.Name a e = refl
name_is kinds.Number a e = absurd cc
name_is kinds.Keyword a e = absurd cc
name_is kinds.Symbol a e = absurd cc
name_is kinds.Quoted a e = absurd cc

opens_at : (ts : List Token) (text : List ℕ) (ws : List Word) → AreWords ts (Fixed text ∷ ws) → bytes_eq text (codes "else") ≡ false → bytes_eq text (codes "}") ≡ false → Opens ts
opens_at [] text ws h a b = absurd h
opens_at (t ∷ ts) text ws h a b = record { token = t; rest = ts; parts = refl; no_else = is_not text (codes "else") t h.0.1 a; no_end = is_not text (codes "}") t h.0.1 b }

opens_name : (ts : List Token) (n : Name) (ws : List Word) → AreWords ts (name_word n ∷ ws) → Opens ts
opens_name [] n ws h = absurd h
opens_name (t ∷ ts) n ws h = record { token = t; rest = ts; parts = refl; no_else = name_is t.kind (bytes_eq t.text (codes "else")) (name_kind t.kind t.text h.0.0); no_end = name_is t.kind (bytes_eq t.text (codes "}")) (name_kind t.kind t.text h.0.0) }

no_starter_else : (s : Starter) → bytes_eq (starter_text s) (codes "else") ≡ false
no_starter_else AtNull = refl
no_starter_else AtThis = refl
no_starter_else AtNew = refl
no_starter_else AtOpen = refl
no_starter_else AtMinus = refl

no_starter_end : (s : Starter) → bytes_eq (starter_text s) (codes "}") ≡ false
no_starter_end AtNull = refl
no_starter_end AtThis = refl
no_starter_end AtNew = refl
no_starter_end AtOpen = refl
no_starter_end AtMinus = refl

opens_expr : (place : Place) (x : Expr) (ws : List Word) (ts : List Token) → AreWords ts (expr_words x ++ ws) → Opens ts
opens_expr place x ws ts h =
    let s = split ts (expr_words x) ws h in
    let b = begins place x s.front s.first in
    record {
      token = b.token;
      rest = b.rest ++ s.rest;
      parts = s.parts ∙ ap (λ (u : List Token). u ++ s.rest) b.parts;
      no_else = head_not b.token (codes "else") b.head no_starter_else;
      no_end = head_not b.token (codes "}") b.head no_starter_end;
    }

opens_form : (place : Place) (o : Stmt-F Stmt) (x : Stmt) → roll-Stmt o ≡ x → (ts : List Token) → AreWords ts (stmt_words x) → Opens ts
opens_form place (Stmt-F.Var t n l v) x is ts h = opens_at ts (codes "var") _ (subst (λ (w : List Word). AreWords ts w) (ap stmt_words (sym is ∙ s.rolls-Var t n l v) ∙ eq.words-Var t n l v) h) refl refl
opens_form place (Stmt-F.Assign n l v) x is ts h = opens_name ts n _ (subst (λ (w : List Word). AreWords ts w) (ap stmt_words (sym is ∙ s.rolls-Assign n l v) ∙ eq.words-Assign n l v) h)
opens_form place (Stmt-F.FieldAssign n l v) x is ts h = opens_at ts (codes "this") _ (subst (λ (w : List Word). AreWords ts w) (ap stmt_words (sym is ∙ s.rolls-FieldAssign n l v) ∙ eq.words-FieldAssign n l v) h) refl refl
opens_form place (Stmt-F.Return v) x is ts h = opens_at ts (codes "return") _ (subst (λ (w : List Word). AreWords ts w) (ap stmt_words (sym is ∙ s.rolls-Return v) ∙ eq.words-Return v) h) refl refl
opens_form place (Stmt-F.If c b) x is ts h = opens_at ts (codes "if") _ (subst (λ (w : List Word). AreWords ts w) (ap stmt_words (sym is ∙ s.rolls-If c b) ∙ eq.words-If c b) h) refl refl
opens_form place (Stmt-F.IfElse c b d) x is ts h = opens_at ts (codes "if") _ (subst (λ (w : List Word). AreWords ts w) (ap stmt_words (sym is ∙ s.rolls-IfElse c b d) ∙ eq.words-IfElse c b d) h) refl refl
opens_form place (Stmt-F.While c b) x is ts h = opens_at ts (codes "while") _ (subst (λ (w : List Word). AreWords ts w) (ap stmt_words (sym is ∙ s.rolls-While c b) ∙ eq.words-While c b) h) refl refl
opens_form place (Stmt-F.Print v) x is ts h = opens_at ts (codes "print") _ (subst (λ (w : List Word). AreWords ts w) (ap stmt_words (sym is ∙ s.rolls-Print v) ∙ eq.words-Print v) h) refl refl
opens_form place (Stmt-F.Evaluate v) x is ts h = opens_expr place v _ ts (subst (λ (w : List Word). AreWords ts w) (ap stmt_words (sym is ∙ s.rolls-Evaluate v) ∙ eq.words-Evaluate v) h)

opens : (place : Place) (x : Stmt) (ts : List Token) → AreWords ts (stmt_words x) → Opens ts
opens place x ts h = opens_form place (out-Stmt x) x (roll-out-Stmt x) ts h

-- how a statement is seen to begin
fixed_starts : (place : Place) (brackets : ℕ) (k : TokenKind) (text known : List ℕ) → is_fixed_kind k ≡ true → text ≡ known → start_by place brackets k text ≡ fixed_start place brackets known
fixed_starts place brackets kinds.Name text known f same = absurd cc
fixed_starts place brackets kinds.Number text known f same = absurd cc
fixed_starts place brackets kinds.Quoted text known f same = absurd cc
fixed_starts place brackets kinds.Keyword text known f same = ap (fixed_start place brackets) same
fixed_starts place brackets kinds.Symbol text known f same = ap (fixed_start place brackets) same

starts_fixed : (place : Place) (brackets : ℕ) (ts rest : List Token) (text : List ℕ) (ws : List Word) (s : StmtStart) → AreWords ts (Fixed text ∷ ws) → fixed_start place brackets text ≡ s → start place brackets (ts ++ rest) ≡ s
unfolding start
starts_fixed place brackets [] rest text ws s h e = absurd h
starts_fixed place brackets (t ∷ ts) rest text ws s h e = fixed_starts place brackets t.kind t.text text h.0.0 h.0.1 ∙ e

plain_other : (place : Place) (brackets : ℕ) (k : TokenKind) (text : List ℕ) → is_fixed_kind k ≡ false → start_by place brackets k text ≡ starts.Other
plain_other place brackets kinds.Name text f = refl
plain_other place brackets kinds.Number text f = refl
plain_other place brackets kinds.Quoted text f = refl
plain_other place brackets kinds.Keyword text f = absurd cc
plain_other place brackets kinds.Symbol text f = absurd cc

starter_other : (place : Place) (brackets : ℕ) (s : Starter) → fixed_start place brackets (starter_text s) ≡ starts.Other
starter_other place brackets AtNull = refl
starter_other place brackets AtThis = refl
starter_other place brackets AtNew = refl
starter_other place brackets AtOpen = refl
starter_other place brackets AtMinus = refl

text_other : (place : Place) (brackets : ℕ) (k : TokenKind) (text known : List ℕ) → text ≡ known → fixed_start place brackets known ≡ starts.Other → start_by place brackets k text ≡ starts.Other
text_other place brackets kinds.Name text known same e = refl
text_other place brackets kinds.Number text known same e = refl
text_other place brackets kinds.Quoted text known same e = refl
text_other place brackets kinds.Keyword text known same e = ap (fixed_start place brackets) same ∙ e
text_other place brackets kinds.Symbol text known same e = ap (fixed_start place brackets) same ∙ e

head_other : (place : Place) (brackets : ℕ) (t : Token) → IsHead t → start_by place brackets t.kind t.text ≡ starts.Other
head_other place brackets t (inl plain) = plain_other place brackets t.kind t.text plain
head_other place brackets t (inr s) = text_other place brackets t.kind t.text (starter_text s.0) s.1 (starter_other place brackets s.0)

starts_expr : (place : Place) (brackets : ℕ) (x : Expr) (ws : List Word) (ts rest : List Token) → AreWords ts (expr_words x ++ ws) → start place brackets (ts ++ rest) ≡ starts.Other
unfolding start
starts_expr place brackets x ws ts rest h =
    let s = split ts (expr_words x) ws h in
    let b = begins place x s.front s.first in
    let e : ts ++ rest ≡ b.token ∷ ((b.rest ++ s.rest) ++ rest) = ap (λ (u : List Token). u ++ rest) (s.parts ∙ ap (λ (u : List Token). u ++ s.rest) b.parts) in
    ap (start place brackets) e ∙ head_other place brackets b.token b.head

module _ (place : Place) (brackets : ℕ) where
  ended_reads : (x : Expr) (ts rest : List Token) → AreWords ts (spelling.ended x) → ExprFits place brackets x → ended place brackets (ts ++ rest) ≡ gives x rest
  unfolding ended
  ended_reads x ts rest h fits =
      part_then rest _ (expression place brackets) x (expr_words x) (Fixed (codes ";") ∷ []) ts (λ value. word (codes ";") >>= λ e. give value) h
      (λ front more p q. expr_reads place brackets x front (more ++ rest) p fits (stops_before 0 (codes ";") more rest [] (stop_semicolon 0) q))
      (λ us k. word_then rest _ (codes ";") [] us (λ e. give x) k (λ l vs m. ap (λ (u : List Token). gives x (u ++ rest)) (nothing vs m)))

  condition_reads : (x : Expr) (ts rest : List Token) → AreWords ts (condition_words x) → ExprFits place (brackets - 1) x → condition place brackets (ts ++ rest) ≡ gives x rest
  unfolding condition
  condition_reads x ts rest h fits =
      word_then rest _ (codes "(") _ ts (λ o. expression place (brackets - 1) >>= λ value. word (codes ")") >>= λ c. give value) h (λ l us k.
      part_then rest _ (expression place (brackets - 1)) x (expr_words x) (Fixed (codes ")") ∷ []) us (λ value. word (codes ")") >>= λ c. give value) k
      (λ front more p q. expr_reads place (brackets - 1) x front (more ++ rest) p fits (stops_before 0 (codes ")") more rest [] (stop_close 0) q))
      (λ vs m. word_then rest _ (codes ")") [] vs (λ c. give x) m (λ l ws n. ap (λ (u : List Token). gives x (u ++ rest)) (nothing ws n))))

  -- what fits of a statement that has a value
  value_fits : (x : Expr) (b : Bool) → FormFits brackets (with_value place x b) → ExprFits place brackets x × (b ≡ true)
  value_fits x b fits = let two = and_parts (shape place x).proper b fits.proper in (record { deep = fits.deep; nested = fits.nested; proper = two.0 }, two.1)

  evaluated_reads : (x : Expr) (ts rest : List Token) → AreWords ts (Fixed (codes ";") ∷ []) → evaluated x (ts ++ rest) ≡ gives (s.Evaluate x) rest
  unfolding evaluated
  evaluated_reads x ts rest h = word_then rest _ (codes ";") [] ts (λ e. give (s.Evaluate x)) h (λ l vs m. ap (λ (u : List Token). gives (s.Evaluate x) (u ++ rest)) (nothing vs m))

  leaf_fits : (x : Expr) (b : Bool) → shape place x ≡ record { level = 5; depth = 1; nesting = 0; proper = b } → b ≡ true → ExprFits place brackets x
  leaf_fits x b same ok =
      let d : (shape place x).depth ≡ 1 = ap (λ (s : Shape). s.depth) same in
      let n : (shape place x).nesting ≡ 0 = ap (λ (s : Shape). s.nesting) same in
      record { deep = omega arith; nested = omega arith; proper = ap (λ (s : Shape). s.proper) same ∙ ok }

  variable_target : (n : Name) → after_expression place brackets (e.Variable n) ≡ assigned_name place brackets n
  unfolding after_expression
  variable_target n = ap (after_expression_by place brackets (e.Variable n)) (ap out-Expr (sym (e.rolls-Variable n)) ∙ out-roll-Expr (Expr-F.Variable n))

  field_target : (n : Name) → after_expression place brackets (e.Field n) ≡ assigned_field place brackets n
  unfolding after_expression
  field_target n = ap (after_expression_by place brackets (e.Field n)) (ap out-Expr (sym (e.rolls-Field n)) ∙ out-roll-Expr (Expr-F.Field n))

  plain_line : (ts : List Token) (text : List ℕ) (line : ℕ) (ws : List Word) → AreWords ts (FixedAt text line ∷ ws) → AreWords ts (Fixed text ∷ ws)
  plain_line [] text line ws h = absurd h
  plain_line (t ∷ ts) text line ws h = ((h.0.0, h.0.1), h.1)

  assign_reads : (n : Name) (l : ℕ) (x : Expr) (ts rest : List Token) → AreWords ts (name_word n ∷ FixedAt (codes "=") l ∷ spelling.ended x) → ExprFits place brackets x → simple place brackets (ts ++ rest) ≡ gives (s.Assign n l x) rest
  unfolding simple assigned_name
  assign_reads n l x ts rest h fits =
      part_then rest _ (expression place brackets) (e.Variable n) (name_word n ∷ []) (FixedAt (codes "=") l ∷ spelling.ended x) ts (after_expression place brackets) h
      (λ front more p q. expr_reads place brackets (e.Variable n) front (more ++ rest) (subst (λ (w : List Word). AreWords front w) (sym (eq.words-Variable n)) p) (leaf_fits (e.Variable n) true (eq.shape-Variable place n) refl) (stops_before 0 (codes "=") more rest (spelling.ended x) (stop_equals 0) (plain_line more (codes "=") l (spelling.ended x) q)))
      (λ us k. ap (λ (r : Reader Stmt). r (us ++ rest)) (variable_target n) ∙ rw (head_passes (codes "=") us rest (spelling.ended x) (plain_line us (codes "=") l (spelling.ended x) k))
      (line_then rest _ (codes "=") l (spelling.ended x) us (λ line. ended place brackets >>= λ value. give (s.Assign n line value)) k (λ vs m.
      ap (λ r. onward r (λ (value : Expr). give (s.Assign n l value))) (ended_reads x vs rest m fits))))

  field_assign_reads : (n : Name) (l : ℕ) (x : Expr) (ts rest : List Token) → in_method place ≡ true → AreWords ts ((Fixed (codes "this") ∷ Fixed (codes ".") ∷ name_word n ∷ []) ++ FixedAt (codes "=") l ∷ spelling.ended x) → ExprFits place brackets x → simple place brackets (ts ++ rest) ≡ gives (s.FieldAssign n l x) rest
  unfolding simple assigned_field
  field_assign_reads n l x ts rest here h fits =
      part_then rest _ (expression place brackets) (e.Field n) (Fixed (codes "this") ∷ Fixed (codes ".") ∷ name_word n ∷ []) (FixedAt (codes "=") l ∷ spelling.ended x) ts (after_expression place brackets) h
      (λ front more p q. expr_reads place brackets (e.Field n) front (more ++ rest) (subst (λ (w : List Word). AreWords front w) (sym (eq.words-Field n)) p) (leaf_fits (e.Field n) (in_method place) (eq.shape-Field place n) here) (stops_before 0 (codes "=") more rest (spelling.ended x) (stop_equals 0) (plain_line more (codes "=") l (spelling.ended x) q)))
      (λ us k. ap (λ (r : Reader Stmt). r (us ++ rest)) (field_target n) ∙ rw (head_passes (codes "=") us rest (spelling.ended x) (plain_line us (codes "=") l (spelling.ended x) k))
      (line_then rest _ (codes "=") l (spelling.ended x) us (λ line. ended place brackets >>= λ value. give (s.FieldAssign n line value)) k (λ vs m.
      ap (λ r. onward r (λ (value : Expr). give (s.FieldAssign n l value))) (ended_reads x vs rest m fits))))

  -- an expression alone
  evaluate_by : (x : Expr) (o : Expr-F Expr) → roll-Expr o ≡ x → (us rest : List Token) → AreWords us (Fixed (codes ";") ∷ []) → after_expression_by place brackets x o (us ++ rest) ≡ gives (s.Evaluate x) rest
  unfolding assigned_name assigned_field
  evaluate_by x (Expr-F.Variable n) is us rest h =
      rw (head_fails (codes ";") (codes "=") us rest [] h refl) (evaluated_reads (e.Variable n) us rest h ∙ ap (λ (y : Expr). gives (s.Evaluate y) rest) (sym (e.rolls-Variable n) ∙ is))
  evaluate_by x (Expr-F.Field n) is us rest h =
      rw (head_fails (codes ";") (codes "=") us rest [] h refl) (evaluated_reads (e.Field n) us rest h ∙ ap (λ (y : Expr). gives (s.Evaluate y) rest) (sym (e.rolls-Field n) ∙ is))
  evaluate_by x (Expr-F.Literal v l) is us rest h = evaluated_reads x us rest h
  evaluate_by x (Expr-F.Null l) is us rest h = evaluated_reads x us rest h
  evaluate_by x (Expr-F.This l) is us rest h = evaluated_reads x us rest h
  evaluate_by x (Expr-F.New n a) is us rest h = evaluated_reads x us rest h
  evaluate_by x (Expr-F.Parens y l) is us rest h = evaluated_reads x us rest h
  evaluate_by x (Expr-F.Negate y l) is us rest h = evaluated_reads x us rest h
  evaluate_by x (Expr-F.Binary o y z l) is us rest h = evaluated_reads x us rest h
  evaluate_by x (Expr-F.Call y n xs) is us rest h = evaluated_reads x us rest h

  evaluate_reads : (x : Expr) (ts rest : List Token) → AreWords ts (spelling.ended x) → ExprFits place brackets x → simple place brackets (ts ++ rest) ≡ gives (s.Evaluate x) rest
  unfolding simple after_expression
  evaluate_reads x ts rest h fits =
      part_then rest _ (expression place brackets) x (expr_words x) (Fixed (codes ";") ∷ []) ts (after_expression place brackets) h
      (λ front more p q. expr_reads place brackets x front (more ++ rest) p fits (stops_before 0 (codes ";") more rest [] (stop_semicolon 0) q))
      (λ us k. evaluate_by x (out-Expr x) (roll-out-Expr x) us rest k)

  variable_reads : (t : TypeName) (n : Name) (l : ℕ) (x : Expr) (ts rest : List Token) → AreWords ts (Fixed (codes "var") ∷ spelling.type_word t ∷ name_word n ∷ FixedAt (codes "=") l ∷ spelling.ended x) → ExprFits place brackets x → variable place brackets (ts ++ rest) ≡ gives (s.Var t n l x) rest
  unfolding variable
  variable_reads t n l x ts rest h fits =
      word_then rest _ (codes "var") _ ts (λ w. type_word >>= λ type. name >>= λ called. word (codes "=") >>= λ equals. ended place brackets >>= λ value. give (s.Var type called equals value)) h (λ w us a.
      type_then rest _ t _ us (λ type. name >>= λ called. word (codes "=") >>= λ equals. ended place brackets >>= λ value. give (s.Var type called equals value)) a (λ vs b.
      name_then rest _ n _ vs (λ called. word (codes "=") >>= λ equals. ended place brackets >>= λ value. give (s.Var t called equals value)) b (λ ws c.
      line_then rest _ (codes "=") l (spelling.ended x) ws (λ equals. ended place brackets >>= λ value. give (s.Var t n equals value)) c (λ xs d.
      ap (λ r. onward r (λ (value : Expr). give (s.Var t n l value))) (ended_reads x xs rest d fits)))))

  returned_reads : (x : Expr) (ts rest : List Token) → AreWords ts (Fixed (codes "return") ∷ spelling.ended x) → ExprFits place brackets x → returned place brackets (ts ++ rest) ≡ gives (s.Return x) rest
  unfolding returned
  returned_reads x ts rest h fits =
      word_then rest _ (codes "return") (spelling.ended x) ts (λ l. ended place brackets >>= λ value. give (s.Return value)) h (λ l us k.
      ap (λ r. onward r (λ (value : Expr). give (s.Return value))) (ended_reads x us rest k fits))

  printed_reads : (x : Expr) (ts rest : List Token) → AreWords ts (Fixed (codes "print") ∷ spelling.ended x) → ExprFits place brackets x → printed place brackets (ts ++ rest) ≡ gives (s.Print x) rest
  unfolding printed
  printed_reads x ts rest h fits =
      word_then rest _ (codes "print") (spelling.ended x) ts (λ l. ended place brackets >>= λ value. give (s.Print value)) h (λ l us k.
      ap (λ r. onward r (λ (value : Expr). give (s.Print value))) (ended_reads x us rest k fits))

  -- ---- statements with blocks

  module _ (block : Reader (List Stmt))
      (block_reads : 0 < brackets → (b : List Stmt) (ts rest : List Token) → AreWords ts (brace_words (map stmt_words b)) → FormFits brackets (in_braces (map (form place) b)) → block (ts ++ rest) ≡ gives b rest) where
    record IfFits (x : Expr) (b : Form) : Type 0 where
      some : 0 < brackets
      test : ExprFits place (brackets - 1) x
      inner : FormFits brackets b

    if_fits : (x : Expr) (b : Form) → FormFits brackets (with_condition place x b) → IfFits x b
    if_fits x b fits =
        let two = and_parts (shape place x).proper b.proper fits.proper in
        record {
          some = omega (arith, fits.nested);
          test = record { deep = omega (arith, fits.deep); nested = omega (arith, fits.nested); proper = two.0 };
          inner = record { deep = omega (arith, fits.deep); nested = omega (arith, fits.nested); proper = two.1 };
        }

    while_reads : (x : Expr) (b : List Stmt) (ts rest : List Token) → AreWords ts (Fixed (codes "while") ∷ (condition_words x ++ brace_words (map stmt_words b))) → IfFits x (in_braces (map (form place) b)) → while_loop place brackets block (ts ++ rest) ≡ gives (s.While x b) rest
    unfolding while_loop
    while_reads x b ts rest h fits =
        word_then rest _ (codes "while") _ ts (λ l. condition place brackets >>= λ test. block >>= λ body. give (s.While test body)) h (λ l us k.
        part_then rest _ (condition place brackets) x (condition_words x) (brace_words (map stmt_words b)) us (λ test. block >>= λ body. give (s.While test body)) k
        (λ front more p q. condition_reads x front (more ++ rest) p fits.test)
        (λ vs m. ap (λ r. onward r (λ (body : List Stmt). give (s.While x body))) (block_reads fits.some b vs rest m fits.inner)))

    if_reads : (x : Expr) (b : List Stmt) (ts rest : List Token) → AreWords ts (Fixed (codes "if") ∷ (condition_words x ++ brace_words (map stmt_words b))) → IfFits x (in_braces (map (form place) b)) → next (is (codes "else")) rest ≡ false → branch place brackets block (ts ++ rest) ≡ gives (s.If x b) rest
    unfolding branch after_branch
    if_reads x b ts rest h fits none =
        word_then rest _ (codes "if") _ ts (λ l. condition place brackets >>= λ test. block >>= λ chosen. after_branch block test chosen) h (λ l us k.
        part_then rest _ (condition place brackets) x (condition_words x) (brace_words (map stmt_words b)) us (λ test. block >>= λ chosen. after_branch block test chosen) k
        (λ front more p q. condition_reads x front (more ++ rest) p fits.test)
        (λ vs m. ap (λ r. onward r (λ (chosen : List Stmt). after_branch block x chosen)) (block_reads fits.some b vs rest m fits.inner) ∙ rw none refl))

    both_fits : (a b : Form) → FormFits brackets (both a b) → FormFits brackets a × FormFits brackets b
    both_fits a b fits =
        let two = and_parts a.proper b.proper fits.proper in
        (record { deep = omega (arith, fits.deep); nested = omega (arith, fits.nested); proper = two.0 }, record { deep = omega (arith, fits.deep); nested = omega (arith, fits.nested); proper = two.1 })

    else_reads : (x : Expr) (b c : List Stmt) (ts rest : List Token) → AreWords ts (Fixed (codes "if") ∷ (condition_words x ++ (brace_words (map stmt_words b) ++ Fixed (codes "else") ∷ brace_words (map stmt_words c)))) → IfFits x (both (in_braces (map (form place) b)) (in_braces (map (form place) c))) → branch place brackets block (ts ++ rest) ≡ gives (s.IfElse x b c) rest
    unfolding branch after_branch
    else_reads x b c ts rest h fits =
        let f = both_fits (in_braces (map (form place) b)) (in_braces (map (form place) c)) fits.inner in
        word_then rest _ (codes "if") _ ts (λ l. condition place brackets >>= λ test. block >>= λ chosen. after_branch block test chosen) h (λ l us k.
        part_then rest _ (condition place brackets) x (condition_words x) (brace_words (map stmt_words b) ++ Fixed (codes "else") ∷ brace_words (map stmt_words c)) us (λ test. block >>= λ chosen. after_branch block test chosen) k
        (λ front more p q. condition_reads x front (more ++ rest) p fits.test)
        (λ vs m. part_then rest _ block b (brace_words (map stmt_words b)) (Fixed (codes "else") ∷ brace_words (map stmt_words c)) vs (λ chosen. after_branch block x chosen) m
        (λ front more p q. block_reads fits.some b front (more ++ rest) p f.0)
        (λ ws n. rw (head_passes (codes "else") ws rest _ n)
        (word_then rest _ (codes "else") (brace_words (map stmt_words c)) ws (λ l. block >>= λ otherwise. give (s.IfElse x b otherwise)) n (λ l ys o.
        ap (λ r. onward r (λ (otherwise : List Stmt). give (s.IfElse x b otherwise))) (block_reads fits.some c ys rest o f.1))))))

    by_start : (st : StmtStart) (ts : List Token) (result : Result (Stmt × List Token) ℕ) → start place brackets ts ≡ st → statement_by place brackets block st ts ≡ result → statement place brackets block ts ≡ result
    unfolding statement
    by_start st ts result h e = ap (λ (s : StmtStart). statement_by place brackets block s ts) h ∙ e

    some_if : 0 < brackets → fixed_start place brackets (codes "if") ≡ starts.If
    some_if lt = rw (lt-ltb 0 brackets lt) refl

    some_while : 0 < brackets → fixed_start place brackets (codes "while") ≡ starts.While
    some_while lt = rw (lt-ltb 0 brackets lt) refl

    abbrev ReadsStmt : Stmt → Type 0
    ReadsStmt x = (ts rest : List Token) → AreWords ts (stmt_words x) → FormFits brackets (form place x) → next (is (codes "else")) rest ≡ false → statement place brackets block (ts ++ rest) ≡ gives x rest

    fits_as : (x : Stmt) (f : Form) → form place x ≡ f → FormFits brackets (form place x) → FormFits brackets f
    fits_as x f same fits = subst (λ (g : Form). FormFits brackets g) same fits

    words_as : (x : Stmt) (ws : List Word) (ts : List Token) → stmt_words x ≡ ws → AreWords ts (stmt_words x) → AreWords ts ws
    words_as x ws ts same h = subst (λ (w : List Word). AreWords ts w) same h

    form_reads : (o : Stmt-F Stmt) → ReadsStmt (roll-Stmt o)
    unfolding statement_by
    form_reads (Stmt-F.Var t n l v) = subst ReadsStmt (sym (s.rolls-Var t n l v)) (λ ts rest h fits none.
        let w = words_as (s.Var t n l v) _ ts (eq.words-Var t n l v) h in
        by_start starts.Var (ts ++ rest) _ (starts_fixed place brackets ts rest (codes "var") _ starts.Var w refl) (variable_reads t n l v ts rest w (value_fits v true (fits_as (s.Var t n l v) _ (eq.form-Var place t n l v) fits)).0))
    form_reads (Stmt-F.Assign n l v) = subst ReadsStmt (sym (s.rolls-Assign n l v)) (λ ts rest h fits none.
        let w = words_as (s.Assign n l v) _ ts (eq.words-Assign n l v) h in
        by_start starts.Other (ts ++ rest) _ (starts_expr place brackets (e.Variable n) (FixedAt (codes "=") l ∷ spelling.ended v) ts rest (subst (λ (u : List Word). AreWords ts (u ++ FixedAt (codes "=") l ∷ spelling.ended v)) (sym (eq.words-Variable n)) w))
        (assign_reads n l v ts rest w (value_fits v true (fits_as (s.Assign n l v) _ (eq.form-Assign place n l v) fits)).0))
    form_reads (Stmt-F.FieldAssign n l v) = subst ReadsStmt (sym (s.rolls-FieldAssign n l v)) (λ ts rest h fits none.
        let w = words_as (s.FieldAssign n l v) _ ts (eq.words-FieldAssign n l v) h in
        let f = value_fits v (in_method place) (fits_as (s.FieldAssign n l v) _ (eq.form-FieldAssign place n l v) fits) in
        by_start starts.Other (ts ++ rest) _ (starts_expr place brackets (e.Field n) (FixedAt (codes "=") l ∷ spelling.ended v) ts rest (subst (λ (u : List Word). AreWords ts (u ++ FixedAt (codes "=") l ∷ spelling.ended v)) (sym (eq.words-Field n)) w))
        (field_assign_reads n l v ts rest f.1 w f.0))
    form_reads (Stmt-F.Return v) = subst ReadsStmt (sym (s.rolls-Return v)) (λ ts rest h fits none.
        let w = words_as (s.Return v) _ ts (eq.words-Return v) h in
        let f = value_fits v (in_method place) (fits_as (s.Return v) _ (eq.form-Return place v) fits) in
        by_start starts.Return (ts ++ rest) _ (starts_fixed place brackets ts rest (codes "return") _ starts.Return w (rw f.1 refl)) (returned_reads v ts rest w f.0))
    form_reads (Stmt-F.Print v) = subst ReadsStmt (sym (s.rolls-Print v)) (λ ts rest h fits none.
        let w = words_as (s.Print v) _ ts (eq.words-Print v) h in
        let f = value_fits v (in_item place) (fits_as (s.Print v) _ (eq.form-Print place v) fits) in
        by_start starts.Print (ts ++ rest) _ (starts_fixed place brackets ts rest (codes "print") _ starts.Print w (rw f.1 refl)) (printed_reads v ts rest w f.0))
    form_reads (Stmt-F.Evaluate v) = subst ReadsStmt (sym (s.rolls-Evaluate v)) (λ ts rest h fits none.
        let w = words_as (s.Evaluate v) _ ts (eq.words-Evaluate v) h in
        by_start starts.Other (ts ++ rest) _ (starts_expr place brackets v (Fixed (codes ";") ∷ []) ts rest w) (evaluate_reads v ts rest w (value_fits v true (fits_as (s.Evaluate v) _ (eq.form-Evaluate place v) fits)).0))
    form_reads (Stmt-F.While c b) = subst ReadsStmt (sym (s.rolls-While c b)) (λ ts rest h fits none.
        let w = words_as (s.While c b) _ ts (eq.words-While c b) h in
        let f = if_fits c (in_braces (map (form place) b)) (fits_as (s.While c b) _ (eq.form-While place c b) fits) in
        by_start starts.While (ts ++ rest) _ (starts_fixed place brackets ts rest (codes "while") _ starts.While w (some_while f.some)) (while_reads c b ts rest w f))
    form_reads (Stmt-F.If c b) = subst ReadsStmt (sym (s.rolls-If c b)) (λ ts rest h fits none.
        let w = words_as (s.If c b) _ ts (eq.words-If c b) h in
        let f = if_fits c (in_braces (map (form place) b)) (fits_as (s.If c b) _ (eq.form-If place c b) fits) in
        by_start starts.If (ts ++ rest) _ (starts_fixed place brackets ts rest (codes "if") _ starts.If w (some_if f.some)) (if_reads c b ts rest w f none))
    form_reads (Stmt-F.IfElse c b d) = subst ReadsStmt (sym (s.rolls-IfElse c b d)) (λ ts rest h fits none.
        let w = words_as (s.IfElse c b d) _ ts (eq.words-IfElse c b d) h in
        let f = if_fits c (both (in_braces (map (form place) b)) (in_braces (map (form place) d))) (fits_as (s.IfElse c b d) _ (eq.form-IfElse place c b d) fits) in
        by_start starts.If (ts ++ rest) _ (starts_fixed place brackets ts rest (codes "if") _ starts.If w (some_if f.some)) (else_reads c b d ts rest w f))

    statement_reads : (x : Stmt) → ReadsStmt x
    statement_reads x = subst ReadsStmt (roll-out-Stmt x) (form_reads (out-Stmt x))

    -- ---- statements in turn

    first_fits : (x : Stmt) (xs : List Stmt) → FormFits brackets (inside (map (form place) (x ∷ xs))) → FormFits brackets (form place x) × FormFits brackets (inside (map (form place) xs))
    first_fits x xs fits =
        let two = and_parts (form place x).proper (inside (map (form place) xs)).proper fits.proper in
        (record { deep = omega (arith, fits.deep); nested = omega (arith, fits.nested); proper = two.0 }, record { deep = omega (arith, fits.deep); nested = omega (arith, fits.nested); proper = two.1 })

    goes_next : (ts rest : List Token) → Opens ts → (next (is (codes "else")) (ts ++ rest) ≡ false) × (next is_not_end (ts ++ rest) ≡ true)
    goes_next ts rest o =
        let e1 : ts ++ rest ≡ o.token ∷ (o.rest ++ rest) = ap (λ (u : List Token). u ++ rest) o.parts in
        (ap (next (is (codes "else"))) e1 ∙ o.no_else, ap (next is_not_end) e1 ∙ ap not o.no_end)

    no_else_next : (xs : List Stmt) (us rest : List Token) → AreWords us (in_turn (map stmt_words xs)) → next (is (codes "else")) rest ≡ false → next (is (codes "else")) (us ++ rest) ≡ false
    no_else_next [] us rest h none = ap (λ (u : List Token). next (is (codes "else")) (u ++ rest)) (nothing us h) ∙ none
    no_else_next (x ∷ xs) us rest h none =
        let t = split us (stmt_words x) (in_turn (map stmt_words xs)) h in
        let e1 : us ++ rest ≡ t.front ++ (t.rest ++ rest) = ap (λ (u : List Token). u ++ rest) t.parts ∙ append_assoc t.front t.rest rest in
        ap (next (is (codes "else"))) e1 ∙ (goes_next t.front (t.rest ++ rest) (opens place x t.front t.first)).0

    stmts_read : (xs before : List Stmt) (n : ℕ) (ts rest : List Token) → AreWords ts (in_turn (map stmt_words xs)) → FormFits brackets (inside (map (form place) xs))
        → next is_not_end rest ≡ false → next (is (codes "else")) rest ≡ false → length ts ≤ n → repeat n goes_on (more_statements place brackets block) before (ts ++ rest) ≡ gives (before ++ xs) rest
    unfolding more_statements
    stmts_read [] before n ts rest h fits ends none le =
        ap (λ (u : List Token). repeat n goes_on (more_statements place brackets block) before (u ++ rest)) (nothing ts h)
        ∙ (no_turn goes_on (more_statements place brackets block) n before rest ends ∙ ap (λ (b : List Stmt). gives b rest) (sym (append-nil before)))
    stmts_read (x ∷ xs) before n ts rest h fits ends none le =
        let t = split ts (stmt_words x) (in_turn (map stmt_words xs)) h in
        let o = opens place x t.front t.first in
        let e1 : ts ++ rest ≡ t.front ++ (t.rest ++ rest) = ap (λ (u : List Token). u ++ rest) t.parts ∙ append_assoc t.front t.rest rest in
        let long : length ts ≡ length t.front + length t.rest = ap length t.parts ∙ length-append t.front t.rest in
        let some : length t.front ≡ suc (length o.rest) = ap length o.parts in
        let f = first_fits x xs fits in
        let one : n ≡ suc (n - 1) = omega arith in
        ap (λ (u : List Token). repeat n goes_on (more_statements place brackets block) before u) e1
        ∙ (ap (λ (k : ℕ). repeat k goes_on (more_statements place brackets block) before (t.front ++ (t.rest ++ rest))) one
        ∙ (turn goes_on (more_statements place brackets block) (n - 1) before (t.front ++ (t.rest ++ rest)) (goes_next t.front (t.rest ++ rest) o).1
        ∙ (ap (λ r. onward (onward r (λ (y : Stmt). give (before ++ y ∷ []))) (repeat (n - 1) goes_on (more_statements place brackets block)))
        (statement_reads x t.front (t.rest ++ rest) t.first f.0 (no_else_next xs t.rest rest t.second none))
        ∙ (stmts_read xs (before ++ x ∷ []) (n - 1) t.rest rest t.second f.1 ends none (omega arith) ∙ ap (λ (b : List Stmt). gives b rest) (append_assoc before (x ∷ []) xs)))))

    not_end : (ts rest : List Token) (ws : List Word) → AreWords ts (Fixed (codes "}") ∷ ws) → next is_not_end (ts ++ rest) ≡ false
    not_end [] rest ws h = absurd h
    not_end (t ∷ ts) rest ws h = rw (fixed_is (codes "}") t h.0.0 h.0.1) refl

    pub braces_read : (b : List Stmt) (ts rest : List Token) → AreWords ts (brace_words (map stmt_words b)) → FormFits (brackets + 1) (in_braces (map (form place) b)) → braces place brackets block (ts ++ rest) ≡ gives b rest
    unfolding braces statements
    braces_read b ts rest h fits =
        word_then rest _ (codes "{") _ ts (λ l. statements place brackets block >>= λ stmts. word (codes "}") >>= λ c. give stmts) h (λ l us k.
        part_then rest _ (statements place brackets block) b (in_turn (map stmt_words b)) (Fixed (codes "}") ∷ []) us (λ stmts. word (codes "}") >>= λ c. give stmts) k
        (λ front more p q. stmts_read b [] (length (front ++ (more ++ rest))) front (more ++ rest) p (record { deep = fits.deep; nested = omega (arith, fits.nested); proper = fits.proper }) (not_end more rest [] q) (head_fails (codes "}") (codes "else") more rest [] q refl) (omega (arith, length-append front (more ++ rest))))
        (λ vs m. word_then rest _ (codes "}") [] vs (λ c. give b) m (λ l ws n. ap (λ (u : List Token). gives b (u ++ rest)) (nothing ws n))))

-- a block that is spelled is read, with room for its brackets
pub block_reads : (place : Place) (brackets : ℕ) → 0 < brackets → (b : List Stmt) (ts rest : List Token) → AreWords ts (brace_words (map stmt_words b)) → FormFits brackets (in_braces (map (form place) b)) → block_in place brackets (ts ++ rest) ≡ gives b rest
unfolding block_in
block_reads place zero lt b ts rest h fits = absurd (omega arith)
block_reads place (suc brackets) lt b ts rest h fits =
    let e : suc brackets ≡ brackets + 1 = omega arith in
    braces_read place brackets (block_in place brackets) (λ some. block_reads place brackets some) b ts rest h (subst (λ (n : ℕ). FormFits n (in_braces (map (form place) b))) e fits)
