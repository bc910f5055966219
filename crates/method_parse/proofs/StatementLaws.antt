-- Each statement and block that is read is spelled by what was taken, and where the reader is stuck, the
-- tokens before begin some statement or block.
use Rattle.std.proofs.Common.{◌≡◌, ℕ, zero, suc, ◌+◌, ◌-◌, ◌≤◌, ◌<◌, Bool, true, List, [], ◌∷◌, ◌++◌, map, refl, sym, ap, subst, ◌∙◌, append_assoc, arith}
use Rattle.std.specs.Prelude.{codes, ◌&&◌, nat_lt}
use Rattle.std.specs.Str.{bytes_eq}
use Rattle.std.proofs.lemmas.List.{append-nil}
use Rattle.std.proofs.lemmas.Bool.{ltb-true, and_from, and_parts}
use Rattle.script_text.specs.declared.token.Token.{Token}
use Rattle.script_text.specs.declared.token.TokenKind.{TokenKind}
use Rattle.script_text.specs.declared.token.TokenKind.TheVariants as kinds
use Rattle.class_defs.specs.declared.expressions.Name.{Name}
use Rattle.class_defs.specs.declared.expressions.Expr.{Expr, out-Expr, roll-Expr, roll-out-Expr}
use Rattle.class_defs.specs.declared.expressions.Expr.TheOpen.{Expr-F}
use Rattle.class_defs.specs.declared.expressions.Expr.TheVariants as e
use Rattle.class_defs.specs.declared.statements.Stmt.{Stmt}
use Rattle.class_defs.specs.declared.statements.Stmt.TheVariants as s
use Rattle.class_defs.specs.declared.places.Place.{Place}
use Rattle.class_defs.specs.Words.{Word, Fixed, FixedAt, name_word, in_turn}
use Rattle.class_defs.specs.Spelling as spelling
use Rattle.class_defs.specs.Spelling.{expr_words, condition_words, braces as brace_words, stmt_words}
use Rattle.class_defs.specs.Shape.{shape, Form, form, inside, in_braces, with_value, with_condition, both, in_method, in_item}
use Rattle.class_defs.specs.Grammar.{max_depth}
use Rattle.method_parse.specs.declared.deep.Deep.{Deep}
use Rattle.method_parse.specs.declared.deep.Level.TheVariants as levels
use Rattle.method_parse.specs.declared.deep.StmtStart.{StmtStart}
use Rattle.method_parse.specs.declared.deep.StmtStart.TheVariants as starts
use Rattle.method_parse.specs.Matching.{AreWords, is}
use Rattle.method_parse.specs.Reader.{Reader}
use Rattle.method_parse.specs.Statements.{expression, ended, condition, variable, returned, printed, evaluated, assigned_name, assigned_field, after_expression_by, after_expression, simple, after_branch, branch, while_loop, fixed_start, start_by, start, statement_by, statement, goes_on, more_statements, statements, braces, block_in}
use Rattle.method_parse.proofs.Lawful.{Lawful, behind, lawful_bind, lawful_give, lawful_last, lawful_if, lawful_repeat_all}
use Rattle.method_parse.proofs.Matched.{join, plain, lawful_word, lawful_name, lawful_type}
use Rattle.method_parse.proofs.Equations as eq
use Rattle.method_parse.proofs.Fits.{IsRead}
use Rattle.method_parse.proofs.ExpressionLaws.{lawful_expression, picked}

-- a whole expression that fits
pub record ExprFits (place : Place) (brackets : ℕ) (x : Expr) : Type 0 where
  pub deep : (shape place x).depth ≤ max_depth
  pub nested : (shape place x).nesting ≤ brackets
  pub proper : (shape place x).proper ≡ true

pub record IsExpr (place : Place) (brackets : ℕ) (x : Expr) (ts : List Token) : Type 0 where
  pub spelled : AreWords ts (expr_words x)
  pub fits : ExprFits place brackets x

pub record IsEnded (place : Place) (brackets : ℕ) (x : Expr) (ts : List Token) : Type 0 where
  pub spelled : AreWords ts (spelling.ended x)
  pub fits : ExprFits place brackets x

pub record IsCondition (place : Place) (brackets : ℕ) (x : Expr) (ts : List Token) : Type 0 where
  pub spelled : AreWords ts (condition_words x)
  pub fits : ExprFits place (brackets - 1) x

-- what fits, of a statement or block
pub record FormFits (brackets : ℕ) (f : Form) : Type 0 where
  pub deep : f.depth ≤ max_depth
  pub nested : f.nesting ≤ brackets
  pub proper : f.proper ≡ true

pub record IsStmt (place : Place) (brackets : ℕ) (x : Stmt) (ts : List Token) : Type 0 where
  pub spelled : AreWords ts (stmt_words x)
  pub fits : FormFits brackets (form place x)

pub record IsInside (place : Place) (brackets : ℕ) (b : List Stmt) (ts : List Token) : Type 0 where
  pub spelled : AreWords ts (in_turn (map stmt_words b))
  pub fits : FormFits brackets (inside (map (form place) b))

pub record IsBraces (place : Place) (brackets : ℕ) (b : List Stmt) (ts : List Token) : Type 0 where
  pub spelled : AreWords ts (brace_words (map stmt_words b))
  pub fits : FormFits brackets (in_braces (map (form place) b))

turn-push : (xs : List Stmt) (x : Stmt) → in_turn (map stmt_words (xs ++ x ∷ [])) ≡ in_turn (map stmt_words xs) ++ stmt_words x
turn-push [] x = append-nil (stmt_words x)
turn-push (y ∷ ys) x = ap (λ (w : List Word). stmt_words y ++ w) (turn-push ys x) ∙ sym (append_assoc (stmt_words y) (in_turn (map stmt_words ys)) (stmt_words x))

inside-push : (place : Place) (brackets : ℕ) (xs : List Stmt) (x : Stmt) → FormFits brackets (inside (map (form place) xs)) → FormFits brackets (form place x)
    → FormFits brackets (inside (map (form place) (xs ++ x ∷ [])))
inside-push place brackets [] x before one = record { deep = omega (arith, one.deep); nested = omega (arith, one.nested); proper = and_from (form place x).proper true one.proper refl }
inside-push place brackets (y ∷ ys) x before one =
    let two = and_parts (form place y).proper (inside (map (form place) ys)).proper before.proper in
    let rest : FormFits brackets (inside (map (form place) ys)) = record { deep = omega (arith, before.deep); nested = omega (arith, before.nested); proper = two.1 } in
    let all = inside-push place brackets ys x rest one in
    record {
      deep = omega (arith, before.deep, all.deep);
      nested = omega (arith, before.nested, all.nested);
      proper = and_from (form place y).proper (inside (map (form place) (ys ++ x ∷ []))).proper two.0 all.proper;
    }

expr_read : (place : Place) (brackets : ℕ) (d : Deep) (ts : List Token) → IsRead place brackets max_depth 0 d ts → IsExpr place brackets d.expr ts
expr_read place brackets d ts r = record {
  spelled = r.spelled;
  fits = record { deep = omega (arith, r.fits.deep, r.fits.within); nested = r.fits.nested; proper = r.fits.proper };
}

lawful_whole : (place : Place) (brackets : ℕ) → Lawful (IsExpr place brackets) (expression place brackets)
unfolding expression
lawful_whole place brackets = lawful_last (λ d. d.expr) (lawful_expression place brackets max_depth levels.Comparison (omega arith)) (λ d f r. expr_read place brackets d f r)

module _ (place : Place) (brackets : ℕ) where
  lawful_ended : Lawful (IsEnded place brackets) (ended place brackets)
  unfolding ended
  lawful_ended = lawful_bind (lawful_whole place brackets) (λ x f1 s1. lawful_last (λ l. x) (lawful_word (codes ";")) (λ l f2 s2.
      record { spelled = join f1 f2 (expr_words x) (Fixed (codes ";") ∷ []) s1.spelled (plain f2 (codes ";") l s2); fits = s1.fits }))

  lawful_condition : Lawful (IsCondition place brackets) (condition place brackets)
  unfolding condition
  lawful_condition = lawful_bind (lawful_word (codes "(")) (λ l f1 s1. lawful_bind (lawful_whole place (brackets - 1)) (λ x f2 s2. lawful_last (λ c. x) (lawful_word (codes ")")) (λ c f3 s3.
      record {
        spelled = join f1 (f2 ++ f3) (Fixed (codes "(") ∷ []) (expr_words x ++ Fixed (codes ")") ∷ []) (plain f1 (codes "(") l s1)
            (join f2 f3 (expr_words x) (Fixed (codes ")") ∷ []) s2.spelled (plain f3 (codes ")") c s3));
        fits = s2.fits;
      })))

  -- a statement that has a value
  value_fits : (x : Expr) (b : Bool) → ExprFits place brackets x → b ≡ true → FormFits brackets (with_value place x b)
  value_fits x b fits ok = record { deep = fits.deep; nested = fits.nested; proper = and_from (shape place x).proper b fits.proper ok }

  made : (x : Stmt) (ws : List Word) (f : Form) (ts : List Token) → stmt_words x ≡ ws → form place x ≡ f → AreWords ts ws → FormFits brackets f → IsStmt place brackets x ts
  made x ws f ts words formed spelled fits = record {
    spelled = subst (λ (w : List Word). AreWords ts w) (sym words) spelled;
    fits = subst (λ (g : Form). FormFits brackets g) (sym formed) fits;
  }

  lawful_variable : Lawful (IsStmt place brackets) (variable place brackets)
  unfolding variable
  lawful_variable =
      lawful_bind (lawful_word (codes "var")) (λ l f1 s1. lawful_bind lawful_type (λ t f2 s2. lawful_bind lawful_name (λ n f3 s3. lawful_bind (lawful_word (codes "=")) (λ q f4 s4.
      lawful_last (λ x. s.Var t n q x) lawful_ended (λ x f5 s5.
      made (s.Var t n q x) _ _ (f1 ++ (f2 ++ (f3 ++ (f4 ++ f5)))) (eq.words-Var t n q x) (eq.form-Var place t n q x)
      (join f1 (f2 ++ (f3 ++ (f4 ++ f5))) (Fixed (codes "var") ∷ []) (spelling.type_word t ∷ name_word n ∷ FixedAt (codes "=") q ∷ spelling.ended x) (plain f1 (codes "var") l s1)
      (join f2 (f3 ++ (f4 ++ f5)) (spelling.type_word t ∷ []) (name_word n ∷ FixedAt (codes "=") q ∷ spelling.ended x) s2
      (join f3 (f4 ++ f5) (name_word n ∷ []) (FixedAt (codes "=") q ∷ spelling.ended x) s3
      (join f4 f5 (FixedAt (codes "=") q ∷ []) (spelling.ended x) s4 s5.spelled))))
      (value_fits x true s5.fits refl))))))

  lawful_returned : in_method place ≡ true → Lawful (IsStmt place brackets) (returned place brackets)
  unfolding returned
  lawful_returned here =
      lawful_bind (lawful_word (codes "return")) (λ l f1 s1. lawful_last (λ x. s.Return x) lawful_ended (λ x f2 s2.
      made (s.Return x) _ _ (f1 ++ f2) (eq.words-Return x) (eq.form-Return place x)
      (join f1 f2 (Fixed (codes "return") ∷ []) (spelling.ended x) (plain f1 (codes "return") l s1) s2.spelled) (value_fits x (in_method place) s2.fits here)))

  lawful_printed : in_item place ≡ true → Lawful (IsStmt place brackets) (printed place brackets)
  unfolding printed
  lawful_printed here =
      lawful_bind (lawful_word (codes "print")) (λ l f1 s1. lawful_last (λ x. s.Print x) lawful_ended (λ x f2 s2.
      made (s.Print x) _ _ (f1 ++ f2) (eq.words-Print x) (eq.form-Print place x)
      (join f1 f2 (Fixed (codes "print") ∷ []) (spelling.ended x) (plain f1 (codes "print") l s1) s2.spelled) (value_fits x (in_item place) s2.fits here)))

  lawful_evaluated : (x : Expr) (front : List Token) → IsExpr place brackets x front → Lawful (behind front (IsStmt place brackets)) (evaluated x)
  unfolding evaluated
  lawful_evaluated x front r = lawful_last (λ l. s.Evaluate x) (lawful_word (codes ";")) (λ l f s1.
      made (s.Evaluate x) _ _ (front ++ f) (eq.words-Evaluate x) (eq.form-Evaluate place x)
      (join front f (expr_words x) (Fixed (codes ";") ∷ []) r.spelled (plain f (codes ";") l s1)) (value_fits x true r.fits refl))

  lawful_assigned_name : (n : Name) (front : List Token) → IsExpr place brackets (e.Variable n) front → Lawful (behind front (IsStmt place brackets)) (assigned_name place brackets n)
  unfolding assigned_name
  lawful_assigned_name n front r =
      lawful_if (is (codes "="))
      (λ t p. lawful_bind (lawful_word (codes "=")) (λ q f1 s1. lawful_last (λ x. s.Assign n q x) lawful_ended (λ x f2 s2.
      made (s.Assign n q x) _ _ (front ++ (f1 ++ f2)) (eq.words-Assign n q x) (eq.form-Assign place n q x)
      (join front (f1 ++ f2) (name_word n ∷ []) (FixedAt (codes "=") q ∷ spelling.ended x) (subst (λ (w : List Word). AreWords front w) (eq.words-Variable n) r.spelled)
      (join f1 f2 (FixedAt (codes "=") q ∷ []) (spelling.ended x) s1 s2.spelled)) (value_fits x true s2.fits refl))))
      (lawful_evaluated (e.Variable n) front r)

  field_here : (n : Name) → ExprFits place brackets (e.Field n) → in_method place ≡ true
  field_here n fits = ap (λ (s : _). s.proper) (sym (eq.shape-Field place n)) ∙ fits.proper

  lawful_assigned_field : (n : Name) (front : List Token) → IsExpr place brackets (e.Field n) front → Lawful (behind front (IsStmt place brackets)) (assigned_field place brackets n)
  unfolding assigned_field
  lawful_assigned_field n front r =
      lawful_if (is (codes "="))
      (λ t p. lawful_bind (lawful_word (codes "=")) (λ q f1 s1. lawful_last (λ x. s.FieldAssign n q x) lawful_ended (λ x f2 s2.
      made (s.FieldAssign n q x) _ _ (front ++ (f1 ++ f2)) (eq.words-FieldAssign n q x) (eq.form-FieldAssign place n q x)
      (join front (f1 ++ f2) (Fixed (codes "this") ∷ Fixed (codes ".") ∷ name_word n ∷ []) (FixedAt (codes "=") q ∷ spelling.ended x) (subst (λ (w : List Word). AreWords front w) (eq.words-Field n) r.spelled)
      (join f1 f2 (FixedAt (codes "=") q ∷ []) (spelling.ended x) s1 s2.spelled)) (value_fits x (in_method place) s2.fits (field_here n r.fits)))))
      (lawful_evaluated (e.Field n) front r)

  by_form : (x : Expr) (front : List Token) → IsExpr place brackets x front → (o : Expr-F Expr) → roll-Expr o ≡ x → Lawful (behind front (IsStmt place brackets)) (after_expression_by place brackets x o)
  by_form x front r (Expr-F.Variable n) is = lawful_assigned_name n front (subst (λ (y : Expr). IsExpr place brackets y front) (sym is ∙ e.rolls-Variable n) r)
  by_form x front r (Expr-F.Field n) is = lawful_assigned_field n front (subst (λ (y : Expr). IsExpr place brackets y front) (sym is ∙ e.rolls-Field n) r)
  by_form x front r (Expr-F.Literal v l) is = lawful_evaluated x front r
  by_form x front r (Expr-F.Null l) is = lawful_evaluated x front r
  by_form x front r (Expr-F.This l) is = lawful_evaluated x front r
  by_form x front r (Expr-F.New n a) is = lawful_evaluated x front r
  by_form x front r (Expr-F.Parens y l) is = lawful_evaluated x front r
  by_form x front r (Expr-F.Negate y l) is = lawful_evaluated x front r
  by_form x front r (Expr-F.Binary o y z l) is = lawful_evaluated x front r
  by_form x front r (Expr-F.Call y n xs) is = lawful_evaluated x front r

  lawful_simple : Lawful (IsStmt place brackets) (simple place brackets)
  unfolding simple after_expression
  lawful_simple = lawful_bind (lawful_whole place brackets) (λ x f r. by_form x f r (out-Expr x) (roll-out-Expr x))

  -- ---- statements with blocks

  module _ (block : Reader (List Stmt)) (block_law : 0 < brackets → Lawful (IsBraces place brackets) block) where
    if_fits : (x : Expr) (b : Form) → 0 < brackets → ExprFits place (brackets - 1) x → FormFits brackets b → FormFits brackets (with_condition place x b)
    if_fits x b some fits block_fits = record {
      deep = omega (arith, fits.deep, block_fits.deep);
      nested = omega (arith, fits.nested, block_fits.nested);
      proper = and_from (shape place x).proper b.proper fits.proper block_fits.proper;
    }

    both_fit : (a b : Form) → FormFits brackets a → FormFits brackets b → FormFits brackets (both a b)
    both_fit a b p q = record { deep = omega (arith, p.deep, q.deep); nested = omega (arith, p.nested, q.nested); proper = and_from a.proper b.proper p.proper q.proper }

    lawful_after_branch : 0 < brackets → (x : Expr) (b : List Stmt) (f1 f2 f3 : List Token) → AreWords f1 (Fixed (codes "if") ∷ []) → IsCondition place brackets x f2 → IsBraces place brackets b f3
        → Lawful (behind f3 (behind f2 (behind f1 (IsStmt place brackets)))) (after_branch block x b)
    unfolding after_branch
    lawful_after_branch some x b f1 f2 f3 s1 s2 s3 =
        lawful_if (is (codes "else"))
        (λ t p. lawful_bind (lawful_word (codes "else")) (λ l f4 s4. lawful_last (λ c. s.IfElse x b c) (block_law some) (λ c f5 s5.
        made (s.IfElse x b c) _ _ (f1 ++ (f2 ++ (f3 ++ (f4 ++ f5)))) (eq.words-IfElse x b c) (eq.form-IfElse place x b c)
        (join f1 (f2 ++ (f3 ++ (f4 ++ f5))) (Fixed (codes "if") ∷ []) (condition_words x ++ (brace_words (map stmt_words b) ++ Fixed (codes "else") ∷ brace_words (map stmt_words c))) s1
        (join f2 (f3 ++ (f4 ++ f5)) (condition_words x) (brace_words (map stmt_words b) ++ Fixed (codes "else") ∷ brace_words (map stmt_words c)) s2.spelled
        (join f3 (f4 ++ f5) (brace_words (map stmt_words b)) (Fixed (codes "else") ∷ brace_words (map stmt_words c)) s3.spelled
        (join f4 f5 (Fixed (codes "else") ∷ []) (brace_words (map stmt_words c)) (plain f4 (codes "else") l s4) s5.spelled))))
        (if_fits x (both (in_braces (map (form place) b)) (in_braces (map (form place) c))) some s2.fits (both_fit (in_braces (map (form place) b)) (in_braces (map (form place) c)) s3.fits s5.fits)))))
        (lawful_give (s.If x b)
        (made (s.If x b) _ _ (f1 ++ (f2 ++ (f3 ++ []))) (eq.words-If x b) (eq.form-If place x b)
        (join f1 (f2 ++ (f3 ++ [])) (Fixed (codes "if") ∷ []) (condition_words x ++ brace_words (map stmt_words b)) s1
        (join f2 (f3 ++ []) (condition_words x) (brace_words (map stmt_words b)) s2.spelled
        (subst (λ (u : List Token). AreWords u (brace_words (map stmt_words b))) (sym (append-nil f3)) s3.spelled)))
        (if_fits x (in_braces (map (form place) b)) some s2.fits s3.fits)))

    lawful_branch : 0 < brackets → Lawful (IsStmt place brackets) (branch place brackets block)
    unfolding branch
    lawful_branch some =
        lawful_bind (lawful_word (codes "if")) (λ l f1 s1. lawful_bind lawful_condition (λ x f2 s2. lawful_bind (block_law some) (λ b f3 s3.
        lawful_after_branch some x b f1 f2 f3 (plain f1 (codes "if") l s1) s2 s3)))

    lawful_while : 0 < brackets → Lawful (IsStmt place brackets) (while_loop place brackets block)
    unfolding while_loop
    lawful_while some =
        lawful_bind (lawful_word (codes "while")) (λ l f1 s1. lawful_bind lawful_condition (λ x f2 s2. lawful_last (λ b. s.While x b) (block_law some) (λ b f3 s3.
        made (s.While x b) _ _ (f1 ++ (f2 ++ f3)) (eq.words-While x b) (eq.form-While place x b)
        (join f1 (f2 ++ f3) (Fixed (codes "while") ∷ []) (condition_words x ++ brace_words (map stmt_words b)) (plain f1 (codes "while") l s1)
        (join f2 f3 (condition_words x) (brace_words (map stmt_words b)) s2.spelled s3.spelled))
        (if_fits x (in_braces (map (form place) b)) some s2.fits s3.fits))))

    abbrev Allows : StmtStart → Type 0
    Allows starts.Var = Unit {0}
    Allows starts.Return = in_method place ≡ true
    Allows starts.If = 0 < brackets
    Allows starts.While = 0 < brackets
    Allows starts.Print = in_item place ≡ true
    Allows starts.Other = Unit {0}

    fixed_allows : (text : List ℕ) → Allows (fixed_start place brackets text)
    fixed_allows text =
        picked Allows (bytes_eq text (codes "var")) starts.Var _ (λ p. tt)
        (picked Allows (bytes_eq text (codes "return") && in_method place) starts.Return _ (λ p. (and_parts (bytes_eq text (codes "return")) (in_method place) p).1)
        (picked Allows (bytes_eq text (codes "if") && nat_lt 0 brackets) starts.If _ (λ p. ltb-true 0 brackets (and_parts (bytes_eq text (codes "if")) (nat_lt 0 brackets) p).1)
        (picked Allows (bytes_eq text (codes "while") && nat_lt 0 brackets) starts.While _ (λ p. ltb-true 0 brackets (and_parts (bytes_eq text (codes "while")) (nat_lt 0 brackets) p).1)
        (picked Allows (bytes_eq text (codes "print") && in_item place) starts.Print starts.Other (λ p. (and_parts (bytes_eq text (codes "print")) (in_item place) p).1) tt))))

    kind_allows : (k : TokenKind) (text : List ℕ) → Allows (start_by place brackets k text)
    kind_allows kinds.Name text = tt
    kind_allows kinds.Number text = tt
    kind_allows kinds.Quoted text = tt
    kind_allows kinds.Keyword text = fixed_allows text
    kind_allows kinds.Symbol text = fixed_allows text

    start_allows : (ts : List Token) → Allows (start place brackets ts)
    unfolding start
    start_allows [] = tt
    start_allows (t ∷ ts) = kind_allows t.kind t.text

    by_start : (s : StmtStart) → Allows s → Lawful (IsStmt place brackets) (statement_by place brackets block s)
    unfolding statement_by
    by_start starts.Var a = lawful_variable
    by_start starts.Return a = lawful_returned a
    by_start starts.If a = lawful_branch a
    by_start starts.While a = lawful_while a
    by_start starts.Print a = lawful_printed a
    by_start starts.Other a = lawful_simple

    lawful_statement : Lawful (IsStmt place brackets) (statement place brackets block)
    unfolding statement
    lawful_statement = record {
      reads = λ ts. (by_start (start place brackets ts) (start_allows ts)).reads ts;
      some = lawful_variable.some;
    }

    lawful_more : (b : List Stmt) (front : List Token) → IsInside place brackets b front → Lawful (behind front (IsInside place brackets)) (more_statements place brackets block b)
    unfolding more_statements
    lawful_more b front before = lawful_last (λ x. b ++ x ∷ []) lawful_statement (λ x f r. record {
      spelled = subst (λ (w : List Word). AreWords (front ++ f) w) (sym (turn-push b x)) (join front f (in_turn (map stmt_words b)) (stmt_words x) before.spelled r.spelled);
      fits = inside-push place brackets b x before.fits r.fits;
    })

    lawful_statements : Lawful (IsInside place brackets) (statements place brackets block)
    unfolding statements
    lawful_statements = lawful_repeat_all (IsInside place brackets) goes_on (more_statements place brackets block) (λ b f s t p. lawful_more b f s) [] [] (record { spelled = tt; fits = record { deep = omega arith; nested = omega arith; proper = refl } })

    pub lawful_braces : Lawful (IsBraces place (brackets + 1)) (braces place brackets block)
    unfolding braces
    lawful_braces =
        lawful_bind (lawful_word (codes "{")) (λ l f1 s1. lawful_bind lawful_statements (λ b f2 s2. lawful_last (λ c. b) (lawful_word (codes "}")) (λ c f3 s3. record {
          spelled = join f1 (f2 ++ f3) (Fixed (codes "{") ∷ []) (in_turn (map stmt_words b) ++ Fixed (codes "}") ∷ []) (plain f1 (codes "{") l s1)
              (join f2 f3 (in_turn (map stmt_words b)) (Fixed (codes "}") ∷ []) s2.spelled (plain f3 (codes "}") c s3));
          fits = record { deep = s2.fits.deep; nested = omega (arith, s2.fits.nested); proper = s2.fits.proper };
        })))

-- a block, with room for brackets
pub lawful_block : (place : Place) (brackets : ℕ) → 0 < brackets → Lawful (IsBraces place brackets) (block_in place brackets)
unfolding block_in
lawful_block place zero lt = absurd (omega arith)
lawful_block place (suc brackets) lt =
    let e : brackets + 1 ≡ suc brackets = omega arith in
    subst (λ (n : ℕ). Lawful (IsBraces place n) (braces place brackets (block_in place brackets))) e
    (lawful_braces place brackets (block_in place brackets) (λ some. lawful_block place brackets some))
