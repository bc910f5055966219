-- How statements and blocks are read.
use Rattle.std.specs.Prelude.{Bool, ◌-◌, ℕ, zero, suc, not, ◌&&◌, nat_lt, List, [], ◌∷◌, ◌++◌, if◌then◌else◌, codes}
use Rattle.std.specs.Str.{bytes_eq}
use Rattle.class_defs.specs.declared.expressions.Name.{Name}
use Rattle.class_defs.specs.declared.expressions.Expr.{Expr, out-Expr}
use Rattle.class_defs.specs.declared.expressions.Expr.TheVariants as e
use Rattle.class_defs.specs.declared.expressions.Expr.TheOpen.{Expr-F}
use Rattle.class_defs.specs.declared.statements.Stmt.{Stmt}
use Rattle.class_defs.specs.declared.statements.Stmt.TheVariants as s
use Rattle.class_defs.specs.declared.places.Place.{Place}
use Rattle.class_defs.specs.Shape.{in_method, in_item}
use Rattle.class_defs.specs.Grammar.{max_depth}
use Rattle.script_text.specs.declared.token.Token.{Token}
use Rattle.script_text.specs.declared.token.TokenKind.{TokenKind}
use Rattle.script_text.specs.declared.token.TokenKind.TheVariants as kinds
use Rattle.method_parse.specs.declared.deep.Level.TheVariants as levels
use Rattle.method_parse.specs.declared.deep.StmtStart.{StmtStart}
use Rattle.method_parse.specs.declared.deep.StmtStart.TheVariants as starts
use Rattle.method_parse.specs.Matching.{is}
use Rattle.method_parse.specs.Reader.{Reader, ◌>>=◌, give, stuck, word, name, type_word, if_next, repeat_all}
use Rattle.method_parse.specs.Expressions.{expression_in}

-- a whole expression, with room for brackets
unfoldable pub expression : Place → ℕ → Reader Expr
expression place brackets = do
  read ← expression_in place brackets max_depth levels.Comparison
  give read.expr

-- an expression and the `;` behind it
unfoldable pub ended : Place → ℕ → Reader Expr
ended place brackets = do
  value ← expression place brackets
  end ← word (codes ";")
  give value

-- a condition in its parentheses
unfoldable pub condition : Place → ℕ → Reader Expr
condition place brackets = do
  open_line ← word (codes "(")
  value ← expression place (brackets - 1)
  close_line ← word (codes ")")
  give value

unfoldable pub variable : Place → ℕ → Reader Stmt
variable place brackets = do
  line ← word (codes "var")
  type ← type_word
  called ← name
  equals ← word (codes "=")
  value ← ended place brackets
  give (s.Var type called equals value)

unfoldable pub returned : Place → ℕ → Reader Stmt
returned place brackets = do
  line ← word (codes "return")
  value ← ended place brackets
  give (s.Return value)

unfoldable pub printed : Place → ℕ → Reader Stmt
printed place brackets = do
  line ← word (codes "print")
  value ← ended place brackets
  give (s.Print value)

-- what stands behind an expression that begins a statement: where it is a name or a field of `this`,
-- a value may be assigned to it
unfoldable pub evaluated : Expr → Reader Stmt
evaluated value = do
  end ← word (codes ";")
  give (s.Evaluate value)

unfoldable pub assigned_name : Place → ℕ → Name → Reader Stmt
assigned_name place brackets target = if_next (is (codes "="))
    (do
      line ← word (codes "=")
      value ← ended place brackets
      give (s.Assign target line value))
    (evaluated (e.Variable target))

unfoldable pub assigned_field : Place → ℕ → Name → Reader Stmt
assigned_field place brackets target = if_next (is (codes "="))
    (do
      line ← word (codes "=")
      value ← ended place brackets
      give (s.FieldAssign target line value))
    (evaluated (e.Field target))

abbrev pub after_expression_by : Place → ℕ → Expr → Expr-F Expr → Reader Stmt
after_expression_by place brackets value (Expr-F.Variable target) = assigned_name place brackets target
after_expression_by place brackets value (Expr-F.Field target) = assigned_field place brackets target
after_expression_by place brackets value _ = evaluated value

unfoldable pub after_expression : Place → ℕ → Expr → Reader Stmt
after_expression place brackets value = after_expression_by place brackets value (out-Expr value)

unfoldable pub simple : Place → ℕ → Reader Stmt
simple place brackets = expression place brackets >>= after_expression place brackets

-- what stands behind the block of an `if`
unfoldable pub after_branch : Reader (List Stmt) → Expr → List Stmt → Reader Stmt
after_branch block test chosen = if_next (is (codes "else"))
    (do
      else_line ← word (codes "else")
      otherwise ← block
      give (s.IfElse test chosen otherwise))
    (give (s.If test chosen))

unfoldable pub branch : Place → ℕ → Reader (List Stmt) → Reader Stmt
branch place brackets block = do
  line ← word (codes "if")
  test ← condition place brackets
  chosen ← block
  after_branch block test chosen

unfoldable pub while_loop : Place → ℕ → Reader (List Stmt) → Reader Stmt
while_loop place brackets block = do
  line ← word (codes "while")
  test ← condition place brackets
  body ← block
  give (s.While test body)

-- how a statement begins
abbrev pub fixed_start : Place → ℕ → List ℕ → StmtStart
fixed_start place brackets text =
    if bytes_eq text (codes "var") then starts.Var
    else (if bytes_eq text (codes "return") && in_method place then starts.Return
    else (if bytes_eq text (codes "if") && nat_lt 0 brackets then starts.If
    else (if bytes_eq text (codes "while") && nat_lt 0 brackets then starts.While
    else (if bytes_eq text (codes "print") && in_item place then starts.Print
    else starts.Other))))

abbrev pub start_by : Place → ℕ → TokenKind → List ℕ → StmtStart
start_by place brackets kinds.Name text = starts.Other
start_by place brackets kinds.Number text = starts.Other
start_by place brackets kinds.Quoted text = starts.Other
start_by place brackets kinds.Keyword text = fixed_start place brackets text
start_by place brackets kinds.Symbol text = fixed_start place brackets text

unfoldable pub start : Place → ℕ → List Token → StmtStart
start place brackets [] = starts.Other
start place brackets (token ∷ tokens) = start_by place brackets token.kind token.text

unfoldable pub statement_by : Place → ℕ → Reader (List Stmt) → StmtStart → Reader Stmt
statement_by place brackets block starts.Var = variable place brackets
statement_by place brackets block starts.Return = returned place brackets
statement_by place brackets block starts.If = branch place brackets block
statement_by place brackets block starts.While = while_loop place brackets block
statement_by place brackets block starts.Print = printed place brackets
statement_by place brackets block starts.Other = simple place brackets

unfoldable pub statement : Place → ℕ → Reader (List Stmt) → Reader Stmt
statement place brackets block = λ tokens. statement_by place brackets block (start place brackets tokens) tokens

abbrev pub is_not_end : Token → Bool
is_not_end token = not (is (codes "}") token)

abbrev pub goes_on : List Stmt → Token → Bool
goes_on stmts = is_not_end

-- one more statement
unfoldable pub more_statements : Place → ℕ → Reader (List Stmt) → List Stmt → Reader (List Stmt)
more_statements place brackets block stmts = do
  stmt ← statement place brackets block
  give (stmts ++ stmt ∷ [])

-- statements up to the `}`
unfoldable pub statements : Place → ℕ → Reader (List Stmt) → Reader (List Stmt)
statements place brackets block = repeat_all goes_on (more_statements place brackets block) []

unfoldable pub braces : Place → ℕ → Reader (List Stmt) → Reader (List Stmt)
braces place brackets block = do
  open_line ← word (codes "{")
  stmts ← statements place brackets block
  close_line ← word (codes "}")
  give stmts

-- statements between braces, with room for brackets, the braces among them
unfoldable pub block_in : Place → ℕ → Reader (List Stmt)
block_in place zero = stuck
block_in place (suc brackets) = braces place brackets (block_in place brackets)
