-- No reader of the grammar looks further than the next token.
use Rattle.std.proofs.Common.{◌≡◌, ℕ, zero, suc, ◌-◌, List, [], ◌∷◌, ◌++◌, refl}
use Rattle.std.specs.Prelude.{codes}
use Rattle.script_text.specs.declared.token.Token.{Token}
use Rattle.class_defs.specs.declared.expressions.Name.{Name}
use Rattle.class_defs.specs.declared.expressions.Expr.{Expr, out-Expr}
use Rattle.class_defs.specs.declared.expressions.Expr.TheOpen.{Expr-F}
use Rattle.class_defs.specs.declared.statements.Stmt.{Stmt}
use Rattle.class_defs.specs.declared.places.Place.{Place}
use Rattle.class_defs.specs.declared.places.Place.TheVariants as places
use Rattle.class_defs.specs.Grammar.{max_depth, max_nesting}
use Rattle.method_parse.specs.declared.deep.Deep.{Deep}
use Rattle.method_parse.specs.declared.deep.Arguments.{Arguments}
use Rattle.method_parse.specs.declared.deep.Level.{Level}
use Rattle.method_parse.specs.declared.deep.Level.TheVariants as levels
use Rattle.method_parse.specs.declared.deep.Room.{Room}
use Rattle.method_parse.specs.declared.deep.Start.{Start}
use Rattle.method_parse.specs.declared.deep.Start.TheVariants as starts
use Rattle.method_parse.specs.declared.deep.StmtStart.{StmtStart}
use Rattle.method_parse.specs.declared.deep.StmtStart.TheVariants as stmts
use Rattle.method_parse.specs.Reader.{Reader, word}
use Rattle.method_parse.specs.Expressions.{at, argument, is_comma, more_arguments, some_arguments, listed, arguments, after_field, after_this, created, parens, start, primary_by, primary, called, is_call, calls, postfix, Parts, unary, operator, joined, is_join, most_joins, joins, tighter, at_level, expression_in}
use Rattle.method_parse.specs.Statements as st
use Rattle.method_parse.specs.Statements.{expression, ended, condition, variable, returned, printed, evaluated, assigned_name, assigned_field, after_expression_by, after_expression, simple, after_branch, branch, while_loop, statement_by, statement, goes_on, more_statements, statements, braces, block_in}
use Rattle.method_parse.specs.Setups as setups
use Rattle.method_parse.specs.Setups.{field, more_fields, parameter, more_parameters, other_parameters, some_parameters, parameters, method, more_methods, kind, fields, methods, class, more_classes, root, more_roots, classes, roots, setup}
use Rattle.method_parse.proofs.Local.{Local, local_bind, local_give, local_stuck, local_one, local_if, local_by, local_repeat, local_repeat_all, Strict, strict_bind, strict_behind, strict_word, strict_if, strict_by, local_word, local_name, local_number, local_quoted, local_type}

local_at : Local at
unfolding at
local_at = local_if _ (local_bind (local_word _) (λ l. local_bind local_number (λ n. local_give _))) (local_give _)

-- ---- expressions

module _ (place : Place) (room : Room) (inner : Reader Deep) (parts : Parts) (inner_local : Local inner) (parts_local : (l : Level) → Local (parts l)) where
  local_argument : (a : Arguments) → Local (argument inner a)
  unfolding argument
  local_argument a = local_bind (local_word _) (λ c. local_bind inner_local (λ m. local_give _))

  strict_argument : (a : Arguments) → Strict (argument inner a)
  unfolding argument
  strict_argument a = strict_bind (word (codes ",")) _ (strict_word _) (λ c. local_bind inner_local (λ m. local_give _))

  local_some : Local (some_arguments inner)
  unfolding some_arguments more_arguments
  local_some = local_bind inner_local (λ f. local_repeat_all is_comma (argument inner) strict_argument local_argument _)

  local_listed : Local (listed inner)
  unfolding listed
  local_listed = local_if _ (local_give _) local_some

  local_arguments : Local (arguments inner)
  unfolding arguments
  local_arguments = local_bind (local_word _) (λ o. local_bind local_listed (λ r. local_bind (local_word _) (λ c. local_give _)))

  local_after_field : (l : ℕ) (n : Name) → Local (after_field room inner l n)
  unfolding after_field
  local_after_field l n = local_if _ (local_bind local_arguments (λ r. local_give _)) (local_give _)

  local_after_this : (l : ℕ) → Local (after_this room inner l)
  unfolding after_this
  local_after_this l = local_if _ (local_bind (local_word _) (λ d. local_bind local_name (λ n. local_after_field l n))) (local_give _)

  local_created : Local created
  unfolding created
  local_created = local_bind (local_word _) (λ l. local_bind local_name (λ n. local_bind (local_word _) (λ o. local_bind (local_word _) (λ c. local_bind local_at (λ a. local_give _)))))

  local_parens : Local (parens inner)
  unfolding parens
  local_parens = local_bind (local_word _) (λ l. local_bind inner_local (λ r. local_bind (local_word _) (λ c. local_give _)))

  by_start : (s : Start) → Local (primary_by room inner s)
  unfolding primary_by
  by_start starts.Number = local_bind local_number (λ n. local_give _)
  by_start starts.Quoted = local_bind local_quoted (λ t. local_give _)
  by_start starts.Name = local_bind local_name (λ n. local_give _)
  by_start starts.Null = local_bind (local_word _) (λ l. local_give _)
  by_start starts.This = local_bind (local_word _) (λ l. local_after_this l)
  by_start starts.New = local_created
  by_start starts.Parens = local_parens
  by_start starts.Other = local_stuck

  start_same : (mid : List Token) (t : Token) (post other : List Token) → start place room (mid ++ t ∷ post) ≡ start place room (mid ++ t ∷ other)
  unfolding start
  start_same [] t post other = refl
  start_same (m ∷ mid) t post other = refl

  local_primary : Local (primary place room inner)
  unfolding primary
  local_primary = local_by (start place room) (primary_by room inner) start_same by_start

  local_called : (d : Deep) → Local (called inner d)
  unfolding called
  local_called d = local_bind (local_word _) (λ l. local_bind local_name (λ m. local_bind local_arguments (λ r. local_give _)))

  local_postfix : Local (postfix place room inner)
  unfolding postfix calls
  local_postfix = local_bind local_primary (λ d. local_repeat (is_call room) (called inner) local_called room.depth d)

  local_unary : Local (unary place room inner parts)
  unfolding unary
  local_unary = local_if _ (local_bind (local_word _) (λ l. local_bind (parts_local levels.Unary) (λ o. local_give _))) local_postfix

  local_operator : (l : Level) → Local (operator l)
  unfolding operator
  local_operator l = local_one _

  local_joined : (l : Level) (d : Deep) → Local (joined l parts d)
  unfolding joined
  local_joined l d = local_bind (local_operator l) (λ o. local_bind (parts_local (tighter l)) (λ r. local_give _))

  local_joins : (l : Level) (d : Deep) → Local (joins l room parts d)
  unfolding joins
  local_joins l d = local_repeat (is_join l room) (joined l parts) (local_joined l) (most_joins l room) d

  local_level : (l : Level) → Local (at_level place room inner parts l)
  unfolding at_level
  local_level levels.Unary = local_unary
  local_level levels.Term = local_bind local_unary (local_joins levels.Term)
  local_level levels.Sum = local_bind (local_bind local_unary (local_joins levels.Term)) (local_joins levels.Sum)
  local_level levels.Comparison = local_bind (local_bind (local_bind local_unary (local_joins levels.Term)) (local_joins levels.Sum)) (local_joins levels.Comparison)

local_expression_in : (place : Place) (brackets depth : ℕ) (l : Level) → Local (expression_in place brackets depth l)
unfolding expression_in
local_expression_in place brackets zero l = local_stuck
local_expression_in place brackets (suc depth) l =
    local_level place (record { brackets = brackets; depth = suc depth }) (expression_in place (brackets - 1) depth levels.Comparison) (expression_in place brackets depth)
    (local_expression_in place (brackets - 1) depth levels.Comparison) (local_expression_in place brackets depth) l

-- ---- statements

module _ (place : Place) (brackets : ℕ) where
  local_expression : Local (expression place brackets)
  unfolding expression
  local_expression = local_bind (local_expression_in place brackets max_depth levels.Comparison) (λ d. local_give _)

  local_ended : Local (ended place brackets)
  unfolding ended
  local_ended = local_bind local_expression (λ x. local_bind (local_word _) (λ e. local_give _))

  local_variable : Local (variable place brackets)
  unfolding variable
  local_variable = local_bind (local_word _) (λ l. local_bind local_type (λ t. local_bind local_name (λ n. local_bind (local_word _) (λ q. local_bind local_ended (λ x. local_give _)))))

  strict_variable : Strict (variable place brackets)
  unfolding variable
  strict_variable = strict_bind (word (codes "var")) _ (strict_word _) (λ l. local_bind local_type (λ t. local_bind local_name (λ n. local_bind (local_word _) (λ q. local_bind local_ended (λ x. local_give _)))))

  local_returned : Local (returned place brackets)
  unfolding returned
  local_returned = local_bind (local_word _) (λ l. local_bind local_ended (λ x. local_give _))

  strict_returned : Strict (returned place brackets)
  unfolding returned
  strict_returned = strict_bind (word (codes "return")) _ (strict_word _) (λ l. local_bind local_ended (λ x. local_give _))

  local_printed : Local (printed place brackets)
  unfolding printed
  local_printed = local_bind (local_word _) (λ l. local_bind local_ended (λ x. local_give _))

  strict_printed : Strict (printed place brackets)
  unfolding printed
  strict_printed = strict_bind (word (codes "print")) _ (strict_word _) (λ l. local_bind local_ended (λ x. local_give _))

  local_evaluated : (x : Expr) → Local (evaluated x)
  unfolding evaluated
  local_evaluated x = local_bind (local_word _) (λ e. local_give _)

  strict_evaluated : (x : Expr) → Strict (evaluated x)
  unfolding evaluated
  strict_evaluated x = strict_bind (word (codes ";")) _ (strict_word _) (λ e. local_give _)

  local_name_assigned : (n : Name) → Local (assigned_name place brackets n)
  unfolding assigned_name
  local_name_assigned n = local_if _ (local_bind (local_word _) (λ l. local_bind local_ended (λ x. local_give _))) (local_evaluated _)

  strict_name_assigned : (n : Name) → Strict (assigned_name place brackets n)
  unfolding assigned_name
  strict_name_assigned n = strict_if _ _ _ (strict_bind (word (codes "=")) _ (strict_word _) (λ l. local_bind local_ended (λ x. local_give _))) (strict_evaluated _)

  local_field_assigned : (n : Name) → Local (assigned_field place brackets n)
  unfolding assigned_field
  local_field_assigned n = local_if _ (local_bind (local_word _) (λ l. local_bind local_ended (λ x. local_give _))) (local_evaluated _)

  strict_field_assigned : (n : Name) → Strict (assigned_field place brackets n)
  unfolding assigned_field
  strict_field_assigned n = strict_if _ _ _ (strict_bind (word (codes "=")) _ (strict_word _) (λ l. local_bind local_ended (λ x. local_give _))) (strict_evaluated _)

  local_after : (x : Expr) (o : Expr-F Expr) → Local (after_expression_by place brackets x o)
  local_after x (Expr-F.Variable n) = local_name_assigned n
  local_after x (Expr-F.Field n) = local_field_assigned n
  local_after x o = local_evaluated x

  strict_after : (x : Expr) (o : Expr-F Expr) → Strict (after_expression_by place brackets x o)
  strict_after x (Expr-F.Variable n) = strict_name_assigned n
  strict_after x (Expr-F.Field n) = strict_field_assigned n
  strict_after x o = strict_evaluated x

  local_simple : Local (simple place brackets)
  unfolding simple after_expression
  local_simple = local_bind local_expression (λ x. local_after x (out-Expr x))

  strict_simple : Strict (simple place brackets)
  unfolding simple after_expression
  strict_simple = strict_behind (expression place brackets) _ local_expression (λ x. strict_after x (out-Expr x))

  local_condition : Local (condition place brackets)
  unfolding condition expression
  local_condition = local_bind (local_word _) (λ o. local_bind (local_condition_value) (λ x. local_bind (local_word _) (λ c. local_give _)))
    where
      local_condition_value : Local (expression place (brackets - 1))
      local_condition_value = local_bind (local_expression_in place (brackets - 1) max_depth levels.Comparison) (λ d. local_give _)

  module _ (block : Reader (List Stmt)) (block_local : Local block) where
    local_after_branch : (x : Expr) (b : List Stmt) → Local (after_branch block x b)
    unfolding after_branch
    local_after_branch x b = local_if _ (local_bind (local_word _) (λ l. local_bind block_local (λ c. local_give _))) (local_give _)

    local_branch : Local (branch place brackets block)
    unfolding branch
    local_branch = local_bind (local_word _) (λ l. local_bind local_condition (λ x. local_bind block_local (λ b. local_after_branch x b)))

    strict_branch : Strict (branch place brackets block)
    unfolding branch
    strict_branch = strict_bind (word (codes "if")) _ (strict_word _) (λ l. local_bind local_condition (λ x. local_bind block_local (λ b. local_after_branch x b)))

    local_while : Local (while_loop place brackets block)
    unfolding while_loop
    local_while = local_bind (local_word _) (λ l. local_bind local_condition (λ x. local_bind block_local (λ b. local_give _)))

    strict_while : Strict (while_loop place brackets block)
    unfolding while_loop
    strict_while = strict_bind (word (codes "while")) _ (strict_word _) (λ l. local_bind local_condition (λ x. local_bind block_local (λ b. local_give _)))

    by_stmt : (s : StmtStart) → Local (statement_by place brackets block s)
    unfolding statement_by
    by_stmt stmts.Var = local_variable
    by_stmt stmts.Return = local_returned
    by_stmt stmts.If = local_branch
    by_stmt stmts.While = local_while
    by_stmt stmts.Print = local_printed
    by_stmt stmts.Other = local_simple

    strict_stmt : (s : StmtStart) → Strict (statement_by place brackets block s)
    unfolding statement_by
    strict_stmt stmts.Var = strict_variable
    strict_stmt stmts.Return = strict_returned
    strict_stmt stmts.If = strict_branch
    strict_stmt stmts.While = strict_while
    strict_stmt stmts.Print = strict_printed
    strict_stmt stmts.Other = strict_simple

    stmt_start_same : (mid : List Token) (t : Token) (post other : List Token) → st.start place brackets (mid ++ t ∷ post) ≡ st.start place brackets (mid ++ t ∷ other)
    unfolding st.start
    stmt_start_same [] t post other = refl
    stmt_start_same (m ∷ mid) t post other = refl

    local_statement : Local (statement place brackets block)
    unfolding statement
    local_statement = local_by (st.start place brackets) (statement_by place brackets block) stmt_start_same by_stmt

    local_more : (b : List Stmt) → Local (more_statements place brackets block b)
    unfolding more_statements
    local_more b = local_bind local_statement (λ x. local_give _)

    strict_statement : Strict (statement place brackets block)
    unfolding statement
    strict_statement = strict_by (st.start place brackets) (statement_by place brackets block) strict_stmt

    strict_more : (b : List Stmt) → Strict (more_statements place brackets block b)
    unfolding more_statements
    strict_more b = strict_bind (statement place brackets block) _ strict_statement (λ x. local_give _)

    local_statements : Local (statements place brackets block)
    unfolding statements
    local_statements = local_repeat_all goes_on (more_statements place brackets block) strict_more local_more []

    local_braces : Local (braces place brackets block)
    unfolding braces
    local_braces = local_bind (local_word _) (λ o. local_bind local_statements (λ b. local_bind (local_word _) (λ c. local_give _)))

pub local_block : (place : Place) (brackets : ℕ) → Local (block_in place brackets)
unfolding block_in
local_block place zero = local_stuck
local_block place (suc brackets) = local_braces place brackets (block_in place brackets) (local_block place brackets)

-- ---- classes and roots

local_field : Local field
unfolding field
local_field = local_bind local_type (λ t. local_bind local_name (λ n. local_bind (local_word _) (λ e. local_give _)))

local_fields : Local fields
unfolding fields more_fields
local_fields = local_repeat _ _ (λ xs. local_bind local_field (λ x. local_give _)) 32 []

local_parameter : Local parameter
unfolding parameter
local_parameter = local_bind local_type (λ t. local_bind local_name (λ n. local_give _))

local_some_parameters : Local some_parameters
unfolding some_parameters other_parameters more_parameters
local_some_parameters = local_bind local_parameter (λ p. local_repeat _ _ (λ ps. local_bind (local_word _) (λ c. local_bind local_parameter (λ x. local_give _))) 7 _)

local_parameters : Local parameters
unfolding parameters setups.listed
local_parameters = local_bind (local_word _) (λ o. local_bind (local_if _ (local_give _) local_some_parameters) (λ ps. local_bind (local_word _) (λ c. local_give _)))

local_method : Local method
unfolding method
local_method = local_bind (local_word _) (λ l. local_bind local_type (λ t. local_bind local_name (λ n. local_bind local_parameters (λ ps. local_bind (local_block places.Method max_nesting) (λ b. local_give _)))))

pub local_methods : Local methods
unfolding methods more_methods
local_methods = local_repeat _ _ (λ xs. local_bind local_method (λ x. local_give _)) 64 []

local_kind : Local kind
unfolding kind
local_kind = local_if _ (local_bind (local_word _) (λ l. local_give _)) (local_bind (local_word _) (λ l. local_give _))

local_class : Local class
unfolding class
local_class = local_bind local_kind (λ k. local_bind (local_word _) (λ l. local_bind local_name (λ n. local_bind (local_word _) (λ o. local_bind local_fields (λ fs. local_bind local_methods (λ ms. local_bind (local_word _) (λ c. local_give _)))))))

local_root : Local root
unfolding root
local_root =
    local_bind (local_word _) (λ l. local_bind local_name (λ n. local_bind (local_word _) (λ q. local_bind (local_word _) (λ w. local_bind local_name (λ c. local_bind (local_word _) (λ o. local_bind (local_word _) (λ p.
    local_bind local_at (λ a. local_bind (local_word _) (λ e. local_give _)))))))))

pub local_setup : Local setup
unfolding setup classes roots more_classes more_roots
local_setup =
    local_bind (local_repeat _ _ (λ xs. local_bind local_class (λ x. local_give _)) 256 []) (λ cs.
    local_bind (local_repeat _ _ (λ xs. local_bind local_root (λ x. local_give _)) 256 []) (λ rs. local_give _))
