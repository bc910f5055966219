-- Which words spell which tree, from the first to the last. This project's.
use Rattle.std.specs.Prelude.{ℕ, pos, List, [], ◌∷◌, ◌++◌, map, Option, Some, None, codes}
use Rattle.class_defs.specs.declared.expressions.At.{At}
use Rattle.class_defs.specs.declared.expressions.TypeName.{TypeName}
use Rattle.class_defs.specs.declared.literals.Literal.{Literal}
use Rattle.class_defs.specs.declared.literals.Literal.TheVariants as literal
use Rattle.class_defs.specs.declared.expressions.TypeName.TheVariants as type_name
use Rattle.class_defs.specs.declared.expressions.Expr.{Expr}
use Rattle.class_defs.specs.declared.expressions.Expr.TheOpen.{Expr-F}
use Rattle.class_defs.specs.declared.expressions.Expr.TheFolds.{fold-Expr}
use Rattle.class_defs.specs.declared.statements.Stmt.{Stmt}
use Rattle.class_defs.specs.declared.statements.Stmt.TheOpen.{Stmt-F}
use Rattle.class_defs.specs.declared.statements.Stmt.TheFolds.{fold-Stmt}
use Rattle.class_defs.specs.declared.classes.ClassKind.{ClassKind}
use Rattle.class_defs.specs.declared.classes.ClassKind.TheVariants.{Free, Part}
use Rattle.class_defs.specs.declared.classes.Field.{Field}
use Rattle.class_defs.specs.declared.classes.Parameter.{Parameter}
use Rattle.class_defs.specs.declared.classes.Method.{Method}
use Rattle.class_defs.specs.declared.classes.Class.{Class}
use Rattle.class_defs.specs.declared.declarations.WrittenRoot.{WrittenRoot}
use Rattle.class_defs.specs.declared.declarations.Declarations.{Declarations}
use Rattle.class_defs.specs.Words.{Word, Fixed, FixedAt, Numbered, Quoted, name_word, symbol_of, with_commas, in_turn}

-- the word of a type
abbrev pub type_word : TypeName → Word
type_word (type_name.Int line) = FixedAt (codes "int") line
type_word (type_name.Class name) = name_word name

-- the word of a literal
abbrev pub literal_word : Literal → ℕ → Word
literal_word (literal.Int n) line = Numbered n line
literal_word (literal.Text text) line = Quoted text line

-- `at` and a number, or nothing
abbrev pub at_words : Option At → List Word
at_words None = []
at_words (Some at) = FixedAt (codes "at") at.line ∷ Numbered (pos at.number) at.number_line ∷ []

-- an expression, with the words of its parts in their places
abbrev pub expr_step : Expr-F (List Word) → List Word
expr_step (Expr-F.Literal value line) = literal_word value line ∷ []
expr_step (Expr-F.Null line) = FixedAt (codes "null") line ∷ []
expr_step (Expr-F.This line) = FixedAt (codes "this") line ∷ []
expr_step (Expr-F.Field name) = Fixed (codes "this") ∷ Fixed (codes ".") ∷ name_word name ∷ []
expr_step (Expr-F.Variable name) = name_word name ∷ []
expr_step (Expr-F.New class at) =
    Fixed (codes "new") ∷ name_word class ∷ Fixed (codes "(") ∷ Fixed (codes ")") ∷ at_words at
expr_step (Expr-F.Parens inner line) = FixedAt (codes "(") line ∷ (inner ++ Fixed (codes ")") ∷ [])
expr_step (Expr-F.Negate operand line) = FixedAt (codes "-") line ∷ operand
expr_step (Expr-F.Binary operator left right line) = left ++ FixedAt (symbol_of operator) line ∷ right
expr_step (Expr-F.Call receiver method arguments) =
    receiver ++ Fixed (codes ".") ∷ name_word method ∷ Fixed (codes "(") ∷ (with_commas arguments ++ Fixed (codes ")") ∷ [])

-- the words of an expression
abbrev pub expr_words : Expr → List Word
expr_words = fold-Expr (List Word) expr_step

-- an expression and the `;` behind it
abbrev pub ended : Expr → List Word
ended value = expr_words value ++ Fixed (codes ";") ∷ []

-- a condition in its parentheses
abbrev pub condition_words : Expr → List Word
condition_words condition = Fixed (codes "(") ∷ (expr_words condition ++ Fixed (codes ")") ∷ [])

-- statements between braces
abbrev pub braces : List (List Word) → List Word
braces stmts = Fixed (codes "{") ∷ (in_turn stmts ++ Fixed (codes "}") ∷ [])

-- a statement, with the words of the statements inside in their places
abbrev pub stmt_step : Stmt-F (List Word) → List Word
stmt_step (Stmt-F.Var type name line value) =
    Fixed (codes "var") ∷ type_word type ∷ name_word name ∷ FixedAt (codes "=") line ∷ ended value
stmt_step (Stmt-F.Assign name line value) = name_word name ∷ FixedAt (codes "=") line ∷ ended value
stmt_step (Stmt-F.FieldAssign field line value) =
    Fixed (codes "this") ∷ Fixed (codes ".") ∷ name_word field ∷ FixedAt (codes "=") line ∷ ended value
stmt_step (Stmt-F.Return value) = Fixed (codes "return") ∷ ended value
stmt_step (Stmt-F.If condition then) = Fixed (codes "if") ∷ (condition_words condition ++ braces then)
stmt_step (Stmt-F.IfElse condition then otherwise) =
    Fixed (codes "if") ∷ (condition_words condition ++ (braces then ++ Fixed (codes "else") ∷ braces otherwise))
stmt_step (Stmt-F.While condition body) = Fixed (codes "while") ∷ (condition_words condition ++ braces body)
stmt_step (Stmt-F.Print value) = Fixed (codes "print") ∷ ended value
stmt_step (Stmt-F.Evaluate value) = ended value

-- the words of a statement
abbrev pub stmt_words : Stmt → List Word
stmt_words = fold-Stmt (List Word) stmt_step

-- the words of a block
abbrev pub block_words : List Stmt → List Word
block_words block = braces (map stmt_words block)

abbrev pub field_words : Field → List Word
field_words field = type_word field.type_name ∷ name_word field.name ∷ Fixed (codes ";") ∷ []

abbrev pub parameter_words : Parameter → List Word
parameter_words parameter = type_word parameter.type_name ∷ name_word parameter.name ∷ []

abbrev pub method_words : Method → List Word
method_words method =
    Fixed (codes "method") ∷ type_word method.result ∷ name_word method.name ∷ Fixed (codes "(")
    ∷ (with_commas (map parameter_words method.parameters) ++ Fixed (codes ")") ∷ block_words method.body)

abbrev pub kind_text : ClassKind → List ℕ
kind_text Free = codes "free"
kind_text Part = codes "part"

-- the words of a class
abbrev pub class_words : Class → List Word
class_words class =
    Fixed (kind_text class.kind) ∷ Fixed (codes "class") ∷ name_word class.name ∷ Fixed (codes "{")
    ∷ (in_turn (map field_words class.fields) ++ (in_turn (map method_words class.methods) ++ Fixed (codes "}") ∷ []))

abbrev pub root_words : WrittenRoot → List Word
root_words root =
    Fixed (codes "root") ∷ name_word root.name ∷ Fixed (codes "=") ∷ Fixed (codes "new") ∷ name_word root.class
    ∷ Fixed (codes "(") ∷ Fixed (codes ")") ∷ (at_words root.at ++ Fixed (codes ";") ∷ [])

-- the words behind `setup`
abbrev pub setup_words : Declarations → List Word
setup_words setup = in_turn (map class_words setup.classes) ++ in_turn (map root_words setup.roots)
