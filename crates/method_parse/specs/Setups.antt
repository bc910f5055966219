-- How classes, roots, a whole block and a whole setup are read.
use Rattle.std.specs.Prelude.{ℕ, Bool, ◌||◌, List, [], ◌∷◌, ◌++◌, length, Result, Ok, Err, codes}
use Rattle.class_defs.specs.declared.classes.ClassKind.{ClassKind}
use Rattle.class_defs.specs.declared.expressions.Name.{Name}
use Rattle.class_defs.specs.declared.classes.ClassKind.TheVariants.{Free, Part}
use Rattle.class_defs.specs.declared.classes.Field.{Field}
use Rattle.class_defs.specs.declared.classes.Parameter.{Parameter}
use Rattle.class_defs.specs.declared.classes.Method.{Method}
use Rattle.class_defs.specs.declared.classes.Class.{Class}
use Rattle.class_defs.specs.declared.declarations.WrittenRoot.{WrittenRoot}
use Rattle.class_defs.specs.declared.declarations.Declarations.{Declarations}
use Rattle.class_defs.specs.declared.statements.Stmt.{Stmt}
use Rattle.class_defs.specs.declared.places.Place.TheVariants as places
use Rattle.class_defs.specs.Grammar.{max_nesting}
use Rattle.script_text.specs.declared.token.Token.{Token}
use Rattle.method_parse.specs.Matching.{is, is_name_kind}
use Rattle.method_parse.specs.Reader.{Reader, ◌>>=◌, give, word, name, type_word, if_next, repeat}
use Rattle.method_parse.specs.Expressions.{at}
use Rattle.method_parse.specs.Statements.{block_in}

-- whether a token may be a type
abbrev pub begins_type : Token → Bool
begins_type token = is (codes "int") token || is_name_kind token.kind

unfoldable pub field : Reader Field
field = do
  type ← type_word
  called ← name
  end ← word (codes ";")
  give (record { type_name = type; name = called })

unfoldable pub more_fields : List Field → Reader (List Field)
more_fields fields = do
  one ← field
  give (fields ++ one ∷ [])

unfoldable pub parameter : Reader Parameter
parameter = do
  type ← type_word
  called ← name
  give (record { type_name = type; name = called })

unfoldable pub more_parameters : List Parameter → Reader (List Parameter)
more_parameters parameters = do
  comma ← word (codes ",")
  one ← parameter
  give (parameters ++ one ∷ [])

-- the parameters behind the first
unfoldable pub other_parameters : List Parameter → Reader (List Parameter)
other_parameters first = repeat 7 (λ parameters. is (codes ",")) more_parameters first

unfoldable pub some_parameters : Reader (List Parameter)
some_parameters = do
  first ← parameter
  other_parameters (first ∷ [])

-- the parameters up to the `)`
unfoldable pub listed : Reader (List Parameter)
listed = if_next (is (codes ")")) (give []) some_parameters

-- the parameters of a method, with their parentheses
unfoldable pub parameters : Reader (List Parameter)
parameters = do
  open_line ← word (codes "(")
  read ← listed
  close_line ← word (codes ")")
  give read

unfoldable pub method : Reader Method
method = do
  line ← word (codes "method")
  result ← type_word
  called ← name
  read ← parameters
  body ← block_in places.Method max_nesting
  give (record { result = result; name = called; parameters = read; body = body })

unfoldable pub more_methods : List Method → Reader (List Method)
more_methods methods = do
  one ← method
  give (methods ++ one ∷ [])

unfoldable pub kind : Reader ClassKind
kind = if_next (is (codes "free"))
    (do
      line ← word (codes "free")
      give Free)
    (do
      line ← word (codes "part")
      give Part)

unfoldable pub fields : Reader (List Field)
fields = repeat 32 (λ fields. begins_type) more_fields []

unfoldable pub methods : Reader (List Method)
methods = repeat 64 (λ methods. is (codes "method")) more_methods []

unfoldable pub class : Reader Class
class = do
  how ← kind
  line ← word (codes "class")
  called ← name
  open_line ← word (codes "{")
  has ← fields
  does ← methods
  close_line ← word (codes "}")
  give (record { kind = how; name = called; fields = has; methods = does })

unfoldable pub more_classes : List Class → Reader (List Class)
more_classes classes = do
  one ← class
  give (classes ++ one ∷ [])

abbrev pub begins_class : Token → Bool
begins_class token = is (codes "free") token || is (codes "part") token

-- what stands behind the class of a root
unfoldable pub root_of_class : Name → Name → Reader WrittenRoot
root_of_class called class = do
  open_line ← word (codes "(")
  close_line ← word (codes ")")
  place ← at
  end ← word (codes ";")
  give (record { name = called; class = class; at = place })

-- what stands behind the name of a root
unfoldable pub root_named : Name → Reader WrittenRoot
root_named called = do
  equals ← word (codes "=")
  new_line ← word (codes "new")
  class ← name
  root_of_class called class

unfoldable pub root : Reader WrittenRoot
root = do
  line ← word (codes "root")
  called ← name
  equals ← word (codes "=")
  new_line ← word (codes "new")
  of ← name
  open_line ← word (codes "(")
  close_line ← word (codes ")")
  place ← at
  end ← word (codes ";")
  give (record { name = called; class = of; at = place })

unfoldable pub more_roots : List WrittenRoot → Reader (List WrittenRoot)
more_roots roots = do
  one ← root
  give (roots ++ one ∷ [])

unfoldable pub classes : Reader (List Class)
classes = repeat 256 (λ classes. begins_class) more_classes []

unfoldable pub roots : Reader (List WrittenRoot)
roots = repeat 256 (λ roots. is (codes "root")) more_roots []

unfoldable pub setup : Reader Declarations
setup = do
  declared ← classes
  rooted ← roots
  give (record { classes = declared; roots = rooted })

-- what is read, where no token is left behind it
abbrev pub whole : {X : Type 0} → Result (X × List Token) ℕ → Result X ℕ
whole (Ok (x, [])) = Ok x
whole (Ok (x, token ∷ tokens)) = Err (length (token ∷ tokens))
whole (Err left) = Err left

-- all tokens as one item's block, and as one setup
unfoldable pub block_of : List Token → Result (List Stmt) ℕ
block_of tokens = whole (block_in places.Item max_nesting tokens)

unfoldable pub setup_of : List Token → Result Declarations ℕ
setup_of tokens = whole (setup tokens)
