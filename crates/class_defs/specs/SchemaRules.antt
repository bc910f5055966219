-- The rules that a schema and an item break (this project's).
use Rattle.std.specs.Prelude.{ℕ, ◌+◌, nat_lt, List, [], ◌∷◌, ◌++◌, map, Option, Some, None}
use Rattle.std.specs.List.{flat_map}
use Rattle.class_defs.specs.Rules.{Sight, must, stand_once, is_type, is_free_type, is_root_class}
use Rattle.class_defs.specs.StatementRules.{names_in, block_rules}
use Rattle.class_defs.specs.Types.{type_named}
use Rattle.class_defs.specs.declared.classes.Class.{Class}
use Rattle.class_defs.specs.declared.classes.Method.{Method}
use Rattle.class_defs.specs.declared.classes.Parameter.{Parameter}
use Rattle.class_defs.specs.declared.expressions.At.{At}
use Rattle.class_defs.specs.declared.rules.NamedType.{NamedType}
use Rattle.class_defs.specs.declared.rules.Rule.TheVariants.{T8}
use Rattle.class_defs.specs.declared.rules.RuleFault.{RuleFault}
use Rattle.class_defs.specs.declared.statements.Stmt.{Stmt}
use Rattle.class_defs.specs.declared.store.RootDeclaration.{RootDeclaration}
use Rattle.class_defs.specs.declared.store.Schema.{Schema}
use Rattle.class_defs.specs.declared.types.ExprType.TheVariants as type

-- a parameter in sight in the body
abbrev pub parameter_named : List Class → Parameter → NamedType
parameter_named classes p = record { name = p.name.text; kind = type_named classes p.type_name }

-- what is in sight at the beginning of a method's body
abbrev pub in_method : Schema → ℕ → ℕ → Method → Sight
in_method schema repos c m = record {
  schema = schema;
  repos = repos;
  this = Some c;
  result = type_named schema.classes m.result;
  locals = map (parameter_named schema.classes) m.parameters;
}

-- what is in sight at the beginning of an item
abbrev pub in_item : Schema → ℕ → Sight
in_item schema repos = record { schema = schema; repos = repos; this = None; result = type.Untold; locals = [] }

-- T1 of a method's parameters and locals, which have names of their own
abbrev pub body_names : Method → List RuleFault
body_names m = stand_once [] (map (λ p. p.name) m.parameters ++ names_in m.body)

-- the statements of a method
abbrev pub body_rules : Schema → ℕ → ℕ → Method → List RuleFault
body_rules schema repos c m = block_rules (in_method schema repos c m) m.body

-- T2 and T5 of the words of a method's result and parameters
abbrev pub method_types : List Class → Method → List RuleFault
method_types classes m = is_free_type classes m.result ++ flat_map (λ p. is_free_type classes p.type_name) m.parameters

-- A method: the words of its types, the names of its parameters and locals, and its statements.
unfoldable pub method_rules : Schema → ℕ → ℕ → Method → List RuleFault
method_rules schema repos c m =
    method_types schema.classes m
    ++ body_names m
    ++ body_rules schema repos c m

-- T1 of a class's fields and methods, which have names of their own
abbrev pub member_names : Class → List RuleFault
member_names d = stand_once [] (map (λ f. f.name) d.fields ++ map (λ m. m.name) d.methods)

-- A class: the names of its fields and methods, the words of the fields' types, and the methods.
unfoldable pub class_rules : Schema → ℕ → ℕ → Class → List RuleFault
class_rules schema repos c d =
    member_names d
    ++ flat_map (λ f. is_type schema.classes f.type_name) d.fields
    ++ flat_map (method_rules schema repos c) d.methods

-- classes, the first of which has the number c
abbrev pub classes_from : Schema → ℕ → ℕ → List Class → List RuleFault
classes_from schema repos c [] = []
classes_from schema repos c (d ∷ ds) = class_rules schema repos c d ++ classes_from schema repos (c + 1) ds

-- T8: the number behind `at` is that of a repository
abbrev pub root_at_rules : ℕ → Option At → List RuleFault
root_at_rules repos None = []
root_at_rules repos (Some at) = must (nat_lt at.number repos) T8 at.number_line

abbrev pub root_rules : List Class → ℕ → RootDeclaration → List RuleFault
root_rules classes repos r = is_root_class classes r.class ++ root_at_rules repos r.at

-- T1 of the classes, and of the roots
abbrev pub class_names : Schema → List RuleFault
class_names schema = stand_once [] (map (λ d. d.name) schema.classes)

abbrev pub root_names : Schema → List RuleFault
root_names schema = stand_once [] (map (λ r. r.name) schema.roots)

-- A schema over a number of repositories: its classes and its roots.
unfoldable pub schema_rules : Schema → ℕ → List RuleFault
schema_rules schema repos =
    class_names schema
    ++ root_names schema
    ++ classes_from schema repos 0 schema.classes
    ++ flat_map (root_rules schema.classes repos) schema.roots

-- T1 of an item's locals, which have names of their own, and not the roots'
abbrev pub item_names : Schema → List Stmt → List RuleFault
item_names schema block = stand_once (map (λ r. r.name) schema.roots) (names_in block)

-- An item under a schema: the names of its locals, and its statements.
unfoldable pub item_rules : Schema → ℕ → List Stmt → List RuleFault
item_rules schema repos block = item_names schema block ++ block_rules (in_item schema repos) block
