-- The store with which a fresh store opens: the roots of the setup, as their fields begin (this project's).
use Rattle.std.specs.List.{filter}
use Rattle.std.specs.Prelude.{ℕ, ◌/◌, ◌%◌, ◌==◌, nat_lt, if◌then◌else◌, List, [], ◌∷◌, ◌++◌, Option, None, Some, length, map, unwrap_or}
use Rattle.thor_value.specs.FiniteMap.{empty, overwrite}
use Rattle.thor_value.specs.declared.names.Oref.{Oref}
use Rattle.class_defs.specs.Steps.{beginning}
use Rattle.class_defs.specs.Types.{class_named, fields_of, type_named}
use Rattle.class_defs.specs.declared.declarations.Declarations.{Declarations}
use Rattle.class_defs.specs.declared.declarations.WrittenRoot.{WrittenRoot}
use Rattle.class_defs.specs.declared.expressions.At.{At}
use Rattle.class_defs.specs.declared.store.Object.{Object}
use Rattle.class_defs.specs.declared.store.Plain.{Plain}
use Rattle.class_defs.specs.declared.store.Root.{Root}
use Rattle.class_defs.specs.declared.store.RootDeclaration.{RootDeclaration}
use Rattle.class_defs.specs.declared.store.Schema.{Schema}

-- the repository in which a root lies: that behind `at`, and 0 where it isn't told; a repository has a number below 256
abbrev pub home_at : Option At → ℕ
home_at None = 0
home_at (Some at) = if nat_lt at.number 256 then at.number else 0

abbrev pub home_of : WrittenRoot → ℕ
home_of r = home_at r.at

-- how many roots lie in a repository
abbrev pub count_in : ℕ → List WrittenRoot → ℕ
count_in home roots = length (filter (λ r. home_of r == home) roots)

-- The name of the n-th root of a repository, from 0: they take the slots of pages 0, 1, .. in the order of the text, twelve
-- to a page.
abbrev pub root_name : ℕ → ℕ → Oref
root_name home n = record { repo = home; page = n / 12; slot = n % 12 }

-- a root behind others, with its object's name
abbrev pub placed : List WrittenRoot → WrittenRoot → RootDeclaration
placed before r = record { name = r.name; class = r.class; at = r.at; oref = root_name (home_of r) (count_in (home_of r) before) }

-- roots behind others, with their objects' names
abbrev pub placed_behind : List WrittenRoot → List WrittenRoot → List RootDeclaration
placed_behind before [] = []
placed_behind before (r ∷ rs) = placed before r ∷ placed_behind (before ++ r ∷ []) rs

-- the schema of a setup, before any upgrade
abbrev pub schema_of : Declarations → Schema
schema_of setup = record { classes = setup.classes; upgraded = []; roots = placed_behind [] setup.roots }

-- the number of a root's class
abbrev pub class_of : Schema → RootDeclaration → ℕ
class_of schema r = unwrap_or (class_named schema.classes r.class.text) 0

-- a root's object as it begins
abbrev pub root_object : Schema → RootDeclaration → Oref × Object
root_object schema r = (r.oref, record { class = class_of schema r; fields = map (λ f. beginning (type_named schema.classes f.type_name)) (fields_of schema.classes (class_of schema r)) })

abbrev pub root_of : Schema → RootDeclaration → Root
root_of schema r = record { name = r.name.text; class = class_of schema r; oref = r.oref }

abbrev pub roots_of : Schema → List Root
roots_of schema = map (root_of schema) schema.roots

-- the opened store
unfoldable pub opened : Schema → Plain
opened schema = record { objects = overwrite empty (map (root_object schema) schema.roots); epoch = 0; roots = roots_of schema }
