-- Which trees the grammar has: the limits, and what `Shape` asks. This project's.
use Rattle.std.specs.Prelude.{◌≡◌, ◌≤◌, ℕ, true, List, length}
use Rattle.std.specs.List.{AllByRecursion}
use Rattle.class_defs.specs.declared.statements.Stmt.{Stmt}
use Rattle.class_defs.specs.declared.classes.Method.{Method}
use Rattle.class_defs.specs.declared.classes.Class.{Class}
use Rattle.class_defs.specs.declared.declarations.Declarations.{Declarations}
use Rattle.class_defs.specs.declared.places.Place.{Place}
use Rattle.class_defs.specs.declared.places.Place.TheVariants as places
use Rattle.class_defs.specs.Shape.{block_form}

-- the greatest depth of an expression, and the greatest nesting of parentheses and blocks
abbrev pub max_depth : ℕ
max_depth = 32

abbrev pub max_nesting : ℕ
max_nesting = 64

-- a block that may stand at a place
pub record IsBlock (place : Place) (block : List Stmt) : Type 0 where
  pub depth : (block_form place block).depth ≤ max_depth
  pub nesting : (block_form place block).nesting ≤ max_nesting
  pub proper : (block_form place block).proper ≡ true

pub record IsMethod (method : Method) : Type 0 where
  pub parameters : length method.parameters ≤ 8
  pub body : IsBlock places.Method method.body

pub record IsClass (class : Class) : Type 0 where
  pub fields : length class.fields ≤ 32
  pub methods : length class.methods ≤ 64
  pub each : AllByRecursion IsMethod class.methods

pub record IsSetup (setup : Declarations) : Type 0 where
  pub classes : length setup.classes ≤ 256
  pub roots : length setup.roots ≤ 256
  pub each : AllByRecursion IsClass setup.classes
