-- A small schema, and how the worked rows of the rules on upgrades write pieces of text. This project's.
use Rattle.std.specs.Prelude.{ℕ, List, [], ◌∷◌, map, Option, pos, codes}
use Rattle.class_defs.specs.Applied.{applied}
use Rattle.class_defs.specs.RuleRows.{class_type, field, int, method, named, root}
use Rattle.class_defs.specs.UpgradeOrder.{own_fault}
use Rattle.class_defs.specs.declared.classes.Class.{Class}
use Rattle.class_defs.specs.declared.classes.ClassKind.TheVariants.{Free, Part}
use Rattle.class_defs.specs.declared.classes.Method.{Method}
use Rattle.class_defs.specs.declared.expressions.Expr.TheVariants as expr
use Rattle.class_defs.specs.declared.expressions.TypeName.{TypeName}
use Rattle.class_defs.specs.declared.literals.Literal.TheVariants as literal
use Rattle.class_defs.specs.declared.rules.RuleFault.{RuleFault}
use Rattle.class_defs.specs.declared.statements.Stmt.{Stmt}
use Rattle.class_defs.specs.declared.statements.Stmt.TheVariants as stmt
use Rattle.class_defs.specs.declared.store.Schema.{Schema}
use Rattle.class_defs.specs.declared.upgrades.ClassUpgrade.{ClassUpgrade}
use Rattle.class_defs.specs.declared.upgrades.FieldUpgrade.{FieldUpgrade}
use Rattle.class_defs.specs.declared.upgrades.Tf.{Tf}
use Rattle.class_defs.specs.declared.upgrades.Tf.TheVariants as tf
use Rattle.class_defs.specs.declared.upgrades.Upgrade.{Upgrade}

-- method int NAME() { return this.FIELD; }
abbrev pub gives : List ℕ → List ℕ → Method
gives name member = method name [] (stmt.Return (expr.Field (named member 1)) ∷ [])

-- free class Box { int n; Box next; Part p; Part q; Seal s; method int get() { return this.n; } }
abbrev pub box : Class
box = record {
  kind = Free;
  name = named (codes "Box") 1;
  fields = field int (codes "n") 1 ∷ field (class_type (codes "Box") 1) (codes "next") 1 ∷ field (class_type (codes "Part") 1) (codes "p") 1
      ∷ field (class_type (codes "Part") 1) (codes "q") 1 ∷ field (class_type (codes "Seal") 1) (codes "s") 1 ∷ [];
  methods = gives (codes "get") (codes "n") ∷ [];
}

-- part class Part { int m; Seal s; Box far; Part more; }
abbrev pub part : Class
part = record {
  kind = Part;
  name = named (codes "Part") 1;
  fields = field int (codes "m") 1 ∷ field (class_type (codes "Seal") 1) (codes "s") 1 ∷ field (class_type (codes "Box") 1) (codes "far") 1
      ∷ field (class_type (codes "Part") 1) (codes "more") 1 ∷ [];
  methods = [];
}

-- part class Seal { int v; method int get() { return this.v; } }
abbrev pub seal : Class
seal = record { kind = Part; name = named (codes "Seal") 1; fields = field int (codes "v") 1 ∷ []; methods = gives (codes "get") (codes "v") ∷ [] }

-- free class Shelf { Seal t; method int get() { return this.t.get(); } }
abbrev pub shelf : Class
shelf = record {
  kind = Free;
  name = named (codes "Shelf") 1;
  fields = field (class_type (codes "Seal") 1) (codes "t") 1 ∷ [];
  methods = method (codes "get") [] (stmt.Return (expr.Call (expr.Field (named (codes "t") 1)) (named (codes "get") 1) []) ∷ []) ∷ [];
}

-- root a = new Box(); and two upgrades came before, the second of which names Seal alone
abbrev pub found : Schema
found = record { classes = box ∷ part ∷ seal ∷ shelf ∷ []; upgraded = 1 ∷ 0 ∷ 2 ∷ 0 ∷ []; roots = root ∷ [] }

-- tx { print a.get(); }
abbrev pub item : List Stmt
item = stmt.Print (expr.Call (expr.Variable (named (codes "a") 1)) (named (codes "get") 1) []) ∷ []

-- old.NAME.NAME.., on a line
abbrev pub old : ℕ → List (List ℕ) → Tf
old line names = tf.Path (map (λ n. named n line) names) line

abbrev pub number : ℕ → ℕ → Tf
number n line = tf.Literal (literal.Int (pos n)) line

-- TYPE NAME = EXPRESSION; with the name's line
abbrev pub becomes : TypeName → List ℕ → ℕ → Tf → FieldUpgrade
becomes t name line value = record { type_name = t; name = named name line; value = value }

abbrev pub a_box : TypeName
a_box = class_type (codes "Box") 1

abbrev pub a_part : TypeName
a_part = class_type (codes "Part") 1

abbrev pub a_seal : TypeName
a_seal = class_type (codes "Seal") 1

-- a class that isn't declared, on a line
abbrev pub a_bag : ℕ → TypeName
a_bag line = class_type (codes "Bag") line

-- class NAME { .. } of an upgrade, with the name's line
abbrev pub says : List ℕ → ℕ → List FieldUpgrade → List Method → ClassUpgrade
says name line fields methods = record { name = named name line; fields = fields; methods = methods }

-- an upgrade whose first word stands on line 9, behind the setup
abbrev pub upgrade : List ClassUpgrade → Upgrade
upgrade classes = record { line = 9; classes = classes }

-- what is told of an upgrade, in a script with the one item
abbrev pub upgrade_fault : List ClassUpgrade → Option RuleFault
upgrade_fault classes = own_fault found 1 (upgrade classes) (item ∷ [])

-- of an upgrade of Box to these fields, whose method `get` stays
abbrev pub told_of_box : List FieldUpgrade → Option RuleFault
told_of_box fields = upgrade_fault (says (codes "Box") 10 fields (gives (codes "get") (codes "n") ∷ []) ∷ [])

-- the same with `int n = old.n;` before these fields
abbrev pub told_of : List FieldUpgrade → Option RuleFault
told_of fields = told_of_box (becomes int (codes "n") 11 (old 11 (codes "n" ∷ [])) ∷ fields)

-- the schema behind an upgrade of these classes
abbrev pub schema_after : List ClassUpgrade → Schema
schema_after classes = applied found (upgrade classes)
