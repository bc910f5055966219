-- A small store that two upgrades find as it was set up, on which the definitions of lazy upgrades are computed.
use Rattle.std.specs.Prelude.{ℕ, List, [], ◌∷◌, pos, codes, Option, option_map}
use Rattle.thor_value.specs.FiniteMap.{empty, get, insert, overwrite}
use Rattle.thor_value.specs.declared.names.Oref.{Oref}
use Rattle.thor_value.specs.declared.values.Obj.{Obj}
use Rattle.thor_value.specs.declared.values.Value.TheVariants.{Int, Null, Ref}
use Rattle.thor_value.specs.declared.values.Value.{Value}
use Rattle.class_defs.specs.Eager.{brought, eager}
use Rattle.class_defs.specs.RuleRows.{class_type, field, int, named}
use Rattle.class_defs.specs.Stored.{Stored}
use Rattle.class_defs.specs.declared.classes.Class.{Class}
use Rattle.class_defs.specs.declared.classes.ClassKind.TheVariants.{Free, Part}
use Rattle.class_defs.specs.declared.classes.ClassKind.{ClassKind}
use Rattle.class_defs.specs.declared.classes.Field.{Field}
use Rattle.class_defs.specs.declared.expressions.Operator.TheVariants.{Add, Multiply}
use Rattle.class_defs.specs.declared.expressions.TypeName.{TypeName}
use Rattle.class_defs.specs.declared.literals.Literal.TheVariants as literal
use Rattle.class_defs.specs.declared.store.Schema.{Schema}
use Rattle.class_defs.specs.declared.store.Schemas.{Schemas}
use Rattle.class_defs.specs.declared.upgrades.ClassUpgrade.{ClassUpgrade}
use Rattle.class_defs.specs.declared.upgrades.FieldUpgrade.{FieldUpgrade}
use Rattle.class_defs.specs.declared.upgrades.Tf.TheVariants as tf
use Rattle.class_defs.specs.declared.upgrades.Tf.{Tf}

abbrev class : ClassKind → List ℕ → List Field → Class
class kind name fields = record { kind = kind; name = named name 1; fields = fields; methods = [] }

-- free class A { int s; M o; }   part class M { Z z; }   part class Z { int v; }
-- free class Count { int n; }    free class Box { int n; }
abbrev pub first_schema : Schema
first_schema = record {
  classes = class Free (codes "A") (field int (codes "s") 1 ∷ field (class_type (codes "M") 1) (codes "o") 1 ∷ [])
      ∷ class Part (codes "M") (field (class_type (codes "Z") 1) (codes "z") 1 ∷ [])
      ∷ class Part (codes "Z") (field int (codes "v") 1 ∷ [])
      ∷ class Free (codes "Count") (field int (codes "n") 1 ∷ [])
      ∷ class Free (codes "Box") (field int (codes "n") 1 ∷ []) ∷ [];
  upgraded = 0 ∷ 0 ∷ 0 ∷ 0 ∷ 0 ∷ [];
  roots = [];
}

-- the first upgrade renames the owned field of A
abbrev pub next_schema : Schema
next_schema = record {
  classes = class Free (codes "A") (field int (codes "s") 1 ∷ field (class_type (codes "M") 1) (codes "p") 1 ∷ [])
      ∷ class Part (codes "M") (field (class_type (codes "Z") 1) (codes "z") 1 ∷ [])
      ∷ class Part (codes "Z") (field int (codes "v") 1 ∷ [])
      ∷ class Free (codes "Count") (field int (codes "n") 1 ∷ [])
      ∷ class Free (codes "Box") (field int (codes "n") 1 ∷ []) ∷ [];
  upgraded = 1 ∷ 0 ∷ 1 ∷ 1 ∷ 0 ∷ [];
  roots = [];
}

abbrev old : List (List ℕ) → Tf
old [] = tf.Path [] 1
old (f ∷ []) = tf.Path (named f 1 ∷ []) 1
old (f ∷ g ∷ []) = tf.Path (named f 1 ∷ named g 1 ∷ []) 1
old (f ∷ g ∷ h ∷ rest) = tf.Path (named f 1 ∷ named g 1 ∷ named h 1 ∷ []) 1

abbrev becomes : TypeName → List ℕ → Tf → FieldUpgrade
becomes t name value = record { type_name = t; name = named name 1; value = value }

abbrev names : List ℕ → List FieldUpgrade → ClassUpgrade
names name fields = record { name = named name 1; fields = fields; methods = [] }

-- upgrade { class Z { int v = old.v * 10; }  class A { int s = old.s + old.o.z.v; M p = old.o; }
--     class Count { int n = old.n + 1; } }
-- upgrade { class Count { int n = old.n * 10; } }
abbrev pub twice : Schemas
twice = record {
  first = first_schema;
  upgraded = record {
    upgrade = record {
      line = 1;
      classes = names (codes "Z") (becomes int (codes "v") (tf.Binary Multiply (old (codes "v" ∷ [])) (tf.Literal (literal.Int (pos 10)) 1) 1) ∷ [])
          ∷ names (codes "A")
          (becomes int (codes "s") (tf.Binary Add (old (codes "s" ∷ [])) (old (codes "o" ∷ codes "z" ∷ codes "v" ∷ [])) 1)
          ∷ becomes (class_type (codes "M") 1) (codes "p") (old (codes "o" ∷ [])) ∷ [])
          ∷ names (codes "Count") (becomes int (codes "n") (tf.Binary Add (old (codes "n" ∷ [])) (tf.Literal (literal.Int (pos 1)) 1) 1) ∷ []) ∷ [];
    };
    schema = next_schema;
  }
      ∷ record {
        upgrade = record {
          line = 2;
          classes = names (codes "Count") (becomes int (codes "n") (tf.Binary Multiply (old (codes "n" ∷ [])) (tf.Literal (literal.Int (pos 10)) 2) 2) ∷ []) ∷ [];
        };
        schema = record next_schema { upgraded = 1 ∷ 0 ∷ 1 ∷ 2 ∷ 0 ∷ [] };
      } ∷ [];
}

abbrev at : ℕ → Oref
at n = record { repo = 0; page = 0; slot = n }

abbrev pub a : Oref
a = at 0

abbrev pub m : Oref
m = at 1

abbrev pub z : Oref
z = at 2

-- an A without a part
abbrev pub lone : Oref
lone = at 3

abbrev pub count : Oref
count = at 4

-- a Count that was written behind the first upgrade
abbrev pub later_count : Oref
later_count = at 5

abbrev pub box : Oref
box = at 6

abbrev pub written : ℕ → ℕ → List Value → Obj
written c ver fields = record { class = c; ver = ver; fields = fields }

abbrev pub part : Obj
part = written 2 0 (Int (pos 7) ∷ [])

-- the store behind both upgrades, of whose objects none was written since but one
abbrev pub mixed : Stored
mixed = record {
  objects = overwrite empty ((a, written 0 0 (Int (pos 0) ∷ Ref m ∷ []))
      ∷ (m, written 1 0 (Ref z ∷ []))
      ∷ (z, part)
      ∷ (lone, written 0 0 (Int (pos 5) ∷ Null ∷ []))
      ∷ (count, written 3 0 (Int (pos 4) ∷ []))
      ∷ (later_count, written 3 1 (Int (pos 6) ∷ []))
      ∷ (box, written 4 0 (Int (pos 3) ∷ [])) ∷ []);
  epoch = 2;
  roots = [];
}

-- the map in which an object was brought
abbrev pub bring : Oref → Obj → Stored → Stored
bring x o L = record L { objects = insert L.objects x (brought twice L o) }

-- the fields of an object in the store that a map stands for
abbrev pub seen : Stored → Oref → Option (List Value)
seen L x = option_map (λ v. v.fields) (get (eager twice L).objects x)
