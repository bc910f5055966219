-- A small schema, whose parts call themselves and their own parts, and how the worked rows of runs that stop for want of an
-- object or of a name are written. This project's.
use Rattle.std.specs.Prelude.{ℕ, List, [], ◌∷◌, Option, Some, None, Result, Ok, Err, codes, pos}
use Rattle.thor_value.specs.FiniteMap.{empty, overwrite}
use Rattle.thor_value.specs.declared.names.Oref.{Oref}
use Rattle.thor_value.specs.declared.values.Value.TheVariants as value
use Rattle.class_defs.specs.RuleRows.{class_type, field, int, method, named}
use Rattle.rows_language.specs.RunRows.{call, evaluate, in_repo, local, new, print, root, this_field}
use Rattle.class_defs.specs.Run.{begun, execute_all, world_of}
use Rattle.class_defs.specs.Steps.{World}
use Rattle.class_defs.specs.declared.classes.Class.{Class}
use Rattle.class_defs.specs.declared.classes.ClassKind.{ClassKind}
use Rattle.class_defs.specs.declared.classes.ClassKind.TheVariants.{Free, Part}
use Rattle.class_defs.specs.declared.classes.Field.{Field}
use Rattle.class_defs.specs.declared.classes.Method.{Method}
use Rattle.class_defs.specs.declared.expressions.Expr.{Expr}
use Rattle.class_defs.specs.declared.expressions.Expr.TheVariants as expr
use Rattle.class_defs.specs.declared.literals.Literal.TheVariants as literal
use Rattle.class_defs.specs.declared.machine.Flow.{Flow}
use Rattle.class_defs.specs.declared.machine.Machine.{Machine}
use Rattle.class_defs.specs.declared.machine.Stop.{Stop}
use Rattle.class_defs.specs.declared.statements.Stmt.{Stmt}
use Rattle.class_defs.specs.declared.statements.Stmt.TheVariants as stmt
use Rattle.class_defs.specs.declared.store.Object.{Object}
use Rattle.class_defs.specs.declared.store.Schema.{Schema}

-- ---- classes

-- method int NAME() { return e; }
abbrev pub returns : List ℕ → Expr → Method
returns name e = method name [] (stmt.Return e ∷ [])

-- e.NAME()
abbrev pub ask : Expr → List ℕ → Expr
ask e name = call e name []

abbrev pub this : Expr
this = expr.This 1

-- a class with one field
abbrev pub class_of : ClassKind → List ℕ → Field → List Method → Class
class_of kind name declared methods = record { kind = kind; name = named name 1; fields = declared ∷ []; methods = methods }

abbrev pub part_field : List ℕ → List ℕ → Field
part_field class name = field (class_type class 1) name 1

-- free class A { P p; method int ask() { return this.p.ask(); } method int round() { return this.p.again(); }
--     method int twice() { return this.p.once_more(); } method int deep() { return this.p.deep(); } }
abbrev pub a_class : Class
a_class =
    class_of Free (codes "A") (part_field (codes "P") (codes "p"))
    (returns (codes "ask") (ask (this_field (codes "p")) (codes "ask"))
    ∷ returns (codes "round") (ask (this_field (codes "p")) (codes "again"))
    ∷ returns (codes "twice") (ask (this_field (codes "p")) (codes "once_more"))
    ∷ returns (codes "deep") (ask (this_field (codes "p")) (codes "deep")) ∷ [])

-- part class P { Q q; method int ask() { return this.q.get(); } method int again() { return this.ask(); }
--     method int once_more() { return this.again(); } method int deep() { return this.q.deep(); } }
abbrev pub p_class : Class
p_class =
    class_of Part (codes "P") (part_field (codes "Q") (codes "q"))
    (returns (codes "ask") (ask (this_field (codes "q")) (codes "get"))
    ∷ returns (codes "again") (ask this (codes "ask"))
    ∷ returns (codes "once_more") (ask this (codes "again"))
    ∷ returns (codes "deep") (ask (this_field (codes "q")) (codes "deep")) ∷ [])

-- part class Q { R r; method int get() { return 1; } method int deep() { return this.r.get(); } }
abbrev pub q_class : Class
q_class =
    class_of Part (codes "Q") (part_field (codes "R") (codes "r"))
    (returns (codes "get") (expr.Literal (literal.Int (pos 1)) 1) ∷ returns (codes "deep") (ask (this_field (codes "r")) (codes "get")) ∷ [])

-- part class R { int n; method int get() { return this.n; } }
abbrev pub r_class : Class
r_class = class_of Part (codes "R") (field int (codes "n") 1) (returns (codes "get") (this_field (codes "n")) ∷ [])

-- root a = new A();
abbrev pub schema : Schema
schema = record {
  classes = a_class ∷ p_class ∷ q_class ∷ r_class ∷ [];
  upgraded = 0 ∷ 0 ∷ 0 ∷ 0 ∷ [];
  roots = root (codes "a") (codes "A") (in_repo 0 0) ∷ [];
}

-- ---- objects: a owns p, which owns q, which owns r

abbrev pub a : Oref
a = in_repo 0 0

abbrev pub p : Oref
p = in_repo 0 1

abbrev pub q : Oref
q = in_repo 0 2

abbrev pub r : Oref
r = in_repo 0 3

-- an object of a class by its number, with a reference in its one field
abbrev pub refers : Oref → ℕ → Oref → Oref × Object
refers x class y = (x, record { class = class; fields = value.Ref y ∷ [] })

abbrev pub the_a : Oref × Object
the_a = refers a 0 p

abbrev pub the_p : Oref × Object
the_p = refers p 1 q

abbrev pub the_q : Oref × Object
the_q = refers q 2 r

-- ---- runs

-- the schema, with these objects at hand
abbrev pub at_hand : List (Oref × Object) → World
at_hand objects = world_of schema (record { objects = overwrite empty objects; epoch = 0; roots = [] })

abbrev pub stop_of : Result Flow Stop → Machine → Option Stop
stop_of (Ok flow) m = None
stop_of (Err s) m = Some s

-- why a run stops with these objects and names at hand, and no stand-in names; nothing where it comes to its end
abbrev pub stopped : List (Oref × Object) → List Oref → List Stmt → Option Stop
stopped objects names tx = let r = execute_all (at_hand objects) tx (begun names None) in stop_of r.0 r.1

-- why `print a.NAME();` stops
abbrev pub asked : List (Oref × Object) → List ℕ → Option Stop
asked objects name = stopped objects [] (print (ask (local (codes "a")) name) ∷ [])

-- why `new A();` stops
abbrev pub made_with : List Oref → Option Stop
made_with names = stopped [] names (evaluate (new (codes "A")) ∷ [])
