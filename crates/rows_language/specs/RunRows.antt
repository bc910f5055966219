-- A small store, and how the worked rows of runs write transactions and what these give. This project's.
use Rattle.std.specs.Prelude.{ℕ, ℤ, List, [], ◌∷◌, Option, Some, None, pos, codes, Result, Ok, Err}
use Rattle.thor_value.specs.FiniteMap.{empty, overwrite}
use Rattle.thor_value.specs.declared.names.Oref.{Oref}
use Rattle.thor_value.specs.declared.values.Answer.TheVariants as answer
use Rattle.thor_value.specs.declared.values.Fault.{Fault}
use Rattle.thor_value.specs.declared.values.Value.{Value}
use Rattle.thor_value.specs.declared.values.Value.TheVariants as value
use Rattle.class_defs.specs.RuleRows.{class_type, field, int, method, named, parameter}
use Rattle.class_defs.specs.Run.{Ran, begun, changed, execute_all, run, world_of}
use Rattle.class_defs.specs.declared.classes.Class.{Class}
use Rattle.class_defs.specs.declared.classes.ClassKind.TheVariants.{Free, Part}
use Rattle.class_defs.specs.declared.expressions.Expr.{Expr}
use Rattle.class_defs.specs.declared.expressions.Expr.TheVariants as expr
use Rattle.class_defs.specs.declared.expressions.Operator.TheVariants.{Add, Less}
use Rattle.class_defs.specs.declared.literals.Literal.TheVariants as literal
use Rattle.class_defs.specs.declared.machine.Flow.{Flow}
use Rattle.class_defs.specs.declared.machine.Machine.{Machine}
use Rattle.class_defs.specs.declared.machine.Stop.{Stop}
use Rattle.class_defs.specs.declared.statements.Stmt.{Stmt}
use Rattle.class_defs.specs.declared.statements.Stmt.TheVariants as stmt
use Rattle.class_defs.specs.declared.store.Object.{Object}
use Rattle.class_defs.specs.declared.store.Plain.{Plain}
use Rattle.class_defs.specs.declared.store.RootDeclaration.{RootDeclaration}
use Rattle.class_defs.specs.declared.store.Schema.{Schema}

-- ---- texts: every token stands on line 1

abbrev pub number : ℕ → Expr
number n = expr.Literal (literal.Int (pos n)) 1

abbrev pub local : List ℕ → Expr
local name = expr.Variable (named name 1)

abbrev pub this_field : List ℕ → Expr
this_field name = expr.Field (named name 1)

abbrev pub call : Expr → List ℕ → List Expr → Expr
call receiver name arguments = expr.Call receiver (named name 1) arguments

abbrev pub plus : Expr → Expr → Expr
plus a b = expr.Binary Add a b 1

abbrev pub less : Expr → Expr → Expr
less a b = expr.Binary Less a b 1

abbrev pub minus : Expr → Expr
minus a = expr.Negate a 1

abbrev pub new : List ℕ → Expr
new class = expr.New (named class 1) None

abbrev pub new_at : List ℕ → ℕ → Expr
new_at class repo = expr.New (named class 1) (Some (record { line = 1; number = repo; number_line = 1 }))

abbrev pub var_int : List ℕ → Expr → Stmt
var_int name e = stmt.Var int (named name 1) 1 e

-- var CLASS NAME = null;
abbrev pub var_null : List ℕ → List ℕ → Stmt
var_null class name = stmt.Var (class_type class 1) (named name 1) 1 (expr.Null 1)

abbrev pub print : Expr → Stmt
print e = stmt.Print e

abbrev pub evaluate : Expr → Stmt
evaluate e = stmt.Evaluate e

abbrev pub set_local : List ℕ → Expr → Stmt
set_local name e = stmt.Assign (named name 1) 1 e

abbrev pub set_field : List ℕ → Expr → Stmt
set_field name e = stmt.FieldAssign (named name 1) 1 e

-- var int i = 0; while (i < LAST) { i = i + 1; }
abbrev pub count_to : ℕ → List Stmt
count_to last =
    var_int (codes "i") (number 0)
    ∷ stmt.While (less (local (codes "i")) (number last)) (set_local (codes "i") (plus (local (codes "i")) (number 1)) ∷ []) ∷ []

-- ---- classes

-- free class Box { int n; method int get() { return this.n; } method int add(int k) { this.n = this.n + k; return this.n; } }
abbrev pub box : Class
box = record {
  kind = Free;
  name = named (codes "Box") 1;
  fields = field int (codes "n") 1 ∷ [];
  methods = method (codes "get") [] (stmt.Return (this_field (codes "n")) ∷ [])
      ∷ method (codes "add") (parameter int (codes "k") 1 ∷ [])
      (set_field (codes "n") (plus (this_field (codes "n")) (local (codes "k"))) ∷ stmt.Return (this_field (codes "n")) ∷ []) ∷ [];
}

-- free class Cell { Cell next; method int hop(int k) { return this.next.hop(k); } }
abbrev pub cell : Class
cell = record {
  kind = Free;
  name = named (codes "Cell") 1;
  fields = field (class_type (codes "Cell") 1) (codes "next") 1 ∷ [];
  methods = method (codes "hop") (parameter int (codes "k") 1 ∷ [])
      (stmt.Return (call (this_field (codes "next")) (codes "hop") (local (codes "k") ∷ [])) ∷ []) ∷ [];
}

-- free class Owner { Part p; method int make() { this.p = new Part(); return this.p.get(); }
--     method int ask() { return this.p.get(); } method int tell(int v) { return this.p.put(v); } }
abbrev pub owner : Class
owner = record {
  kind = Free;
  name = named (codes "Owner") 1;
  fields = field (class_type (codes "Part") 1) (codes "p") 1 ∷ [];
  methods = method (codes "make") [] (set_field (codes "p") (new (codes "Part")) ∷ stmt.Return (call (this_field (codes "p")) (codes "get") []) ∷ [])
      ∷ method (codes "ask") [] (stmt.Return (call (this_field (codes "p")) (codes "get") []) ∷ [])
      ∷ method (codes "tell") (parameter int (codes "v") 1 ∷ [])
      (stmt.Return (call (this_field (codes "p")) (codes "put") (local (codes "v") ∷ [])) ∷ []) ∷ [];
}

-- part class Part { int m; method int put(int v) { this.m = v; return v; } method int get() { return this.m; } }
abbrev pub part : Class
part = record {
  kind = Part;
  name = named (codes "Part") 1;
  fields = field int (codes "m") 1 ∷ [];
  methods = method (codes "put") (parameter int (codes "v") 1 ∷ [])
      (set_field (codes "m") (local (codes "v")) ∷ stmt.Return (local (codes "v")) ∷ [])
      ∷ method (codes "get") [] (stmt.Return (this_field (codes "m")) ∷ []) ∷ [];
}

-- ---- a store

-- the names on one page of a repository
abbrev pub in_repo : ℕ → ℕ → Oref
in_repo repo slot = record { repo = repo; page = 0; slot = slot }

abbrev pub a : Oref
a = in_repo 0 0

abbrev pub c : Oref
c = in_repo 0 1

abbrev pub o : Oref
o = in_repo 0 2

abbrev pub root : List ℕ → List ℕ → Oref → RootDeclaration
root name class x = record { name = named name 1; class = named class 1; at = None; oref = x }

-- root a = new Box(); root c = new Cell(); root o = new Owner();
abbrev pub schema : Schema
schema = record {
  classes = box ∷ cell ∷ owner ∷ part ∷ [];
  upgraded = 0 ∷ 0 ∷ 0 ∷ 0 ∷ [];
  roots = root (codes "a") (codes "Box") a ∷ root (codes "c") (codes "Cell") c ∷ root (codes "o") (codes "Owner") o ∷ [];
}

-- an object of a class by the class's number
abbrev pub object : ℕ → List Value → Object
object class fields = record { class = class; fields = fields }

abbrev pub int_object : ℕ → ℕ → Object
int_object class n = object class (value.Int (pos n) ∷ [])

abbrev pub box_of : ℕ → Object
box_of n = int_object 0 n

abbrev pub part_of : ℕ → Object
part_of m = int_object 3 m

abbrev pub owner_of : Oref → Object
owner_of x = object 2 (value.Ref x ∷ [])

-- a box with 5, an empty cell, and an owner without a part
abbrev pub store : Plain
store = record {
  objects = overwrite empty ((a, box_of 5) ∷ (c, object 1 (value.Null ∷ [])) ∷ (o, object 2 (value.Null ∷ [])) ∷ []);
  epoch = 0;
  roots = [];
}

-- the store with a part of the owner
abbrev pub store_with_part : Plain
store_with_part = record store { objects = overwrite store.objects ((o, owner_of (in_repo 0 3)) ∷ (in_repo 0 3, part_of 7) ∷ []) }

-- ---- what runs give

-- the run of a transaction that creates nothing
abbrev pub ran : List Stmt → Option Ran
ran tx = run schema tx store []

-- of one whose new objects take these names
abbrev pub ran_with : List Oref → List Stmt → Option Ran
ran_with names tx = run schema tx store names

-- it printed these numbers, touched and wrote these objects of a store
abbrev pub gave_on : Plain → List ℤ → List Oref → List (Oref × Object) → Option Ran
gave_on before printed touched written =
    Some (record { answer = answer.Ints printed; touched = touched; written = written; store = changed before written })

abbrev pub gave : List ℤ → List Oref → List (Oref × Object) → Option Ran
gave printed touched written = gave_on store printed touched written

-- it touched these objects and ended in a fault, which left the store
abbrev pub ended_in : Fault → List Oref → Option Ran
ended_in f touched = Some (record { answer = answer.Fault f; touched = touched; written = []; store = store })

abbrev pub steps_at : Result Flow Stop → Machine → Option ℕ
steps_at (Ok flow) m = Some m.steps
steps_at (Err s) m = None

-- how many steps a transaction takes on the store, where it comes to its end
abbrev pub steps_of : List Stmt → Option ℕ
steps_of tx = let r = execute_all (world_of schema store) tx (begun [] (Some 0)) in steps_at r.0 r.1
