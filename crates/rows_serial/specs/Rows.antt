-- A run of two repositories, small and whole, on which the premises of the serial law are met: an owner with its part at
-- repository 0, a box at repository 1, and an upgrade of the part between two transactions.
use Rattle.law_atomic_commit.specs.Several.{Several}
use Rattle.class_defs.specs.RuleRows.{class_type, field, int, method, named, parameter}
use Rattle.class_defs.specs.declared.classes.Class.{Class}
use Rattle.class_defs.specs.declared.classes.ClassKind.TheVariants.{Free, Part}
use Rattle.class_defs.specs.declared.classes.Method.{Method}
use Rattle.class_defs.specs.declared.expressions.Operator.TheVariants.{Multiply}
use Rattle.class_defs.specs.declared.literals.Literal.TheVariants as literal
use Rattle.class_defs.specs.declared.statements.Stmt.TheVariants as stmt
use Rattle.class_defs.specs.declared.statements.Stmt.{Stmt}
use Rattle.class_defs.specs.declared.store.Root.{Root}
use Rattle.class_defs.specs.declared.store.Schema.{Schema}
use Rattle.class_defs.specs.declared.store.Schemas.{Schemas}
use Rattle.class_defs.specs.declared.upgrades.Tf.TheVariants as tf
use Rattle.class_defs.specs.declared.upgrades.Upgrade.{Upgrade as UpgradeTree}
use Rattle.log_entries.specs.declared.entry.Entry.TheVariants.{Decided, Finished, Life, One, Prepared}
use Rattle.log_entries.specs.declared.entry.Entry.{Entry}
use Rattle.log_entries.specs.declared.request.Kind.TheVariants.{App, Transform, Upgrade}
use Rattle.log_entries.specs.declared.request.Kind.{Kind}
use Rattle.log_entries.specs.declared.request.Request.{Request}
use Rattle.spec_history.specs.History.{Base}
use Rattle.serial_model.specs.declared.entries.What.TheVariants.{Tx, Upgrade as UpgradeItem}
use Rattle.serial_model.specs.declared.entries.What.{What}
use Rattle.std.specs.Prelude.{List, None, [], codes, cond, nat_eq, pos, suc, true, zero, ℕ, ◌∷◌}
use Rattle.thor_value.specs.FiniteMap.{empty, overwrite}
use Rattle.thor_value.specs.Names.{zero_ts}
use Rattle.thor_value.specs.declared.names.Oref.{Oref}
use Rattle.thor_value.specs.declared.names.Ts.{Ts}
use Rattle.thor_value.specs.declared.values.Answer.TheVariants.{Ints}
use Rattle.thor_value.specs.declared.values.Answer.{Answer}
use Rattle.thor_value.specs.declared.values.Obj.{Obj}
use Rattle.thor_value.specs.declared.values.Value.TheVariants as value
use Rattle.thor_value.specs.declared.values.Value.{Value}
use Rattle.thor_value.specs.declared.values.Who.{Who}
use Rattle.method_eval.specs.Names.{only_listed}
use Rattle.method_eval.specs.declared.view.View.{View}
use Rattle.law_global_order.specs.Serial.{Joined}
use Rattle.rows_language.specs.RunRows.{call, evaluate, local, plus, print, root, set_field, this_field, var_int}

-- ---- classes and items

-- method int get() { return this.m; }
abbrev getting : Method
getting = method (codes "get") [] (stmt.Return (this_field (codes "m")) ∷ [])

-- free class Owner { Part p; method int ask() { return this.p.get(); } }
-- part class Part { int m; method int get() { return this.m; } }
-- free class Box { int n; method int add(int k) { this.n = this.n + k; return this.n; } }
abbrev classes : List Class
classes =
    record { kind = Free; name = named (codes "Owner") 1; fields = field (class_type (codes "Part") 1) (codes "p") 1 ∷ []; methods = method (codes "ask") [] (stmt.Return (call (this_field (codes "p")) (codes "get") []) ∷ []) ∷ [] }
    ∷ record { kind = Part; name = named (codes "Part") 1; fields = field int (codes "m") 1 ∷ []; methods = getting ∷ [] }
    ∷ record {
      kind = Free;
      name = named (codes "Box") 1;
      fields = field int (codes "n") 1 ∷ [];
      methods = method (codes "add") (parameter int (codes "k") 1 ∷ []) (set_field (codes "n") (plus (this_field (codes "n")) (local (codes "k"))) ∷ stmt.Return (this_field (codes "n")) ∷ []) ∷ [];
    } ∷ []

abbrev in_repo : ℕ → ℕ → Oref
in_repo repo slot = record { repo = repo; page = 0; slot = slot }

-- the owner, its part, and the box
abbrev pub o : Oref
o = in_repo 0 0

abbrev pub p : Oref
p = in_repo 0 1

abbrev pub a : Oref
a = in_repo 1 0

-- root o = new Owner(); root a = new Box();
abbrev pub first : Schema
first = record { classes = classes; upgraded = 0 ∷ 0 ∷ 0 ∷ []; roots = root (codes "o") (codes "Owner") o ∷ root (codes "a") (codes "Box") a ∷ [] }

-- upgrade { class Part { int m = old.m * 10; method int get() { return this.m; } } }
abbrev pub upgrade : UpgradeTree
upgrade = record { line = 1; classes = record { name = named (codes "Part") 1; fields = record { type_name = int; name = named (codes "m") 1; value = tf.Binary Multiply (tf.Path (named (codes "m") 1 ∷ []) 1) (tf.Literal (literal.Int (pos 10)) 1) 1 } ∷ []; methods = getting ∷ [] } ∷ [] }

abbrev pub second : Schema
second = record first { upgraded = 0 ∷ 1 ∷ 0 ∷ [] }

abbrev pub schemas : Schemas
schemas = record { first = first; upgraded = record { upgrade = upgrade; schema = second } ∷ [] }

abbrev pub roots : List Root
roots = record { name = codes "o"; class = 0; oref = o } ∷ record { name = codes "a"; class = 2; oref = a } ∷ []

-- var int k = o.ask();
abbrev pub ask_part : Stmt
ask_part = var_int (codes "k") (call (local (codes "o")) (codes "ask") [])

-- a.add(k);
abbrev pub add_it : Stmt
add_it = evaluate (call (local (codes "a")) (codes "add") (local (codes "k") ∷ []))

-- var int k = o.ask(); a.add(k);
abbrev pub adding : List Stmt
adding = ask_part ∷ add_it ∷ []

-- print o.ask();
abbrev pub asking : List Stmt
asking = print (call (local (codes "o")) (codes "ask") []) ∷ []

-- the items of a client: the first adds, the second upgrades, and any other one asks
abbrev pub items : Who → What
items who = cond (nat_eq who.index 1) (Tx adding) (cond (nat_eq who.index 2) (UpgradeItem upgrade) (Tx asking))

-- ---- what there is

abbrev pub written : ℕ → ℕ → List Value → Obj
written class ver fields = record { class = class; ver = ver; fields = fields }

abbrev pub an_owner : Obj
an_owner = written 0 0 (value.Ref p ∷ [])

-- a part with a number, as written in an epoch
abbrev pub a_part : ℕ → ℕ → Obj
a_part ver n = written 1 ver (value.Int (pos n) ∷ [])

abbrev pub a_box : ℕ → Obj
a_box n = written 2 0 (value.Int (pos n) ∷ [])

abbrev objects_of : ℕ → List (Oref × Obj)
objects_of zero = (o, an_owner) ∷ (p, a_part 0 7) ∷ []
objects_of (suc n) = (a, a_box 5) ∷ []

abbrev pub base_of : ℕ → Base
base_of r = record {
  repo = r;
  repos = 2;
  life = 0;
  count = 0;
  limit = 1048576;
  objects = overwrite empty (objects_of r);
  top = zero_ts;
  roots = o ∷ a ∷ [];
  texts = [];
  next_page = 1;
  alone = empty;
  left = empty;
  silence = None;
  tells = true;
}

-- what was opened
abbrev pub opening : Joined
opening = record { objects = overwrite empty ((o, an_owner) ∷ (p, a_part 0 7) ∷ (a, a_box 5) ∷ []); texts = [] }

-- ---- what came

-- the transaction of this time, which repository 0 coordinates
abbrev pub at : ℕ → Ts
at n = record { time = n; repo = 0; life = 1 }

abbrev request : ℕ → Kind → ℕ → List Oref → List (Oref × Obj) → Answer → List ℕ → Request
request n kind epoch ros writes answer others = record {
  tx = at n;
  who = record { client = 1; index = n };
  session = 1;
  kind = kind;
  epoch = epoch;
  upto = 0;
  ros = ros;
  writes = writes;
  fresh = [];
  answer = answer;
  others = others;
}

-- 1 adds what the part has to the box, at both repositories
abbrev pub added : Request
added = request 1 App 0 (o ∷ p ∷ []) [] (Ints []) (1 ∷ [])

abbrev pub added_there : Request
added_there = request 1 App 0 (a ∷ []) ((a, a_box 12) ∷ []) (Ints []) (0 ∷ [])

-- 2 is the upgrade
abbrev pub installed : List ℕ → Request
installed others = request 2 (Upgrade (117 ∷ [])) 0 [] [] (Ints []) others

-- 3 brings the part to the epoch behind it, before its owner is used again
abbrev pub brought_there : Request
brought_there = request 3 Transform 1 (o ∷ p ∷ []) ((p, a_part 1 70) ∷ []) (Ints []) []

-- 4 asks the owner for what its part has
abbrev pub asked : Request
asked = request 4 App 1 (o ∷ p ∷ []) [] (Ints (pos 70 ∷ [])) []

abbrev pub home : List Entry
home = Life 1 ∷ Prepared added ∷ Decided (at 1) true ∷ Prepared (installed (1 ∷ [])) ∷ Decided (at 2) true ∷ One brought_there ∷ One asked ∷ []

abbrev pub away : List Entry
away = Life 1 ∷ Prepared added_there ∷ Finished (at 1) true ∷ Prepared (installed (0 ∷ [])) ∷ Finished (at 2) true ∷ []

abbrev histories_of : ℕ → List Entry
histories_of zero = home
histories_of (suc zero) = away
histories_of (suc (suc n)) = []

abbrev pub run : Several
run = record { repos = 2; base = base_of; history = histories_of }

-- ---- an evaluation over a part of what was opened

-- the owner is at hand, its part isn't, and there are no names for new objects
abbrev pub owner_alone : View
owner_alone = record { objects = overwrite empty ((o, an_owner) ∷ []); names = only_listed []; epoch = 0 }
