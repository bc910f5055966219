-- How the worked rows of texts write them, what is in sight, and a small store with a text. This project's.
use Rattle.std.specs.Prelude.{ℕ, ℤ, List, [], ◌∷◌, Option, Some, None, codes}
use Rattle.thor_value.specs.FiniteMap.{empty, get, overwrite}
use Rattle.thor_value.specs.declared.names.Oref.{Oref}
use Rattle.thor_value.specs.declared.values.Value.{Value}
use Rattle.thor_value.specs.declared.values.Value.TheVariants as value
use Rattle.class_defs.specs.RuleRows.{class_type, field, named, parameter, sample}
use Rattle.class_defs.specs.Rules.{least}
use Rattle.class_defs.specs.Run.{Ran, run}
use Rattle.class_defs.specs.StatementRules.{block_rules}
use Rattle.class_defs.specs.UpgradeOrder.{own_fault}
use Rattle.class_defs.specs.Upgrades.{transformed}
use Rattle.class_defs.specs.declared.classes.Class.{Class}
use Rattle.class_defs.specs.declared.classes.ClassKind.TheVariants.{Free}
use Rattle.class_defs.specs.declared.classes.Method.{Method}
use Rattle.class_defs.specs.declared.expressions.Expr.{Expr}
use Rattle.class_defs.specs.declared.expressions.Expr.TheVariants as expr
use Rattle.class_defs.specs.declared.expressions.TypeName.{TypeName}
use Rattle.class_defs.specs.declared.literals.Literal.TheVariants as literal
use Rattle.class_defs.specs.declared.rules.RuleFault.{RuleFault}
use Rattle.class_defs.specs.declared.statements.Stmt.{Stmt}
use Rattle.class_defs.specs.declared.statements.Stmt.TheVariants as stmt
use Rattle.class_defs.specs.declared.store.Object.{Object}
use Rattle.class_defs.specs.declared.store.Plain.{Plain}
use Rattle.class_defs.specs.declared.store.Schema.{Schema}
use Rattle.class_defs.specs.declared.types.ExprType.TheVariants as type
use Rattle.class_defs.specs.declared.upgrades.FieldUpgrade.{FieldUpgrade}
use Rattle.class_defs.specs.declared.upgrades.Tf.{Tf}
use Rattle.class_defs.specs.declared.upgrades.Tf.TheVariants as tf
use Rattle.rows_language.specs.RunRows.{gave_on, in_repo, local, root, set_field, this_field}
use Rattle.rows_language.specs.UpgradeRows.{says, upgrade}

-- a text literal on a line
abbrev pub quoted : List ℕ → ℕ → Expr
quoted text line = expr.Literal (literal.Text text) line

-- what is told of an item in which the local `t` is a text
abbrev pub told_of_texts : List Stmt → Option RuleFault
told_of_texts block = least (block_rules (record { schema = sample; repos = 2; this = None; result = type.Untold; locals = record { name = codes "t"; kind = type.Text } ∷ [] }) block)

-- ---- a class with a text

-- the word `text`, on a line
abbrev pub a_text : ℕ → TypeName
a_text line = class_type (codes "text") line

abbrev pub text_method : List ℕ → List ℕ → List Stmt → Method
text_method name text body = record { result = a_text 1; name = named name 1; parameters = parameter (a_text 1) text 1 ∷ []; body = body }

-- free class Note { text t; method text put(text u) { this.t = u; return this.t; } }
abbrev pub note : Class
note = record {
  kind = Free;
  name = named (codes "Note") 1;
  fields = field (a_text 1) (codes "t") 1 ∷ [];
  methods = text_method (codes "put") (codes "u") (set_field (codes "t") (local (codes "u")) ∷ stmt.Return (this_field (codes "t")) ∷ []) ∷ [];
}

-- root n = new Note();
abbrev pub n : Oref
n = in_repo 0 0

abbrev pub noted : Schema
noted = record { classes = note ∷ []; upgraded = 0 ∷ []; roots = root (codes "n") (codes "Note") n ∷ [] }

-- a note of these values
abbrev pub note_of : List Value → Object
note_of fields = record { class = 0; fields = fields }

-- the note with the text `ab`
abbrev pub store_of_note : Plain
store_of_note = record { objects = overwrite empty ((n, note_of (value.Text (codes "ab") ∷ [])) ∷ []); epoch = 0; roots = [] }

-- the run of a transaction on it
abbrev pub ran_noted : List Stmt → Option Ran
ran_noted tx = run noted tx store_of_note []

-- it printed these numbers, touched and wrote these objects
abbrev pub gave_noted : List ℤ → List Oref → List (Oref × Object) → Option Ran
gave_noted printed touched written = gave_on store_of_note printed touched written

-- var text NAME = VALUE;
abbrev pub var_text : List ℕ → Expr → Stmt
var_text name e = stmt.Var (a_text 1) (named name 1) 1 e

-- ---- upgrades of it

abbrev pub quoted_tf : List ℕ → ℕ → Tf
quoted_tf text line = tf.Literal (literal.Text text) line

-- what is told of an upgrade of Note to these fields, in a script without items; its first word stands on line 9
abbrev pub told_of_note : List FieldUpgrade → Option RuleFault
told_of_note fields = own_fault noted 1 (upgrade (says (codes "Note") 10 fields [] ∷ [])) []

-- what the upgrade makes of the note
abbrev pub note_becomes : List FieldUpgrade → Object
note_becomes fields = transformed (note ∷ []) (note ∷ []) (get store_of_note.objects) (note_of (value.Text (codes "ab") ∷ [])) (Some (says (codes "Note") 10 fields []))
