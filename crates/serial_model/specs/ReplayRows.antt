-- A small store with one upgrade, and how the worked rows of histories write entries. This project's.
use Rattle.std.specs.Prelude.{ℕ, List, [], ◌∷◌, pos, codes}
use Rattle.thor_value.specs.declared.names.Oref.{Oref}
use Rattle.thor_value.specs.declared.names.Ts.{Ts}
use Rattle.thor_value.specs.declared.values.Answer.TheVariants as answer
use Rattle.thor_value.specs.declared.values.Value.{Value}
use Rattle.thor_value.specs.declared.values.Value.TheVariants.{Int, Ref, Null}
use Rattle.class_defs.specs.declared.classes.Class.{Class}
use Rattle.class_defs.specs.declared.classes.ClassKind.TheVariants.{Free}
use Rattle.class_defs.specs.declared.classes.Field.{Field}
use Rattle.class_defs.specs.declared.expressions.Name.{Name}
use Rattle.class_defs.specs.declared.expressions.Operator.TheVariants.{Add}
use Rattle.class_defs.specs.declared.expressions.TypeName.{TypeName}
use Rattle.class_defs.specs.declared.expressions.TypeName.TheVariants as type_name
use Rattle.class_defs.specs.declared.store.Object.{Object}
use Rattle.class_defs.specs.declared.store.Plain.{Plain}
use Rattle.class_defs.specs.declared.store.Schemas.{Schemas}
use Rattle.class_defs.specs.declared.upgrades.FieldUpgrade.{FieldUpgrade}
use Rattle.class_defs.specs.declared.upgrades.Tf.{Tf}
use Rattle.class_defs.specs.declared.upgrades.Tf.TheVariants as tf
use Rattle.class_defs.specs.declared.upgrades.Upgrade.{Upgrade}
use Rattle.serial_model.specs.History.{IsLegal}
use Rattle.serial_model.specs.declared.entries.Did.{Did}
use Rattle.serial_model.specs.declared.entries.What.{What}
use Rattle.serial_model.specs.declared.entries.What.TheVariants.{Tx, Upgrade as UpgradeItem}

-- a name on line 1
abbrev pub named : List ℕ → Name
named text = record { text = text; line = 1 }

abbrev pub int : TypeName
int = type_name.Int 1

abbrev pub box_type : TypeName
box_type = type_name.Class (named (codes "Box"))

abbrev pub field : TypeName → List ℕ → Field
field t text = record { type_name = t; name = named text }

-- a class with these fields
abbrev pub box : List Field → Class
box fields = record { kind = Free; name = named (codes "Box"); fields = fields; methods = [] }

abbrev pub old_fields : List Field
old_fields = field int (codes "n") ∷ field box_type (codes "next") ∷ []

abbrev pub new_fields : List Field
new_fields = field int (codes "n") ∷ field box_type (codes "next") ∷ field int (codes "twice") ∷ []

-- `old.name`
abbrev pub old : List ℕ → Tf
old text = tf.Path (named text ∷ []) 1

-- `old.next.n`
abbrev pub old_of_next : Tf
old_of_next = tf.Path (named (codes "next") ∷ named (codes "n") ∷ []) 1

abbrev pub new_field : TypeName → List ℕ → Tf → FieldUpgrade
new_field t text v = record { type_name = t; name = named text; value = v }

-- The upgrade, with the line of its word: `n` becomes that of `next`, and `twice` is the double of the old one.
abbrev pub shift : ℕ → Upgrade
shift line = record {
  line = line;
  classes = record {
    name = named (codes "Box");
    fields = new_field int (codes "n") old_of_next ∷ new_field box_type (codes "next") (old (codes "next")) ∷ new_field int (codes "twice") (tf.Binary Add (old (codes "n")) (old (codes "n")) 1) ∷ [];
    methods = [];
  } ∷ [];
}

abbrev pub schemas : Schemas
schemas = record {
  first = record { classes = box old_fields ∷ []; upgraded = []; roots = [] };
  upgraded = record { upgrade = shift 9; schema = record { classes = box new_fields ∷ []; upgraded = 1 ∷ []; roots = [] } } ∷ [];
}

abbrev pub slot : ℕ → Oref
slot n = record { repo = 0; page = 0; slot = n }

abbrev pub object : List Value → Object
object fields = record { class = 0; fields = fields }

-- two objects, the first of which refers to the second
abbrev pub two : List Value → List Value → ℕ → Plain
two first second epoch = record { objects = record { pairs = (slot 0, object first) ∷ (slot 1, object second) ∷ [] }; epoch = epoch; roots = [] }

abbrev pub store : Plain
store = two (Int (pos 3) ∷ Ref (slot 1) ∷ []) (Int (pos 5) ∷ Null ∷ []) 0

abbrev pub at_time : ℕ → Ts
at_time t = record { time = t; repo = 0; life = 1 }

abbrev pub entry : ℕ → What → ℕ → Did
entry t what number = record { ts = at_time t; who = record { client = 1; index = t }; what = what; number = number; fresh = []; answer = answer.Ints [] }

-- the upgrade as an entry
abbrev pub shifted : ℕ → ℕ → Did
shifted t number = entry t (UpgradeItem (shift 9)) number

-- a transaction of no statement
abbrev pub nothing : ℕ → Did
nothing t = entry t (Tx []) 0

abbrev pub IsAllowed : List Did → Type 0
IsAllowed history = IsLegal schemas history store
