-- Evaluations of checked transactions over a part of a stored map, and who is above an object in such a map. This project's.
use Rattle.std.specs.Prelude.{◌≡◌, ℕ, nat_lt, List, [], ◌∷◌, Some}
use Rattle.thor_value.specs.FiniteMap.{get}
use Rattle.thor_value.specs.declared.names.Oref.{Oref}
use Rattle.thor_value.specs.declared.values.Obj.{Obj}
use Rattle.class_defs.specs.Applied.{number_of}
use Rattle.class_defs.specs.Eager.{eager}
use Rattle.class_defs.specs.Epochs.{schema_at}
use Rattle.class_defs.specs.KeptOwnership.{AllKeepClasses}
use Rattle.class_defs.specs.Levels.{is_due}
use Rattle.class_defs.specs.Ownership.{Owns}
use Rattle.class_defs.specs.SchemaRules.{item_rules, schema_rules}
use Rattle.class_defs.specs.Stored.{Objects, Stored}
use Rattle.class_defs.specs.declared.statements.Stmt.{Stmt}
use Rattle.class_defs.specs.declared.store.Schema.{Schema}
use Rattle.class_defs.specs.declared.store.Schemas.{Schemas}
use Rattle.law_type_soundness.specs.Fits.{NamesFit}
use Rattle.method_eval.specs.Names.{supply}
use Rattle.method_eval.specs.declared.view.View.{View}
use Rattle.law_ownership.specs.Checked.{RootsStand}
use Rattle.law_lazy_history.specs.Standing.{MapFits}

-- Just these are above an object in a stored map, nearest first: the first one owns it, each further one owns the one before
-- it, and nobody owns the last one.
abbrev pub AreOwnersAbove : Schemas → Objects → Oref → List Oref → Type 0
AreOwnersAbove s m x [] = (a : Oref) → (i : ℕ) → ¬ Owns s m a i x
AreOwnersAbove s m x (a ∷ further) = ((i : ℕ) × Owns s m a i x) × AreOwnersAbove s m a further

-- The transaction tx breaks no rule under the schema of the map's epoch, the map fits, and the view has objects of the map, as
-- they are stored there, and names of none.
pub record IsCheckedOver (s : Schemas) (N : Stored) (schema : Schema) (repos : ℕ) (tx : List Stmt) (view : View) : Type 0 where
  pub epoch : schema_at s N.epoch ≡ Some schema
  pub rules : schema_rules schema repos ≡ []
  pub item : item_rules schema repos tx ≡ []
  pub keeps : AllKeepClasses s N.epoch
  -- the schema's numbers tell what is due (law `numbers_tell_what_is_due`)
  pub numbers : (o : Obj) → is_due s N.epoch o ≡ nat_lt o.ver (number_of schema.upgraded o.class)
  pub fits : MapFits s N
  pub roots : RootsStand schema N.roots
  pub at_hand : (x : Oref) (o : Obj) → get view.objects x ≡ Some o → get N.objects x ≡ Some o
  pub names : NamesFit (get (eager s N).objects) 0 (supply view.names)
