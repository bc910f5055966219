-- Small stores under the schema of the rules' worked rows, and what gets stuck on them. This project's.
use Rattle.std.specs.Prelude.{ℕ, Bool, List, [], ◌∷◌, Some, is_none, pos}
use Rattle.thor_value.specs.FiniteMap.{empty, insert}
use Rattle.thor_value.specs.declared.names.Oref.{Oref}
use Rattle.thor_value.specs.declared.values.Value.{Value}
use Rattle.thor_value.specs.declared.values.Value.TheVariants as value
use Rattle.class_defs.specs.RuleRows.{sample}
use Rattle.class_defs.specs.Run.{begun, world_of}
use Rattle.law_type_soundness.specs.Strict.{strict_meaning}
use Rattle.class_defs.specs.declared.statements.Stmt.{Stmt}
use Rattle.class_defs.specs.declared.store.Object.{Object}
use Rattle.class_defs.specs.declared.store.Plain.{Plain}

-- the names on one page
abbrev pub in_slot : ℕ → Oref
in_slot slot = record { repo = 0; page = 0; slot = slot }

abbrev pub part : Object
part = record { class = 1; fields = value.Int (pos 7) ∷ [] }

-- a store of the root's box, with these fields, and a part
abbrev pub store_of : List Value → Plain
store_of fields = record {
  objects = insert (insert empty (in_slot 0) (record { class = 0; fields = fields })) (in_slot 1) part;
  epoch = 0;
  roots = [];
}

-- whether a statement of an item gets stuck on a store
abbrev pub gets_stuck : Plain → Stmt → Bool
gets_stuck store s = is_none ((strict_meaning (world_of sample store) 4).execute s (begun [] (Some 0)))
