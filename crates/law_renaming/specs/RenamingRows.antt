-- A small store, for worked rows of names at hand. This project's.
use Rattle.std.specs.Prelude.{ℕ, [], ◌∷◌, pos}
use Rattle.thor_value.specs.FiniteMap.{empty, insert}
use Rattle.thor_value.specs.declared.names.Oref.{Oref}
use Rattle.thor_value.specs.declared.values.Value.{Value}
use Rattle.thor_value.specs.declared.values.Value.TheVariants as value
use Rattle.class_defs.specs.RuleRows.{sample}
use Rattle.class_defs.specs.Run.{world_of}
use Rattle.class_defs.specs.Steps.{World}

abbrev pub oref_at : ℕ → ℕ → ℕ → Oref
oref_at repo page slot = record { repo = repo; page = page; slot = slot }

-- the root, a box whose number is 5 and whose part is this one
abbrev pub one_box : Value → World
one_box part = world_of sample (record {
  objects = insert empty (oref_at 0 0 0) (record { class = 0; fields = value.Int (pos 5) ∷ part ∷ [] });
  epoch = 0;
  roots = [];
})
