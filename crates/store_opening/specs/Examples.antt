-- Worked examples of the map that repositories hold.
use Rattle.log_entries.specs.declared.request.Kind.TheVariants.{App}
use Rattle.commit_log.specs.Examples.{at, name, new_state, number, writing}
use Rattle.std.specs.Prelude.{List, [], ◌∷◌, ℕ}
use Rattle.store_opening.specs.OpenedStore.{Repository}
use Rattle.thor_value.specs.declared.names.Oref.{Oref}

-- a name of page 0 of repository 1
abbrev pub there : ℕ → Oref
there slot = record { repo = 1; page = 0; slot = slot }

-- Repository 0 keeps the decision to commit one transaction. Of the two objects on its page one is in its buffer, too.
abbrev pub coordinator : Repository
coordinator = record { state = record new_state { mob = (name 0 0, number 3) ∷ []; kept = at 5 0 ∷ [] }; paged = (name 0 0, number 1) ∷ (name 0 1, number 2) ∷ [] }

-- Repository 1 has this transaction prepared, and another one that repository 0 coordinates. The other one writes an
-- object of its page.
abbrev pub participant : Repository
participant = record { state = record new_state { repo = 1; prepared = writing (at 5 0) App (there 0) (number 4) [] ∷ writing (at 6 0) App (there 1) (number 5) [] ∷ [] }; paged = (there 1, number 6) ∷ [] }

abbrev pub both : List Repository
both = coordinator ∷ participant ∷ []
