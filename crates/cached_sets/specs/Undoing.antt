-- How marks are taken back. No public clause cites this module.
use Rattle.cached_sets.specs.Invalid.{Invalid, Invalids, change, replace}
use Rattle.cached_sets.specs.declared.marked.Marked.{Marked}
use Rattle.std.specs.Prelude.{List, None, Option, Some, [], ℕ, ◌∷◌}
use Rattle.thor_value.specs.FiniteMap.{remove}
use Rattle.thor_value.specs.declared.names.Oref.{Oref}

-- with what x had before
abbrev pub put_back : Invalid → Oref → Option ℕ → Invalid
put_back m x None = remove m x
put_back m x (Some k) = replace m x k

-- before one mark
abbrev pub unmark : Invalids → Marked → Invalids
unmark N t = change N t.session (λ m. put_back m t.oref t.before)

-- before all of them, which are in order
abbrev pub undo : Invalids → List Marked → Invalids
undo N [] = N
undo N (t ∷ ts) = unmark (undo N ts) t
