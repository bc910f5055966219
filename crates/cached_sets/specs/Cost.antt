-- How many steps the calls take that count them.
use Rattle.cached_sets.specs.Invalid.{Invalid}
use Rattle.link_table.specs.Pairs.{lefts}
use Rattle.std.specs.Prelude.{List, length, min, sum_by, ℕ, ◌+◌}
use Rattle.thor_value.specs.FiniteMap.{len}
use Rattle.thor_value.specs.declared.names.Oref.{Oref}

-- to write some objects: for each of them one, and one for each session that may have its page
abbrev pub touch_steps : List (ℕ × ℕ) → List Oref → ℕ
touch_steps cached names = sum_by (λ x. 1 + length (lefts cached x.page)) names

-- to look for some names in a set: at the names or at the set, whichever are fewer
abbrev pub stale_steps : Invalid → List Oref → ℕ
stale_steps m names = min (length names) (len m)
