-- The page behind all that are written.
use Rattle.std.proofs.Common.{List, [], ◌∷◌, arith, max, ℕ, ◌+◌, ◌<◌, ◌≤◌}
use Rattle.std.specs.List.{AllByRecursion, fold}
use Rattle.log_entries.specs.RequestForm.{WriteFits}
use Rattle.commit_log.specs.Recovered.{page_above}
use Rattle.thor_value.specs.declared.names.Oref.{Oref}
use Rattle.thor_value.specs.declared.values.Obj.{Obj}

one_within : (n page : ℕ) → n ≤ 65536 → page < 65536 → max n (page + 1) ≤ 65536
one_within n page small below = omega (arith, small, below)

pub pages_within : (n : ℕ) (writes : List (Oref × Obj)) → n ≤ 65536 → AllByRecursion WriteFits writes → fold page_above n writes ≤ 65536
pages_within n [] small fit = small
pages_within n (w ∷ ws) small fit = pages_within (page_above n w) ws (one_within n w.0.page small fit.0.0.page) fit.1
