-- Walking over what a table has, rising.
use Rattle.std.specs.List.{filter}
use Rattle.std.specs.Ordering.{is_lt}
use Rattle.std.specs.Prelude.{Bool, List, None, Option, Some, [], true, ◌∷◌}
use Rattle.std.specs.declared.cmp.Ordering.{Ordering}
use Rattle.std.specs.declared.ops.Bound.{Bound}
use Rattle.std.specs.declared.ops.Bound.TheVariants.{Excluded, Unbounded}
use Rattle.log_entries.specs.declared.request.Request.{Request}
use Rattle.thor_value.specs.declared.names.Ts.{Ts}
use Rattle.two_phase.specs.declared.transaction.Transaction.TheVariants as kept
use Rattle.two_phase.specs.declared.transaction.Transaction.{Transaction}

-- whether a key is above another one, where there is one
abbrev pub is_past : {K : Type 0} → (K → K → Ordering) → Option K → K → Bool
is_past cmp None k = true
is_past cmp (Some a) k = is_lt (cmp a k)

-- the pairs whose keys are above one
abbrev pub behind : {K X : Type 0} → (K → K → Ordering) → Option K → List (K × X) → List (K × X)
behind cmp after pairs = filter (λ e. is_past cmp after e.0) pairs

abbrev pub bound_past : {K : Type 0} → Option K → Bound K
bound_past None = Unbounded
bound_past (Some k) = Excluded k

-- the first request that is open
unfoldable pub first_open : List (Ts × Transaction) → Option Request
first_open [] = None
first_open ((t, kept.Open q) ∷ es) = Some q
first_open ((t, kept.Kept) ∷ es) = first_open es

-- the first transaction whose decision to commit is kept
unfoldable pub first_kept : List (Ts × Transaction) → Option Ts
first_kept [] = None
first_kept ((t, kept.Open q) ∷ es) = first_kept es
first_kept ((t, kept.Kept) ∷ es) = Some t
