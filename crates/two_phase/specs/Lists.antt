-- The lists of what a table has.
use Rattle.std.specs.List.{filter}
use Rattle.std.specs.Map.{keys_of, values_of}
use Rattle.std.specs.Prelude.{Bool, List, None, Option, Some, [], nat_eq, not, true, ℕ, ◌∷◌}
use Rattle.log_entries.specs.declared.request.Request.{Request}
use Rattle.thor_value.specs.declared.names.Ts.{Ts}
use Rattle.two_phase.specs.Contents.{Contents, request_of}
use Rattle.two_phase.specs.declared.transaction.Transaction.TheVariants as kept
use Rattle.two_phase.specs.declared.transaction.Transaction.{Transaction}

-- a transaction with what there is of it, before others
abbrev pub before_those : {X : Type 0} → Ts → Option X → List (Ts × X) → List (Ts × X)
before_those t (Some x) rest = (t, x) ∷ rest
before_those t None rest = rest

-- the transactions that have something, with it
abbrev pub those : {X : Type 0} → (Transaction → Option X) → List (Ts × Transaction) → List (Ts × X)
those part [] = []
those part (e ∷ es) = before_those e.0 (part e.1) (those part es)

-- that its decision to commit is kept
abbrev pub decision_of : Transaction → Option (Unit {0})
decision_of (kept.Open q) = None
decision_of kept.Kept = Some (tt {0})

-- the requests that are open, by rising timestamp
abbrev pub open_requests : Contents → List Request
open_requests c = values_of (those request_of c.transactions.pairs)

-- the transactions whose decision to commit is kept, rising
abbrev pub kept_decisions : Contents → List Ts
kept_decisions c = keys_of (those decision_of c.transactions.pairs)

-- what isn't open or is coordinated by another repository than this one
abbrev pub stays_without : ℕ → Ts × Transaction → Bool
stays_without repo (t, kept.Open q) = not (nat_eq t.repo repo)
stays_without repo (t, kept.Kept) = true

-- the table without the open requests that a repository coordinates
abbrev pub aborted_of : Contents → ℕ → Contents
aborted_of c repo = record c { transactions = record { pairs = filter (stays_without repo) c.transactions.pairs } }
