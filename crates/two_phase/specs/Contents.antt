-- What a repository knows of transactions in two phases (Gray, 1978, presumed abort as by Mohan and others,
-- 1986: what is neither open nor kept was aborted).
use Rattle.std.specs.List.{list_any}
use Rattle.std.specs.Map.{values_of}
use Rattle.std.specs.Ordering.{nat_cmp}
use Rattle.std.specs.Prelude.{Bool, None, Option, Some, cond, false, option_and_then, true}
use Rattle.log_entries.specs.declared.request.Request.{Request}
use Rattle.thor_value.specs.FiniteMap.{Map, empty, get, insert, remove}
use Rattle.thor_value.specs.Names.{same_ts, ts_cmp}
use Rattle.thor_value.specs.declared.names.Ts.{Ts}
use Rattle.two_phase.specs.declared.standing.Standing.TheVariants.{Aborted, Committed, Open}
use Rattle.two_phase.specs.declared.standing.Standing.{Standing}
use Rattle.two_phase.specs.declared.transaction.Transaction.TheVariants as kept
use Rattle.two_phase.specs.declared.transaction.Transaction.{Transaction}

pub record Contents : Type 0 where
  -- the transactions that are open here or whose decision to commit is kept
  pub transactions : Map ts_cmp Transaction
  -- for each client the last of its transactions that committed here alone
  pub alone : Map nat_cmp Ts

-- nothing is known
abbrev pub nothing : Contents
nothing = record { transactions = empty; alone = empty }

-- the request that is open
abbrev pub request_of : Transaction → Option Request
request_of (kept.Open q) = Some q
request_of kept.Kept = None

abbrev pub open_at : Contents → Ts → Option Request
open_at c t = option_and_then request_of (get c.transactions t)

-- whether the decision to commit is kept
abbrev pub is_decision : Transaction → Bool
is_decision (kept.Open q) = false
is_decision kept.Kept = true

abbrev pub keeps : Option Transaction → Bool
keeps (Some k) = is_decision k
keeps None = false

-- whether it is the last one of some client that committed here alone
abbrev pub is_alone : Contents → Ts → Bool
is_alone c t = list_any (same_ts t) (values_of c.alone.pairs)

-- how the transaction t stands
abbrev pub standing_by : Contents → Ts → Option Transaction → Standing
standing_by c t (Some (kept.Open q)) = Open
standing_by c t (Some kept.Kept) = Committed
standing_by c t None = cond (is_alone c t) Committed Aborted

abbrev pub standing : Contents → Ts → Standing
standing c t = standing_by c t (get c.transactions t)

-- the table without t
abbrev pub without : Contents → Ts → Contents
without c t = record c { transactions = remove c.transactions t }

-- the table where the decision to commit t is kept
abbrev pub keeping : Contents → Ts → Contents
keeping c t = record c { transactions = insert c.transactions t kept.Kept }

-- t is decided by its coordinator: a decision to commit is kept
abbrev pub decided : Contents → Ts → Bool → Option Request → Contents
decided c t commit None = c
decided c t true (Some q) = keeping c t
decided c t false (Some q) = without c t

-- t is finished as its coordinator decided
abbrev pub finished : Contents → Ts → Option Request → Contents
finished c t None = c
finished c t (Some q) = without c t
