-- A checkpoint's lists, put into a table one after the other.
use Rattle.std.specs.List.{AllByRecursion}
use Rattle.std.specs.Prelude.{List, [], map, ℕ, ◌++◌, ◌≡◌}
use Rattle.log_entries.specs.RequestForm.{RequestFits}
use Rattle.log_entries.specs.declared.request.Request.{Request}
use Rattle.log_codec.specs.Checkpoint.{StampFits}
use Rattle.thor_value.specs.FiniteMap.{empty}
use Rattle.thor_value.specs.Spelling.{TsFits}
use Rattle.thor_value.specs.declared.names.Ts.{Ts}
use Rattle.two_phase.specs.Contents.{Contents}
use Rattle.two_phase.specs.Lists.{decision_of, kept_decisions, open_requests, those}
use Rattle.two_phase.specs.declared.transaction.Transaction.TheVariants as kept
use Rattle.two_phase.specs.declared.transaction.Transaction.{Transaction}
use Rattle.repo_state.specs.Keeps.{Stands, TableFits}

-- a request as a table has it
abbrev pub as_open : Request → Ts × Transaction
as_open q = (q.tx, kept.Open q)

abbrev pub stamped : Ts → Ts × Unit {0}
stamped t = (t, tt {0})

-- these requests are still to be opened
pub record OpensTo (repo : ℕ) (prepared : List Request) (c : Contents) (rest : List Request) : Type 0 where
  pub pairs : c.transactions.pairs ++ map as_open rest ≡ map as_open prepared
  pub alone : c.alone ≡ empty
  pub each : AllByRecursion (Stands repo) c.transactions.pairs
  pub fit : AllByRecursion RequestFits rest

-- these decisions are still to be kept
pub record KeepsTo (repo : ℕ) (prepared : List Request) (decisions : List Ts) (c : Contents) (rest : List Ts) : Type 0 where
  pub kept : those decision_of c.transactions.pairs ++ map stamped rest ≡ map stamped decisions
  pub opened : open_requests c ≡ prepared
  pub alone : c.alone ≡ empty
  pub fits : TableFits repo c
  pub fit : AllByRecursion TsFits rest

-- these single commits are still to be put
pub record AlonesTo (repo : ℕ) (prepared : List Request) (decisions : List Ts) (singles : List (ℕ × Ts)) (c : Contents) (rest : List (ℕ × Ts)) : Type 0 where
  pub kept : kept_decisions c ≡ decisions
  pub opened : open_requests c ≡ prepared
  pub alone : c.alone.pairs ++ rest ≡ singles
  pub fits : TableFits repo c
  pub fit : AllByRecursion StampFits rest

-- a table of these
abbrev pub IsTableOf : ℕ → List Request → List Ts → List (ℕ × Ts) → Contents → Type 0
IsTableOf repo prepared decisions singles c = AlonesTo repo prepared decisions singles c []
