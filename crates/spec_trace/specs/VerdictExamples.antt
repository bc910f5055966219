-- Small traces and requests on which the verdict is computed. The transactions in the traces are the
-- first session's, and the requests are the second one's.
use Rattle.log_entries.specs.declared.request.Request.{Request}
use Rattle.spec_history.specs.Examples.{at, home, prepare_x, reading_x, setting_x}
use Rattle.spec_history.specs.History.{Base}
use Rattle.spec_trace.specs.SessionExamples.{acknowledged, written_since}
use Rattle.spec_trace.specs.Trace.{E, Item}
use Rattle.spec_trace.specs.Verdict.{verdict}
use Rattle.repo_refusals.specs.Window.{Member, Window}
use Rattle.repo_refusals.specs.declared.refusal.Refusal.{Refusal}
use Rattle.std.specs.List.{range_with_len}
use Rattle.std.specs.Prelude.{Bool, List, Option, [], false, map, ℕ, ◌+◌, ◌++◌, ◌∷◌}
use Rattle.thor_value.specs.Names.{zero_ts}
use Rattle.thor_value.specs.declared.names.Ts.{Ts}

-- the second client reads x, or writes 9 there, at the time n, and knows the places below upto
abbrev pub second_reads : ℕ → ℕ → Request
second_reads n upto = record (reading_x n) { who = record { client = 2; index = 1 }; session = 2; upto = upto }

abbrev pub second_sets : ℕ → ℕ → Request
second_sets n upto = record (setting_x n 9) { who = record { client = 2; index = 1 }; session = 2; upto = upto }

-- the answer to a request of the second client
abbrev pub answer_in : Base → List Item → Request → Option Refusal
answer_in b T q = verdict b T 2 q

-- a base where transactions up to the time 5 have committed
abbrev pub advanced : Base
advanced = record home { top = at 5 }

-- a base whose buffer has this many bytes
abbrev pub with_limit : ℕ → Base
with_limit n = record home { limit = n }

-- another transaction of the first client has prepared a write of x, and is undecided
abbrev pub undecided_since : List Item
undecided_since = written_since ++ E (prepare_x 3 8) ∷ []

-- the same, where the second client has acknowledged the first write
abbrev pub undecided_then : List Item
undecided_then = acknowledged ++ E (prepare_x 3 8) ∷ []

-- the first client's transaction with a greater timestamp prepared a write of x
abbrev pub later_then : List Item
later_then = acknowledged ++ E (prepare_x 9 8) ∷ []

-- a member that reads x, and a window with this many undecided ones behind a first one
abbrev pub member_at : ℕ → Bool → Ts × Member
member_at n decided = (at n, record { decided = decided; request = reading_x n })

-- the same, where the first one's time is t
abbrev pub crowd_at : ℕ → ℕ → Bool → Window
crowd_at t n decided = record { threshold = zero_ts; members = record { pairs = member_at t decided ∷ map (λ k. member_at k false) (range_with_len (t + 1) n) } }

abbrev pub crowd : ℕ → Bool → Window
crowd n decided = crowd_at 0 n decided
