-- Small traces on which the exactness of items is computed.
use Rattle.log_entries.specs.declared.entry.Entry.TheVariants.{Decided, Life}
use Rattle.log_entries.specs.declared.request.Request.{Request}
use Rattle.spec_history.specs.Examples.{at, box, create_z, prepare_x, reading_x, set_x, x}
use Rattle.spec_trace.specs.SessionExamples.{written_since}
use Rattle.spec_trace.specs.Trace.{E, Item, M}
use Rattle.spec_trace.specs.VerdictExamples.{second_reads}
use Rattle.spec_trace.specs.declared.mark.Mark.TheVariants as the
use Rattle.base_reasons.specs.declared.reason.Reason.TheVariants as reasons
use Rattle.repo_refusals.specs.declared.refusal.Refusal.TheVariants as refused
use Rattle.std.specs.Prelude.{Bool, List, Some, [], drop, false, take, true, ◌++◌, ◌∷◌}
use Rattle.thor_value.specs.FiniteMap.{Map, empty, insert}
use Rattle.thor_value.specs.Names.{oref_cmp}
use Rattle.thor_value.specs.declared.names.Ts.{Ts}
use Rattle.thor_value.specs.declared.values.Obj.{Obj}

-- A client connects, draws, and is granted a page, on which it creates an object.
abbrev pub creating : List Item
creating =
    E (Life 1) ∷ M (the.Connected 1 1) ∷ M (the.Drew 1 (at 1)) ∷ M (the.Granted 1 1) ∷ M (the.Took 1 1)
    ∷ E (create_z 1) ∷ []

-- It fetches a page, prepares a transaction that writes there, decides it, and forgets the decision.
abbrev pub deciding : List Item
deciding =
    E (Life 1) ∷ M (the.Connected 1 1) ∷ M (the.Fetched 1 0 1) ∷ M (the.Took 1 1) ∷ M (the.Drew 1 (at 1))
    ∷ E (prepare_x 1 5) ∷ E (Decided (at 1) true) ∷ []

abbrev pub forgetting : List Item
forgetting = deciding ++ M (the.Forgot (at 1)) ∷ []

-- a copy of x is stale, and its reader is told so
abbrev pub refusing : List Item
refusing = written_since ++ M (the.Refused 2 (Some (second_reads 3 0)) (refused.Reason (reasons.Stale x 2))) ∷ []

-- ---- what is owed to the first items of `creating`

abbrev pub opened : List Item
opened = E (Life 1) ∷ M (the.Connected 1 1) ∷ []

-- a page is granted to the second client
abbrev pub granted_to_other : List Item
granted_to_other = opened ++ M (the.Connected 2 2) ∷ M (the.Granted 2 1) ∷ []

abbrev pub restarted : List Item
restarted = opened ++ E (set_x 7 5) ∷ E (Life 2) ∷ []

-- a request of the first client under the second one's session
abbrev pub borrowed : Request
borrowed = record (reading_x 3) { session = 2 }

-- ---- growth by others

-- the second client has fetched page 0 and has a copy of x, and then the first one fetches it, reads x and writes it
abbrev pub fetched : List Item
fetched = take 5 written_since

abbrev pub since_fetched : List Item
since_fetched = drop 5 written_since

abbrev pub copy_of_x : Map oref_cmp Obj
copy_of_x = insert empty x (box 0)

-- no transaction of several participants has committed
abbrev pub nothing_committed : Ts → Bool
nothing_committed t = false
