-- A small trace with two sessions, on which the definitions of sessions are computed. The transactions
-- are of the first session; the second one reads.
use Rattle.log_entries.specs.declared.entry.Entry.TheVariants.{Finished, Life}
use Rattle.spec_history.specs.Examples.{at, home, prepare_far, read_x, set_x, x}
use Rattle.spec_history.specs.History.{Base}
use Rattle.spec_trace.specs.Session.{Notice, Stage, invalid, session, upto_of, waiting}
use Rattle.spec_trace.specs.Trace.{E, Item, M, entries}
use Rattle.spec_trace.specs.declared.mark.Mark.TheVariants as the
use Rattle.spec_trace.specs.declared.kept_item.KeptItem.TheVariants as kept
use Rattle.spec_trace.specs.declared.kept_item.KeptItem.{KeptItem}
use Rattle.std.specs.Option.{option_and_then, option_map}
use Rattle.std.specs.Prelude.{Bool, List, Option, Some, [], false, true, ℕ, ◌++◌, ◌∷◌}
use Rattle.thor_value.specs.Names.{same_ts}
use Rattle.thor_value.specs.declared.names.Ts.{Ts}

-- both clients connect, fetch page 0 and take it, the second one first, and the first one writes x
abbrev pub written_since : List Item
written_since =
    E (Life 1) ∷ M (the.Connected 1 1) ∷ M (the.Connected 2 2) ∷ M (the.Fetched 2 0 1) ∷ M (the.Took 2 1)
    ∷ M (the.Fetched 1 0 1) ∷ M (the.Took 1 1) ∷ E (read_x 1) ∷ E (set_x 2 7) ∷ []

-- the second client takes the invalidation
abbrev pub invalid_taken : List Item
invalid_taken = written_since ++ M (the.Took 2 2) ∷ []

-- and acknowledges it with its next fetch
abbrev pub acknowledged : List Item
acknowledged = invalid_taken ++ M (the.Fetched 2 0 3) ∷ []

-- it connects anew
abbrev pub connected_anew : List Item
connected_anew = written_since ++ M (the.Connected 3 2) ∷ []

-- the repository is restarted
abbrev pub restarted : List Item
restarted = written_since ++ E (Life 2) ∷ []

-- a base whose sessions may leave no news unacknowledged
abbrev pub hasty : Base
hasty = record home { silence = Some 0 }

-- of the second session: how far it has come, what waits for it, what it knows, and where x is invalid
abbrev pub stage_in : Base → List Item → Option Stage
stage_in b T = option_map (λ v. v.stage) (session b T 2)

abbrev pub waiting_in : List Item → Option (List Notice)
waiting_in T = option_map waiting (session home T 2)

abbrev pub known_in : List Item → Option ℕ
known_in T = option_map upto_of (session home T 2)

abbrev pub x_invalid_in : List Item → Option ℕ
x_invalid_in T = option_and_then (λ v. invalid home (entries T) 2 v x) (session home T 2)

-- At repository 1, the first client fetches page 0 and takes it, and writes the object there by a
-- transaction that the other repository coordinates,
abbrev pub own_prepared : List Item
own_prepared = E (Life 1) ∷ M (the.Connected 1 1) ∷ M (the.Fetched 1 0 1) ∷ M (the.Took 1 1) ∷ E (prepare_far 1 7) ∷ []

-- which has committed there,
abbrev pub committed_there : Ts → Bool
committed_there t = same_ts t (at 1)

-- and then here
abbrev pub own_finished : List Item
own_finished = own_prepared ++ E (Finished (at 1) true) ∷ []

-- or it is aborted here, as no sound commit over several repositories lets it be
abbrev pub own_aborted : List Item
own_aborted = own_prepared ++ E (Finished (at 1) false) ∷ []

-- ---- the marks beside a history

abbrev pub kept_marks : List KeptItem
kept_marks =
    kept.Entry 0 ∷ kept.Mark (the.Connected 1 1) ∷ kept.Mark (the.Fetched 1 0 1) ∷ kept.Entry 1 ∷ kept.Mark (the.Took 1 1)
    ∷ kept.Entry 2 ∷ kept.Entry 3 ∷ []
