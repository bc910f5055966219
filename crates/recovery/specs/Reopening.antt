-- Logs in which a transaction is prepared that was decided to commit (this project's): no repository writes such a log.
use Rattle.std.specs.List.{list_any}
use Rattle.std.specs.Option.{option_and_then, option_map_or}
use Rattle.std.specs.Prelude.{Bool, List, None, Option, Some, [], false, map, ℕ, ◌||◌, ◌∷◌}
use Rattle.log_entries.specs.declared.entry.Entry.TheVariants.{Decided, Finished, Life, One, Prepared, Upgraded}
use Rattle.log_entries.specs.declared.entry.Entry.{Entry}
use Rattle.log_codec.specs.Checkpoint.{state_format}
use Rattle.log_codec.specs.Format.{value_of}
use Rattle.log_codec.specs.Grammar.{body_format}
use Rattle.log_codec.specs.declared.body.Body.TheVariants.{Entry as AnEntry, Installed}
use Rattle.log_codec.specs.declared.body.Body.{Body}
use Rattle.log_codec.specs.declared.state.State.{State}
use Rattle.log_frame.specs.Log.{Opened}
use Rattle.commit_log.specs.Recovered.{log_in, next, whole}
use Rattle.thor_value.specs.Names.{same_ts}

-- an entry prepares a transaction on which a decision is kept
abbrev pub prepares_kept_in : State → Entry → Bool
prepares_kept_in s (Prepared q) = list_any (same_ts q.tx) s.kept
prepares_kept_in s (Life n) = false
prepares_kept_in s (One q) = false
prepares_kept_in s (Upgraded q) = false
prepares_kept_in s (Decided t commit) = false
prepares_kept_in s (Finished t commit) = false

-- a record does
abbrev pub prepares_kept : State → Body → Bool
prepares_kept s (AnEntry e) = prepares_kept_in s e
prepares_kept s (Installed page side) = false

-- a record does that was read behind others, where they stand for a state
abbrev pub prepares_kept_behind : Option State → Option Body → Bool
prepares_kept_behind (Some s) (Some body) = prepares_kept s body
prepares_kept_behind (Some s) None = false
prepares_kept_behind None body = false

-- the state behind it, where it can come next
abbrev pub put_read : Option State → Option Body → Option State
put_read before body = option_and_then (λ s. option_and_then (next s) body) before

-- of records that were read, one does, behind those before it
abbrev pub reopened : Option State → List (Option Body) → Bool
reopened before [] = false
reopened before (body ∷ bodies) = prepares_kept_behind before body || reopened (put_read before body) bodies

-- of the records of a log one does
abbrev pub reopens_in : Opened → Bool
reopens_in opened = reopened (option_and_then whole (value_of state_format opened.head)) (map (value_of body_format) opened.bodies)

-- of those of the log that counts, by the bytes of a repository's disks
abbrev pub reopens : (ℕ → List ℕ) → Bool
reopens images = option_map_or reopens_in (log_in images) false
