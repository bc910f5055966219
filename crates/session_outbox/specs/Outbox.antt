-- What waits for each session of a repository, and what the calls of an outbox do to it.
use Rattle.session_outbox.specs.declared.message.Message.{Message}
use Rattle.std.specs.BTreeMap.{is_at}
use Rattle.std.specs.Map.{set_value}
use Rattle.std.specs.Option.{unwrap_or}
use Rattle.std.specs.Ordering.{nat_cmp}
use Rattle.std.specs.Prelude.{List, None, Option, Some, [], drop, ℕ, ◌++◌, ◌∷◌}
use Rattle.thor_value.specs.FiniteMap.{Map, get, insert}

-- the messages that wait for each session, the oldest first
abbrev pub Waiting : Type 0
Waiting = Map nat_cmp (List Message)

-- those of the session s
abbrev pub waiting : Waiting → ℕ → List Message
waiting W s = unwrap_or (get W s) []

-- with other messages for a session that has had some
abbrev pub replace : Waiting → ℕ → List Message → Waiting
replace W s ms = record { pairs = set_value (is_at (nat_cmp s)) W.pairs ms }

abbrev pub pushed_to : Waiting → ℕ → Message → Option (List Message) → Waiting
pushed_to W s m None = insert W s (m ∷ [])
pushed_to W s m (Some ms) = replace W s (ms ++ m ∷ [])

-- with one more message for the session s, which comes last
abbrev pub push : Waiting → ℕ → Message → Waiting
push W s m = pushed_to W s m (get W s)

abbrev pub taken_from : Waiting → ℕ → Option (List Message) → Waiting
taken_from W s None = W
taken_from W s (Some ms) = replace W s (drop 1 ms)

-- without the oldest message for the session s
abbrev pub take : Waiting → ℕ → Waiting
take W s = taken_from W s (get W s)
