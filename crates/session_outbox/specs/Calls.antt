-- Sequences of calls of an outbox.
use Rattle.session_outbox.specs.Messages.{first}
use Rattle.session_outbox.specs.Outbox as outbox
use Rattle.session_outbox.specs.Outbox.{Waiting, waiting}
use Rattle.session_outbox.specs.declared.message.Message.{Message}
use Rattle.std.specs.Option.{option_to_list}
use Rattle.std.specs.Prelude.{List, [], cond, nat_eq, ℕ, ◌++◌, ◌∷◌}

-- a message for a session comes, or a session takes one
pub data Call : Type 0 where
  Push : ℕ → Message → Call
  Take : ℕ → Call

abbrev pub call : Waiting → Call → Waiting
call W (Push n m) = outbox.push W n m
call W (Take n) = outbox.take W n

-- what waits behind some calls
abbrev pub after : Waiting → List Call → Waiting
after W [] = W
after W (c ∷ cs) = after (call W c) cs

abbrev pub pushed_by : ℕ → Call → List Message
pushed_by s (Push n m) = cond (nat_eq n s) (m ∷ []) []
pushed_by s (Take n) = []

-- the messages for the session s that came, in order
abbrev pub pushed : ℕ → List Call → List Message
pushed s [] = []
pushed s (c ∷ cs) = pushed_by s c ++ pushed s cs

abbrev pub taken_by : ℕ → Waiting → Call → List Message
taken_by s W (Push n m) = []
taken_by s W (Take n) = cond (nat_eq n s) (option_to_list (first (waiting W n))) []

-- the messages that the session s took, in order
abbrev pub taken : ℕ → Waiting → List Call → List Message
taken s W [] = []
taken s W (c ∷ cs) = taken_by s W c ++ taken s (call W c) cs
