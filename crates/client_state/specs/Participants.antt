-- The participants of a transaction (this project's).
use Rattle.client_state.specs.declared.transaction.Sent.{Sent}
use Rattle.client_state.specs.declared.transaction.Transaction.{Transaction}
use Rattle.session_outbox.specs.declared.answers.At.{At}
use Rattle.std.specs.List.{filter}
use Rattle.std.specs.Prelude.{List, [], nat_eq, not, ℕ, ◌∷◌}
use Rattle.thor_value.specs.declared.names.Ts.{Ts}

-- the participants other than one, in their order
abbrev pub others_in : List ℕ → ℕ → List ℕ
others_in participants repo = filter (λ r. not (nat_eq r repo)) participants

-- the participant that decides: the first one; 0 where none is named
abbrev pub first_in : List ℕ → ℕ
first_in [] = 0
first_in (r ∷ rs) = r

-- what is sent of a transaction in a session to be decided
abbrev pub sent_of : Ts → At → Transaction → Sent
sent_of t at transaction = record { ts = t; at = at; meaning = transaction.meaning; participants = transaction.participants }
