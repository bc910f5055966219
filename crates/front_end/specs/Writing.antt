-- What a client's try has written (this project's).
use Rattle.client_state.specs.Writing.{PhaseWrites}
use Rattle.front_end.specs.declared.client.Client.{Client}
use Rattle.std.specs.Coded.{Coded-set, coded_option}
use Rattle.thor_value.specs.contracts.values.Obj as obj

-- Where a transaction was evaluated and nothing of it is sent yet, the client's try has written what it writes.
abbrev pub ClientWrites : Client → Type 0
ClientWrites c = PhaseWrites c.phase c.held.cache.cache

pub ClientWrites-prop : (c : Client) → IsProp (ClientWrites c)
ClientWrites-prop c = λ a b i. record { all = λ shares e x. Coded-set (coded_option obj.the_row.coded) _ _ (a.all shares e x) (b.all shares e x) i }
