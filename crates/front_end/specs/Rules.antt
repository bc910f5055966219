-- Which of the rules of a step are not counted, and when the last one comes (this project's).
use Rattle.client_state.specs.Links.{NoneAwaits, NoneIsBehind}
use Rattle.client_state.specs.Moving.{InSession}
use Rattle.client_state.specs.declared.held.Held.{Held}
use Rattle.front_end.specs.declared.client.Client.{Client}
use Rattle.front_end.specs.declared.rule.Counted.TheVariants as counted
use Rattle.front_end.specs.declared.rule.Counted.{Counted}
use Rattle.front_end.specs.declared.rule.Rule.{Rule}
use Rattle.front_end.specs.declared.rule.Rule.TheVariants as rules
use Rattle.std.specs.Prelude.{Bool, None, false, true, ℕ, ◌≡◌}

-- the client asks for its own transaction
abbrev pub asks : Rule → Bool
asks (rules.Counted rule) = false
asks rules.Ask = true
asks rules.HandOn = false

-- a verdict is handed on
abbrev pub hands_on : Rule → Bool
hands_on (rules.Counted rule) = false
hands_on rules.Ask = false
hands_on rules.HandOn = true

-- a call of a try goes on with it
abbrev pub goes_on_by : Counted → Bool
goes_on_by (counted.Await at) = false
goes_on_by (counted.CatchUp at) = false
goes_on_by (counted.Help helping) = false
goes_on_by counted.GoOn = true

-- the try goes on
abbrev pub goes_on : Rule → Bool
goes_on (rules.Counted rule) = goes_on_by rule
goes_on rules.Ask = false
goes_on rules.HandOn = false

-- A message is taken in a session that there is, and no reply is outstanding where the try goes on.
abbrev pub MayFollow : Counted → Held → Type 0
MayFollow (counted.Await at) held = InSession at held
MayFollow (counted.CatchUp at) held = InSession at held
MayFollow (counted.Help helping) held = Unit {0}
MayFollow counted.GoOn held = NoneAwaits 8 held.links.items

-- the same of any rule
abbrev pub Follows : Rule → Held → Type 0
Follows (rules.Counted rule) held = MayFollow rule held
Follows rules.Ask held = Unit {0}
Follows rules.HandOn held = Unit {0}

-- Nothing holds the try of a client of this epoch back: no reply is outstanding, behind each refusal the messages were taken
-- that it had to take, and no transaction of another's is to be helped on.
pub record NothingHoldsBack (epoch : ℕ) (c : Client) : Type 0 where
  pub awaited : NoneAwaits 8 c.held.links.items
  pub behind : NoneIsBehind 8 epoch c.held.links.items
  pub helping : c.duties.helping ≡ None
