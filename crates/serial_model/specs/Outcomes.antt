-- How outcomes and the serial history belong together (this project's). The items of a script are those of its
-- clients; a client's are numbered from 1, and so are the clients.
use Rattle.std.specs.Prelude.{◌≡◌, ℕ, ◌+◌, ◌<◌, Bool, ◌&&◌, List, [], ◌∷◌, ◌++◌, filter, Contains, ◌⊎◌, ◌==◌}
use Rattle.std.specs.List.{AllByRecursion}
use Rattle.thor_value.specs.declared.names.Oref.{Oref}
use Rattle.thor_value.specs.declared.names.Ts.{Ts}
use Rattle.thor_value.specs.declared.values.Answer.{Answer}
use Rattle.thor_value.specs.declared.values.Answer.TheVariants as answer
use Rattle.thor_value.specs.declared.values.Who.{Who}
use Rattle.serial_model.specs.declared.entries.Did.{Did}
use Rattle.serial_model.specs.declared.entries.What.{What}
use Rattle.serial_model.specs.declared.outcomes.Ended.{Ended}
use Rattle.serial_model.specs.declared.outcomes.ItemOutcome.{ItemOutcome}
use Rattle.serial_model.specs.declared.outcomes.ItemOutcome.TheVariants.{Done, Upgraded, Faulted, Refused, Unknown}

-- an item of a script, with whose it is
pub record Item : Type 0 where
  pub who : Who
  pub what : What

-- the items of a client, the first of which has the number n
abbrev pub items_from : ℕ → ℕ → List What → List Item
items_from client n [] = []
items_from client n (w ∷ ws) = record { who = record { client = client; index = n }; what = w } ∷ items_from client (n + 1) ws

-- the items of the clients, the first of which has the number n
abbrev pub client_items_from : ℕ → List (List What) → List Item
client_items_from n [] = []
client_items_from n (c ∷ cs) = items_from n 1 c ++ client_items_from (n + 1) cs

-- the items of a script, by client and then index
abbrev pub all_items : List (List What) → List Item
all_items clients = client_items_from 1 clients

abbrev pub same_who : Who → Who → Bool
same_who a b = a.client == b.client && a.index == b.index

-- the entries of an item
abbrev pub entries_of : List Did → Who → List Did
entries_of history who = filter (λ d. same_who d.who who) history

-- an item's entry, with this timestamp, number, new names and answer
abbrev pub entry : Item → Ts → ℕ → List Oref → Answer → Did
entry item ts number fresh a = record { ts = ts; who = item.who; what = item.what; number = number; fresh = fresh; answer = a }

-- the history has one entry of the item, with this timestamp, number and answer
abbrev pub HasOne : List Did → Item → Ts → ℕ → Answer → Type 0
HasOne history item ts number a = (fresh : List Oref) × (entries_of history item.who ≡ entry item ts number fresh a ∷ [])

abbrev pub HasNone : List Did → Item → Type 0
HasNone history item = entries_of history item.who ≡ []

-- What the history has of an item that ended so: one that was committed has one entry, with that timestamp and
-- answer; a refused one has none; of one whose outcome is unknown it has none, or one of that transaction.
abbrev pub IsAnswered : List Did → Item → ItemOutcome → Type 0
IsAnswered history item (Done ts ints) = HasOne history item ts 0 (answer.Ints ints)
IsAnswered history item (Faulted ts fault) = HasOne history item ts 0 (answer.Fault fault)
IsAnswered history item (Upgraded ts number) = HasOne history item ts number (answer.Ints [])
IsAnswered history item (Refused cause) = HasNone history item
IsAnswered history item (Unknown tx) = HasNone history item ⊎ ((number : ℕ) × (a : Answer) × HasOne history item tx number a)

-- Answered once: the outcomes are those of the items, in their order, and each item's is that of the history.
abbrev pub AreAnswered : List Did → List Item → List Ended → Type 0
AreAnswered history [] [] = Unit {0}
AreAnswered history [] (e ∷ es) = ⊥
AreAnswered history (i ∷ is) [] = ⊥
AreAnswered history (i ∷ is) (e ∷ es) = (e.who ≡ i.who) × IsAnswered history i e.outcome × AreAnswered history is es

-- every entry is of an item
abbrev pub AreOfItems : List Item → List Did → Type 0
AreOfItems items history = AllByRecursion (λ d. Contains items (record { who = d.who; what = d.what })) history

-- In client order: behind an entry, the entries of the same client are of items with greater numbers.
abbrev pub AreInClientOrder : List Did → Type 0
AreInClientOrder [] = Unit {0}
AreInClientOrder (d ∷ ds) = AllByRecursion (λ e. d.who.client ≡ e.who.client → d.who.index < e.who.index) ds × AreInClientOrder ds

-- the history answers the items so
pub record Answers (history : List Did) (items : List Item) (ended : List Ended) : Type 0 where
  pub once : AreAnswered history items ended
  pub of_items : AreOfItems items history
  pub in_order : AreInClientOrder history
