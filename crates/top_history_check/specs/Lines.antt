-- The items of a script that entries are of, and the entries without them.
use Rattle.std.specs.List.{AllByRecursion}
use Rattle.std.specs.Prelude.{◌≡◌, ℕ, zero, suc, List, Option, None, Some, option_and_then, slice_get}
use Rattle.thor_value.specs.declared.values.Who.{Who}
use Rattle.serial_model.specs.declared.entries.Did.{Did}
use Rattle.serial_model.specs.declared.entries.What.{What}
use Rattle.top_history_check.specs.declared.assembling.Line.{Line}

-- the element with a number, counted from 1
abbrev pub nth : {X : Type 0} → List X → ℕ → Option X
nth xs zero = None
nth xs (suc n) = slice_get xs n

-- an item, by client and index, both from 1
abbrev pub item_of : List (List What) → Who → Option What
item_of clients who = option_and_then (λ items. nth items who.index) (nth clients who.client)

-- each entry performed the item of the script that it names
abbrev pub ArePerformed : List (List What) → List Did → Type 0
ArePerformed clients history = AllByRecursion (λ d. item_of clients d.who ≡ Some d.what) history

-- an entry without the item that it performed
abbrev pub line_of : Did → Line
line_of d = record { ts = d.ts; who = d.who; number = d.number; fresh = d.fresh; answer = d.answer }
