-- The parts of a script, from the first token to the last. This project's.
--
-- What may stand next follows from what was read: a reader holds both, and takes one token after the other.
-- `Script` says the same without a reader.
use Rattle.std.specs.Prelude.{ℕ, zero, suc, ◌+◌, Bool, true, false, ◌||◌, nat_eq, List, [], ◌∷◌, ◌++◌, length, fold, Option, Some, None, if◌then◌else◌}
use Rattle.script_text.specs.declared.token.Token.{Token}
use Rattle.script_text.specs.declared.syntax.Syntax.{Syntax}
use Rattle.script_text.specs.declared.mark.Mark.{Mark}
use Rattle.script_text.specs.declared.mark.Mark.TheVariants as marks
use Rattle.script_text.specs.declared.sections.Sections.{Sections}
use Rattle.script_text.specs.declared.sections.Split.{Split}
use Rattle.script_text.specs.declared.reader.Found.{Found}
use Rattle.script_text.specs.declared.reader.Current.{Current}
use Rattle.script_text.specs.declared.reader.Reader.{Reader}
use Rattle.script_text.specs.declared.reader.Reader.TheVariants.{Start, Setup, Number, Client, Word, Item, Schedule, Stopped}
use Rattle.script_text.specs.Marks.{mark_of, number_in}

-- neither a setup nor a client
abbrev pub nothing : Found
nothing = record { setup = None; clients = []; upgraded = false }

-- a setup alone
abbrev pub with_setup : List Token → Found
with_setup part = record { setup = Some part; clients = []; upgraded = false }

-- the client that was read joins those before it
abbrev pub with_client : Current → Found
with_client current =
    record {
      setup = current.found.setup;
      clients = current.found.clients ++ current.items ∷ [];
      upgraded = current.found.upgraded || current.upgrading;
    }

-- a client behind them, without items
abbrev pub new_client : Found → Current
new_client found = record { found = found; items = []; upgrading = false }

-- a whole item of the client
abbrev pub with_item : Current → List Token → Current
with_item current item = record current { items = current.items ++ item ∷ [] }

-- the client has an upgrade
abbrev pub with_upgrade : Current → Current
with_upgrade current = record current { upgrading = true }

abbrev pub sections_of : Found → List Token → Sections
sections_of found schedule = record { setup = found.setup; clients = found.clients; schedule = schedule }

-- the parts so far, the last of which may be open
abbrev pub so_far : Reader → Sections
so_far Start = sections_of nothing []
so_far (Setup part depth closed) = sections_of (with_setup part) []
so_far (Number found) = sections_of found []
so_far (Client current) = sections_of (with_client current) []
so_far (Word current part) = sections_of (with_client current) []
so_far (Item current part depth) = sections_of (with_client (with_item current part)) []
so_far (Schedule found tokens) = sections_of found tokens
so_far (Stopped sections fault) = sections

-- the token can't stand behind what was read
abbrev pub stop : Reader → Token → Reader
stop reader token = Stopped (so_far reader) (record { line = token.line })

-- nor in the setup; where the setup can't end before the token it takes it
abbrev pub stop_setup : List Token → ℕ → Bool → Token → Reader
stop_setup part depth true token = stop (Setup part depth true) token
stop_setup part depth false token = stop (Setup (part ++ token ∷ []) depth false) token

abbrev pub is_none : ℕ → Bool
is_none n = nat_eq n 0

abbrev pub start_step : Mark → Token → Reader
start_step marks.Setup token = Setup [] 0 true
start_step marks.Client token = Number nothing
start_step marks.Schedule token = Schedule nothing []
start_step marks.Tx token = stop Start token
start_step marks.Upgrade token = stop Start token
start_step marks.Open token = stop Start token
start_step marks.Close token = stop Start token
start_step marks.End token = stop Start token
start_step marks.Other token = stop Start token

abbrev pub setup_step : Mark → List Token → ℕ → Bool → Token → Reader
setup_step marks.Open part depth closed token = Setup (part ++ token ∷ []) (depth + 1) false
setup_step marks.Close part (suc depth) closed token = Setup (part ++ token ∷ []) depth (is_none depth)
setup_step marks.End part depth closed token = Setup (part ++ token ∷ []) depth (is_none depth)
setup_step marks.Other part depth closed token = Setup (part ++ token ∷ []) depth false
setup_step marks.Client part depth true token = Number (with_setup part)
setup_step marks.Schedule part depth true token = Schedule (with_setup part) []
setup_step marks.Client part depth false token = stop_setup part depth false token
setup_step marks.Schedule part depth false token = stop_setup part depth false token
setup_step marks.Close part zero closed token = stop_setup part zero closed token
setup_step marks.Setup part depth closed token = stop_setup part depth closed token
setup_step marks.Tx part depth closed token = stop_setup part depth closed token
setup_step marks.Upgrade part depth closed token = stop_setup part depth closed token

-- clients have the numbers 1, 2, ..
abbrev pub number_step : Option ℕ → Found → Token → Reader
number_step None found token = stop (Number found) token
number_step (Some n) found token = if nat_eq n (length found.clients + 1) then Client (new_client found) else stop (Number found) token

-- one client alone has upgrades
abbrev pub upgrade_step : Bool → Current → Token → Reader
upgrade_step true current token = stop (Client current) token
upgrade_step false current token = Word (with_upgrade current) (token ∷ [])

abbrev pub client_step : Mark → Current → Token → Reader
client_step marks.Tx current token = Word current (token ∷ [])
client_step marks.Upgrade current token = upgrade_step current.found.upgraded current token
client_step marks.Client current token = Number (with_client current)
client_step marks.Schedule current token = Schedule (with_client current) []
client_step marks.Setup current token = stop (Client current) token
client_step marks.Open current token = stop (Client current) token
client_step marks.Close current token = stop (Client current) token
client_step marks.End current token = stop (Client current) token
client_step marks.Other current token = stop (Client current) token

abbrev pub word_step : Mark → Current → List Token → Token → Reader
word_step marks.Open current part token = Item current (part ++ token ∷ []) 0
word_step marks.Setup current part token = stop (Word current part) token
word_step marks.Client current part token = stop (Word current part) token
word_step marks.Tx current part token = stop (Word current part) token
word_step marks.Upgrade current part token = stop (Word current part) token
word_step marks.Schedule current part token = stop (Word current part) token
word_step marks.Close current part token = stop (Word current part) token
word_step marks.End current part token = stop (Word current part) token
word_step marks.Other current part token = stop (Word current part) token

abbrev pub item_step : Mark → Current → List Token → ℕ → Token → Reader
item_step marks.Open current part depth token = Item current (part ++ token ∷ []) (depth + 1)
item_step marks.Close current part zero token = Client (with_item current (part ++ token ∷ []))
item_step marks.Close current part (suc depth) token = Item current (part ++ token ∷ []) depth
item_step marks.End current part depth token = Item current (part ++ token ∷ []) depth
item_step marks.Other current part depth token = Item current (part ++ token ∷ []) depth
item_step marks.Setup current part depth token = stop (Item current (part ++ token ∷ []) depth) token
item_step marks.Client current part depth token = stop (Item current (part ++ token ∷ []) depth) token
item_step marks.Tx current part depth token = stop (Item current (part ++ token ∷ []) depth) token
item_step marks.Upgrade current part depth token = stop (Item current (part ++ token ∷ []) depth) token
item_step marks.Schedule current part depth token = stop (Item current (part ++ token ∷ []) depth) token

-- what was read, with one more token
unfoldable pub step : Reader → Token → Reader
step Start token = start_step (mark_of token) token
step (Setup part depth closed) token = setup_step (mark_of token) part depth closed token
step (Number found) token = number_step (number_in token) found token
step (Client current) token = client_step (mark_of token) current token
step (Word current part) token = word_step (mark_of token) current part token
step (Item current part depth) token = item_step (mark_of token) current part depth token
step (Schedule found tokens) token = Schedule found (tokens ++ token ∷ [])
step (Stopped sections fault) token = Stopped sections fault

-- how many braces are open, beside an item's own
abbrev pub depth_of : Reader → ℕ
depth_of Start = 0
depth_of (Setup part depth closed) = depth
depth_of (Number found) = 0
depth_of (Client current) = 0
depth_of (Word current part) = 0
depth_of (Item current part depth) = depth
depth_of (Schedule found tokens) = 0
depth_of (Stopped sections fault) = 0

-- what was read when the tokens end, on a line
abbrev pub fault_at_end : Reader → ℕ → Option Syntax
fault_at_end Start line = None
fault_at_end (Setup part depth true) line = None
fault_at_end (Setup part depth false) line = Some (record { line = line })
fault_at_end (Number found) line = Some (record { line = line })
fault_at_end (Client current) line = None
fault_at_end (Word current part) line = Some (record { line = line })
fault_at_end (Item current part depth) line = Some (record { line = line })
fault_at_end (Schedule found tokens) line = None
fault_at_end (Stopped sections fault) line = Some fault

-- the line of the last token, or 1
abbrev pub last_line : List Token → ℕ
last_line tokens = fold (λ line token. token.line) 1 tokens

unfoldable pub read : List Token → Reader
read tokens = fold step Start tokens

abbrev pub split_at_end : Reader → ℕ → Split
split_at_end reader line = record { sections = so_far reader; fault = fault_at_end reader line }

-- how far the tokens fall into parts
unfoldable pub split_of : List Token → Split
split_of tokens = split_at_end (read tokens) (last_line tokens)
