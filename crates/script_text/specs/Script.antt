-- A script as it is written, part by part, and which tokens have which parts. This project's.
--
-- This says what the parts of a script are without saying how they are found: `split_sections` gives exactly
-- the parts of a script, and where the tokens are none, the first of them that no script goes on with.
use Rattle.std.specs.Prelude.{◌≡◌, ◌≤◌, ◌⊎◌, ℕ, zero, suc, ◌+◌, Bool, true, false, ◌&&◌, List, [], ◌∷◌, ◌++◌, map, Option, Some, None}
use Rattle.std.specs.List.{list_any, list_all, flat_map, count_by}
use Rattle.script_text.specs.declared.token.Token.{Token}
use Rattle.script_text.specs.declared.syntax.Syntax.{Syntax}
use Rattle.script_text.specs.declared.mark.Mark.{Mark}
use Rattle.script_text.specs.declared.mark.Mark.TheVariants as marks
use Rattle.script_text.specs.declared.sections.Sections.{Sections}
use Rattle.script_text.specs.Marks.{mark_of, number_in}
use Rattle.script_text.specs.Sections.{is_none, last_line}

abbrev pub are_none : List Token → Bool
are_none [] = true
are_none (token ∷ tokens) = false

-- what is left to read of an item, by its next token: how many braces are open beside its own, whether the
-- token is the last one, and what holds of those behind it by the braces that are open then
abbrev pub closes_by : Mark → ℕ → Bool → (ℕ → Bool) → Bool
closes_by marks.Open depth last behind = behind (depth + 1)
closes_by marks.Close zero last behind = last
closes_by marks.Close (suc depth) last behind = behind depth
closes_by marks.End depth last behind = behind depth
closes_by marks.Other depth last behind = behind depth
closes_by marks.Setup depth last behind = false
closes_by marks.Client depth last behind = false
closes_by marks.Tx depth last behind = false
closes_by marks.Upgrade depth last behind = false
closes_by marks.Schedule depth last behind = false

-- Whether the last of the tokens, and none before it, closes the item's own brace; besides that, so many
-- braces are open before them. No word that begins a part of a script stands among them.
abbrev pub closes : ℕ → List Token → Bool
closes depth [] = false
closes depth (token ∷ tokens) = closes_by (mark_of token) depth (are_none tokens) (λ d. closes d tokens)

-- the same of a setup, which may end behind a `}` or a `;` where no brace is open
abbrev pub ends_by : Mark → ℕ → (ℕ → Bool → Bool) → Bool
ends_by marks.Open depth behind = behind (depth + 1) false
ends_by marks.Close zero behind = false
ends_by marks.Close (suc depth) behind = behind depth (is_none depth)
ends_by marks.End depth behind = behind depth (is_none depth)
ends_by marks.Other depth behind = behind depth false
ends_by marks.Setup depth behind = false
ends_by marks.Client depth behind = false
ends_by marks.Tx depth behind = false
ends_by marks.Upgrade depth behind = false
ends_by marks.Schedule depth behind = false

-- Whether the setup may end behind the tokens. So many braces are open before them, and it may end there or not.
abbrev pub ends : ℕ → Bool → List Token → Bool
ends depth closed [] = closed
ends depth closed (token ∷ tokens) = ends_by (mark_of token) depth (λ d c. ends d c tokens)

-- the tokens behind the word `setup`: braces are balanced, and the last token is a `}` or a `;` outside of
-- them, or there is none
abbrev pub is_setup : List Token → Bool
is_setup part = ends 0 true part

abbrev pub is_open : Mark → Bool
is_open marks.Open = true
is_open marks.Setup = false
is_open marks.Client = false
is_open marks.Tx = false
is_open marks.Upgrade = false
is_open marks.Schedule = false
is_open marks.Close = false
is_open marks.End = false
is_open marks.Other = false

abbrev pub is_upgrade_word : Mark → Bool
is_upgrade_word marks.Upgrade = true
is_upgrade_word marks.Setup = false
is_upgrade_word marks.Client = false
is_upgrade_word marks.Tx = false
is_upgrade_word marks.Schedule = false
is_upgrade_word marks.Open = false
is_upgrade_word marks.Close = false
is_upgrade_word marks.End = false
is_upgrade_word marks.Other = false

abbrev pub is_item_word : Mark → Bool
is_item_word marks.Tx = true
is_item_word marks.Upgrade = true
is_item_word marks.Setup = false
is_item_word marks.Client = false
is_item_word marks.Schedule = false
is_item_word marks.Open = false
is_item_word marks.Close = false
is_item_word marks.End = false
is_item_word marks.Other = false

-- an item: `tx` or `upgrade`, `{`, and the tokens up to the `}` that closes it
abbrev pub is_item : List Token → Bool
is_item [] = false
is_item (word ∷ []) = false
is_item (word ∷ brace ∷ rest) = is_item_word (mark_of word) && (is_open (mark_of brace) && closes 0 rest)

abbrev pub is_upgrade : List Token → Bool
is_upgrade [] = false
is_upgrade (word ∷ rest) = is_upgrade_word (mark_of word)

abbrev pub has_upgrade : List (List Token) → Bool
has_upgrade items = list_any is_upgrade items

-- the setup as it is written, with its word
pub data Opening : Type 0 where
  NoSetup : Opening
  WithSetup : Token → List Token → Opening

-- the schedule, with its word
pub data Ending : Type 0 where
  NoSchedule : Ending
  WithSchedule : Token → List Token → Ending

-- a client: its word, its number, and its items
pub record Written : Type 0 where
  pub word : Token
  pub number : Token
  pub items : List (List Token)

pub record Script : Type 0 where
  pub opening : Opening
  pub clients : List Written
  pub ending : Ending

abbrev pub opening_tokens : Opening → List Token
opening_tokens NoSetup = []
opening_tokens (WithSetup word part) = word ∷ part

abbrev pub client_tokens : Written → List Token
client_tokens client = client.word ∷ client.number ∷ flat_map (λ item. item) client.items

abbrev pub ending_tokens : Ending → List Token
ending_tokens NoSchedule = []
ending_tokens (WithSchedule word part) = word ∷ part

-- the tokens of a script
abbrev pub tokens_of_script : Script → List Token
tokens_of_script script = opening_tokens script.opening ++ (flat_map client_tokens script.clients ++ ending_tokens script.ending)

abbrev pub setup_in : Opening → Option (List Token)
setup_in NoSetup = None
setup_in (WithSetup word part) = Some part

abbrev pub schedule_in : Ending → List Token
schedule_in NoSchedule = []
schedule_in (WithSchedule word part) = part

-- the parts of a script
abbrev pub parts_of : Script → Sections
parts_of script =
    record { setup = setup_in script.opening; clients = map (λ client. client.items) script.clients; schedule = schedule_in script.ending }

abbrev pub IsOpening : Opening → Type 0
IsOpening NoSetup = Unit {0}
IsOpening (WithSetup word part) = (mark_of word ≡ marks.Setup) × (is_setup part ≡ true)

abbrev pub IsEnding : Ending → Type 0
IsEnding NoSchedule = Unit {0}
IsEnding (WithSchedule word part) = mark_of word ≡ marks.Schedule

-- the client may be the one with the number
pub record IsClient (n : ℕ) (client : Written) : Type 0 where
  pub word : mark_of client.word ≡ marks.Client
  pub number : number_in client.number ≡ Some n
  pub items : list_all is_item client.items ≡ true

-- the clients may be those with this number and the next ones
abbrev pub AreClients : ℕ → List Written → Type 0
AreClients n [] = Unit {0}
AreClients n (client ∷ clients) = IsClient n client × AreClients (n + 1) clients

-- how many clients have upgrades
abbrev pub upgraders : List Written → ℕ
upgraders clients = count_by (λ client. has_upgrade client.items) clients

-- it is a script, but for what stands inside its parts
pub record IsScript (script : Script) : Type 0 where
  pub opening : IsOpening script.opening
  pub clients : AreClients 1 script.clients
  pub ending : IsEnding script.ending
  pub upgrades : upgraders script.clients ≤ 1

-- these are the parts of the tokens
pub record ArePartsOf (tokens : List Token) (parts : Sections) : Type 0 where
  pub script : Script
  pub is : IsScript script
  pub whole : tokens_of_script script ≡ tokens
  pub parts_are : parts ≡ parts_of script

-- a script begins with the tokens
pub record Begin (tokens : List Token) : Type 0 where
  pub more : List Token
  pub parts : Sections
  pub is : ArePartsOf (tokens ++ more) parts

-- The tokens are no script: a script begins with some of them, and none goes on with the next, on that line.
pub record StopAt (tokens : List Token) (fault : Syntax) : Type 0 where
  pub front : List Token
  pub token : Token
  pub behind : List Token
  pub whole : front ++ token ∷ behind ≡ tokens
  pub begin : Begin front
  pub none : (more : List Token) (parts : Sections) → ArePartsOf (front ++ token ∷ more) parts → ⊥
  pub line : fault.line ≡ token.line

-- The tokens are no script, but one begins with them; the fault is at the line of the last one.
pub record EndShort (tokens : List Token) (fault : Syntax) : Type 0 where
  pub begin : Begin tokens
  pub none : (parts : Sections) → ArePartsOf tokens parts → ⊥
  pub line : fault.line ≡ last_line tokens

-- the tokens are no script, and go on to be one up to here
abbrev pub IsFirstFault : List Token → Syntax → Type 0
IsFirstFault tokens fault = StopAt tokens fault ⊎ EndShort tokens fault
