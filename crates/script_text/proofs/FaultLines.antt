-- A token that can't stand where it stands gives the fault its line.
use Rattle.std.proofs.Common.{◌≡◌, ℕ, zero, suc, ◌+◌, Bool, true, false, List, Option, Some, None, length, refl}
use Rattle.std.specs.Prelude.{nat_eq, cond}
use Rattle.script_text.specs.declared.token.Token.{Token}
use Rattle.script_text.specs.declared.mark.Mark.{Mark}
use Rattle.script_text.specs.declared.mark.Mark.TheVariants as marks
use Rattle.script_text.specs.declared.reader.Found.{Found}
use Rattle.script_text.specs.declared.reader.Current.{Current}
use Rattle.script_text.specs.declared.reader.Reader.{Reader}
use Rattle.script_text.specs.declared.reader.Reader.TheVariants.{Start, Setup, Number, Client, Word, Item, Schedule, Stopped}
use Rattle.script_text.specs.Marks.{mark_of, number_in}
use Rattle.script_text.specs.Sections.{stop, new_client, start_step, stop_setup, setup_step, number_step, upgrade_step, client_step, word_step, item_step, step}

-- a fault is at the token
abbrev pub IsHere : Reader → Token → Type 0
IsHere Start token = Unit {0}
IsHere (Setup part depth closed) token = Unit {0}
IsHere (Number found) token = Unit {0}
IsHere (Client current) token = Unit {0}
IsHere (Word current part) token = Unit {0}
IsHere (Item current part depth) token = Unit {0}
IsHere (Schedule found tokens) token = Unit {0}
IsHere (Stopped sections fault) token = fault.line ≡ token.line

-- it isn't one
abbrev pub IsLive : Reader → Type 0
IsLive Start = Unit {0}
IsLive (Setup part depth closed) = Unit {0}
IsLive (Number found) = Unit {0}
IsLive (Client current) = Unit {0}
IsLive (Word current part) = Unit {0}
IsLive (Item current part depth) = Unit {0}
IsLive (Schedule found tokens) = Unit {0}
IsLive (Stopped sections fault) = ⊥

start_line : (m : Mark) (token : Token) → IsHere (start_step m token) token
start_line marks.Setup token = tt
start_line marks.Client token = tt
start_line marks.Schedule token = tt
start_line marks.Tx token = refl
start_line marks.Upgrade token = refl
start_line marks.Open token = refl
start_line marks.Close token = refl
start_line marks.End token = refl
start_line marks.Other token = refl

stop_line : (part : List Token) (depth : ℕ) (closed : Bool) (token : Token) → IsHere (stop_setup part depth closed token) token
stop_line part depth true token = refl
stop_line part depth false token = refl

setup_line : (m : Mark) (part : List Token) (depth : ℕ) (closed : Bool) (token : Token) → IsHere (setup_step m part depth closed token) token
setup_line marks.Open part depth closed token = tt
setup_line marks.Close part (suc depth) closed token = tt
setup_line marks.Close part zero closed token = stop_line part zero closed token
setup_line marks.End part depth closed token = tt
setup_line marks.Other part depth closed token = tt
setup_line marks.Client part depth true token = tt
setup_line marks.Client part depth false token = refl
setup_line marks.Schedule part depth true token = tt
setup_line marks.Schedule part depth false token = refl
setup_line marks.Setup part depth closed token = stop_line part depth closed token
setup_line marks.Tx part depth closed token = stop_line part depth closed token
setup_line marks.Upgrade part depth closed token = stop_line part depth closed token

number_line : (n : Option ℕ) (found : Found) (token : Token) → IsHere (number_step n found token) token
number_line None found token = refl
number_line (Some n) found token =
    let P : Bool → Type 0 = λ b. IsHere (cond b (Client (new_client found)) (stop (Number found) token)) token in
    elim (nat_eq n (length found.clients + 1)) as P [ true ↦ tt | false ↦ refl ]

upgrade_line : (b : Bool) (current : Current) (token : Token) → IsHere (upgrade_step b current token) token
upgrade_line true current token = refl
upgrade_line false current token = tt

client_line : (m : Mark) (current : Current) (token : Token) → IsHere (client_step m current token) token
client_line marks.Tx current token = tt
client_line marks.Upgrade current token = upgrade_line current.found.upgraded current token
client_line marks.Client current token = tt
client_line marks.Schedule current token = tt
client_line marks.Setup current token = refl
client_line marks.Open current token = refl
client_line marks.Close current token = refl
client_line marks.End current token = refl
client_line marks.Other current token = refl

word_line : (m : Mark) (current : Current) (part : List Token) (token : Token) → IsHere (word_step m current part token) token
word_line marks.Open current part token = tt
word_line marks.Setup current part token = refl
word_line marks.Client current part token = refl
word_line marks.Tx current part token = refl
word_line marks.Upgrade current part token = refl
word_line marks.Schedule current part token = refl
word_line marks.Close current part token = refl
word_line marks.End current part token = refl
word_line marks.Other current part token = refl

item_line : (m : Mark) (current : Current) (part : List Token) (depth : ℕ) (token : Token) → IsHere (item_step m current part depth token) token
item_line marks.Open current part depth token = tt
item_line marks.Close current part zero token = tt
item_line marks.Close current part (suc depth) token = tt
item_line marks.End current part depth token = tt
item_line marks.Other current part depth token = tt
item_line marks.Setup current part depth token = refl
item_line marks.Client current part depth token = refl
item_line marks.Tx current part depth token = refl
item_line marks.Upgrade current part depth token = refl
item_line marks.Schedule current part depth token = refl

pub step_line : (reader : Reader) (token : Token) → IsLive reader → IsHere (step reader token) token
unfolding step
step_line Start token live = start_line (mark_of token) token
step_line (Setup part depth closed) token live = setup_line (mark_of token) part depth closed token
step_line (Number found) token live = number_line (number_in token) found token
step_line (Client current) token live = client_line (mark_of token) current token
step_line (Word current part) token live = word_line (mark_of token) current part token
step_line (Item current part depth) token live = item_line (mark_of token) current part depth token
step_line (Schedule found tokens) token live = tt
step_line (Stopped sections fault) token live = absurd live
