-- One token opens one brace at most.
use Rattle.std.proofs.Common.{ℕ, zero, suc, ◌+◌, ◌≤◌, Bool, true, false, List, Option, Some, None, length, arith}
use Rattle.std.specs.Prelude.{nat_eq, cond}
use Rattle.script_text.specs.declared.token.Token.{Token}
use Rattle.script_text.specs.declared.mark.Mark.{Mark}
use Rattle.script_text.specs.declared.mark.Mark.TheVariants as marks
use Rattle.script_text.specs.declared.reader.Found.{Found}
use Rattle.script_text.specs.declared.reader.Current.{Current}
use Rattle.script_text.specs.declared.reader.Reader.{Reader}
use Rattle.script_text.specs.declared.reader.Reader.TheVariants.{Start, Setup, Number, Client, Word, Item, Schedule, Stopped}
use Rattle.script_text.specs.Marks.{mark_of, number_in}
use Rattle.script_text.specs.Sections.{stop, new_client, start_step, stop_setup, setup_step, number_step, upgrade_step, client_step, word_step, item_step, step, depth_of}

start_depth : (m : Mark) (token : Token) → depth_of (start_step m token) ≤ 1
start_depth marks.Setup token = omega arith
start_depth marks.Client token = omega arith
start_depth marks.Schedule token = omega arith
start_depth marks.Tx token = omega arith
start_depth marks.Upgrade token = omega arith
start_depth marks.Open token = omega arith
start_depth marks.Close token = omega arith
start_depth marks.End token = omega arith
start_depth marks.Other token = omega arith

stop_depth : (part : List Token) (depth : ℕ) (closed : Bool) (token : Token) → depth_of (stop_setup part depth closed token) ≤ depth + 1
stop_depth part depth true token = omega arith
stop_depth part depth false token = omega arith

setup_depth : (m : Mark) (part : List Token) (depth : ℕ) (closed : Bool) (token : Token) → depth_of (setup_step m part depth closed token) ≤ depth + 1
setup_depth marks.Open part depth closed token = omega arith
setup_depth marks.Close part (suc depth) closed token = omega arith
setup_depth marks.Close part zero closed token = stop_depth part zero closed token
setup_depth marks.End part depth closed token = omega arith
setup_depth marks.Other part depth closed token = omega arith
setup_depth marks.Client part depth true token = omega arith
setup_depth marks.Client part depth false token = omega arith
setup_depth marks.Schedule part depth true token = omega arith
setup_depth marks.Schedule part depth false token = omega arith
setup_depth marks.Setup part depth closed token = stop_depth part depth closed token
setup_depth marks.Tx part depth closed token = stop_depth part depth closed token
setup_depth marks.Upgrade part depth closed token = stop_depth part depth closed token

number_depth : (n : Option ℕ) (found : Found) (token : Token) → depth_of (number_step n found token) ≤ 1
number_depth None found token = omega arith
number_depth (Some n) found token =
    let P : Bool → Type 0 = λ b. depth_of (cond b (Client (new_client found)) (stop (Number found) token)) ≤ 1 in
    elim (nat_eq n (length found.clients + 1)) as P [ true ↦ omega arith | false ↦ omega arith ]

upgrade_depth : (b : Bool) (current : Current) (token : Token) → depth_of (upgrade_step b current token) ≤ 1
upgrade_depth true current token = omega arith
upgrade_depth false current token = omega arith

client_depth : (m : Mark) (current : Current) (token : Token) → depth_of (client_step m current token) ≤ 1
client_depth marks.Tx current token = omega arith
client_depth marks.Upgrade current token = upgrade_depth current.found.upgraded current token
client_depth marks.Client current token = omega arith
client_depth marks.Schedule current token = omega arith
client_depth marks.Setup current token = omega arith
client_depth marks.Open current token = omega arith
client_depth marks.Close current token = omega arith
client_depth marks.End current token = omega arith
client_depth marks.Other current token = omega arith

word_depth : (m : Mark) (current : Current) (part : List Token) (token : Token) → depth_of (word_step m current part token) ≤ 1
word_depth marks.Open current part token = omega arith
word_depth marks.Setup current part token = omega arith
word_depth marks.Client current part token = omega arith
word_depth marks.Tx current part token = omega arith
word_depth marks.Upgrade current part token = omega arith
word_depth marks.Schedule current part token = omega arith
word_depth marks.Close current part token = omega arith
word_depth marks.End current part token = omega arith
word_depth marks.Other current part token = omega arith

item_depth : (m : Mark) (current : Current) (part : List Token) (depth : ℕ) (token : Token) → depth_of (item_step m current part depth token) ≤ depth + 1
item_depth marks.Open current part depth token = omega arith
item_depth marks.Close current part zero token = omega arith
item_depth marks.Close current part (suc depth) token = omega arith
item_depth marks.End current part depth token = omega arith
item_depth marks.Other current part depth token = omega arith
item_depth marks.Setup current part depth token = omega arith
item_depth marks.Client current part depth token = omega arith
item_depth marks.Tx current part depth token = omega arith
item_depth marks.Upgrade current part depth token = omega arith
item_depth marks.Schedule current part depth token = omega arith

pub step_depth : (reader : Reader) (token : Token) → depth_of (step reader token) ≤ depth_of reader + 1
unfolding step
step_depth Start token = start_depth (mark_of token) token
step_depth (Setup part depth closed) token = setup_depth (mark_of token) part depth closed token
step_depth (Number found) token = number_depth (number_in token) found token
step_depth (Client current) token = client_depth (mark_of token) current token
step_depth (Word current part) token = word_depth (mark_of token) current part token
step_depth (Item current part depth) token = item_depth (mark_of token) current part depth token
step_depth (Schedule found tokens) token = omega arith
step_depth (Stopped sections fault) token = omega arith
