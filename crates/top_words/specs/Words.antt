-- The words of the program and what they ask for (this project's).
use Rattle.std.specs.List.{list_all, position}
use Rattle.std.specs.Prelude.{◌≡◌, ℕ, ◌+◌, ◌&&◌, ◌||◌, ◌==◌, nat_le, Option, Some, None, Result, Ok, Err, option_and_then, option_map, List, [], ◌∷◌, length, codes, if◌then◌else◌, take, drop, is_some, unwrap_or}
use Rattle.std.specs.Str.{bytes_eq, is_utf8}
use Rattle.script_text.specs.Numbers.{digits_value}
use Rattle.top_words.specs.declared.command.Command.{Command}
use Rattle.top_words.specs.declared.command.Command.TheVariants.{Audit, Check, Play, Run, Gen}
use Rattle.top_words.specs.declared.command.Given.{Given}
use Rattle.top_words.specs.declared.command.Plan.{Plan}
use Rattle.top_words.specs.declared.command.WordsFault.{WordsFault}
use Rattle.top_words.specs.declared.command.WordsFault.TheVariants as fault

-- a number is one to nine digits
abbrev pub number_of : List ℕ → Option ℕ
number_of word = if nat_le 1 (length word) && nat_le (length word) 9 then digits_value 999999999 word else None

abbrev pub within : ℕ → Option ℕ → Option ℕ
within greatest None = None
within greatest (Some number) = if nat_le 1 number && nat_le number greatest then Some number else None

-- a number from 1 on
abbrev pub number_within : ℕ → List ℕ → Option ℕ
number_within greatest word = within greatest (number_of word)

-- a folder's name isn't empty and doesn't begin with `-`
abbrev pub folder_of : List ℕ → Option (List ℕ)
folder_of [] = None
folder_of (byte ∷ bytes) = if byte == 45 then None else Some (byte ∷ bytes)

-- what an option is given as, where it wasn't given before
abbrev pub once : {X : Type 0} → Option X → Option X → Option X
once None new = new
once (Some old) new = None

abbrev pub with_tries : Given → Option ℕ → Option Given
with_tries given found = option_map (λ n. record given { tries = Some n }) (once given.tries found)

abbrev pub with_mob : Given → Option ℕ → Option Given
with_mob given found = option_map (λ n. record given { mob = Some n }) (once given.mob found)

abbrev pub with_cache : Given → Option ℕ → Option Given
with_cache given found = option_map (λ n. record given { cache = Some n }) (once given.cache found)

abbrev pub with_repos : Given → Option ℕ → Option Given
with_repos given found = option_map (λ n. record given { repos = Some n }) (once given.repos found)

abbrev pub with_store : Given → Option (List ℕ) → Option Given
with_store given found = option_map (λ folder. record given { store = Some folder }) (once given.store found)

-- what was given, with one more option, by its name and with its value
abbrev pub with_option : Given → List ℕ → List ℕ → Option Given
with_option given name value =
    if bytes_eq name (codes "--tries") then with_tries given (number_within 100 value)
    else (if bytes_eq name (codes "--mob") then with_mob given (number_within 16777216 value)
    else (if bytes_eq name (codes "--cache") then with_cache given (number_within 4096 value)
    else (if bytes_eq name (codes "--repos") then with_repos given (number_within 8 value)
    else (if bytes_eq name (codes "--store") then with_store given (folder_of value)
    else None))))

-- where a word has its first `=`
abbrev pub equals_at : List ℕ → Option ℕ
equals_at word = position (λ byte. byte == 61) word

-- what was given, with an option that is one word: its name, `=` and its value
abbrev pub with_joined : Given → List ℕ → ℕ → Option Given
with_joined given word place = with_option given (take place word) (drop (place + 1) word)

abbrev pub either_way : Option ℕ → (ℕ → Option Given) → Option Given → Option Given
either_way None joined apart = apart
either_way (Some place) joined apart = joined place

-- what was given, with the options of these words: each is one word or two
abbrev pub with_options : Given → List (List ℕ) → Option Given
with_options given [] = Some given
with_options given (word ∷ []) = option_and_then (with_joined given word) (equals_at word)
with_options given (word ∷ value ∷ words) =
    either_way (equals_at word)
    (λ place. option_and_then (λ more. with_options more (value ∷ words)) (with_joined given word place))
    (option_and_then (λ more. with_options more words) (with_option given word value))

abbrev pub none_given : Given
none_given = record { tries = None; mob = None; cache = None; repos = None; store = None }

-- the plan of a command, by its options; where one isn't given, the usual number
abbrev pub plan_by : Command → Given → Plan
plan_by command given = record {
  command = command;
  repos = unwrap_or given.repos 1;
  store = given.store;
  tries = unwrap_or given.tries 16;
  mob = unwrap_or given.mob 1048576;
  cache = unwrap_or given.cache 64;
}

-- `check` takes the repositories and the folder alone, `audit` the repositories alone
abbrev pub plan_for : Command → Given → Option Plan
plan_for Play given = Some (plan_by Play given)
plan_for Run given = Some (plan_by Run given)
plan_for (Gen n) given = Some (plan_by (Gen n) given)
plan_for Check given = if is_some given.tries || is_some given.mob || is_some given.cache then None else Some (plan_by Check given)
plan_for Audit given = if is_some given.tries || is_some given.mob || is_some given.cache || is_some given.store then None else Some (plan_by Audit given)

-- the plan of a command behind which these words are the options
abbrev pub plan_with : Command → List (List ℕ) → Option Plan
plan_with command words = option_and_then (plan_for command) (with_options none_given words)

abbrev pub command_named : List ℕ → Option Command
command_named word =
    if bytes_eq word (codes "check") then Some Check
    else (if bytes_eq word (codes "play") then Some Play
    else (if bytes_eq word (codes "run") then Some Run
    else (if bytes_eq word (codes "audit") then Some Audit else None)))

-- `gen` is followed by one number, 1 to 1,000, and then by the options
abbrev pub plan_of_gen : List (List ℕ) → Option Plan
plan_of_gen [] = None
plan_of_gen (number ∷ words) = option_and_then (λ n. plan_with (Gen n) words) (number_within 1000 number)

-- what the words ask for, where they are the program's: a command and its options, all of them UTF-8
abbrev pub plan_of_words : List (List ℕ) → Option Plan
plan_of_words [] = None
plan_of_words (word ∷ words) =
    if bytes_eq word (codes "gen") then plan_of_gen words
    else option_and_then (λ command. plan_with command words) (command_named word)

abbrev pub plan_of : List (List ℕ) → Option Plan
plan_of words = if list_all is_utf8 words then plan_of_words words else None

-- what a reader of words answers
abbrev pub Gives : {X : Type 0} → Option X → Result X WordsFault → Type 0
Gives wanted (Ok x) = wanted ≡ Some x
Gives wanted (Err fault.Words) = wanted ≡ None
Gives wanted (Err fault.NoMemory) = Unit {0}
