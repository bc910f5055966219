-- Which event a name means, alone or with a number behind it. This project's.
use Rattle.std.specs.Prelude.{ℕ, ◌==◌, List, [], ◌∷◌, Option, Some, None, if◌then◌else◌}
use Rattle.schedule.specs.declared.events.EventKind.{EventKind}
use Rattle.schedule.specs.declared.events.EventKind.TheVariants.{Step, Deliver, Flush, Checkpoint, Stop, Restart, Settle, Unknown}
use Rattle.schedule.specs.Numbers.{number_of}

-- a letter and a number: `s`, `f`, `k` or `q`
abbrev pub alone_by : ℕ → Option ℕ → EventKind
alone_by letter None = Unknown
alone_by letter (Some n) =
    if letter == 115 then Step n
    else (if letter == 102 then Flush n
    else (if letter == 107 then Checkpoint n
    else (if letter == 113 then Settle n
    else Unknown)))

-- a letter, a number, and a number behind a point: `d`, `x` or `c`
abbrev pub pair_by : ℕ → Option ℕ → Option ℕ → EventKind
pair_by letter None second = Unknown
pair_by letter (Some n) None = Unknown
pair_by letter (Some n) (Some m) =
    if letter == 100 then Deliver n m
    else (if letter == 120 then Stop n m
    else (if letter == 99 then Restart n m
    else Unknown))

-- what a name alone means
abbrev pub alone : List ℕ → EventKind
alone [] = Unknown
alone (letter ∷ digits) = alone_by letter (number_of digits)

-- what a name means with a number behind it
abbrev pub pair : List ℕ → List ℕ → EventKind
pair [] number = Unknown
pair (letter ∷ digits) number = pair_by letter (number_of digits) (number_of number)
