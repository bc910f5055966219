-- A small run, and the lines that its report has. This project's.
use Rattle.std.specs.Prelude.{ℕ, pos, negsuc, List, [], ◌∷◌, ◌++◌, codes}
use Rattle.std.specs.List.{flat_map}
use Rattle.thor_value.specs.declared.names.Oref.{Oref}
use Rattle.thor_value.specs.declared.names.Ts.{Ts}
use Rattle.thor_value.specs.declared.values.Answer.{Answer}
use Rattle.thor_value.specs.declared.values.Answer.TheVariants.{Ints, Fault}
use Rattle.thor_value.specs.declared.values.Fault.TheVariants.{NullCall}
use Rattle.serial_model.specs.declared.entries.Did.{Did}
use Rattle.serial_model.specs.declared.entries.What.TheVariants.{Tx}
use Rattle.serial_model.specs.declared.outcomes.Ended.{Ended}
use Rattle.serial_model.specs.declared.outcomes.Cause.TheVariants as cause
use Rattle.base_reasons.specs.declared.reason.Reason.TheVariants.{Stale}
use Rattle.serial_model.specs.declared.outcomes.ItemOutcome.{ItemOutcome}
use Rattle.serial_model.specs.declared.outcomes.ItemOutcome.TheVariants.{Done, Upgraded, Faulted, Refused, Unknown}

-- the timestamp that repository 0 draws at a time in its first life
abbrev pub at_time : ℕ → Ts
at_time time = record { time = time; repo = 0; life = 1 }

-- the name of page 1 of repository 0 at a slot
abbrev pub at_slot : ℕ → Oref
at_slot slot = record { repo = 0; page = 1; slot = slot }

-- an item of client 1 that ended at its second try
abbrev pub ended : ℕ → ItemOutcome → Ended
ended index outcome = record { who = record { client = 1; index = index }; tries = 2; outcome = outcome }

-- an entry of client 1
abbrev pub entry : ℕ → ℕ → ℕ → List Oref → Answer → Did
entry time index number fresh answer =
    record { ts = at_time time; who = record { client = 1; index = index }; what = Tx []; number = number; fresh = fresh; answer = answer }

-- an item of each outcome
abbrev pub example_ends : List Ended
example_ends =
    ended 1 (Done (at_time 1) [])
    ∷ ended 2 (Upgraded (at_time 2) 1)
    ∷ ended 3 (Done (at_time 5) (pos 70 ∷ negsuc 6 ∷ []))
    ∷ ended 4 (Faulted (at_time 6) NullCall)
    ∷ ended 5 (Refused (cause.Reason (Stale (at_slot 0) 9)))
    ∷ ended 6 (Unknown (at_time 12))
    ∷ []

-- their history, with an entry of each form
abbrev pub example_history : List Did
example_history =
    entry 1 1 0 (at_slot 0 ∷ at_slot 11 ∷ []) (Ints [])
    ∷ entry 2 2 1 [] (Ints [])
    ∷ entry 5 3 0 [] (Ints (pos 70 ∷ negsuc 6 ∷ []))
    ∷ entry 6 4 0 [] (Fault NullCall)
    ∷ []

-- the lines of their report
abbrev pub example_lines : List (List ℕ)
example_lines =
    codes "1.1 Done 1.0.1 try 2 :"
    ∷ codes "1.2 Done 2.0.1 try 2 upgrade 1"
    ∷ codes "1.3 Done 5.0.1 try 2 : 70 -7"
    ∷ codes "1.4 Faulted NullCall 6.0.1 try 2"
    ∷ codes "1.5 Refused Stale 0.1.0 9 try 2"
    ∷ codes "1.6 Unknown 12.0.1"
    ∷ codes "history"
    ∷ codes "1.0.1 1.1 new 0.1.0 0.1.11 :"
    ∷ codes "2.0.1 1.2 upgrade 1"
    ∷ codes "5.0.1 1.3 : 70 -7"
    ∷ codes "6.0.1 1.4 ! NullCall"
    ∷ codes "end 4"
    ∷ []

-- lines as a text
abbrev pub text_of : List (List ℕ) → List ℕ
text_of lines = flat_map (λ bytes. bytes ++ 10 ∷ []) lines
