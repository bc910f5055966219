-- The summary of a run of the generated script (this project's): how its items ended, and what its sixteen accounts are together.
use Rattle.std.specs.Fmt.{decimal, signed_decimal}
use Rattle.std.specs.Int.{int_wrapping_add, w64}
use Rattle.std.specs.List.{count_by}
use Rattle.std.specs.Prelude.{ℕ, zero, suc, ℤ, pos, Bool, true, false, List, ◌++◌, codes, find, length, Option, option_and_then, unwrap_or}
use Rattle.std.specs.Str.{bytes_eq}
use Rattle.thor_value.specs.FiniteMap.{get}
use Rattle.thor_value.specs.declared.values.Value.TheVariants as value
use Rattle.class_defs.specs.Steps.{number}
use Rattle.class_defs.specs.Upgrades.{field_of_object}
use Rattle.class_defs.specs.declared.classes.Class.{Class}
use Rattle.class_defs.specs.declared.store.Object.{Object}
use Rattle.class_defs.specs.declared.store.Plain.{Plain}
use Rattle.class_defs.specs.declared.store.Root.{Root}
use Rattle.serial_model.specs.declared.outcomes.Ended.{Ended}
use Rattle.serial_model.specs.declared.outcomes.ItemOutcome.{ItemOutcome}
use Rattle.serial_model.specs.declared.outcomes.ItemOutcome.TheVariants.{Done, Upgraded, Faulted, Refused, Unknown}
use Rattle.report_summary.specs.declared.counting.End.{End}
use Rattle.report_summary.specs.declared.counting.End.TheVariants as end

-- ---- how items ended

-- What was committed counts as done: transactions, also those that ended in a fault, and upgrades.
abbrev pub counts_as : End → ItemOutcome → Bool
counts_as end.Done (Done ts answer) = true
counts_as end.Done (Upgraded ts number) = true
counts_as end.Done (Faulted ts fault) = true
counts_as end.Done (Refused cause) = false
counts_as end.Done (Unknown tx) = false
counts_as end.Refused (Done ts answer) = false
counts_as end.Refused (Upgraded ts number) = false
counts_as end.Refused (Faulted ts fault) = false
counts_as end.Refused (Refused cause) = true
counts_as end.Refused (Unknown tx) = false
counts_as end.Unknown (Done ts answer) = false
counts_as end.Unknown (Upgraded ts number) = false
counts_as end.Unknown (Faulted ts fault) = false
counts_as end.Unknown (Refused cause) = false
counts_as end.Unknown (Unknown tx) = true

abbrev pub is_ended : End → Ended → Bool
is_ended end e = counts_as end e.outcome

-- how many items ended so
abbrev pub count_of : End → List Ended → ℕ
count_of end ended = count_by (is_ended end) ended

-- ---- the accounts

abbrev pub root_named : Plain → List ℕ → Option Root
root_named store name = find (λ root. bytes_eq root.name name) store.roots

-- the object of the root with this name
abbrev pub root_object : Plain → List ℕ → Option Object
root_object store name = option_and_then (λ root. get store.objects root.oref) (root_named store name)

-- a root's field n, where the store has these classes; 0 where there is none
abbrev pub balance : List Class → Plain → List ℕ → ℤ
balance classes store name = number (unwrap_or (option_and_then (λ o. field_of_object classes o (codes "n")) (root_object store name)) value.Null)

abbrev pub account_name : ℕ → List ℕ
account_name i = codes "a" ++ decimal i

-- what the first so many accounts are together; sums wrap
abbrev pub sum_of : List Class → Plain → ℕ → ℤ
sum_of classes store zero = pos 0
sum_of classes store (suc i) = int_wrapping_add w64 (sum_of classes store i) (balance classes store (account_name i))

-- what the accounts a0 to a15 are together
unfoldable pub accounts_sum : List Class → Plain → ℤ
accounts_sum classes store = sum_of classes store 16

-- ---- the text

-- the summary of these outcomes and this sum: two lines
unfoldable pub summary_text : List Ended → ℤ → List ℕ
summary_text ended sum =
    codes "items " ++ (decimal (length ended)
    ++ (codes " done " ++ (decimal (count_of end.Done ended)
    ++ (codes " refused " ++ (decimal (count_of end.Refused ended)
    ++ (codes " unknown " ++ (decimal (count_of end.Unknown ended)
    ++ (codes "\nsum " ++ (signed_decimal sum ++ codes "\n")))))))))
