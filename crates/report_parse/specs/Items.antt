-- Reading the lines of items.
use Rattle.std.specs.Prelude.{ℕ, ℤ, List, [], ◌∷◌, codes}
use Rattle.thor_value.specs.declared.names.Ts.{Ts}
use Rattle.thor_value.specs.declared.values.Who.{Who}
use Rattle.thor_value.specs.declared.values.Fault.{Fault}
use Rattle.serial_model.specs.declared.outcomes.Cause.{Cause}
use Rattle.serial_model.specs.declared.outcomes.Ended.{Ended}
use Rattle.serial_model.specs.declared.outcomes.ItemOutcome.{ItemOutcome}
use Rattle.serial_model.specs.declared.outcomes.ItemOutcome.TheVariants.{Done, Upgraded, Faulted, Refused, Unknown}
use Rattle.report_parse.specs.Reading.{Reading, ◌then◌, made, after_text, before, all_of, first_of}
use Rattle.report_parse.specs.Numbers.{u32_at, spaced_int_at}
use Rattle.report_parse.specs.Words.{who_at, ts_at, fault_at}
use Rattle.report_parse.specs.Causes.{cause_at}

unfoldable pub values_at : Reading (List ℤ)
values_at bytes = all_of spaced_int_at bytes

unfoldable pub tries_at : Reading ℕ
tries_at bytes = after_text (codes " try ") u32_at bytes

-- how often an item was tried, and how it ended
abbrev pub Tried : Type 0
Tried = ℕ × ItemOutcome

-- printed values, or the number of an upgrade
pub data Given : Type 0 where
  Printed : List ℤ → Given
  Numbered : ℕ → Given

abbrev pub answers : List (List ℕ × Reading Given)
answers = (codes " :", made (λ values. Printed values) values_at) ∷ (codes " upgrade ", made (λ number. Numbered number) u32_at) ∷ []

abbrev pub done_by : Ts → ℕ → Given → Tried
done_by ts tries (Printed values) = (tries, Done ts values)
done_by ts tries (Numbered number) = (tries, Upgraded ts number)

abbrev pub done_of : Ts × (ℕ × Given) → Tried
done_of x = done_by x.0 x.1.0 x.1.1

unfoldable pub done_at : Reading (Ts × (ℕ × Given))
done_at bytes = (ts_at then tries_at then first_of answers) bytes

abbrev pub faulted_of : Fault × (Ts × ℕ) → Tried
faulted_of x = (x.1.1, Faulted x.1.0 x.0)

unfoldable pub faulted_at : Reading (Fault × (Ts × ℕ))
faulted_at bytes = (fault_at then after_text (codes " ") (ts_at then tries_at)) bytes

abbrev pub refused_of : Cause × ℕ → Tried
refused_of x = (x.1, Refused x.0)

unfoldable pub refused_at : Reading (Cause × ℕ)
refused_at bytes = (cause_at then tries_at) bytes

abbrev pub unknown_of : Ts → Tried
unknown_of tx = (0, Unknown tx)

abbrev pub outcomes : List (List ℕ × Reading Tried)
outcomes =
    (codes " Done ", made done_of done_at)
    ∷ (codes " Faulted ", made faulted_of faulted_at)
    ∷ (codes " Refused ", made refused_of refused_at)
    ∷ (codes " Unknown ", made unknown_of ts_at)
    ∷ []

unfoldable pub outcome_at : Reading Tried
outcome_at bytes = first_of outcomes bytes

abbrev pub item_of : Who × Tried → Ended
item_of x = record { who = x.0; tries = x.1.0; outcome = x.1.1 }

-- an item's line
unfoldable pub item_at : Reading Ended
item_at bytes = made item_of (before (codes "\n") (who_at then outcome_at)) bytes
