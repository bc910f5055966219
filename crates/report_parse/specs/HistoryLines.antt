-- Reading the lines of the serial history, and the last line.
use Rattle.std.specs.Prelude.{ℕ, ◌==◌, not, Bool, true, false, ℤ, List, [], ◌∷◌, codes}
use Rattle.thor_value.specs.declared.names.Oref.{Oref}
use Rattle.thor_value.specs.declared.names.Ts.{Ts}
use Rattle.thor_value.specs.declared.values.Who.{Who}
use Rattle.thor_value.specs.declared.values.Fault.{Fault as FaultKind}
use Rattle.thor_value.specs.declared.values.Answer.TheVariants.{Ints, Fault}
use Rattle.report_parse.specs.declared.lines.Effect.{Effect}
use Rattle.report_parse.specs.declared.report.Line.{Line}
use Rattle.report_parse.specs.Reading.{Reading, ◌then◌, made, after_text, before, such_that, all_of, first_of}
use Rattle.report_parse.specs.Numbers.{u32_at, u64_at}
use Rattle.report_parse.specs.Words.{who_at, ts_at, oref_at, fault_at}
use Rattle.report_parse.specs.Items.{values_at}

unfoldable pub spaced_oref_at : Reading Oref
spaced_oref_at bytes = after_text (codes " ") oref_at bytes

abbrev pub has_some : List Oref → Bool
has_some [] = false
has_some (x ∷ xs) = true

-- behind `new`: one name or more, and the printed values
unfoldable pub created_at : Reading (List Oref × List ℤ)
created_at bytes = (such_that has_some (all_of spaced_oref_at) then after_text (codes " :") values_at) bytes

abbrev pub created_of : List Oref × List ℤ → Effect
created_of x = record { number = 0; fresh = x.0; answer = Ints x.1 }

-- behind `upgrade`: its number, which isn't 0
unfoldable pub upgraded_at : Reading ℕ
upgraded_at bytes = such_that (λ n. not (n == 0)) u32_at bytes

abbrev pub upgraded_of : ℕ → Effect
upgraded_of n = record { number = n; fresh = []; answer = Ints [] }

abbrev pub printed_of : List ℤ → Effect
printed_of values = record { number = 0; fresh = []; answer = Ints values }

abbrev pub failed_of : FaultKind → Effect
failed_of fault = record { number = 0; fresh = []; answer = Fault fault }

abbrev pub effects : List (List ℕ × Reading Effect)
effects =
    (codes " :", made printed_of values_at)
    ∷ (codes " new", made created_of created_at)
    ∷ (codes " ! ", made failed_of fault_at)
    ∷ (codes " upgrade ", made upgraded_of upgraded_at)
    ∷ []

unfoldable pub effect_at : Reading Effect
effect_at bytes = first_of effects bytes

abbrev pub line_by : Ts × (Who × Effect) → Line
line_by x = record { ts = x.0; who = x.1.0; number = x.1.1.number; fresh = x.1.1.fresh; answer = x.1.1.answer }

-- the line of an entry
unfoldable pub line_at : Reading Line
line_at bytes = made line_by (before (codes "\n") (ts_at then after_text (codes " ") (who_at then effect_at))) bytes

-- the last line, with the number of lines of the history
unfoldable pub end_at : ℕ → Reading ℕ
end_at count bytes = before (codes "\n") (after_text (codes "end ") (such_that (λ n. n == count) u64_at)) bytes
