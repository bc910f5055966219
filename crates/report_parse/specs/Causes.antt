-- Reading causes.
use Rattle.std.specs.Prelude.{ℕ, List, [], ◌∷◌, codes}
use Rattle.thor_value.specs.declared.names.Oref.{Oref}
use Rattle.thor_value.specs.declared.names.Ts.{Ts}
use Rattle.serial_model.specs.declared.outcomes.Cause.{Cause}
use Rattle.serial_model.specs.declared.outcomes.Cause.TheVariants.{Missing, Down, Calls}
use Rattle.serial_model.specs.declared.outcomes.Cause.TheVariants as cause
use Rattle.base_reasons.specs.declared.reason.Reason.TheVariants.{Stale, Earlier, Later, TooOld, Epoch, Blocked, Gone, Full, ClockEnd}
use Rattle.report_parse.specs.Reading.{Reading, ◌then◌, made, after_text, only, first_of}
use Rattle.report_parse.specs.Numbers.{u8_at, u32_at, u64_at}
use Rattle.report_parse.specs.Words.{oref_at, ts_at}

-- a name and a place
unfoldable pub place_at : Reading (Oref × ℕ)
place_at bytes = (oref_at then after_text (codes " ") u64_at) bytes

-- a timestamp and a name
unfoldable pub ts_with_oref_at : Reading (Ts × Oref)
ts_with_oref_at bytes = (ts_at then after_text (codes " ") oref_at) bytes

abbrev pub other_causes : List (List ℕ × Reading Cause)
other_causes =
    (codes "Epoch ", made (λ n. cause.Reason (Epoch n)) u32_at)
    ∷ (codes "Gone ", made (λ n. cause.Reason (Gone n)) u32_at)
    ∷ (codes "Missing ", made (λ x. Missing x) oref_at)
    ∷ (codes "Down ", made (λ n. Down n) u8_at)
    ∷ (codes "Full ", made (λ n. cause.Reason (Full n)) u32_at)
    ∷ (codes "ClockEnd", only (cause.Reason ClockEnd))
    ∷ (codes "Calls", only Calls)
    ∷ []

abbrev pub causes : List (List ℕ × Reading Cause)
causes =
    (codes "Stale ", made (λ x. cause.Reason (Stale x.0 x.1)) place_at)
    ∷ (codes "Earlier ", made (λ x. cause.Reason (Earlier x.0 x.1)) ts_with_oref_at)
    ∷ (codes "Later ", made (λ x. cause.Reason (Later x.0 x.1)) ts_with_oref_at)
    ∷ (codes "TooOld ", made (λ t. cause.Reason (TooOld t)) ts_at)
    ∷ (codes "Blocked ", made (λ t. cause.Reason (Blocked t)) ts_at)
    ∷ other_causes

unfoldable pub cause_at : Reading Cause
cause_at bytes = first_of causes bytes
