-- Reading the words that stand for names, timestamps and faults.
use Rattle.std.specs.Prelude.{ℕ, List, [], ◌∷◌, codes}
use Rattle.thor_value.specs.declared.names.Oref.{Oref}
use Rattle.thor_value.specs.declared.names.Ts.{Ts}
use Rattle.thor_value.specs.declared.values.Who.{Who}
use Rattle.thor_value.specs.declared.values.Fault.{Fault}
use Rattle.thor_value.specs.declared.values.Fault.TheVariants.{NullCall, Steps, Depth, Large}
use Rattle.report_parse.specs.Reading.{Reading, ◌then◌, made, after_text, only, first_of}
use Rattle.report_parse.specs.Numbers.{u8_at, u32_at, u64_at}

abbrev pub who_by : ℕ × ℕ → Who
who_by x = record { client = x.0; index = x.1 }

unfoldable pub who_at : Reading Who
who_at bytes = made who_by (u8_at then after_text (codes ".") u32_at) bytes

abbrev pub ts_by : ℕ × (ℕ × ℕ) → Ts
ts_by x = record { time = x.0; repo = x.1.0; life = x.1.1 }

unfoldable pub ts_at : Reading Ts
ts_at bytes = made ts_by (u64_at then after_text (codes ".") (u8_at then after_text (codes ".") u32_at)) bytes

abbrev pub oref_by : ℕ × (ℕ × ℕ) → Oref
oref_by x = record { repo = x.0; page = x.1.0; slot = x.1.1 }

unfoldable pub oref_at : Reading Oref
oref_at bytes = made oref_by (u8_at then after_text (codes ".") (u32_at then after_text (codes ".") u8_at)) bytes

abbrev pub faults : List (List ℕ × Reading Fault)
faults = (codes "NullCall", only NullCall) ∷ (codes "Steps", only Steps) ∷ (codes "Depth", only Depth) ∷ (codes "Large", only Large) ∷ []

unfoldable pub fault_at : Reading Fault
fault_at bytes = first_of faults bytes
