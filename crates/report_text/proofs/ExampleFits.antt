-- The law that a report's text tells what it shows speaks of the example too.
use Rattle.std.proofs.Common.{ℕ, ◌<◌, ℤ, pos, negsuc, FitsSigned, List, [], ◌∷◌, refl, arith, All}
use Rattle.std.proofs.lemmas.List.Elements.{All-cons}
use Rattle.std.specs.Int.{w64}
use Rattle.std.proofs.lemmas.Int.{fits_signed_from_abs}
use Rattle.thor_value.specs.declared.names.Oref.{Oref}
use Rattle.thor_value.specs.declared.values.Answer.TheVariants.{Ints, Fault}
use Rattle.thor_value.specs.declared.values.Fault.TheVariants.{NullCall}
use Rattle.serial_model.specs.declared.outcomes.ItemOutcome.{ItemOutcome}
use Rattle.serial_model.specs.declared.outcomes.ItemOutcome.TheVariants.{Done, Upgraded, Faulted, Refused, Unknown}
use Rattle.serial_model.specs.declared.outcomes.Cause.TheVariants as cause
use Rattle.base_reasons.specs.declared.reason.Reason.TheVariants.{Stale}
use Rattle.report_text.specs.Fits.{FitsTs, FitsOref, FitsInts, FitsOutcome}
use Rattle.report_text.specs.Shown.{FitsItem, FitsEntry, IsReported}
use Rattle.report_text.specs.Examples.{at_time, at_slot, ended, entry, example_ends, example_history}

-- a fact of each element, as a tuple
abbrev Each : {X : Type 0} → (X → Type 0) → List X → Type 0
Each P [] = Unit {0}
Each P (x ∷ xs) = P x × Each P xs

all_of : {X : Type 0} (P : X → Type 0) (xs : List X) → Each P xs → All P xs
all_of P [] e = λ k d l. absurd (omega arith)
all_of P (x ∷ xs) e = All-cons P x xs e.0 (all_of P xs e.1)

abbrev Fits64 : ℤ → Type 0
Fits64 z = FitsSigned w64 z

no_values : FitsInts []
no_values = all_of Fits64 [] tt

values_fit : FitsInts (pos 70 ∷ negsuc 6 ∷ [])
values_fit = all_of Fits64 (pos 70 ∷ negsuc 6 ∷ []) (fits_signed_from_abs w64 (pos 70) (omega arith), (fits_signed_from_abs w64 (negsuc 6) (omega arith), tt))

no_names : All FitsOref []
no_names = all_of FitsOref [] tt

item_fits : (index : ℕ) (o : ItemOutcome) → index < 10 → FitsOutcome o → FitsItem (ended index o)
item_fits index o h f = record { who = (omega arith, omega arith); tries = omega arith; outcome = f }

time_fits : (time : ℕ) → time < 100 → FitsTs (at_time time)
time_fits time h = (omega arith, omega arith, omega arith)

slot_fits : (slot : ℕ) → slot < 12 → FitsOref (at_slot slot)
slot_fits slot h = (omega arith, omega arith, omega arith)

ends_fit : All FitsItem example_ends
ends_fit = all_of FitsItem example_ends (
  item_fits 1 (Done (at_time 1) []) (omega arith) (time_fits 1 (omega arith), no_values),
  (
    item_fits 2 (Upgraded (at_time 2) 1) (omega arith) (time_fits 2 (omega arith), omega arith),
    (
      item_fits 3 (Done (at_time 5) (pos 70 ∷ negsuc 6 ∷ [])) (omega arith) (time_fits 5 (omega arith), values_fit),
      (
        item_fits 4 (Faulted (at_time 6) NullCall) (omega arith) (time_fits 6 (omega arith)),
        (
          item_fits 5 (Refused (cause.Reason (Stale (at_slot 0) 9))) (omega arith) (slot_fits 0 (omega arith), omega arith),
          (item_fits 6 (Unknown (at_time 12)) (omega arith) (time_fits 12 (omega arith)), tt),
        ),
      ),
    ),
  ),
)

-- a transaction that printed values
done_fits : (time index : ℕ) (fresh : List Oref) (values : List ℤ) → time < 100 → index < 10 → All FitsOref fresh → FitsInts values
    → FitsEntry (entry time index 0 fresh (Ints values))
done_fits time index fresh values h k f g = record {
  upgrade = λ no. absurd (no refl);
  fault = λ fault e. cc;
  ts = time_fits time h;
  who = (omega arith, omega arith);
  number = omega arith;
  fresh = f;
  answer = g;
}

upgrade_fits : FitsEntry (entry 2 2 1 [] (Ints []))
upgrade_fits = record {
  upgrade = λ no. (refl, refl);
  fault = λ fault e. cc;
  ts = time_fits 2 (omega arith);
  who = (omega arith, omega arith);
  number = omega arith;
  fresh = no_names;
  answer = no_values;
}

fault_fits : FitsEntry (entry 6 4 0 [] (Fault NullCall))
fault_fits = record {
  upgrade = λ no. absurd (no refl);
  fault = λ fault e. refl;
  ts = time_fits 6 (omega arith);
  who = (omega arith, omega arith);
  number = omega arith;
  fresh = no_names;
  answer = tt;
}

names_fit : All FitsOref (at_slot 0 ∷ at_slot 11 ∷ [])
names_fit = all_of FitsOref (at_slot 0 ∷ at_slot 11 ∷ []) (slot_fits 0 (omega arith), (slot_fits 11 (omega arith), tt))

history_fits : All FitsEntry example_history
history_fits = all_of FitsEntry example_history (
  done_fits 1 1 (at_slot 0 ∷ at_slot 11 ∷ []) [] (omega arith) (omega arith) names_fit no_values,
  (
    upgrade_fits,
    (
      done_fits 5 3 [] (pos 70 ∷ negsuc 6 ∷ []) (omega arith) (omega arith) no_names values_fit,
      (fault_fits, tt),
    ),
  ),
)

pub example_fits : IsReported example_ends example_history
example_fits = record { items = ends_fit; entries = history_fits; count = omega arith }
