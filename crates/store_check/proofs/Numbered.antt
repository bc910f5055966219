-- Schemas whose classes and epochs were found to have numbers.
use Rattle.class_defs.specs.Epochs.{classes_of, no_schema}
use Rattle.class_defs.specs.declared.store.Schemas.{Schemas}
use Rattle.class_defs.specs.declared.store.UpgradedSchema.{UpgradedSchema}
use Rattle.store_check.specs.Numbers.{HasNumbers}
use Rattle.store_check.specs.Tests.{numbered}
use Rattle.std.proofs.Common.{◌≡◌, ◌≤◌, ◌<◌, ◌^◌, ℕ, zero, suc, Bool, true, false, cond, List, [], ◌∷◌, length, nat_lt, option_map, refl, slice_get, arith, ◌∙◌}
use Rattle.std.proofs.lemmas.Bool.{ltb-false, both_ways}
use Rattle.std.specs.List.{fold}
use Rattle.std.specs.Prelude.{unwrap_or}

abbrev step : Bool → UpgradedSchema → Bool
step b u = cond (nat_lt 65536 (length u.schema.classes)) false b

-- once it is false it stays so
stays : (us : List UpgradedSchema) → fold step false us ≡ false
stays [] = refl
stays (u ∷ us) = by_test (stays us) (nat_lt 65536 (length u.schema.classes))
  where
    by_test : fold step false us ≡ false → (t : Bool) → fold step (cond t false false) us ≡ false
    by_test h true = h
    by_test h false = h

-- each of these epochs has at most 2^16 classes, where the test says so
abbrev Rest : List UpgradedSchema → Type 0
Rest us = fold step true us ≡ true → (j : ℕ) → length (unwrap_or (option_map (λ v. v.schema) (slice_get us j)) no_schema).classes ≤ 65536

few : (us : List UpgradedSchema) → fold step true us ≡ true → (k : ℕ)
    → length (unwrap_or (option_map (λ u. u.schema) (slice_get us k)) no_schema).classes ≤ 65536
few [] h k = omega arith
few (u ∷ us) h k = by_test (λ g j. few us g j) (nat_lt 65536 (length u.schema.classes)) refl h k
  where
    by_place : Rest us → (length u.schema.classes ≤ 65536) → fold step true us ≡ true → (k : ℕ)
        → length (unwrap_or (option_map (λ v. v.schema) (slice_get (u ∷ us) k)) no_schema).classes ≤ 65536
    by_place rest low g zero = low
    by_place rest low g (suc k) = rest g k

    by_test : Rest us → (t : Bool) → nat_lt 65536 (length u.schema.classes) ≡ t → fold step (cond t false true) us ≡ true → (k : ℕ)
        → length (unwrap_or (option_map (λ v. v.schema) (slice_get (u ∷ us) k)) no_schema).classes ≤ 65536
    by_test rest true e g k = absurd (both_ways _ (stays us) g)
    by_test rest false e g k = by_place rest (ltb-false 65536 (length u.schema.classes) e) g k

each : (s : Schemas) → length s.first.classes ≤ 65536 → numbered s.upgraded ≡ true → (k : ℕ) → length (classes_of s k) ≤ 65536
each s low h zero = low
each s low h (suc k) = few s.upgraded h k

pub has_numbers : (s : Schemas) → length s.first.classes ≤ 65536 → length s.upgraded < 2 ^ 32 → numbered s.upgraded ≡ true → HasNumbers s
has_numbers s low short h = record { classes = each s low h; epochs = short }
