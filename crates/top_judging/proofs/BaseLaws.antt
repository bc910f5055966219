-- What the schemas of a store's epochs have room for.
use Rattle.std.proofs.Common.{◌≡◌, ◌≤◌, ◌+◌, ◌∙◌, ℕ, suc, List, [], ◌∷◌, length, arith, refl, sym, subst}
use Rattle.class_defs.specs.Applied.{highest, next_number, number_of}
use Rattle.class_defs.specs.Epochs.{schema_of}
use Rattle.class_defs.specs.declared.store.Schema.{Schema}
use Rattle.class_defs.specs.declared.store.Schemas.{Schemas}
use Rattle.class_defs.specs.declared.store.UpgradedSchema.{UpgradedSchema}
use Rattle.script_check.specs.Upgrading.{last_behind, last_schema}
use Rattle.serial_model.specs.Replays.{AreMade}

last_at : (schema : Schema) (us : List UpgradedSchema) → last_behind schema us ≡ schema_of (record { first = schema; upgraded = us }) (length us)
last_at schema [] = refl
last_at schema (u ∷ []) = refl
last_at schema (u ∷ v ∷ us) = last_at u.schema (v ∷ us)

last_is : (s : Schemas) → last_schema s ≡ schema_of s (length s.upgraded)
last_is s = last_at s.first s.upgraded

highest_most : (ks : List ℕ) (n : ℕ) → ((c : ℕ) → number_of ks c ≤ n) → highest ks ≤ n
highest_most [] n h = omega arith
highest_most (k ∷ ks) n h =
    let first : k ≤ n = h 0 in
    let rest : highest ks ≤ n = highest_most ks n (λ c. h (suc c)) in
    omega arith

-- the last schema has few classes
pub classes_few : (s : Schemas) (schema : Schema) → schema ≡ last_schema s → AreMade s → length schema.classes ≤ 65536
classes_few s schema is made =
    let P : Schema → Type 0 = λ w. length w.classes ≤ 65536 in
    subst P (sym (is ∙ last_is s)) (made.few (length s.upgraded))

-- and there are numbers for all upgrades that a script may have
pub numbers_few : (s : Schemas) (schema : Schema) (upgrades : ℕ) → schema ≡ last_schema s → AreMade s → length s.upgraded ≤ 1000 → upgrades ≤ 1000 → next_number schema.upgraded + upgrades ≤ 4294967296
numbers_few s schema upgrades is made epochs few =
    let P : Schema → Type 0 = λ w. highest w.upgraded ≤ length s.upgraded in
    let most : highest schema.upgraded ≤ length s.upgraded = subst P (sym (is ∙ last_is s)) (highest_most (schema_of s (length s.upgraded)).upgraded (length s.upgraded) (made.past (length s.upgraded))) in
    omega arith
