-- When schemas are as upgrades make them.
use Rattle.std.proofs.Common.{◌≡◌, ◌≤◌, ℕ, zero, suc, ◌+◌, Bool, true, false, nat_le, IsTrue, List, [], ◌∷◌, length, Option, Some, None, option_map, unwrap_or, slice_get, refl, ap, sym, subst, ◌∙◌, arith}
use Rattle.std.proofs.lemmas.Bool.Decides.{nat_tests}
use Rattle.std.proofs.lemmas.List.{length-map}
use Rattle.std.proofs.lemmas.Option.{slice_get_past, same_Some}
use Rattle.std.proofs.lemmas.Bool.{and_parts}
use Rattle.std.specs.List.{list_all}
use Rattle.std.specs.Prelude.{nat_lt}
use Rattle.class_defs.proofs.NumbersBehind.{highest_below, number_below as number_at_most}
use Rattle.class_defs.specs.Applied.{applied, class_behind, highest, next_number, number_of, said_of}
use Rattle.class_defs.specs.declared.store.Schema.{Schema}
use Rattle.class_defs.specs.declared.store.Schemas.{Schemas}
use Rattle.class_defs.specs.declared.store.UpgradedSchema.{UpgradedSchema}
use Rattle.class_defs.specs.declared.upgrades.Upgrade.{Upgrade}
use Rattle.class_defs.specs.Epochs.{no_schema, schema_of}
use Rattle.serial_model.specs.Replays.{AreApplied, AreMade, are_made, is_made, made_from}
use Rattle.serial_model.specs.Whole.{IsFirst}

le_true : (a b : ℕ) → a ≤ b → nat_le a b ≡ true
le_true a b h = grind (arith, nat_tests)

true_le : (a b : ℕ) → nat_le a b ≡ true → a ≤ b
true_le a b h = grind (arith, nat_tests)

-- a number of a class isn't above the greatest
number_below : (n : ℕ) (ks : List ℕ) → list_all (λ k. nat_le k n) ks ≡ true → (c : ℕ) → unwrap_or (slice_get ks c) 0 ≤ n
number_below n [] h c = omega arith
number_below n (k ∷ ks) h zero = true_le k n (and_parts (nat_le k n) _ h).0
number_below n (k ∷ ks) h (suc c) = number_below n ks (and_parts (nat_le k n) _ h).1 c

numbers_below : (n : ℕ) (ks : List ℕ) → ((c : ℕ) → unwrap_or (slice_get ks c) 0 ≤ n) → list_all (λ k. nat_le k n) ks ≡ true
numbers_below n [] h = refl
numbers_below n (k ∷ ks) h = rw (le_true k n (h zero)) (numbers_below n ks (λ c. h (suc c)))

-- a schema as upgrades make it at an epoch
record IsMade (schema : Schema) (n : ℕ) : Type 0 where
  few : length schema.classes ≤ 65536
  past : (c : ℕ) → number_of schema.upgraded c ≤ n

told_made : (schema : Schema) (n : ℕ) → is_made schema n ≡ true → IsMade schema n
told_made schema n h =
    let b : (nat_le (length schema.classes) 65536 ≡ true) × (list_all (λ k. nat_le k n) schema.upgraded ≡ true) = and_parts (nat_le (length schema.classes) 65536) _ h in
    record { few = true_le (length schema.classes) 65536 b.0; past = number_below n schema.upgraded b.1 }

made_told : (schema : Schema) (n : ℕ) → IsMade schema n → is_made schema n ≡ true
made_told schema n m = rw (le_true (length schema.classes) 65536 m.few) (numbers_below n schema.upgraded m.past)

raised : (schema : Schema) (m n : ℕ) → m ≤ n → IsMade schema m → IsMade schema n
raised schema m n le h = record { few = h.few; past = λ c. let p : number_of schema.upgraded c ≤ m = h.past c in omega (arith, le, p) }

none_made : (n : ℕ) → IsMade no_schema n
none_made n = record { few = omega arith; past = λ c. omega arith }

-- ---- those behind upgrades

made_at : (m : ℕ) (us : List UpgradedSchema) → made_from m us ≡ true → (n : ℕ) (u : UpgradedSchema) → slice_get us n ≡ Some u → IsMade u.schema (m + n)
made_at m [] h n u e = cc
made_at m (x ∷ us) h zero u e =
    let P : UpgradedSchema → Type 0 = λ y. IsMade y.schema (m + zero) in
    subst P (same_Some _ _ e) (raised x.schema m (m + zero) (omega arith) (told_made x.schema m (and_parts (is_made x.schema m) _ h).0))
made_at m (x ∷ us) h (suc n) u e =
    raised u.schema (m + 1 + n) (m + suc n) (omega arith) (made_at (m + 1) us (and_parts (is_made x.schema m) _ h).1 n u e)

all_made : (m : ℕ) (us : List UpgradedSchema) → ((n : ℕ) (u : UpgradedSchema) → slice_get us n ≡ Some u → IsMade u.schema (m + n)) → made_from m us ≡ true
all_made m [] h = refl
all_made m (x ∷ us) h =
    rw (made_told x.schema m (raised x.schema (m + zero) m (omega arith) (h zero x refl)))
    (all_made (m + 1) us (λ n u e. raised u.schema (m + suc n) (m + 1 + n) (omega arith) (h (suc n) u e)))

-- ---- all of them

module _ (s : Schemas) where
  from_test : is_made s.first 0 ≡ true → made_from 1 s.upgraded ≡ true → (n : ℕ) → IsMade (schema_of s n) n
  from_test first others zero = told_made s.first 0 first
  from_test first others (suc n) = by (slice_get s.upgraded n) refl
    where
      by : (o : Option UpgradedSchema) → slice_get s.upgraded n ≡ o → IsMade (unwrap_or (option_map (λ u. u.schema) o) no_schema) (suc n)
      by None e = none_made (suc n)
      by (Some u) e = raised u.schema (1 + n) (suc n) (omega arith) (made_at 1 s.upgraded others n u e)

  tested : AreMade s → are_made s ≡ true
  tested h =
      rw (made_told s.first 0 (record { few = h.few 0; past = h.past 0 }))
      (all_made 1 s.upgraded (λ n u e.
      let is : schema_of s (suc n) ≡ u.schema = ap (λ (o : Option UpgradedSchema). unwrap_or (option_map (λ u. u.schema) o) no_schema) e in
      let P : Schema → Type 0 = λ a. IsMade a (1 + n) in
      subst P is (raised (schema_of s (suc n)) (suc n) (1 + n) (omega arith) (record { few = h.few (suc n); past = h.past (suc n) }))))

  made_from_test : are_made s ≡ true → AreMade s
  made_from_test h =
      let b : (is_made s.first 0 ≡ true) × (made_from 1 s.upgraded ≡ true) = and_parts (is_made s.first 0) _ h in
      record { few = λ n. (from_test b.0 b.1 n).few; past = λ n. (from_test b.0 b.1 n).past }

  -- the answer of a test of all
  pub tells_made : (b : Bool) → b ≡ are_made s → (IsTrue b → AreMade s) × (AreMade s → IsTrue b)
  tells_made b is = (λ h. made_from_test (sym is ∙ h), λ h. is ∙ tested h)

-- ---- behind upgrades

-- a schema whose highest number isn't above the epoch
record IsBehind (classes : ℕ) (schema : Schema) (n : ℕ) : Type 0 where
  few : length schema.classes ≤ classes
  high : highest schema.upgraded ≤ n

as_many : (schema : Schema) (u : Upgrade) → length (applied schema u).classes ≡ length schema.classes
unfolding applied
as_many schema u = length-map schema.classes (λ d. class_behind d (said_of u d))

one_higher : (schema : Schema) (u : Upgrade) → highest (applied schema u).upgraded ≤ next_number schema.upgraded
unfolding applied
one_higher schema u = highest_below u (next_number schema.upgraded) schema.classes schema.upgraded (omega arith)

none_high : (ks : List ℕ) → ((c : ℕ) → unwrap_or (slice_get ks c) 0 ≡ 0) → highest ks ≤ 0
none_high [] h = omega arith
none_high (k ∷ ks) h = let first : k ≡ 0 = h zero in let rest : highest ks ≤ 0 = none_high ks (λ c. h (suc c)) in omega (arith, first, rest)

module _ (s : Schemas) (few : length s.first.classes ≤ 65536) (first : IsFirst s.first) (behind : AreApplied s) where
  begins : IsBehind 65536 s.first 0
  begins = record { few = few; high = none_high s.first.upgraded first }

  goes_on : (n : ℕ) → IsBehind 65536 (schema_of s n) n → (b : Bool) → nat_lt n (length s.upgraded) ≡ b → IsBehind 65536 (schema_of s (suc n)) (suc n)
  goes_on n h true lt =
      let a : (u : Upgrade) × (schema_of s (suc n) ≡ applied (schema_of s n) u) = behind n (grind (arith, nat_tests)) in
      let P : Schema → Type 0 = λ x. IsBehind 65536 x (suc n) in
      let many = as_many (schema_of s n) a.0 in
      let high = one_higher (schema_of s n) a.0 in
      let fewer = h.few in
      let before = h.high in
      subst P (sym a.1) (record { few = omega (arith, many, fewer); high = omega (arith, high, before) })
  goes_on n h false lt =
      let past : length s.upgraded ≤ n = grind (arith, nat_tests) in
      let P : Schema → Type 0 = λ x. IsBehind 65536 x (suc n) in
      let is : schema_of s (suc n) ≡ no_schema = ap (λ (o : Option UpgradedSchema). unwrap_or (option_map (λ u. u.schema) o) no_schema) (slice_get_past s.upgraded n past) in
      subst P (sym is) (record { few = omega arith; high = omega arith })

  at_epoch : (n : ℕ) → IsBehind 65536 (schema_of s n) n
  at_epoch zero = begins
  at_epoch (suc n) = goes_on n (at_epoch n) (nat_lt n (length s.upgraded)) refl

  pub applied_made : AreMade s
  applied_made = record {
    few = λ n. (at_epoch n).few;
    past = λ n c. let most = (at_epoch n).high in let number = number_at_most (schema_of s n).upgraded c in omega (arith, most, number);
  }
