-- The words of an entry of the history have no space and no end of a line, and tell the entry.
use Rattle.std.proofs.Common.{◌≡◌, ◌≢◌, ℕ, zero, suc, ◌<◌, ◌≤◌, ◌^◌, ℤ, List, [], ◌∷◌, ◌++◌, length, length-append, refl, sym, ◌∙◌, ap, arith, map, codes, All}
use Rattle.std.proofs.lemmas.Fmt.{decimal_injective}
use Rattle.std.proofs.lemmas.List.Elements.{All-head, All-tail}
use Rattle.std.specs.Fmt.{decimal, signed_decimal}
use Rattle.thor_value.specs.declared.names.Oref.{Oref}
use Rattle.thor_value.specs.declared.values.Answer.{Answer}
use Rattle.thor_value.specs.declared.values.Answer.TheVariants.{Ints, Fault}
use Rattle.thor_value.specs.declared.values.Fault.{Fault as FaultKind}
use Rattle.serial_model.specs.declared.entries.Did.{Did}
use Rattle.report_text.specs.Words.{Word, two_numbers, oref_word, fault_word}
use Rattle.report_text.specs.Report.{values_words, upgrade_words, fresh_words, answer_words, effect_words}
use Rattle.report_text.specs.Fits.{FitsOref, FitsInts, FitsAnswer}
use Rattle.report_text.specs.Shown.{FitsEntry}
use Rattle.report_text.proofs.Splits.{Plain, plain-append}
use Rattle.report_text.proofs.PlainWords.{oref_plain, oref_tells, fault_plain, fault_tells, mark, map_plain, tested_above}
use Rattle.report_text.proofs.OutcomeWords.{first_mark, upgrade_plain, values_plain, values_tell}

-- what is known of an entry's number, new objects and answer
pub record IsEffect (n : ℕ) (fresh : List Oref) (answer : Answer) : Type 0 where
  pub upgrade : n ≢ 0 → (fresh ≡ []) × (answer ≡ Ints [])
  pub fault : (fault : FaultKind) → answer ≡ Fault fault → fresh ≡ []
  pub number : n < 2 ^ 64
  pub names : All FitsOref fresh
  pub values : FitsAnswer answer

pub effect_of : (d : Did) → FitsEntry d → IsEffect d.number d.fresh d.answer
effect_of d e = record { upgrade = e.upgrade; fault = e.fault; number = e.number; names = e.fresh; values = e.answer }

fresh_plain : (xs : List Oref) → All FitsOref xs → Plain (fresh_words xs)
fresh_plain [] f = tt
fresh_plain (x ∷ xs) f = (tested_above 32 (codes "new") refl, map_plain oref_word FitsOref oref_plain (x ∷ xs) f)

answer_plain : (xs : List Oref) (a : Answer) → All FitsOref xs → FitsAnswer a → Plain (answer_words xs a)
answer_plain xs (Ints values) f g = plain-append (fresh_words xs) (values_words values) (fresh_plain xs f) (values_plain values g)
answer_plain xs (Fault fault) f g = (tested_above 32 (codes "!") refl, (fault_plain fault, tt))

pub effect_plain : (n : ℕ) (xs : List Oref) (a : Answer) → IsEffect n xs a → Plain (effect_words n xs a)
effect_plain zero xs a e = answer_plain xs a e.names e.values
effect_plain (suc n) xs a e = upgrade_plain (suc n) e.number

-- a name has two points, and so is not the word before the values
oref_long : (x : Oref) → 2 ≤ length (oref_word x)
unfolding oref_word
oref_long x = omega (arith, length-append (decimal x.repo) (46 ∷ two_numbers x.page x.slot), length-append (decimal x.page) (46 ∷ decimal x.slot))

oref_apart : (x : Oref) → codes ":" ≢ oref_word x
oref_apart x e = omega (arith, oref_long x, ap length e)

cut_names : (xs ys : List Oref) (s t : List Word) → All FitsOref xs → All FitsOref ys
    → map oref_word xs ++ (codes ":" ∷ s) ≡ map oref_word ys ++ (codes ":" ∷ t) → (xs ≡ ys) × (s ≡ t)
cut_names [] [] s t f g e = (refl, cc)
cut_names [] (y ∷ ys) s t f g e = let same : codes ":" ≡ oref_word y = cc in absurd (oref_apart y same)
cut_names (x ∷ xs) [] s t f g e = let same : oref_word x ≡ codes ":" = cc in absurd (oref_apart x (sym same))
cut_names (x ∷ xs) (y ∷ ys) s t f g e =
    let same : oref_word x ≡ oref_word y = cc in
    let rest : map oref_word xs ++ (codes ":" ∷ s) ≡ map oref_word ys ++ (codes ":" ∷ t) = cc in
    let name = oref_tells x y (All-head FitsOref x xs f) (All-head FitsOref y ys g) same in
    let more = cut_names xs ys s t (All-tail FitsOref x xs f) (All-tail FitsOref y ys g) rest in
    ((λ i. name i ∷ more.0 i), more.1)

-- the words of new names and values tell both
values_told : (xs ys : List Oref) (v w : List ℤ) → All FitsOref xs → All FitsOref ys → FitsInts v → FitsInts w
    → fresh_words xs ++ values_words v ≡ fresh_words ys ++ values_words w → (xs ≡ ys) × (v ≡ w)
values_told [] [] v w f g p q e =
    let rest : map signed_decimal v ≡ map signed_decimal w = cc in
    (refl, values_tell v w p q rest)
values_told [] (y ∷ ys) v w f g p q e = let same : mark (codes ":") ≡ mark (codes "new") = ap first_mark e in absurd (omega arith)
values_told (x ∷ xs) [] v w f g p q e = let same : mark (codes "new") ≡ mark (codes ":") = ap first_mark e in absurd (omega arith)
values_told (x ∷ xs) (y ∷ ys) v w f g p q e =
    let rest : map oref_word (x ∷ xs) ++ (codes ":" ∷ map signed_decimal v) ≡ map oref_word (y ∷ ys) ++ (codes ":" ∷ map signed_decimal w) = cc in
    let one = cut_names (x ∷ xs) (y ∷ ys) (map signed_decimal v) (map signed_decimal w) f g rest in
    (one.0, values_tell v w p q one.1)

-- no word of values, of new names or of a fault is that of an upgrade
no_upgrade : (xs : List Oref) (a : Answer) (n : ℕ) → answer_words xs a ≢ upgrade_words n
no_upgrade [] (Ints v) n e = let same : mark (codes ":") ≡ mark (codes "upgrade") = ap first_mark e in omega arith
no_upgrade (x ∷ xs) (Ints v) n e = let same : mark (codes "new") ≡ mark (codes "upgrade") = ap first_mark e in omega arith
no_upgrade xs (Fault f) n e = let same : mark (codes "!") ≡ mark (codes "upgrade") = ap first_mark e in omega arith

no_fault : (xs : List Oref) (v : List ℤ) (f : FaultKind) → fresh_words xs ++ values_words v ≢ codes "!" ∷ fault_word f ∷ []
no_fault [] v f e = let same : mark (codes ":") ≡ mark (codes "!") = ap first_mark e in omega arith
no_fault (x ∷ xs) v f e = let same : mark (codes "new") ≡ mark (codes "!") = ap first_mark e in omega arith

answer_tells : (xs ys : List Oref) (a b : Answer) → IsEffect 0 xs a → IsEffect 0 ys b → answer_words xs a ≡ answer_words ys b → (xs ≡ ys) × (a ≡ b)
answer_tells xs ys (Ints v) (Ints w) p q e =
    let both = values_told xs ys v w p.names q.names p.values q.values e in
    (both.0, ap Ints both.1)
answer_tells xs ys (Ints v) (Fault f) p q e = absurd (no_fault xs v f e)
answer_tells xs ys (Fault f) (Ints w) p q e = absurd (no_fault ys w f (sym e))
answer_tells xs ys (Fault f) (Fault g) p q e =
    let word : fault_word f ≡ fault_word g = cc in
    (p.fault f refl ∙ sym (q.fault g refl), ap Fault (fault_tells f g word))

pub effect_tells : (n m : ℕ) (xs ys : List Oref) (a b : Answer) → IsEffect n xs a → IsEffect m ys b
    → effect_words n xs a ≡ effect_words m ys b → (n ≡ m) × (xs ≡ ys) × (a ≡ b)
effect_tells zero zero xs ys a b p q e = let both = answer_tells xs ys a b p q e in (refl, both.0, both.1)
effect_tells zero (suc m) xs ys a b p q e = absurd (no_upgrade xs a (suc m) e)
effect_tells (suc n) zero xs ys a b p q e = absurd (no_upgrade ys b (suc n) (sym e))
effect_tells (suc n) (suc m) xs ys a b p q e =
    let word : decimal (suc n) ≡ decimal (suc m) = cc in
    let left = p.upgrade (λ z. omega (arith, z)) in
    let right = q.upgrade (λ z. omega (arith, z)) in
    (decimal_injective (suc n) (suc m) p.number q.number word, left.0 ∙ sym right.0, left.1 ∙ sym right.1)
