-- The readings of names, timestamps and faults are exact.
use Rattle.std.proofs.Common.{ℕ, ◌<◌, ◌^◌, List, ◌++◌, refl, sym, subst, append_assoc, inl, inr, codes}
use Rattle.std.specs.Fmt.{decimal}
use Rattle.thor_value.specs.declared.values.Fault.{Fault}
use Rattle.thor_value.specs.declared.values.Fault.TheVariants.{NullCall, Steps, Depth, Large}
use Rattle.report_text.specs.Words.{who_word, ts_word, oref_word, fault_word}
use Rattle.report_parse.specs.Reading.{Reading, ◌then◌, after_text}
use Rattle.report_parse.specs.Numbers.{u8_at, u32_at, u64_at}
use Rattle.report_parse.specs.Words.{who_by, who_at, ts_by, ts_at, oref_by, oref_at, faults, fault_at}
use Rattle.report_parse.specs.Widths.{IsTs, IsOref, IsWho}
use Rattle.report_parse.proofs.Exact.{IsExact, Any, StandsAmong, exact_then, exact_made, exact_behind, exact_first, only_finds, only_stands}
use Rattle.report_parse.proofs.ExactNumbers.{NoDigit, exact_u8, exact_u32, exact_u64}

-- two parts with a fixed text between them, which begins with no digit
module _ {A X : Type 0} (HasA : A → Type 0) (a : A → List ℕ) (first : Reading A) (one : IsExact NoDigit HasA a first) (text : List ℕ) (gap : (rest : List ℕ) → NoDigit (text ++ rest))
    (May : List ℕ → Type 0) (Has : X → Type 0) (b : X → List ℕ) (read : Reading X) (two : IsExact May Has b read) where
  pub separated : IsExact May (λ v. HasA v.0 × Has v.1) (λ v. a v.0 ++ (text ++ b v.1)) (first then after_text text read)
  separated =
      exact_then NoDigit May HasA Has a (λ v. text ++ b v) first (after_text text read) one (exact_behind May Has b text read two)
      (λ y rest h m. subst NoDigit (sym (append_assoc text (b y) rest)) (gap (b y ++ rest)))

abbrev Below : ℕ → ℕ → Type 0
Below k n = n < 2 ^ k

abbrev point : List ℕ
point = codes "."

abbrev pair : (ℕ × ℕ) → List ℕ
pair x = decimal x.0 ++ (point ++ decimal x.1)

abbrev triple : (ℕ × (ℕ × ℕ)) → List ℕ
triple x = decimal x.0 ++ (point ++ pair x.1)

exact_8_32 : IsExact NoDigit (λ v. Below 8 v.0 × Below 32 v.1) pair (u8_at then after_text point u32_at)
exact_8_32 = separated (Below 8) decimal u8_at exact_u8 point (λ rest. refl) NoDigit (Below 32) decimal u32_at exact_u32

exact_32_8 : IsExact NoDigit (λ v. Below 32 v.0 × Below 8 v.1) pair (u32_at then after_text point u8_at)
exact_32_8 = separated (Below 32) decimal u32_at exact_u32 point (λ rest. refl) NoDigit (Below 8) decimal u8_at exact_u8

pub exact_who : IsExact NoDigit IsWho who_word who_at
unfolding who_at who_word
exact_who =
    exact_made NoDigit (λ v. Below 8 v.0 × Below 32 v.1) IsWho pair who_word who_by (λ w. (w.client, w.index)) (u8_at then after_text point u32_at) exact_8_32
    (λ x h. (h, refl)) (λ w h. (h, refl))

pub exact_ts : IsExact NoDigit IsTs ts_word ts_at
unfolding ts_at ts_word
exact_ts =
    exact_made NoDigit (λ v. Below 64 v.0 × (Below 8 v.1.0 × Below 32 v.1.1)) IsTs triple ts_word ts_by (λ t. (t.time, (t.repo, t.life))) (u64_at then after_text point (u8_at then after_text point u32_at))
    (separated (Below 64) decimal u64_at exact_u64 point (λ rest. refl) NoDigit (λ v. Below 8 v.0 × Below 32 v.1) pair (u8_at then after_text point u32_at) exact_8_32)
    (λ x h. ((h.0, h.1.0, h.1.1), refl)) (λ t h. ((h.0, (h.1, h.2)), refl))

pub exact_oref : IsExact NoDigit IsOref oref_word oref_at
unfolding oref_at oref_word
exact_oref =
    exact_made NoDigit (λ v. Below 8 v.0 × (Below 32 v.1.0 × Below 8 v.1.1)) IsOref triple oref_word oref_by (λ x. (x.repo, (x.page, x.slot))) (u8_at then after_text point (u32_at then after_text point u8_at))
    (separated (Below 8) decimal u8_at exact_u8 point (λ rest. refl) NoDigit (λ v. Below 32 v.0 × Below 8 v.1) pair (u32_at then after_text point u8_at) exact_32_8)
    (λ x h. ((h.0, h.1.0, h.1.1), refl)) (λ x h. ((h.0, (h.1, h.2)), refl))

-- ---- faults

abbrev pub IsFault : Fault → Type 0
IsFault f = Unit {0}

faults_stand : (f : Fault) → IsFault f → StandsAmong Any IsFault fault_word f faults
faults_stand NullCall h = inl (only_stands Any IsFault fault_word (codes "NullCall") NullCall (tt, refl))
faults_stand Steps h = inr (inl (only_stands Any IsFault fault_word (codes "Steps") Steps (tt, refl)))
faults_stand Depth h = inr (inr (inl (only_stands Any IsFault fault_word (codes "Depth") Depth (tt, refl))))
faults_stand Large h = inr (inr (inr (inl (only_stands Any IsFault fault_word (codes "Large") Large (tt, refl)))))

pub exact_fault : IsExact Any IsFault fault_word fault_at
unfolding fault_at
exact_fault =
    exact_first Any IsFault fault_word faults refl (
      only_finds Any IsFault fault_word (codes "NullCall") NullCall (tt, refl),
      (
        only_finds Any IsFault fault_word (codes "Steps") Steps (tt, refl),
        (only_finds Any IsFault fault_word (codes "Depth") Depth (tt, refl), (only_finds Any IsFault fault_word (codes "Large") Large (tt, refl), tt)),
      ),
    ) faults_stand
