-- The words of an item's outcome have no space and no end of a line, and tell the outcome.
use Rattle.std.proofs.Common.{◌≡◌, ℕ, ◌<◌, ◌^◌, ℤ, List, [], ◌∷◌, ◌++◌, refl, ap, arith, map, codes}
use Rattle.std.proofs.lemmas.Fmt.{decimal_injective, signed_decimal_injective}
use Rattle.std.specs.Fmt.{decimal, signed_decimal}
use Rattle.std.specs.Int.{w64}
use Rattle.std.proofs.Common.{FitsSigned}
use Rattle.serial_model.specs.declared.outcomes.Cause.{Cause}
use Rattle.serial_model.specs.declared.outcomes.Cause.TheVariants.{Missing, Down, Calls}
use Rattle.serial_model.specs.declared.outcomes.Cause.TheVariants as cause
use Rattle.base_reasons.specs.declared.reason.Reason.TheVariants.{Stale, Earlier, Later, TooOld, Epoch, Blocked, Gone, Full, ClockEnd}
use Rattle.serial_model.specs.declared.outcomes.ItemOutcome.{ItemOutcome}
use Rattle.serial_model.specs.declared.outcomes.ItemOutcome.TheVariants.{Done, Upgraded, Faulted, Refused, Unknown}
use Rattle.report_text.specs.Words.{Word, ts_word, oref_word, fault_word, cause_words}
use Rattle.report_text.specs.Report.{values_words, try_words, upgrade_words, outcome_words}
use Rattle.report_text.specs.Fits.{FitsInts, FitsCause, FitsOutcome}
use Rattle.report_text.specs.Shown.{shown_tries}
use Rattle.report_text.proofs.Splits.{Plain, plain-append}
use Rattle.report_text.proofs.PlainWords.{decimal_plain, signed_plain, ts_plain, ts_tells, oref_plain, oref_tells, fault_plain, fault_tells, mark, map_plain, map_tells, tested_above}

-- the first bytes of the first of some words
abbrev pub first_mark : List Word → ℕ
first_mark [] = 0
first_mark (w ∷ ws) = mark w

-- the first bytes of the fifth of some words
abbrev pub fifth_mark : List Word → ℕ
fifth_mark [] = 0
fifth_mark (a ∷ []) = 0
fifth_mark (a ∷ b ∷ []) = 0
fifth_mark (a ∷ b ∷ c ∷ []) = 0
fifth_mark (a ∷ b ∷ c ∷ d ∷ ws) = first_mark ws

pub try_plain : (n : ℕ) → n < 2 ^ 64 → Plain (try_words n)
try_plain n h = (tested_above 32 (codes "try") refl, (decimal_plain n h, tt))

pub upgrade_plain : (n : ℕ) → n < 2 ^ 64 → Plain (upgrade_words n)
upgrade_plain n h = (tested_above 32 (codes "upgrade") refl, (decimal_plain n h, tt))

pub values_plain : (values : List ℤ) → FitsInts values → Plain (values_words values)
values_plain values f = (tested_above 32 (codes ":") refl, map_plain signed_decimal (λ z. FitsSigned w64 z) (λ z h. signed_plain z h.sfits) values f)

pub values_tell : (xs ys : List ℤ) → FitsInts xs → FitsInts ys → map signed_decimal xs ≡ map signed_decimal ys → xs ≡ ys
values_tell xs ys f g e = map_tells signed_decimal (λ z. FitsSigned w64 z) (λ y z p q same. signed_decimal_injective y z p.sfits q.sfits same) xs ys f g e

pub cause_plain : (c : Cause) → FitsCause c → Plain (cause_words c)
unfolding cause_words
cause_plain (cause.Reason (Stale oref place)) f = (tested_above 32 (codes "Stale") refl, (oref_plain oref f.0, (decimal_plain place f.1, tt)))
cause_plain (cause.Reason (Earlier tx oref)) f = (tested_above 32 (codes "Earlier") refl, (ts_plain tx f.0, (oref_plain oref f.1, tt)))
cause_plain (cause.Reason (Later tx oref)) f = (tested_above 32 (codes "Later") refl, (ts_plain tx f.0, (oref_plain oref f.1, tt)))
cause_plain (cause.Reason (TooOld threshold)) f = (tested_above 32 (codes "TooOld") refl, (ts_plain threshold f, tt))
cause_plain (cause.Reason (Epoch n)) f = (tested_above 32 (codes "Epoch") refl, (decimal_plain n f, tt))
cause_plain (cause.Reason (Blocked tx)) f = (tested_above 32 (codes "Blocked") refl, (ts_plain tx f, tt))
cause_plain (cause.Reason (Gone session)) f = (tested_above 32 (codes "Gone") refl, (decimal_plain session f, tt))
cause_plain (Missing oref) f = (tested_above 32 (codes "Missing") refl, (oref_plain oref f, tt))
cause_plain (Down repo) f = (tested_above 32 (codes "Down") refl, (decimal_plain repo f, tt))
cause_plain (cause.Reason (Full limit)) f = (tested_above 32 (codes "Full") refl, (decimal_plain limit f, tt))
cause_plain (cause.Reason ClockEnd) f = (tested_above 32 (codes "ClockEnd") refl, tt)
cause_plain Calls f = (tested_above 32 (codes "Calls") refl, tt)

pub outcome_plain : (n : ℕ) (o : ItemOutcome) → n < 2 ^ 64 → FitsOutcome o → Plain (outcome_words n o)
unfolding outcome_words
outcome_plain n (Done ts answer) h f =
    (tested_above 32 (codes "Done") refl, (ts_plain ts f.0, plain-append (try_words n) (values_words answer) (try_plain n h) (values_plain answer f.1)))
outcome_plain n (Upgraded ts number) h f =
    (tested_above 32 (codes "Done") refl, (ts_plain ts f.0, plain-append (try_words n) (upgrade_words number) (try_plain n h) (upgrade_plain number f.1)))
outcome_plain n (Faulted ts fault) h f = (tested_above 32 (codes "Faulted") refl, (fault_plain fault, (ts_plain ts f, try_plain n h)))
outcome_plain n (Refused cause) h f = (tested_above 32 (codes "Refused") refl, plain-append (cause_words cause) (try_words n) (cause_plain cause f) (try_plain n h))
outcome_plain n (Unknown tx) h f = (tested_above 32 (codes "Unknown") refl, (ts_plain tx f, tt))

-- the words of a cause and of the tries tell both
pub cause_tells : (c d : Cause) (n m : ℕ) → FitsCause c → FitsCause d → n < 2 ^ 64 → m < 2 ^ 64
    → cause_words c ++ try_words n ≡ cause_words d ++ try_words m → (c ≡ d) × (n ≡ m)
unfolding cause_words
cause_tells (cause.Reason (Stale x p)) (cause.Reason (Stale y q)) n m f g h k e =
    let a : oref_word x ≡ oref_word y = cc in let b : decimal p ≡ decimal q = cc in let t : decimal n ≡ decimal m = cc in
    let same = oref_tells x y f.0 g.0 a in let place = decimal_injective p q f.1 g.1 b in
    ((λ i. cause.Reason (Stale (same i) (place i))), decimal_injective n m h k t)
cause_tells (cause.Reason (Earlier t x)) (cause.Reason (Earlier u y)) n m f g h k e =
    let a : ts_word t ≡ ts_word u = cc in let b : oref_word x ≡ oref_word y = cc in let c : decimal n ≡ decimal m = cc in
    let tx = ts_tells t u f.0 g.0 a in let same = oref_tells x y f.1 g.1 b in
    ((λ i. cause.Reason (Earlier (tx i) (same i))), decimal_injective n m h k c)
cause_tells (cause.Reason (Later t x)) (cause.Reason (Later u y)) n m f g h k e =
    let a : ts_word t ≡ ts_word u = cc in let b : oref_word x ≡ oref_word y = cc in let c : decimal n ≡ decimal m = cc in
    let tx = ts_tells t u f.0 g.0 a in let same = oref_tells x y f.1 g.1 b in
    ((λ i. cause.Reason (Later (tx i) (same i))), decimal_injective n m h k c)
cause_tells (cause.Reason (TooOld t)) (cause.Reason (TooOld u)) n m f g h k e =
    let a : ts_word t ≡ ts_word u = cc in let c : decimal n ≡ decimal m = cc in
    (ap (λ t. cause.Reason (TooOld t)) (ts_tells t u f g a), decimal_injective n m h k c)
cause_tells (cause.Reason (Epoch a)) (cause.Reason (Epoch b)) n m f g h k e =
    let a' : decimal a ≡ decimal b = cc in let c : decimal n ≡ decimal m = cc in
    (ap (λ t. cause.Reason (Epoch t)) (decimal_injective a b f g a'), decimal_injective n m h k c)
cause_tells (cause.Reason (Blocked t)) (cause.Reason (Blocked u)) n m f g h k e =
    let a : ts_word t ≡ ts_word u = cc in let c : decimal n ≡ decimal m = cc in
    (ap (λ t. cause.Reason (Blocked t)) (ts_tells t u f g a), decimal_injective n m h k c)
cause_tells (cause.Reason (Gone a)) (cause.Reason (Gone b)) n m f g h k e =
    let a' : decimal a ≡ decimal b = cc in let c : decimal n ≡ decimal m = cc in
    (ap (λ t. cause.Reason (Gone t)) (decimal_injective a b f g a'), decimal_injective n m h k c)
cause_tells (Missing x) (Missing y) n m f g h k e =
    let a : oref_word x ≡ oref_word y = cc in let c : decimal n ≡ decimal m = cc in
    (ap Missing (oref_tells x y f g a), decimal_injective n m h k c)
cause_tells (Down a) (Down b) n m f g h k e =
    let a' : decimal a ≡ decimal b = cc in let c : decimal n ≡ decimal m = cc in
    (ap Down (decimal_injective a b f g a'), decimal_injective n m h k c)
cause_tells (cause.Reason (Full a)) (cause.Reason (Full b)) n m f g h k e =
    let a' : decimal a ≡ decimal b = cc in let c : decimal n ≡ decimal m = cc in
    (ap (λ t. cause.Reason (Full t)) (decimal_injective a b f g a'), decimal_injective n m h k c)
cause_tells (cause.Reason ClockEnd) (cause.Reason ClockEnd) n m f g h k e = let c : decimal n ≡ decimal m = cc in (refl, decimal_injective n m h k c)
cause_tells Calls Calls n m f g h k e = let c : decimal n ≡ decimal m = cc in (refl, decimal_injective n m h k c)
cause_tells (Missing x) (cause.Reason ClockEnd) n m f g h k e =
    let same : first_mark (cause_words (Missing x) ++ try_words n) ≡ first_mark (cause_words (cause.Reason ClockEnd) ++ try_words m) = ap first_mark e in absurd (omega arith)
cause_tells (Down a) (cause.Reason ClockEnd) n m f g h k e =
    let same : first_mark (cause_words (Down a) ++ try_words n) ≡ first_mark (cause_words (cause.Reason ClockEnd) ++ try_words m) = ap first_mark e in absurd (omega arith)
cause_tells Calls (cause.Reason ClockEnd) n m f g h k e =
    let same : first_mark (cause_words Calls ++ try_words n) ≡ first_mark (cause_words (cause.Reason ClockEnd) ++ try_words m) = ap first_mark e in absurd (omega arith)
cause_tells c d n m f g h k e =
    let same : first_mark (cause_words c ++ try_words n) ≡ first_mark (cause_words d ++ try_words m) = ap first_mark e in absurd (omega arith)

-- the words of an outcome tell it, and the tries where they stand in them
pub outcome_tells : (n m : ℕ) (o p : ItemOutcome) → n < 2 ^ 64 → m < 2 ^ 64 → FitsOutcome o → FitsOutcome p
    → outcome_words n o ≡ outcome_words m p → (o ≡ p) × (shown_tries n o ≡ shown_tries m p)
unfolding outcome_words
outcome_tells n m (Done t xs) (Done u ys) h k f g e =
    let a : ts_word t ≡ ts_word u = cc in let b : decimal n ≡ decimal m = cc in let c : map signed_decimal xs ≡ map signed_decimal ys = cc in
    let ts = ts_tells t u f.0 g.0 a in let values = values_tell xs ys f.1 g.1 c in
    ((λ i. Done (ts i) (values i)), decimal_injective n m h k b)
outcome_tells n m (Upgraded t a) (Upgraded u b) h k f g e =
    let w : ts_word t ≡ ts_word u = cc in let v : decimal n ≡ decimal m = cc in let c : decimal a ≡ decimal b = cc in
    let ts = ts_tells t u f.0 g.0 w in let number = decimal_injective a b f.1 g.1 c in
    ((λ i. Upgraded (ts i) (number i)), decimal_injective n m h k v)
outcome_tells n m (Done t xs) (Upgraded u b) h k f g e =
    let same : mark (codes ":") ≡ mark (codes "upgrade") = ap fifth_mark e in absurd (omega arith)
outcome_tells n m (Upgraded t a) (Done u ys) h k f g e =
    let same : mark (codes "upgrade") ≡ mark (codes ":") = ap fifth_mark e in absurd (omega arith)
outcome_tells n m (Faulted t a) (Faulted u b) h k f g e =
    let w : ts_word t ≡ ts_word u = cc in let v : decimal n ≡ decimal m = cc in let c : fault_word a ≡ fault_word b = cc in
    let ts = ts_tells t u f g w in let fault = fault_tells a b c in
    ((λ i. Faulted (ts i) (fault i)), decimal_injective n m h k v)
outcome_tells n m (Refused c) (Refused d) h k f g e =
    let w : cause_words c ++ try_words n ≡ cause_words d ++ try_words m = cc in
    let both = cause_tells c d n m f g h k w in
    (ap Refused both.0, both.1)
outcome_tells n m (Unknown t) (Unknown u) h k f g e =
    let w : ts_word t ≡ ts_word u = cc in
    (ap Unknown (ts_tells t u f g w), refl)
outcome_tells n m o p h k f g e =
    let same : first_mark (outcome_words n o) ≡ first_mark (outcome_words m p) = ap first_mark e in absurd (omega arith)
