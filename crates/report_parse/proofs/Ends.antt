-- Where lines end.
use Rattle.std.proofs.Common.{◌≡◌, ◌≢◌, ℕ, ◌+◌, ◌<◌, ◌^◌, Bool, true, false, cond, List, [], ◌∷◌, ◌++◌, append_assoc, refl, sym, ap, ◌∙◌, arith, codes, ◌⊎◌, inl, inr}
use Rattle.std.specs.Prelude.{◌==◌}
use Rattle.std.specs.Fmt.{decimal}
use Rattle.std.specs.List.{AllByRecursion}
use Rattle.std.proofs.lemmas.Bool.Decides.{nat_tests}
use Rattle.std.proofs.lemmas.List.Elements.{All-from_recursion}
use Rattle.std.proofs.lemmas.List.Sums.{sum_by-append, sum_by-cons}
use Rattle.thor_value.specs.declared.names.Oref.{Oref}
use Rattle.thor_value.specs.declared.names.Ts.{Ts}
use Rattle.thor_value.specs.declared.values.Who.{Who}
use Rattle.thor_value.specs.declared.values.Answer.{Answer}
use Rattle.thor_value.specs.declared.values.Answer.TheVariants.{Ints, Fault}
use Rattle.serial_model.specs.declared.outcomes.Cause.{Cause}
use Rattle.serial_model.specs.declared.outcomes.Cause.TheVariants.{Missing, Down, Calls}
use Rattle.serial_model.specs.declared.outcomes.Cause.TheVariants as cause
use Rattle.base_reasons.specs.declared.reason.Reason.TheVariants.{Stale, Earlier, Later, TooOld, Epoch, Blocked, Gone, Full, ClockEnd}
use Rattle.serial_model.specs.declared.outcomes.Ended.{Ended}
use Rattle.serial_model.specs.declared.outcomes.ItemOutcome.{ItemOutcome}
use Rattle.serial_model.specs.declared.outcomes.ItemOutcome.TheVariants.{Done, Upgraded, Faulted, Refused, Unknown}
use Rattle.report_text.specs.Fits.{FitsTs, FitsOref, FitsWho, FitsCause, FitsOutcome, FitsAnswer}
use Rattle.report_text.specs.Lines.{line, spaced_words}
use Rattle.report_text.specs.Words.{Word, who_word, ts_word}
use Rattle.report_text.specs.Report.{outcome_words, effect_words, item_line, history_line, end_line}
use Rattle.report_text.specs.Shown.{FitsItem, FitsEntry}
use Rattle.report_text.proofs.Splits.{Above, Plain, above_less, above-append}
use Rattle.report_text.proofs.PlainWords.{decimal_plain, fault_plain, who_plain, ts_plain, tested_above}
use Rattle.report_text.proofs.OutcomeWords.{outcome_plain, values_plain}
use Rattle.report_text.proofs.HistoryWords.{effect_of, effect_plain}
use Rattle.report_parse.specs.declared.report.Backup.{Backup}
use Rattle.report_parse.specs.declared.report.Line.{Line}
use Rattle.report_parse.specs.declared.report.Look.{Look}
use Rattle.report_parse.specs.declared.report.Looked.{Looked}
use Rattle.report_parse.specs.declared.report.Looked.TheVariants.{Answered, Writes}
use Rattle.report_parse.specs.Behind.{looked_words, look_line, backup_line}
use Rattle.report_parse.specs.Widths.{IsTs, IsOref, IsWho, IsCause, IsOutcome, IsAnswer, IsInt}
use Rattle.report_parse.specs.Reports.{IsItem, IsLine, IsLooked, IsLook, IsBackup, entry_of, ended_lines}
use Rattle.report_parse.proofs.ExactLines.{line_text}

-- ---- what has the widths of its types has 64 bits

ts_fits : (t : Ts) → IsTs t → FitsTs t
ts_fits t h = (h.0, omega (arith, h.1), omega (arith, h.2))

oref_fits : (x : Oref) → IsOref x → FitsOref x
oref_fits x h = (omega (arith, h.0), omega (arith, h.1), omega (arith, h.2))

who_fits : (w : Who) → IsWho w → FitsWho w
who_fits w h = (omega (arith, h.0), omega (arith, h.1))

cause_fits : (c : Cause) → IsCause c → FitsCause c
cause_fits (cause.Reason (Stale x p)) h = (oref_fits x h.0, h.1)
cause_fits (cause.Reason (Earlier t x)) h = (ts_fits t h.0, oref_fits x h.1)
cause_fits (cause.Reason (Later t x)) h = (ts_fits t h.0, oref_fits x h.1)
cause_fits (cause.Reason (TooOld t)) h = ts_fits t h
cause_fits (cause.Reason (Epoch n)) h = omega (arith, h)
cause_fits (cause.Reason (Blocked t)) h = ts_fits t h
cause_fits (cause.Reason (Gone n)) h = omega (arith, h)
cause_fits (Missing x) h = oref_fits x h
cause_fits (Down n) h = omega (arith, h)
cause_fits (cause.Reason (Full n)) h = omega (arith, h)
cause_fits (cause.Reason ClockEnd) h = tt
cause_fits Calls h = tt

outcome_fits : (o : ItemOutcome) → IsOutcome o → FitsOutcome o
outcome_fits (Done t values) h = (ts_fits t h.0, All-from_recursion IsInt values h.1)
outcome_fits (Upgraded t n) h = (ts_fits t h.0, omega (arith, h.1))
outcome_fits (Faulted t f) h = ts_fits t h
outcome_fits (Refused c) h = cause_fits c h
outcome_fits (Unknown t) h = ts_fits t h

answer_fits : (a : Answer) → IsAnswer a → FitsAnswer a
answer_fits (Ints values) h = All-from_recursion IsInt values h
answer_fits (Fault f) h = tt

names_fit : (xs : List Oref) → AllByRecursion IsOref xs → AllByRecursion FitsOref xs
names_fit [] h = tt
names_fit (x ∷ xs) h = (oref_fits x h.0, names_fit xs h.1)

pub item_fits : (e : Ended) → IsItem e → FitsItem e
item_fits e h = record { who = who_fits e.who h.who; tries = omega (arith, h.tries); outcome = outcome_fits e.outcome h.outcome }

pub entry_fits : (l : Line) → IsLine l → FitsEntry (entry_of l)
entry_fits l h = record {
  upgrade = h.upgrade;
  fault = h.fault;
  ts = ts_fits l.ts h.ts;
  who = who_fits l.who h.who;
  number = omega (arith, h.number);
  fresh = All-from_recursion FitsOref l.fresh (names_fit l.fresh h.fresh);
  answer = answer_fits l.answer h.answer;
}

-- ---- lines

-- no line ends in the bytes
abbrev pub NoEnd : List ℕ → Type 0
NoEnd bytes = AllByRecursion (λ b. b ≢ 10) bytes

no_end : (bytes : List ℕ) → Above 10 bytes → NoEnd bytes
no_end [] h = tt
no_end (b ∷ bytes) h = ((λ e. omega (arith, e, h.0)), no_end bytes h.1)

spaced_above : (words : List Word) → Plain words → Above 10 (spaced_words words)
spaced_above [] h = tt
spaced_above (w ∷ words) h = above-append 10 (32 ∷ w) (spaced_words words) (omega arith, above_less 10 32 w (omega arith) h.0) (spaced_above words h.1)

-- a text is a line, and its end
abbrev pub IsLineOf : List ℕ → List ℕ → Type 0
IsLineOf text bytes = NoEnd bytes × (text ≡ bytes ++ 10 ∷ [])

line_is : (first : Word) (others : List Word) → Above 32 first → Plain others → IsLineOf (line first others) (first ++ spaced_words others)
line_is first others h g = (
  no_end (first ++ spaced_words others) (above-append 10 first (spaced_words others) (above_less 10 32 first (omega arith) h) (spaced_above others g)),
  sym (append_assoc first (spaced_words others) (10 ∷ [])),
)

-- a text is one line
abbrev pub IsALine : List ℕ → Type 0
IsALine text = (bytes : List ℕ) × IsLineOf text bytes

pub item_line_is : (e : Ended) → IsItem e → IsALine (item_line e)
unfolding item_line
item_line_is e h =
    let f = item_fits e h in
    (who_word e.who ++ spaced_words (outcome_words e.tries e.outcome), line_is (who_word e.who) (outcome_words e.tries e.outcome) (who_plain e.who f.who) (outcome_plain e.tries e.outcome f.tries f.outcome))

pub line_text_is : (l : Line) → IsLine l → IsALine (line_text l)
unfolding line_text history_line
line_text_is l h =
    let f = entry_fits l h in
    let others : List Word = who_word l.who ∷ effect_words l.number l.fresh l.answer in
    (ts_word l.ts ++ spaced_words others, line_is (ts_word l.ts) others (ts_plain l.ts f.ts) (who_plain l.who f.who, effect_plain l.number l.fresh l.answer (effect_of (entry_of l) f)))

looked_plain : (l : Looked) → IsLooked l → Plain (looked_words l)
looked_plain (Answered (Ints values)) h = values_plain values (answer_fits (Ints values) h)
looked_plain (Answered (Fault f)) h = (tested_above 32 (codes "!") refl, (fault_plain f, tt))
looked_plain Writes h = (tested_above 32 (codes "writes") refl, tt)

pub look_line_is : (l : Look) → IsLook l → IsALine (look_line l)
unfolding look_line
look_line_is l h =
    let others : List Word = decimal l.number ∷ ts_word l.ts ∷ looked_words l.looked in
    (codes "look" ++ spaced_words others, line_is (codes "look") others (tested_above 32 (codes "look") refl) (decimal_plain l.number (omega (arith, h.number)), (ts_plain l.ts (ts_fits l.ts h.ts), looked_plain l.looked h.looked)))

pub backup_line_is : (b : Backup) → IsBackup b → IsALine (backup_line b)
unfolding backup_line
backup_line_is b h =
    let others : List Word = decimal b.repo ∷ decimal b.place ∷ [] in
    (codes "backup" ++ spaced_words others, line_is (codes "backup") others (tested_above 32 (codes "backup") refl) (decimal_plain b.repo (omega (arith, h.repo)), (decimal_plain b.place h.place, tt)))

pub end_line_is : (n : ℕ) → n < 2 ^ 64 → IsALine (end_line n)
end_line_is n h = (codes "end" ++ spaced_words (decimal n ∷ []), line_is (codes "end") (decimal n ∷ []) (tested_above 32 (codes "end") refl) (decimal_plain n h, tt))

pub heading_is : IsALine (codes "history\n")
heading_is = (codes "history", line_is (codes "history") [] (tested_above 32 (codes "history") refl) tt)

-- two lines with what follows are one
cut_end : (u l x y : List ℕ) → NoEnd u → NoEnd l → u ++ (10 ∷ x) ≡ l ++ (10 ∷ y) → u ≡ l
cut_end [] [] x y h g e = refl
cut_end [] (c ∷ l) x y h g e = let same : 10 ≡ c = cc in absurd (g.0 (sym same))
cut_end (b ∷ u) [] x y h g e = let same : b ≡ 10 = cc in absurd (h.0 same)
cut_end (b ∷ u) (c ∷ l) x y h g e =
    let first : b ≡ c = cc in
    let rest : u ++ (10 ∷ x) ≡ l ++ (10 ∷ y) = cc in
    let others = cut_end u l x y h.1 g.1 rest in
    λ i. first i ∷ others i

-- Bytes that begin with a line go on with that line also where other bytes stand behind it.
pub same_line : (text l m t rest b : List ℕ) → IsALine text → NoEnd l → l ++ (10 ∷ m) ≡ text ++ t → rest ≡ l ++ (10 ∷ b) → rest ≡ text ++ b
same_line text l m t rest b one none e is =
    let whole : text ++ t ≡ one.0 ++ (10 ∷ t) = ap (λ (s : List ℕ). s ++ t) one.1.1 ∙ append_assoc one.0 (10 ∷ []) t in
    let same : l ≡ one.0 = cut_end l one.0 m t none one.1.0 (e ∙ whole) in
    is ∙ ap (λ (s : List ℕ). s ++ (10 ∷ b)) same ∙ sym (append_assoc one.0 (10 ∷ []) b) ∙ ap (λ (s : List ℕ). s ++ b) (sym one.1.1)

-- ---- how many lines end

abbrev counted : ℕ → ℕ
counted b = cond (b == 10) 1 0

pub ended-append : (s t : List ℕ) → ended_lines (s ++ t) ≡ ended_lines s + ended_lines t
ended-append s t = sum_by-append counted s t

-- where a line ends in bytes, they begin with the first one that does
pub first_line : (bytes : List ℕ) → (ended_lines bytes ≡ 0) ⊎ ((l : List ℕ) × (m : List ℕ) × NoEnd l × (bytes ≡ l ++ (10 ∷ m)))
first_line [] = inl refl
first_line (b ∷ bytes) = by (b == 10) refl (first_line bytes)
  where
    by : (same : Bool) → (b == 10) ≡ same → (ended_lines bytes ≡ 0) ⊎ ((l : List ℕ) × (m : List ℕ) × NoEnd l × (bytes ≡ l ++ (10 ∷ m)))
        → (ended_lines (b ∷ bytes) ≡ 0) ⊎ ((l : List ℕ) × (m : List ℕ) × NoEnd l × (b ∷ bytes ≡ l ++ (10 ∷ m)))
    by true is others = let end : b ≡ 10 = grind (arith, nat_tests) in inr ([], bytes, tt, λ i. end i ∷ bytes)
    by false is (inl none) = let adds : counted b ≡ 0 = ap (λ (t : Bool). cond t 1 0) is in inl (omega (arith, sum_by-cons counted b bytes, adds, none))
    by false is (inr some) = let other : b ≢ 10 = λ e. grind (arith, nat_tests) in inr (b ∷ some.0, some.1, (other, some.2), ap (λ (t : List ℕ). b ∷ t) some.3)

-- two ways to split bytes: one front begins the other
pub splits : (a b c d : List ℕ) → a ++ b ≡ c ++ d → ((e : List ℕ) × (a ≡ c ++ e) × (d ≡ e ++ b)) ⊎ ((e : List ℕ) × (c ≡ a ++ e))
splits a b [] d e = inl (a, refl, sym e)
splits [] b (y ∷ c) d e = inr (y ∷ c, refl)
splits (x ∷ a) b (y ∷ c) d e =
    let first : x ≡ y = cc in
    let rest : a ++ b ≡ c ++ d = cc in
    by first (splits a b c d rest)
  where
    by : x ≡ y → ((e : List ℕ) × (a ≡ c ++ e) × (d ≡ e ++ b)) ⊎ ((e : List ℕ) × (c ≡ a ++ e))
        → ((e : List ℕ) × (x ∷ a ≡ y ∷ (c ++ e)) × (d ≡ e ++ b)) ⊎ ((e : List ℕ) × (y ∷ c ≡ x ∷ (a ++ e)))
    by p (inl q) = inl (q.0, (λ i. p i ∷ q.1 i), q.2)
    by p (inr q) = inr (q.0, λ i. sym p i ∷ q.1 i)
