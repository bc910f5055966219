-- How many lines a report has.
use Rattle.std.proofs.Common.{◌≡◌, ◌≢◌, ℕ, suc, ◌+◌, ◌^◌, ◌<◌, ◌≤◌, ◌==◌, List, [], ◌∷◌, ◌++◌, length, append_assoc, refl, ap, ◌∙◌, arith, All, codes}
use Rattle.std.proofs.lemmas.List.Sums.{sum_by-append, sum_by-cons}
use Rattle.std.specs.List.{flat_map}
use Rattle.std.proofs.Common.{cond}
use Rattle.std.proofs.lemmas.Bool.Decides.{nat_tests}
use Rattle.std.specs.Fmt.{decimal}
use Rattle.serial_model.specs.declared.entries.Did.{Did}
use Rattle.serial_model.specs.declared.outcomes.Ended.{Ended}
use Rattle.report_text.specs.Lines.{newlines, IsOneLine, line, spaced_words}
use Rattle.report_text.proofs.Splits.{Above}
use Rattle.report_text.proofs.PlainWords.{decimal_above}
use Rattle.report_text.specs.Report.{report_text, item_line, history_line, history_heading, end_line}

-- what one byte adds to the number of lines
abbrev counted : ℕ → ℕ
counted b = cond (b == 10) 1 0

pub newlines-append : (s t : List ℕ) → newlines (s ++ t) ≡ newlines s + newlines t
newlines-append s t = sum_by-append counted s t

not_newline : (b : ℕ) → b ≢ 10 → counted b ≡ 0
not_newline b h = grind (arith, nat_tests)

newlines-none : (bytes : List ℕ) → All (λ b. b ≢ 10) bytes → newlines bytes ≡ 0
newlines-none [] h = refl
newlines-none (b ∷ bs) h =
    sum_by-cons counted b bs ∙ ap (λ n. n + newlines bs) (not_newline b (h 0 b (omega arith)))
    ∙ omega (arith, newlines-none bs (λ k d l. h (suc k) d (omega arith)))

newlines-one_line : (text : List ℕ) → IsOneLine text → newlines text ≡ 1
newlines-one_line text h = omega (arith, ap newlines h.1, newlines-append h.0 (10 ∷ []), newlines-none h.0 h.2)

newlines-line : (first : List ℕ) (others : List (List ℕ)) → 1 ≤ newlines (line first others)
newlines-line first others = omega (arith, newlines-append first (spaced_words others ++ 10 ∷ []), newlines-append (spaced_words others) (10 ∷ []))

-- the heading of the history ends a line, and so does the last line
pub two_newlines : (ends : List Ended) (history : List Did) → 2 ≤ newlines (report_text ends history)
unfolding report_text
two_newlines ends history =
    let items : List ℕ = flat_map item_line ends in
    let lines : List ℕ = flat_map history_line history in
    let end : List ℕ = end_line (length history) in
    omega (
      arith,
      newlines-append items (history_heading ++ (lines ++ end)),
      newlines-append history_heading (lines ++ end),
      newlines-append lines end,
      newlines-line (codes "end") (decimal (length history) ∷ []),
      newlines-line (codes "history") [],
    )

pub no_single_line : (ends : List Ended) (history : List Did) → ¬ IsOneLine (report_text ends history)
no_single_line ends history one = omega (arith, two_newlines ends history, newlines-one_line (report_text ends history) one)

-- what stands before the last byte
abbrev pub all_but_last : List Ended → List Did → List ℕ
all_but_last ends history =
    flat_map item_line ends ++ (history_heading ++ (flat_map history_line history ++ (codes "end" ++ spaced_words (decimal (length history) ∷ []))))

pub ends_a_line : (ends : List Ended) (history : List Did) → (front : List ℕ) × (report_text ends history ≡ front ++ 10 ∷ [])
unfolding report_text
ends_a_line ends history = (all_but_last ends history, simp append_assoc)

above_none : (bs : List ℕ) → Above 47 bs → newlines bs ≡ 0
above_none [] a = refl
above_none (b ∷ bs) a =
    let other : b ≢ 10 = omega (arith, a.0) in
    sum_by-cons counted b bs ∙ ap (λ n. n + newlines bs) (not_newline b other) ∙ omega (arith, above_none bs a.1)

-- a number ends no line
pub newlines-decimal : (n : ℕ) → n < 2 ^ 64 → newlines (decimal n) ≡ 0
newlines-decimal n h = above_none (decimal n) (decimal_above n h)
