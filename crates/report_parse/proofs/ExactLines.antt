-- The readings of the history's lines and of the last line are exact.
use Rattle.std.proofs.Common.{◌≡◌, ◌≢◌, ℕ, zero, suc, ◌<◌, ◌^◌, true, ℤ, List, [], ◌∷◌, ◌++◌, append-nil, append_assoc, refl, sym, ap, subst, ◌∙◌, arith, inl, inr, map, codes, None}
use Rattle.std.specs.Prelude.{◌==◌, not}
use Rattle.std.specs.Fmt.{decimal}
use Rattle.std.specs.List.{flat_map, AllByRecursion}
use Rattle.std.proofs.lemmas.Bool.Decides.{nat_tests}
use Rattle.std.proofs.lemmas.List.Concat.{flat_map-append}
use Rattle.std.proofs.lemmas.List.Folds.{flat_map-map}
use Rattle.thor_value.specs.declared.names.Oref.{Oref}
use Rattle.thor_value.specs.declared.names.Ts.{Ts}
use Rattle.thor_value.specs.declared.values.Who.{Who}
use Rattle.thor_value.specs.declared.values.Fault.{Fault as FaultKind}
use Rattle.thor_value.specs.declared.values.Answer.{Answer}
use Rattle.thor_value.specs.declared.values.Answer.TheVariants.{Ints, Fault}
use Rattle.report_text.specs.Lines.{spaced_words}
use Rattle.report_text.specs.Words.{who_word, ts_word, oref_word, fault_word}
use Rattle.report_text.specs.Report.{values_words, effect_words, history_line, end_line}
use Rattle.report_parse.specs.declared.lines.Effect.{Effect}
use Rattle.report_parse.specs.declared.report.Line.{Line}
use Rattle.report_parse.specs.Reading.{◌then◌, strip, made, after_text, before, such_that, all_of}
use Rattle.report_parse.specs.Numbers.{number_at, u32_at, u64_at}
use Rattle.report_parse.specs.Words.{who_at, ts_at, oref_at, fault_at}
use Rattle.report_parse.specs.Items.{values_at}
use Rattle.report_parse.specs.HistoryLines.{spaced_oref_at, has_some, created_at, created_of, upgraded_at, upgraded_of, printed_of, failed_of, effects, effect_at, line_by, line_at, end_at}
use Rattle.report_parse.specs.Widths.{IsTs, IsOref, IsWho, IsInt, IsAnswer}
use Rattle.report_parse.specs.Reports.{IsLine, entry_of}
use Rattle.report_parse.proofs.Exact.{IsExact, IsCase, Any, StandsAmong, NoMore, narrowed, exact_then, exact_made, exact_behind, exact_before, exact_such, exact_as, exact_all, exact_first, case_made}
use Rattle.report_parse.proofs.ExactNumbers.{NoDigit, exact_u32, exact_u64}
use Rattle.report_parse.proofs.ExactWords.{separated, exact_who, exact_ts, exact_oref, IsFault, exact_fault}
use Rattle.report_parse.proofs.ExactItems.{AtEnd, at_end, values_text, exact_values}

abbrev Below : ℕ → ℕ → Type 0
Below k n = n < 2 ^ k

-- ---- new objects

abbrev spaced_oref : Oref → List ℕ
spaced_oref x = 32 ∷ oref_word x

exact_spaced_oref : IsExact NoDigit IsOref spaced_oref spaced_oref_at
unfolding spaced_oref_at
exact_spaced_oref = exact_behind NoDigit IsOref oref_word (codes " ") oref_at exact_oref

abbrev IsSome : List Oref → Type 0
IsSome xs = AllByRecursion IsOref xs × (has_some xs ≡ true)

abbrev NoName : List ℕ → Type 0
NoName = NoMore NoDigit IsOref spaced_oref spaced_oref_at exact_spaced_oref

exact_names : IsExact NoName IsSome (flat_map spaced_oref) (such_that has_some (all_of spaced_oref_at))
exact_names =
    exact_such NoName (AllByRecursion IsOref) (flat_map spaced_oref) has_some (all_of spaced_oref_at)
    (exact_all NoDigit IsOref spaced_oref spaced_oref_at exact_spaced_oref (λ v rest h. refl) (λ v h. omega arith))

no_name : (rest : List ℕ) → spaced_oref_at (codes " :" ++ rest) ≡ None
unfolding spaced_oref_at strip oref_at number_at
no_name rest = refl

abbrev IsCreated : List Oref × List ℤ → Type 0
IsCreated x = IsSome x.0 × AllByRecursion IsInt x.1

abbrev created_text : List Oref × List ℤ → List ℕ
created_text x = flat_map spaced_oref x.0 ++ (codes " :" ++ values_text x.1)

exact_created : IsExact AtEnd IsCreated created_text created_at
unfolding created_at
exact_created =
    exact_then NoName AtEnd IsSome (AllByRecursion IsInt) (flat_map spaced_oref) (λ values. codes " :" ++ values_text values) (such_that has_some (all_of spaced_oref_at)) (after_text (codes " :") values_at) exact_names
    (exact_behind AtEnd (AllByRecursion IsInt) values_text (codes " :") values_at exact_values)
    (λ values rest h m. (refl, no_name (values_text values ++ rest)))

-- ---- upgrades

not_zero : (n : ℕ) → not (n == 0) ≡ true → n ≢ 0
not_zero n e z = grind (arith, nat_tests)

other_than_zero : (n : ℕ) → not (suc n == 0) ≡ true
other_than_zero n = grind (arith, nat_tests)

abbrev IsUpgrade : ℕ → Type 0
IsUpgrade n = Below 32 n × (not (n == 0) ≡ true)

exact_upgraded : IsExact NoDigit IsUpgrade decimal upgraded_at
unfolding upgraded_at
exact_upgraded = exact_such NoDigit (Below 32) decimal (λ n. not (n == 0)) u32_at exact_u32

-- ---- effects

-- what an entry did, as a history has it
pub record IsEffect (e : Effect) : Type 0 where
  pub upgrade : e.number ≢ 0 → (e.fresh ≡ []) × (e.answer ≡ Ints [])
  pub fault : (fault : FaultKind) → e.answer ≡ Fault fault → e.fresh ≡ []
  pub number : e.number < 2 ^ 32
  pub fresh : AllByRecursion IsOref e.fresh
  pub answer : IsAnswer e.answer

unfoldable pub effect_text : Effect → List ℕ
effect_text e = spaced_words (effect_words e.number e.fresh e.answer)

printed : IsCase AtEnd IsEffect effect_text (AllByRecursion IsInt) printed_of (codes " :", made printed_of values_at)
unfolding effect_text
printed =
    case_made AtEnd IsEffect effect_text (AllByRecursion IsInt) values_text (codes " :") printed_of values_at exact_values
    (λ values h. (record { upgrade = λ nonzero. absurd (nonzero refl); fault = λ f e. refl; number = omega arith; fresh = tt; answer = h }, refl))

created_is : (xs : List Oref) (values : List ℤ) → has_some xs ≡ true → effect_text (created_of (xs, values)) ≡ codes " new" ++ created_text (xs, values)
unfolding effect_text
created_is [] values some = absurd cc
created_is (x ∷ xs) values some =
    let both : spaced_words (map oref_word (x ∷ xs) ++ values_words values) ≡ flat_map spaced_oref (x ∷ xs) ++ spaced_words (values_words values) =
    flat_map-append (λ w. 32 ∷ w) (map oref_word (x ∷ xs)) (values_words values)
    ∙ ap (λ (t : List ℕ). t ++ spaced_words (values_words values)) (flat_map-map (λ w. 32 ∷ w) oref_word (x ∷ xs)) in
    ap (λ (t : List ℕ). codes " new" ++ t) both

no_fault : (values : List ℤ) (f : FaultKind) → Ints values ≡ Fault f → ⊥
no_fault values f e = cc

created : IsCase AtEnd IsEffect effect_text IsCreated created_of (codes " new", made created_of created_at)
created =
    case_made AtEnd IsEffect effect_text IsCreated created_text (codes " new") created_of created_at exact_created
    (λ x h. (record { upgrade = λ nonzero. absurd (nonzero refl); fault = λ f e. absurd (no_fault x.1 f e); number = omega arith; fresh = h.0.0; answer = h.1 }, created_is x.0 x.1 h.0.1))

failed : IsCase AtEnd IsEffect effect_text IsFault failed_of (codes " ! ", made failed_of fault_at)
unfolding effect_text
failed =
    case_made AtEnd IsEffect effect_text IsFault fault_word (codes " ! ") failed_of fault_at (narrowed Any AtEnd IsFault fault_word fault_at exact_fault (λ rest m. tt))
    (λ f h. (record { upgrade = λ nonzero. absurd (nonzero refl); fault = λ g e. refl; number = omega arith; fresh = tt; answer = tt }, ap (λ (w : List ℕ). codes " ! " ++ w) (append-nil (fault_word f))))

upgraded_is : (n : ℕ) → n ≢ 0 → effect_text (upgraded_of n) ≡ codes " upgrade " ++ decimal n
unfolding effect_text
upgraded_is zero nonzero = absurd (nonzero refl)
upgraded_is (suc n) nonzero = ap (λ (w : List ℕ). codes " upgrade " ++ w) (append-nil (decimal (suc n)))

upgraded : IsCase AtEnd IsEffect effect_text IsUpgrade upgraded_of (codes " upgrade ", made upgraded_of upgraded_at)
upgraded =
    case_made AtEnd IsEffect effect_text IsUpgrade decimal (codes " upgrade ") upgraded_of upgraded_at (at_end IsUpgrade decimal upgraded_at exact_upgraded)
    (λ n h. (record { upgrade = λ nonzero. (refl, refl); fault = λ f e. refl; number = h.0; fresh = tt; answer = tt }, upgraded_is n (not_zero n h.1)))

abbrev by_parts : ℕ → List Oref → Answer → Effect
by_parts n xs a = record { number = n; fresh = xs; answer = a }

effects_stand : (n : ℕ) (xs : List Oref) (a : Answer) → IsEffect (by_parts n xs a) → StandsAmong AtEnd IsEffect effect_text (by_parts n xs a) effects
effects_stand zero [] (Ints values) h = inl (printed.stands values h.answer)
effects_stand zero (x ∷ xs) (Ints values) h = inr (inl (created.stands ((x ∷ xs), values) ((h.fresh, refl), h.answer)))
effects_stand zero [] (Fault f) h = inr (inr (inl (failed.stands f tt)))
effects_stand zero (x ∷ xs) (Fault f) h = let none : x ∷ xs ≡ [] = h.fault f refl in absurd cc
effects_stand (suc n) xs a h =
    let nonzero : suc n ≢ 0 = λ z. omega (arith, z) in
    let is = h.upgrade nonzero in
    let same : upgraded_of (suc n) ≡ by_parts (suc n) xs a = λ i. by_parts (suc n) (sym is.0 i) (sym is.1 i) in
    subst (λ (e : Effect). StandsAmong AtEnd IsEffect effect_text e effects) same (inr (inr (inr (inl (upgraded.stands (suc n) (h.number, other_than_zero n))))))

exact_effect : IsExact AtEnd IsEffect effect_text effect_at
unfolding effect_at
exact_effect =
    exact_first AtEnd IsEffect effect_text effects refl (printed.finds, (created.finds, (failed.finds, (upgraded.finds, tt))))
    (λ e h. effects_stand e.number e.fresh e.answer h)

effect_spaced : (n : ℕ) (xs : List Oref) (a : Answer) (rest : List ℕ) → NoDigit (effect_text (by_parts n xs a) ++ rest)
unfolding effect_text
effect_spaced zero [] (Ints values) rest = refl
effect_spaced zero (x ∷ xs) (Ints values) rest = refl
effect_spaced zero xs (Fault f) rest = refl
effect_spaced (suc n) xs a rest = refl

-- ---- the line of an entry

abbrev Parts : Type 0
Parts = Ts × (Who × Effect)

abbrev AreParts : Parts → Type 0
AreParts x = IsTs x.0 × (IsWho x.1.0 × IsEffect x.1.1)

abbrev whole_text : Parts → List ℕ
whole_text x = ts_word x.0 ++ (codes " " ++ (who_word x.1.0 ++ effect_text x.1.1))

exact_whole : IsExact AtEnd AreParts whole_text (ts_at then after_text (codes " ") (who_at then effect_at))
exact_whole =
    separated IsTs ts_word ts_at exact_ts (codes " ") (λ rest. refl) AtEnd (λ x. IsWho x.0 × IsEffect x.1) (λ x. who_word x.0 ++ effect_text x.1) (who_at then effect_at)
    (exact_then NoDigit AtEnd IsWho IsEffect who_word effect_text who_at effect_at exact_who exact_effect (λ e rest h m. effect_spaced e.number e.fresh e.answer rest))

-- a line as its text
unfoldable pub line_text : Line → List ℕ
line_text l = history_line (entry_of l)

abbrev parts_of : Line → Parts
parts_of l = (l.ts, (l.who, by_parts l.number l.fresh l.answer))

line_is : (l : Line) → line_text l ≡ whole_text (parts_of l) ++ codes "\n"
unfolding line_text history_line effect_text
line_is l = sym (append_assoc (ts_word l.ts) (32 ∷ (who_word l.who ++ spaced_words (effect_words l.number l.fresh l.answer))) (10 ∷ []))

pub exact_line : IsExact Any IsLine line_text line_at
unfolding line_at
exact_line =
    exact_made Any AreParts IsLine (λ x. whole_text x ++ codes "\n") line_text line_by parts_of (before (codes "\n") (ts_at then after_text (codes " ") (who_at then effect_at)))
    (exact_before AtEnd AreParts whole_text (codes "\n") (ts_at then after_text (codes " ") (who_at then effect_at)) exact_whole (λ rest. (rest, refl)))
    (λ x h. (record { upgrade = h.1.1.upgrade; fault = h.1.1.fault; ts = h.0; who = h.1.0; number = h.1.1.number; fresh = h.1.1.fresh; answer = h.1.1.answer }, line_is (line_by x)))
    (λ l h. ((h.ts, (h.who, record { upgrade = h.upgrade; fault = h.fault; number = h.number; fresh = h.fresh; answer = h.answer })), refl))

-- ---- the last line

abbrev pub IsCount : ℕ → ℕ → Type 0
IsCount count n = (n < 2 ^ 64) × ((n == count) ≡ true)

abbrev counted_text : ℕ → List ℕ
counted_text n = codes "end " ++ decimal n

last_is : (n : ℕ) → end_line n ≡ counted_text n ++ codes "\n"
last_is n = ap (λ (w : List ℕ). codes "end " ++ (w ++ 10 ∷ [])) (append-nil (decimal n))

pub exact_end : (count : ℕ) → IsExact Any (IsCount count) end_line (end_at count)
unfolding end_at
exact_end count =
    exact_as Any (IsCount count) (IsCount count) (λ n. counted_text n ++ codes "\n") end_line (before (codes "\n") (after_text (codes "end ") (such_that (λ n. n == count) u64_at)))
    (exact_before NoDigit (IsCount count) counted_text (codes "\n") (after_text (codes "end ") (such_that (λ n. n == count) u64_at))
    (exact_behind NoDigit (IsCount count) decimal (codes "end ") (such_that (λ n. n == count) u64_at) (exact_such NoDigit (Below 64) decimal (λ n. n == count) u64_at exact_u64)) (λ rest. refl))
    (λ n h. (h, last_is n)) (λ n h. h)
