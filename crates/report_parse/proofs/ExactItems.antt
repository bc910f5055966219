-- The reading of an item's line is exact.
use Rattle.std.proofs.Common.{◌≡◌, ℕ, ◌<◌, ◌^◌, ℤ, List, [], ◌∷◌, ◌++◌, append-nil, append_assoc, refl, sym, ap, subst, ◌∙◌, arith, inl, inr, map, codes, None}
use Rattle.std.specs.Fmt.{decimal, signed_decimal}
use Rattle.std.specs.List.{flat_map, AllByRecursion}
use Rattle.std.proofs.lemmas.List.Concat.{flat_map-append}
use Rattle.std.proofs.lemmas.List.Folds.{flat_map-map}
use Rattle.thor_value.specs.declared.names.Ts.{Ts}
use Rattle.thor_value.specs.declared.values.Who.{Who}
use Rattle.thor_value.specs.declared.values.Fault.{Fault}
use Rattle.serial_model.specs.declared.outcomes.Cause.{Cause}
use Rattle.serial_model.specs.declared.outcomes.Ended.{Ended}
use Rattle.serial_model.specs.declared.outcomes.ItemOutcome.{ItemOutcome}
use Rattle.serial_model.specs.declared.outcomes.ItemOutcome.TheVariants.{Done, Upgraded, Faulted, Refused, Unknown}
use Rattle.report_text.specs.Lines.{spaced_words}
use Rattle.report_text.specs.Words.{who_word, ts_word, fault_word, cause_words}
use Rattle.report_text.specs.Report.{values_words, try_words, upgrade_words, outcome_words, item_line}
use Rattle.report_text.specs.Shown.{shown_tries}
use Rattle.report_parse.specs.Reading.{Reading, ◌then◌, strip, made, after_text, before, all_of, first_of}
use Rattle.report_parse.specs.Numbers.{u32_at, spaced_int_at}
use Rattle.report_parse.specs.Words.{who_at, ts_at, fault_at}
use Rattle.report_parse.specs.Causes.{cause_at}
use Rattle.report_parse.specs.Items.{Tried, Given, Printed, Numbered, values_at, tries_at, answers, done_of, done_at, faulted_of, faulted_at, refused_of, refused_at, unknown_of, outcomes, outcome_at, item_of, item_at}
use Rattle.report_parse.specs.Widths.{IsTs, IsWho, IsInt, IsCause, IsOutcome}
use Rattle.report_parse.specs.Reports.{IsItem}
use Rattle.report_parse.proofs.Exact.{IsExact, IsCase, Any, StandsAmong, Stands, NoMore, narrowed, exact_then, exact_made, exact_behind, exact_before, exact_as, exact_all, exact_first, case_made}
use Rattle.report_parse.proofs.ExactNumbers.{NoDigit, exact_u32, exact_spaced_int}
use Rattle.report_parse.proofs.ExactWords.{exact_who, exact_ts, IsFault, exact_fault}
use Rattle.report_parse.proofs.ExactCauses.{cause_text, cause_spaced, exact_cause}

abbrev Below : ℕ → ℕ → Type 0
Below k n = n < 2 ^ k

-- the end of a line follows
abbrev pub AtEnd : List ℕ → Type 0
AtEnd rest = (more : List ℕ) × (rest ≡ 10 ∷ more)

pub no_digit : (rest : List ℕ) → AtEnd rest → NoDigit rest
no_digit rest m = subst NoDigit (sym m.1) refl

-- a reading that ends before what is no digit, at the end of a line
pub at_end : {X : Type 0} (Has : X → Type 0) (spelling : X → List ℕ) (read : Reading X) → IsExact NoDigit Has spelling read → IsExact AtEnd Has spelling read
at_end Has spelling read ok = narrowed NoDigit AtEnd Has spelling read ok no_digit

-- ---- printed values

abbrev spaced_int : ℤ → List ℕ
spaced_int z = 32 ∷ signed_decimal z

no_value : (more : List ℕ) → spaced_int_at (10 ∷ more) ≡ None
unfolding spaced_int_at strip
no_value more = refl

no_more_values : (rest : List ℕ) → AtEnd rest → NoMore NoDigit IsInt spaced_int spaced_int_at exact_spaced_int rest
no_more_values rest m = (no_digit rest m, ap spaced_int_at m.1 ∙ no_value m.0)

abbrev pub values_text : List ℤ → List ℕ
values_text values = spaced_words (map signed_decimal values)

pub exact_values : IsExact AtEnd (AllByRecursion IsInt) values_text values_at
unfolding values_at
exact_values =
    exact_as AtEnd (AllByRecursion IsInt) (AllByRecursion IsInt) (flat_map spaced_int) values_text (all_of spaced_int_at)
    (narrowed (NoMore NoDigit IsInt spaced_int spaced_int_at exact_spaced_int) AtEnd (AllByRecursion IsInt) (flat_map spaced_int) (all_of spaced_int_at)
    (exact_all NoDigit IsInt spaced_int spaced_int_at exact_spaced_int (λ v rest h. refl) (λ v h. omega arith)) no_more_values)
    (λ values h. (h, flat_map-map (λ w. 32 ∷ w) signed_decimal values)) (λ values h. h)

-- ---- what stands behind `Done`

abbrev tries_text : ℕ → List ℕ
tries_text n = codes " try " ++ decimal n

exact_tries : IsExact NoDigit (Below 32) tries_text tries_at
unfolding tries_at
exact_tries = exact_behind NoDigit (Below 32) decimal (codes " try ") u32_at exact_u32

abbrev IsGiven : Given → Type 0
IsGiven (Printed values) = AllByRecursion IsInt values
IsGiven (Numbered number) = Below 32 number

abbrev given_text : Given → List ℕ
given_text (Printed values) = spaced_words (values_words values)
given_text (Numbered number) = spaced_words (upgrade_words number)

printed : IsCase AtEnd IsGiven given_text (AllByRecursion IsInt) (λ values. Printed values) (codes " :", made (λ values. Printed values) values_at)
printed = case_made AtEnd IsGiven given_text (AllByRecursion IsInt) values_text (codes " :") (λ values. Printed values) values_at exact_values (λ values h. (h, refl))

upgraded : IsCase AtEnd IsGiven given_text (Below 32) (λ number. Numbered number) (codes " upgrade ", made (λ number. Numbered number) u32_at)
upgraded =
    case_made AtEnd IsGiven given_text (Below 32) decimal (codes " upgrade ") (λ number. Numbered number) u32_at (at_end (Below 32) decimal u32_at exact_u32)
    (λ number h. (h, ap (λ (w : List ℕ). codes " upgrade " ++ w) (append-nil (decimal number))))

given_stand : (a : Given) → IsGiven a → StandsAmong AtEnd IsGiven given_text a answers
given_stand (Printed values) h = inl (printed.stands values h)
given_stand (Numbered number) h = inr (inl (upgraded.stands number h))

exact_given : IsExact AtEnd IsGiven given_text (first_of answers)
exact_given = exact_first AtEnd IsGiven given_text answers refl (printed.finds, (upgraded.finds, tt)) given_stand

given_spaced : (a : Given) (rest : List ℕ) → NoDigit (given_text a ++ rest)
given_spaced (Printed values) rest = refl
given_spaced (Numbered number) rest = refl

abbrev IsDone : Ts × (ℕ × Given) → Type 0
IsDone x = IsTs x.0 × (Below 32 x.1.0 × IsGiven x.1.1)

abbrev done_text : Ts × (ℕ × Given) → List ℕ
done_text x = ts_word x.0 ++ (tries_text x.1.0 ++ given_text x.1.1)

exact_done : IsExact AtEnd IsDone done_text done_at
unfolding done_at
exact_done =
    exact_then NoDigit AtEnd IsTs (λ v. Below 32 v.0 × IsGiven v.1) ts_word (λ v. tries_text v.0 ++ given_text v.1) ts_at (tries_at then first_of answers) exact_ts
    (exact_then NoDigit AtEnd (Below 32) IsGiven tries_text given_text tries_at (first_of answers) exact_tries exact_given (λ a rest h m. given_spaced a rest))
    (λ v rest h m. refl)

-- ---- outcomes

-- tries and an outcome, as a report tells them
pub record IsTried (x : Tried) : Type 0 where
  pub tries : x.0 < 2 ^ 32
  pub outcome : IsOutcome x.1
  pub shown : shown_tries x.0 x.1 ≡ x.0

unfoldable pub tried_text : Tried → List ℕ
tried_text x = spaced_words (outcome_words x.0 x.1)

done_is : (ts : Ts) (n : ℕ) (a : Given) → IsDone (ts, (n, a)) → IsTried (done_of (ts, (n, a))) × (tried_text (done_of (ts, (n, a))) ≡ codes " Done " ++ done_text (ts, (n, a)))
unfolding tried_text outcome_words
done_is ts n (Printed values) h = (record { tries = h.1.0; outcome = (h.0, h.1.1); shown = refl }, refl)
done_is ts n (Numbered number) h = (record { tries = h.1.0; outcome = (h.0, h.1.1); shown = refl }, refl)

done : IsCase AtEnd IsTried tried_text IsDone done_of (codes " Done ", made done_of done_at)
done = case_made AtEnd IsTried tried_text IsDone done_text (codes " Done ") done_of done_at exact_done (λ x h. done_is x.0 x.1.0 x.1.1 h)

abbrev IsFaulted : Fault × (Ts × ℕ) → Type 0
IsFaulted x = IsFault x.0 × (IsTs x.1.0 × Below 32 x.1.1)

abbrev stamped_text : Ts × ℕ → List ℕ
stamped_text x = ts_word x.0 ++ tries_text x.1

exact_stamped : IsExact NoDigit (λ x. IsTs x.0 × Below 32 x.1) stamped_text (ts_at then tries_at)
exact_stamped = exact_then NoDigit NoDigit IsTs (Below 32) ts_word tries_text ts_at tries_at exact_ts exact_tries (λ n rest h m. refl)

abbrev faulted_text : Fault × (Ts × ℕ) → List ℕ
faulted_text x = fault_word x.0 ++ (codes " " ++ stamped_text x.1)

exact_faulted : IsExact NoDigit IsFaulted faulted_text faulted_at
unfolding faulted_at
exact_faulted =
    exact_then Any NoDigit IsFault (λ x. IsTs x.0 × Below 32 x.1) fault_word (λ x. codes " " ++ stamped_text x) fault_at (after_text (codes " ") (ts_at then tries_at)) exact_fault
    (exact_behind NoDigit (λ x. IsTs x.0 × Below 32 x.1) stamped_text (codes " ") (ts_at then tries_at) exact_stamped) (λ y rest h m. tt)

faulted_is : (f : Fault) (ts : Ts) (n : ℕ) → tried_text (faulted_of (f, (ts, n))) ≡ codes " Faulted " ++ faulted_text (f, (ts, n))
unfolding tried_text outcome_words
faulted_is f ts n = ap (λ (w : List ℕ). codes " Faulted " ++ (fault_word f ++ (32 ∷ (ts_word ts ++ (codes " try " ++ w))))) (append-nil (decimal n))

faulted : IsCase AtEnd IsTried tried_text IsFaulted faulted_of (codes " Faulted ", made faulted_of faulted_at)
faulted =
    case_made AtEnd IsTried tried_text IsFaulted faulted_text (codes " Faulted ") faulted_of faulted_at (at_end IsFaulted faulted_text faulted_at exact_faulted)
    (λ x h. (record { tries = h.1.1; outcome = h.1.0; shown = refl }, faulted_is x.0 x.1.0 x.1.1))

abbrev IsRefused : Cause × ℕ → Type 0
IsRefused x = IsCause x.0 × Below 32 x.1

abbrev refused_text : Cause × ℕ → List ℕ
refused_text x = cause_text x.0 ++ tries_text x.1

exact_refused : IsExact NoDigit IsRefused refused_text refused_at
unfolding refused_at
exact_refused = exact_then NoDigit NoDigit IsCause (Below 32) cause_text tries_text cause_at tries_at exact_cause exact_tries (λ n rest h m. refl)

refused_is : (c : Cause) (n : ℕ) → tried_text (refused_of (c, n)) ≡ codes " Refused " ++ refused_text (c, n)
unfolding tried_text outcome_words
refused_is c n =
    let both : spaced_words (cause_words c ++ try_words n) ≡ (32 ∷ cause_text c) ++ spaced_words (try_words n) =
    flat_map-append (λ w. 32 ∷ w) (cause_words c) (try_words n) ∙ ap (λ (t : List ℕ). t ++ spaced_words (try_words n)) (cause_spaced c) in
    ap (λ (t : List ℕ). codes " Refused" ++ t) both
    ∙ ap (λ (w : List ℕ). codes " Refused " ++ (cause_text c ++ (codes " try " ++ w))) (append-nil (decimal n))

refused : IsCase AtEnd IsTried tried_text IsRefused refused_of (codes " Refused ", made refused_of refused_at)
refused =
    case_made AtEnd IsTried tried_text IsRefused refused_text (codes " Refused ") refused_of refused_at (at_end IsRefused refused_text refused_at exact_refused)
    (λ x h. (record { tries = h.1; outcome = h.0; shown = refl }, refused_is x.0 x.1))

unknown_is : (t : Ts) → tried_text (unknown_of t) ≡ codes " Unknown " ++ ts_word t
unfolding tried_text outcome_words
unknown_is t = ap (λ (w : List ℕ). codes " Unknown " ++ w) (append-nil (ts_word t))

unknown : IsCase AtEnd IsTried tried_text IsTs unknown_of (codes " Unknown ", made unknown_of ts_at)
unknown =
    case_made AtEnd IsTried tried_text IsTs ts_word (codes " Unknown ") unknown_of ts_at (at_end IsTs ts_word ts_at exact_ts)
    (λ t h. (record { tries = omega arith; outcome = h; shown = refl }, unknown_is t))

tried_stand : (n : ℕ) (o : ItemOutcome) → IsTried (n, o) → StandsAmong AtEnd IsTried tried_text (n, o) outcomes
tried_stand n (Done ts values) h = inl (done.stands (ts, (n, Printed values)) (h.outcome.0, (h.tries, h.outcome.1)))
tried_stand n (Upgraded ts number) h = inl (done.stands (ts, (n, Numbered number)) (h.outcome.0, (h.tries, h.outcome.1)))
tried_stand n (Faulted ts fault) h = inr (inl (faulted.stands (fault, (ts, n)) (tt, (h.outcome, h.tries))))
tried_stand n (Refused cause) h = inr (inr (inl (refused.stands (cause, n) (h.outcome, h.tries))))
tried_stand n (Unknown tx) h =
    inr (inr (inr (inl (subst (λ (k : ℕ). Stands AtEnd IsTried tried_text (k, Unknown tx) (codes " Unknown ", made unknown_of ts_at)) h.shown (unknown.stands tx h.outcome)))))

exact_outcome : IsExact AtEnd IsTried tried_text outcome_at
unfolding outcome_at
exact_outcome = exact_first AtEnd IsTried tried_text outcomes refl (done.finds, (faulted.finds, (refused.finds, (unknown.finds, tt)))) (λ x h. tried_stand x.0 x.1 h)

tried_spaced : (n : ℕ) (o : ItemOutcome) (rest : List ℕ) → NoDigit (tried_text (n, o) ++ rest)
unfolding tried_text outcome_words
tried_spaced n (Done ts values) rest = refl
tried_spaced n (Upgraded ts number) rest = refl
tried_spaced n (Faulted ts fault) rest = refl
tried_spaced n (Refused cause) rest = refl
tried_spaced n (Unknown tx) rest = refl

-- ---- an item's line

abbrev whole_text : Who × Tried → List ℕ
whole_text x = who_word x.0 ++ tried_text x.1

exact_whole : IsExact AtEnd (λ x. IsWho x.0 × IsTried x.1) whole_text (who_at then outcome_at)
exact_whole = exact_then NoDigit AtEnd IsWho IsTried who_word tried_text who_at outcome_at exact_who exact_outcome (λ x rest h m. tried_spaced x.0 x.1 rest)

item_is : (e : Ended) → item_line e ≡ whole_text (e.who, (e.tries, e.outcome)) ++ codes "\n"
unfolding item_line tried_text
item_is e = sym (append_assoc (who_word e.who) (spaced_words (outcome_words e.tries e.outcome)) (10 ∷ []))

pub exact_item : IsExact Any IsItem item_line item_at
unfolding item_at
exact_item =
    exact_made Any (λ x. IsWho x.0 × IsTried x.1) IsItem (λ x. whole_text x ++ codes "\n") item_line item_of (λ e. (e.who, (e.tries, e.outcome))) (before (codes "\n") (who_at then outcome_at))
    (exact_before AtEnd (λ x. IsWho x.0 × IsTried x.1) whole_text (codes "\n") (who_at then outcome_at) exact_whole (λ rest. (rest, refl)))
    (λ x h. (record { who = h.0; tries = h.1.tries; outcome = h.1.outcome; shown = h.1.shown }, item_is (item_of x)))
    (λ e h. ((h.who, record { tries = h.tries; outcome = h.outcome; shown = h.shown }), refl))
