-- The reading of causes is exact.
use Rattle.std.proofs.Common.{◌≡◌, ℕ, ◌<◌, ◌^◌, List, [], ◌∷◌, ◌++◌, append-nil, refl, ap, ◌∙◌, inl, inr, codes}
use Rattle.std.specs.Fmt.{decimal}
use Rattle.thor_value.specs.declared.names.Oref.{Oref}
use Rattle.thor_value.specs.declared.names.Ts.{Ts}
use Rattle.serial_model.specs.declared.outcomes.Cause.{Cause}
use Rattle.serial_model.specs.declared.outcomes.Cause.TheVariants.{Missing, Down, Calls}
use Rattle.serial_model.specs.declared.outcomes.Cause.TheVariants as cause
use Rattle.base_reasons.specs.declared.reason.Reason.TheVariants.{Stale, Earlier, Later, TooOld, Epoch, Blocked, Gone, Full, ClockEnd}
use Rattle.report_text.specs.Lines.{spaced_words}
use Rattle.report_text.specs.Words.{Word, ts_word, oref_word, cause_words}
use Rattle.report_parse.specs.Reading.{Reading, made}
use Rattle.report_parse.specs.Numbers.{u8_at, u32_at, u64_at}
use Rattle.report_parse.specs.Words.{oref_at, ts_at}
use Rattle.report_parse.specs.Causes.{place_at, ts_with_oref_at, causes, cause_at}
use Rattle.report_parse.specs.Widths.{IsTs, IsOref, IsCause}
use Rattle.report_parse.proofs.Exact.{IsExact, IsCase, StandsAmong, case_made, exact_first, only_finds, only_stands}
use Rattle.report_parse.proofs.ExactNumbers.{NoDigit, exact_u8, exact_u32, exact_u64}
use Rattle.report_parse.proofs.ExactWords.{separated, exact_ts, exact_oref}

abbrev Below : ℕ → ℕ → Type 0
Below k n = n < 2 ^ k

abbrev gap : List ℕ
gap = codes " "

-- words with one space between them
abbrev pub joined : List Word → List ℕ
joined [] = []
joined (w ∷ ws) = w ++ spaced_words ws

-- the words of a cause as bytes
unfoldable pub cause_text : Cause → List ℕ
cause_text c = joined (cause_words c)

exact_place : IsExact NoDigit (λ x. IsOref x.0 × Below 64 x.1) (λ x. oref_word x.0 ++ (gap ++ decimal x.1)) place_at
unfolding place_at
exact_place = separated IsOref oref_word oref_at exact_oref gap (λ rest. refl) NoDigit (Below 64) decimal u64_at exact_u64

exact_ts_with_oref : IsExact NoDigit (λ x. IsTs x.0 × IsOref x.1) (λ x. ts_word x.0 ++ (gap ++ oref_word x.1)) ts_with_oref_at
unfolding ts_with_oref_at
exact_ts_with_oref = separated IsTs ts_word ts_at exact_ts gap (λ rest. refl) NoDigit IsOref oref_word oref_at exact_oref

-- a text before a word, with nothing behind it
abbrev Alone : List ℕ → List ℕ → Type 0
Alone text word = text ++ (word ++ []) ≡ text ++ word

alone : (text word : List ℕ) → Alone text word
alone text word = ap (λ (w : List ℕ). text ++ w) (append-nil word)

-- a text before two words
alone_both : (text first second : List ℕ) → text ++ (first ++ (32 ∷ (second ++ []))) ≡ text ++ (first ++ (32 ∷ second))
alone_both text first second = ap (λ (w : List ℕ). text ++ (first ++ (32 ∷ w))) (append-nil second)

stale : IsCase {X = Oref × ℕ} NoDigit IsCause cause_text (λ x. IsOref x.0 × Below 64 x.1) (λ x. cause.Reason (Stale x.0 x.1)) (codes "Stale ", made (λ x. cause.Reason (Stale x.0 x.1)) place_at)
unfolding cause_text cause_words
stale =
    case_made NoDigit IsCause cause_text (λ x. IsOref x.0 × Below 64 x.1) (λ x. oref_word x.0 ++ (gap ++ decimal x.1)) (codes "Stale ") (λ x. cause.Reason (Stale x.0 x.1)) place_at exact_place
    (λ x h. (h, alone_both (codes "Stale ") (oref_word x.0) (decimal x.1)))

earlier : IsCase {X = Ts × Oref} NoDigit IsCause cause_text (λ x. IsTs x.0 × IsOref x.1) (λ x. cause.Reason (Earlier x.0 x.1)) (codes "Earlier ", made (λ x. cause.Reason (Earlier x.0 x.1)) ts_with_oref_at)
unfolding cause_text cause_words
earlier =
    case_made NoDigit IsCause cause_text (λ x. IsTs x.0 × IsOref x.1) (λ x. ts_word x.0 ++ (gap ++ oref_word x.1)) (codes "Earlier ") (λ x. cause.Reason (Earlier x.0 x.1)) ts_with_oref_at exact_ts_with_oref
    (λ x h. (h, alone_both (codes "Earlier ") (ts_word x.0) (oref_word x.1)))

later : IsCase {X = Ts × Oref} NoDigit IsCause cause_text (λ x. IsTs x.0 × IsOref x.1) (λ x. cause.Reason (Later x.0 x.1)) (codes "Later ", made (λ x. cause.Reason (Later x.0 x.1)) ts_with_oref_at)
unfolding cause_text cause_words
later =
    case_made NoDigit IsCause cause_text (λ x. IsTs x.0 × IsOref x.1) (λ x. ts_word x.0 ++ (gap ++ oref_word x.1)) (codes "Later ") (λ x. cause.Reason (Later x.0 x.1)) ts_with_oref_at exact_ts_with_oref
    (λ x h. (h, alone_both (codes "Later ") (ts_word x.0) (oref_word x.1)))

-- a cause that names one thing
module _ {X : Type 0} (HasX : X → Type 0) (word : X → List ℕ) (read : Reading X) (ok : IsExact NoDigit HasX word read) where
  one : (text : List ℕ) (make : X → Cause) → ((x : X) → HasX x → IsCause (make x)) → ((x : X) → cause_text (make x) ≡ text ++ (word x ++ []))
      → IsCase NoDigit IsCause cause_text HasX make (text, made make read)
  one text make fits spelt = case_made NoDigit IsCause cause_text HasX word text make read ok (λ x h. (fits x h, spelt x ∙ alone text (word x)))

too_old : IsCase NoDigit IsCause cause_text IsTs (λ t. cause.Reason (TooOld t)) (codes "TooOld ", made (λ t. cause.Reason (TooOld t)) ts_at)
unfolding cause_text cause_words
too_old = one IsTs ts_word ts_at exact_ts (codes "TooOld ") (λ t. cause.Reason (TooOld t)) (λ t h. h) (λ t. refl)

blocked : IsCase NoDigit IsCause cause_text IsTs (λ t. cause.Reason (Blocked t)) (codes "Blocked ", made (λ t. cause.Reason (Blocked t)) ts_at)
unfolding cause_text cause_words
blocked = one IsTs ts_word ts_at exact_ts (codes "Blocked ") (λ t. cause.Reason (Blocked t)) (λ t h. h) (λ t. refl)

epoch : IsCase NoDigit IsCause cause_text (Below 32) (λ n. cause.Reason (Epoch n)) (codes "Epoch ", made (λ n. cause.Reason (Epoch n)) u32_at)
unfolding cause_text cause_words
epoch = one (Below 32) decimal u32_at exact_u32 (codes "Epoch ") (λ n. cause.Reason (Epoch n)) (λ n h. h) (λ n. refl)

gone : IsCase NoDigit IsCause cause_text (Below 32) (λ n. cause.Reason (Gone n)) (codes "Gone ", made (λ n. cause.Reason (Gone n)) u32_at)
unfolding cause_text cause_words
gone = one (Below 32) decimal u32_at exact_u32 (codes "Gone ") (λ n. cause.Reason (Gone n)) (λ n h. h) (λ n. refl)

missing : IsCase NoDigit IsCause cause_text IsOref (λ x. Missing x) (codes "Missing ", made (λ x. Missing x) oref_at)
unfolding cause_text cause_words
missing = one IsOref oref_word oref_at exact_oref (codes "Missing ") (λ x. Missing x) (λ x h. h) (λ x. refl)

down : IsCase NoDigit IsCause cause_text (Below 8) (λ n. Down n) (codes "Down ", made (λ n. Down n) u8_at)
unfolding cause_text cause_words
down = one (Below 8) decimal u8_at exact_u8 (codes "Down ") (λ n. Down n) (λ n h. h) (λ n. refl)

full : IsCase NoDigit IsCause cause_text (Below 32) (λ n. cause.Reason (Full n)) (codes "Full ", made (λ n. cause.Reason (Full n)) u32_at)
unfolding cause_text cause_words
full = one (Below 32) decimal u32_at exact_u32 (codes "Full ") (λ n. cause.Reason (Full n)) (λ n h. h) (λ n. refl)

clock_end : IsCause (cause.Reason ClockEnd) × (cause_text (cause.Reason ClockEnd) ≡ codes "ClockEnd")
unfolding cause_text cause_words
clock_end = (tt, refl)

calls : IsCause Calls × (cause_text Calls ≡ codes "Calls")
unfolding cause_text cause_words
calls = (tt, refl)

causes_stand : (c : Cause) → IsCause c → StandsAmong NoDigit IsCause cause_text c causes
causes_stand (cause.Reason (Stale x p)) h = inl (stale.stands (x, p) h)
causes_stand (cause.Reason (Earlier t x)) h = inr (inl (earlier.stands (t, x) h))
causes_stand (cause.Reason (Later t x)) h = inr (inr (inl (later.stands (t, x) h)))
causes_stand (cause.Reason (TooOld t)) h = inr (inr (inr (inl (too_old.stands t h))))
causes_stand (cause.Reason (Blocked t)) h = inr (inr (inr (inr (inl (blocked.stands t h)))))
causes_stand (cause.Reason (Epoch n)) h = inr (inr (inr (inr (inr (inl (epoch.stands n h))))))
causes_stand (cause.Reason (Gone n)) h = inr (inr (inr (inr (inr (inr (inl (gone.stands n h)))))))
causes_stand (Missing x) h = inr (inr (inr (inr (inr (inr (inr (inl (missing.stands x h))))))))
causes_stand (Down n) h = inr (inr (inr (inr (inr (inr (inr (inr (inl (down.stands n h)))))))))
causes_stand (cause.Reason (Full n)) h = inr (inr (inr (inr (inr (inr (inr (inr (inr (inl (full.stands n h))))))))))
causes_stand (cause.Reason ClockEnd) h = inr (inr (inr (inr (inr (inr (inr (inr (inr (inr (inl (only_stands NoDigit IsCause cause_text (codes "ClockEnd") (cause.Reason ClockEnd) clock_end)))))))))))
causes_stand Calls h = inr (inr (inr (inr (inr (inr (inr (inr (inr (inr (inr (inl (only_stands NoDigit IsCause cause_text (codes "Calls") Calls calls))))))))))))

pub exact_cause : IsExact NoDigit IsCause cause_text cause_at
unfolding cause_at
exact_cause =
    exact_first NoDigit IsCause cause_text causes refl (
      stale.finds,
      (
        earlier.finds,
        (
          later.finds,
          (
            too_old.finds,
            (
              blocked.finds,
              (
                epoch.finds,
                (
                  gone.finds,
                  (
                    missing.finds,
                    (
                      down.finds,
                      (
                        full.finds,
                        (
                          only_finds NoDigit IsCause cause_text (codes "ClockEnd") (cause.Reason ClockEnd) clock_end,
                          (only_finds NoDigit IsCause cause_text (codes "Calls") Calls calls, tt),
                        ),
                      ),
                    ),
                  ),
                ),
              ),
            ),
          ),
        ),
      ),
    ) causes_stand

-- the words of a cause behind others
pub cause_spaced : (c : Cause) → spaced_words (cause_words c) ≡ 32 ∷ cause_text c
unfolding cause_text cause_words
cause_spaced (cause.Reason (Stale x p)) = refl
cause_spaced (cause.Reason (Earlier t x)) = refl
cause_spaced (cause.Reason (Later t x)) = refl
cause_spaced (cause.Reason (TooOld t)) = refl
cause_spaced (cause.Reason (Epoch n)) = refl
cause_spaced (cause.Reason (Blocked t)) = refl
cause_spaced (cause.Reason (Gone n)) = refl
cause_spaced (Missing x) = refl
cause_spaced (Down n) = refl
cause_spaced (cause.Reason (Full n)) = refl
cause_spaced (cause.Reason ClockEnd) = refl
cause_spaced Calls = refl
