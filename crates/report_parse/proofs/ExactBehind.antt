-- The readings of the lines behind those of the history are exact.
use Rattle.std.proofs.Common.{◌≡◌, ℕ, ◌<◌, ◌^◌, ℤ, List, [], ◌∷◌, ◌++◌, append-nil, append_assoc, refl, sym, ap, ◌∙◌, inl, inr, codes}
use Rattle.std.specs.Fmt.{decimal}
use Rattle.std.specs.List.{AllByRecursion}
use Rattle.thor_value.specs.declared.names.Ts.{Ts}
use Rattle.thor_value.specs.declared.values.Fault.{Fault as FaultKind}
use Rattle.thor_value.specs.declared.values.Answer.TheVariants.{Ints, Fault}
use Rattle.report_text.specs.Lines.{spaced_words}
use Rattle.report_text.specs.Words.{ts_word, fault_word}
use Rattle.report_parse.specs.declared.report.Backup.{Backup}
use Rattle.report_parse.specs.declared.report.Look.{Look}
use Rattle.report_parse.specs.declared.report.Looked.{Looked}
use Rattle.report_parse.specs.declared.report.Looked.TheVariants.{Answered, Writes}
use Rattle.report_parse.specs.Reading.{◌then◌, made, after_text, before}
use Rattle.report_parse.specs.Numbers.{u8_at, u32_at, u64_at}
use Rattle.report_parse.specs.Words.{ts_at, fault_at}
use Rattle.report_parse.specs.Items.{values_at}
use Rattle.report_parse.specs.Behind.{looked_words, look_line, backup_line}
use Rattle.report_parse.specs.BehindLines.{lookeds, looked_at, look_by, look_at, backup_by, backup_at}
use Rattle.report_parse.specs.Widths.{IsTs, IsInt}
use Rattle.report_parse.specs.Reports.{IsLooked, IsLook, IsBackup}
use Rattle.report_parse.proofs.Exact.{IsExact, IsCase, Any, StandsAmong, narrowed, exact_then, exact_made, exact_behind, exact_before, exact_first, case_made, only_finds, only_stands}
use Rattle.report_parse.proofs.ExactNumbers.{NoDigit, exact_u8, exact_u32, exact_u64}
use Rattle.report_parse.proofs.ExactWords.{separated, exact_ts, IsFault, exact_fault}
use Rattle.report_parse.proofs.ExactItems.{AtEnd, values_text, exact_values}

abbrev Below : ℕ → ℕ → Type 0
Below k n = n < 2 ^ k

-- ---- what a look has come to

unfoldable looked_text : Looked → List ℕ
looked_text l = spaced_words (looked_words l)

abbrev answered_of : List ℤ → Looked
answered_of values = Answered (Ints values)

abbrev faulted_of : FaultKind → Looked
faulted_of fault = Answered (Fault fault)

answered : IsCase AtEnd IsLooked looked_text (AllByRecursion IsInt) answered_of (codes " :", made answered_of values_at)
unfolding looked_text
answered = case_made AtEnd IsLooked looked_text (AllByRecursion IsInt) values_text (codes " :") answered_of values_at exact_values (λ values h. (h, refl))

faulted : IsCase AtEnd IsLooked looked_text IsFault faulted_of (codes " ! ", made faulted_of fault_at)
unfolding looked_text
faulted =
    case_made AtEnd IsLooked looked_text IsFault fault_word (codes " ! ") faulted_of fault_at (narrowed Any AtEnd IsFault fault_word fault_at exact_fault (λ rest m. tt))
    (λ f h. (tt, ap (λ (w : List ℕ). codes " ! " ++ w) (append-nil (fault_word f))))

writes : IsLooked Writes × (looked_text Writes ≡ codes " writes")
unfolding looked_text
writes = (tt, refl)

looked_stands : (l : Looked) → IsLooked l → StandsAmong AtEnd IsLooked looked_text l lookeds
looked_stands (Answered (Ints values)) h = inl (answered.stands values h)
looked_stands (Answered (Fault f)) h = inr (inl (faulted.stands f tt))
looked_stands Writes h = inr (inr (inl (only_stands AtEnd IsLooked looked_text (codes " writes") Writes writes)))

exact_looked : IsExact AtEnd IsLooked looked_text looked_at
unfolding looked_at
exact_looked = exact_first AtEnd IsLooked looked_text lookeds refl (answered.finds, (faulted.finds, (only_finds AtEnd IsLooked looked_text (codes " writes") Writes writes, tt))) looked_stands

looked_spaced : (l : Looked) (rest : List ℕ) → NoDigit (looked_text l ++ rest)
unfolding looked_text
looked_spaced (Answered (Ints values)) rest = refl
looked_spaced (Answered (Fault f)) rest = refl
looked_spaced Writes rest = refl

-- ---- the line of a look

abbrev LookParts : Type 0
LookParts = ℕ × (Ts × Looked)

abbrev AreLookParts : LookParts → Type 0
AreLookParts x = Below 32 x.0 × (IsTs x.1.0 × IsLooked x.1.1)

abbrev numbered_text : LookParts → List ℕ
numbered_text x = decimal x.0 ++ (codes " " ++ (ts_word x.1.0 ++ looked_text x.1.1))

exact_numbered : IsExact AtEnd AreLookParts numbered_text (u32_at then after_text (codes " ") (ts_at then looked_at))
exact_numbered =
    separated (Below 32) decimal u32_at exact_u32 (codes " ") (λ rest. refl) AtEnd (λ x. IsTs x.0 × IsLooked x.1) (λ x. ts_word x.0 ++ looked_text x.1) (ts_at then looked_at)
    (exact_then NoDigit AtEnd IsTs IsLooked ts_word looked_text ts_at looked_at exact_ts exact_looked (λ l rest h m. looked_spaced l rest))

abbrev look_text : LookParts → List ℕ
look_text x = codes "look " ++ numbered_text x

exact_look_parts : IsExact AtEnd AreLookParts look_text (after_text (codes "look ") (u32_at then after_text (codes " ") (ts_at then looked_at)))
exact_look_parts = exact_behind AtEnd AreLookParts numbered_text (codes "look ") (u32_at then after_text (codes " ") (ts_at then looked_at)) exact_numbered

abbrev look_parts_of : Look → LookParts
look_parts_of l = (l.number, (l.ts, l.looked))

look_is : (l : Look) → look_line l ≡ look_text (look_parts_of l) ++ codes "\n"
unfolding look_line looked_text
look_is l = sym (append_assoc (codes "look") (32 ∷ (decimal l.number ++ (32 ∷ (ts_word l.ts ++ spaced_words (looked_words l.looked))))) (10 ∷ []))

pub exact_look : IsExact Any IsLook look_line look_at
unfolding look_at
exact_look =
    exact_made Any AreLookParts IsLook (λ x. look_text x ++ codes "\n") look_line look_by look_parts_of (before (codes "\n") (after_text (codes "look ") (u32_at then after_text (codes " ") (ts_at then looked_at))))
    (exact_before AtEnd AreLookParts look_text (codes "\n") (after_text (codes "look ") (u32_at then after_text (codes " ") (ts_at then looked_at))) exact_look_parts (λ rest. (rest, refl)))
    (λ x h. (record { number = h.0; ts = h.1.0; looked = h.1.1 }, look_is (look_by x)))
    (λ l h. ((h.number, (h.ts, h.looked)), refl))

-- ---- the line of a backup

abbrev BackupParts : Type 0
BackupParts = ℕ × ℕ

abbrev AreBackupParts : BackupParts → Type 0
AreBackupParts x = Below 8 x.0 × Below 64 x.1

abbrev placed_text : BackupParts → List ℕ
placed_text x = decimal x.0 ++ (codes " " ++ decimal x.1)

exact_placed : IsExact NoDigit AreBackupParts placed_text (u8_at then after_text (codes " ") u64_at)
exact_placed = separated (Below 8) decimal u8_at exact_u8 (codes " ") (λ rest. refl) NoDigit (Below 64) decimal u64_at exact_u64

abbrev backup_text : BackupParts → List ℕ
backup_text x = codes "backup " ++ placed_text x

backup_is : (b : Backup) → backup_line b ≡ backup_text (b.repo, b.place) ++ codes "\n"
unfolding backup_line
backup_is b =
    ap (λ (w : List ℕ). codes "backup" ++ ((32 ∷ (decimal b.repo ++ (32 ∷ w))) ++ 10 ∷ [])) (append-nil (decimal b.place))
    ∙ sym (append_assoc (codes "backup") (32 ∷ (decimal b.repo ++ (32 ∷ decimal b.place))) (10 ∷ []))

pub exact_backup : IsExact Any IsBackup backup_line backup_at
unfolding backup_at
exact_backup =
    exact_made Any AreBackupParts IsBackup (λ x. backup_text x ++ codes "\n") backup_line backup_by (λ b. (b.repo, b.place)) (before (codes "\n") (after_text (codes "backup ") (u8_at then after_text (codes " ") u64_at)))
    (exact_before NoDigit AreBackupParts backup_text (codes "\n") (after_text (codes "backup ") (u8_at then after_text (codes " ") u64_at))
    (exact_behind NoDigit AreBackupParts placed_text (codes "backup ") (u8_at then after_text (codes " ") u64_at) exact_placed) (λ rest. refl))
    (λ x h. (record { repo = h.0; place = h.1 }, backup_is (backup_by x)))
    (λ b h. ((h.repo, h.place), refl))
