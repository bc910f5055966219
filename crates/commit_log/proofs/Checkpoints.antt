-- A log that begins with the state is put on the other disk.
use Rattle.std.proofs.Common.{◌≡◌, ℕ, zero, suc, ◌+◌, ◌<◌, List, Option, Some, None, Result, ◌∙◌, refl, ap, sym, subst, arith, inl, inr}
use Rattle.disk_trait.specs.Disks.{Disks, OnDisk, Leaves, IsSettled, WhereTold}
use Rattle.log_frame.specs.Log.{Opened, Place, Stands, Agrees, read_log, IsOldOrNew, new_log}
use Rattle.log_frame.proofs.LogAppends.{same_log, told_on}
use Rattle.log_codec.specs.declared.state.State.{State}
use Rattle.log_codec.specs.Checkpoint.{state_format}
use Rattle.log_codec.specs.Format.{value_of}
use Rattle.commit_log.specs.Recovered.{chosen, is_whole, sequence_end, stands, state_in}
use Rattle.std.specs.Option.{option_and_then}
use Rattle.std.specs.Prelude.{IsTrue}
use Rattle.disk_trait.specs.AllDisks.{AllSettled, LeavesAll, TellsAll}
use Rattle.commit_log.specs.Holds.{SaysNothingOr, Under, Holding, Holds, SaysEither, beside}
use Rattle.disk_trait.proofs.Several.{all_of_one, all_settled, all_none}
use Rattle.commit_log.proofs.Holding.{stands_of, is_other, is_log, holds_says, state_begun}

beside_twice : (d : ℕ) → d < 2 → beside (beside d) ≡ d
beside_twice zero within = refl
beside_twice (suc zero) within = refl
beside_twice (suc (suc n)) within = let none : ⊥ = omega (arith, within) in absurd none

-- before any call
pub none_keeps : (disks : Disks) (place : Place) (t s : State) → Holds disks place t → TellsAll disks → LeavesAll disks disks (SaysEither t s)
none_keeps disks place t s holds tells = all_none disks (SaysEither t s) (λ images left. inl (holds_says disks place t holds tells images left))

-- each image of all disks, while a log that begins with the state is put on the other disk
pub checkpoint_says : (old new : Disks) (place : Place) (t s : State) (head : List ℕ) → place.sequence + 1 < sequence_end → Holds old place t → value_of state_format head ≡ Some s → IsTrue (is_whole s) → TellsAll old → WhereTold old (beside place.disk) (λ bytes. Leaves old new (beside place.disk) (IsOldOrNew bytes (new_log (place.sequence + 1) head))) → LeavesAll old new (SaysEither t s)
checkpoint_says old new place t s head below holds spelled fits tells any =
    let d = place.disk in
    let logs : beside d < 2 = is_log d holds.within in
    let log = tells d (omega (arith, holds.within)) in
    let other = tells (beside d) (omega (arith, logs)) in
    let agrees = holds.agrees log.0 log.1 in
    let h = holds.told log.0 other.0 log.1 other.1 agrees.opened agrees.stands in
    let new' = new_log (place.sequence + 1) head in
    all_of_one old new (beside d) (IsOldOrNew other.0 new') (SaysEither t s) (omega (arith, logs)) (any other.0 other.1)
    (λ images others this.
    let stays : images d ≡ log.0 = holds.settled d (omega (arith, holds.within)) log.0 log.1 (images d) (others d (omega (arith, holds.within)) (λ same. is_other d holds.within (sym same))) in
    let stood : Stands (images d) agrees.opened = subst (λ (l : List ℕ). Stands l agrees.opened) (sym stays) agrees.stands in
    elim this [
      | inl old_is ↦ inl (stands_of d images agrees.opened t holds.within stood (subst (λ (l : List ℕ). Under d agrees.opened.sequence (read_log l)) (sym old_is) h.under) h.state)
      | inr shut_or_new ↦ elim shut_or_new [
        | inl shut ↦ inl (stands_of d images agrees.opened t holds.within stood (inl shut) h.state)
        | inr is_new ↦ inr (stands_of (beside d) images new' s logs is_new
            (subst (λ (n : ℕ). Under (beside d) (place.sequence + 1) (read_log (images n))) (sym (beside_twice d holds.within)) (inr (agrees.opened, stood, omega (arith, agrees.sequence)))) (state_begun (place.sequence + 1) head s below spelled fits))
      ]
    ])

-- after Ok the new log holds the state
pub checkpoint_holds : (old new : Disks) (place now' : Place) (t s : State) (head : List ℕ) → place.sequence + 1 < sequence_end → Holds old place t → value_of state_format head ≡ Some s → IsTrue (is_whole s) → OnDisk old new (beside place.disk) → IsSettled new (beside place.disk) → now'.disk ≡ beside place.disk → WhereTold new (beside place.disk) (Agrees now') → WhereTold old (beside place.disk) (λ bytes. WhereTold new (beside place.disk) (λ final. Stands final (new_log (place.sequence + 1) head))) → Holds new now' s
checkpoint_holds old new place now' t s head below holds spelled fits alone settled on agrees formatted = record {
  within = subst (λ (n : ℕ). n < 2) (sym on) (is_log place.disk holds.within);
  settled = all_settled old new (beside place.disk) alone holds.settled settled;
  agrees = subst (λ (n : ℕ). WhereTold new n (Agrees now')) (sym on) agrees;
  told = subst (λ (n : ℕ). (log other : List ℕ) → new.content n ≡ Some log → new.content (beside n) ≡ Some other → (opened : Opened) → Stands log opened → Holding n opened s other) (sym on) there;
}
  where
    there : (log other : List ℕ) → new.content (beside place.disk) ≡ Some log → new.content (beside (beside place.disk)) ≡ Some other → (opened : Opened) → Stands log opened → Holding (beside place.disk) opened s other
    there log other told beside_told opened stood =
        let was = told_on (new.content (beside place.disk)) (old.content (beside place.disk)) log (sym alone.told) told in
        let here : new.content place.disk ≡ Some other = subst (λ (n : ℕ). new.content n ≡ Some other) (beside_twice place.disk holds.within) beside_told in
        let here_was : old.content place.disk ≡ Some other = sym (alone.others place.disk (λ same. is_other place.disk holds.within (sym same))) ∙ here in
        let before = holds.agrees other here_was in
        let is : new_log (place.sequence + 1) head ≡ opened = same_log log (new_log (place.sequence + 1) head) opened (formatted was.0 was.1 log told) stood in
        subst (λ (o : Opened). Holding (beside place.disk) o s other) is (record { under = inr (before.opened, before.stands, omega (arith, before.sequence)); state = state_begun (place.sequence + 1) head s below spelled fits })

-- the same of a disk and a sequence that are these
pub says_at : (old new : Disks) (place : Place) (t s : State) (head : List ℕ) (disk sequence : ℕ) → disk ≡ beside place.disk → sequence ≡ place.sequence + 1 → place.sequence + 1 < sequence_end → Holds old place t → value_of state_format head ≡ Some s → IsTrue (is_whole s) → TellsAll old → WhereTold old disk (λ bytes. Leaves old new disk (IsOldOrNew bytes (new_log sequence head))) → LeavesAll old new (SaysEither t s)
says_at old new place t s head disk sequence here next below holds spelled fits tells any =
    checkpoint_says old new place t s head below holds spelled fits tells
    (subst (λ (q : ℕ). WhereTold old (beside place.disk) (λ bytes. Leaves old new (beside place.disk) (IsOldOrNew bytes (new_log q head)))) next
    (subst (λ (n : ℕ). WhereTold old n (λ bytes. Leaves old new n (IsOldOrNew bytes (new_log sequence head)))) here any))

pub holds_at : (old new : Disks) (place now' : Place) (t s : State) (head : List ℕ) (disk sequence : ℕ) → disk ≡ beside place.disk → sequence ≡ place.sequence + 1 → place.sequence + 1 < sequence_end → Holds old place t → value_of state_format head ≡ Some s → IsTrue (is_whole s) → OnDisk old new disk → IsSettled new disk → now'.disk ≡ disk → WhereTold new disk (Agrees now') → WhereTold old disk (λ bytes. WhereTold new disk (λ final. Stands final (new_log sequence head))) → Holds new now' s
holds_at old new place now' t s head disk sequence here next below holds spelled fits alone settled on agrees formatted =
    checkpoint_holds old new place now' t s head below holds spelled fits
    (subst (λ (n : ℕ). OnDisk old new n) here alone)
    (subst (λ (n : ℕ). IsSettled new n) here settled)
    (on ∙ here)
    (subst (λ (n : ℕ). WhereTold new n (Agrees now')) here agrees)
    (subst (λ (q : ℕ). WhereTold old (beside place.disk) (λ bytes. WhereTold new (beside place.disk) (λ final. Stands final (new_log q head)))) next
    (subst (λ (n : ℕ). WhereTold old n (λ bytes. WhereTold new n (λ final. Stands final (new_log sequence head)))) here formatted))

-- ---- the first log

none_open : (images : ℕ → List ℕ) → read_log (images 0) ≡ None → read_log (images 1) ≡ None → stands images ≡ None
none_open images a b = ap (λ (x : Option (Result Opened ℕ)). option_and_then state_in (chosen x (read_log (images 1)))) a ∙ ap (λ (y : Option (Result Opened ℕ)). option_and_then state_in (chosen None y)) b

-- before the first call
pub fresh_says : (disks : Disks) (s : State) → AllSettled disks → TellsAll disks → WhereTold disks 0 (λ bytes. read_log bytes ≡ None) → WhereTold disks 1 (λ other. read_log other ≡ None) → LeavesAll disks disks (SaysNothingOr s)
fresh_says disks s settled tells first second = all_none disks (SaysNothingOr s) (λ images left.
    let log = tells 0 (omega arith) in
    let other = tells 1 (omega arith) in
    inl (none_open images (ap read_log (settled 0 (omega arith) log.0 log.1 (images 0) (left 0 (omega arith))) ∙ first log.0 log.1) (ap read_log (settled 1 (omega arith) other.0 other.1 (images 1) (left 1 (omega arith))) ∙ second other.0 other.1)))

-- each image of all disks, while a first log is put on disk 0
pub format_says : (old new : Disks) (s : State) (head : List ℕ) → value_of state_format head ≡ Some s → IsTrue (is_whole s) → AllSettled old → TellsAll old → WhereTold old 0 (λ bytes. read_log bytes ≡ None) → WhereTold old 1 (λ other. read_log other ≡ None) → WhereTold old 0 (λ bytes. Leaves old new 0 (IsOldOrNew bytes (new_log 1 head))) → LeavesAll old new (SaysNothingOr s)
format_says old new s head spelled fits settled tells first second any =
    let log = tells 0 (omega arith) in
    let other = tells 1 (omega arith) in
    all_of_one old new 0 (IsOldOrNew log.0 (new_log 1 head)) (SaysNothingOr s) (omega arith) (any log.0 log.1)
    (λ images others this.
    let stays : images 1 ≡ other.0 = settled 1 (omega arith) other.0 other.1 (images 1) (others 1 (omega arith) (λ same. cc)) in
    let shut : read_log (images 1) ≡ None = ap read_log stays ∙ second other.0 other.1 in
    elim this [
      | inl old_is ↦ inl (none_open images (ap read_log old_is ∙ first log.0 log.1) shut)
      | inr shut_or_new ↦ elim shut_or_new [
        | inl none ↦ inl (none_open images none shut)
        | inr is_new ↦ inr (stands_of 0 images (new_log 1 head) s (omega arith) is_new (inl shut) (state_begun 1 head s (omega arith) spelled fits))
      ]
    ])

-- a first log beside a disk that has none
pub format_holds : (old new : Disks) (now' : Place) (s : State) (head : List ℕ) → value_of state_format head ≡ Some s → IsTrue (is_whole s) → AllSettled old → WhereTold old 1 (λ other. read_log other ≡ None) → OnDisk old new 0 → IsSettled new 0 → now'.disk ≡ 0 → WhereTold new 0 (Agrees now') → WhereTold old 0 (λ bytes. WhereTold new 0 (λ final. Stands final (new_log 1 head))) → Holds new now' s
format_holds old new now' s head spelled fits before fresh alone settled on agrees formatted = record {
  within = omega (arith, on);
  settled = all_settled old new 0 alone before settled;
  agrees = subst (λ (n : ℕ). WhereTold new n (Agrees now')) (sym on) agrees;
  told = subst (λ (n : ℕ). (log other : List ℕ) → new.content n ≡ Some log → new.content (beside n) ≡ Some other → (opened : Opened) → Stands log opened → Holding n opened s other) (sym on)
      (λ log other told beside_told opened stood.
      let was = told_on (new.content 0) (old.content 0) log (sym alone.told) told in
      let is : new_log 1 head ≡ opened = same_log log (new_log 1 head) opened (formatted was.0 was.1 log told) stood in
      subst (λ (o : Opened). Holding 0 o s other) is (record { under = inl (fresh other (sym (alone.others 1 (λ same. cc)) ∙ beside_told)); state = state_begun 1 head s (omega arith) spelled fits }));
}
