-- The steps of a migration: pages are read, and a log is put beside the one that counts.
use Rattle.std.proofs.Common.{◌≡◌, ◌≢◌, Err, IfOk, List, Ok, Result, ap, arith, inl, inr, refl, subst, sym, ◌<◌, ◌∙◌, ℕ}
use Rattle.commit_log.proofs.Holding.{is_log, stands_of}
use Rattle.commit_log.specs.Holds.{Holds, Says, SaysEither, Under, beside}
use Rattle.disk_trait.proofs.Runs.{alone_none, alone_then}
use Rattle.disk_trait.proofs.Several.{all_then, all_weaker, content_stays, goes_one, no_fault_beside, settled_still, tells_on}
use Rattle.disk_trait.specs.AllDisks.{GoesOn, LeavesAll, NoFault, TellsAll}
use Rattle.disk_trait.specs.Disks.{Disks, MayLeave}
use Rattle.log_codec.specs.declared.state.State.{State}
use Rattle.log_frame.specs.Log.{Place, Stands, read_log}
use Rattle.log_frame.specs.declared.fault.LogFault.TheVariants as of_log
use Rattle.log_frame.specs.declared.fault.LogFault.{LogFault}
use Rattle.page_store.specs.declared.fault.StoreFault.TheVariants as of_page
use Rattle.page_store.specs.declared.fault.StoreFault.{StoreFault}
use Rattle.recovery.specs.Faults.{log_fault, page_fault}
use Rattle.recovery.specs.Migrating.{IsMigrated, SaysMigrated}
use Rattle.recovery.specs.Paged.{Stays}
use Rattle.recovery.specs.declared.fault.RecoverFault.TheVariants as recovered
use Rattle.repo_state.specs.Said.{said, spelled}
use Rattle.repo_state.specs.declared.held.Held.{Held}
use Rattle.thor_value.specs.declared.names.Oref.{Oref}
use Rattle.thor_value.specs.declared.values.Obj.{Obj}

-- what holds of each answer holds of this one
pub ok_at : {T E : Type 0} (r : Result T E) (x : T) (P : T → Type 0) → r ≡ Ok x → IfOk r P → P x
ok_at (Ok y) x P is p = let same : y ≡ x = cc in subst P same p
ok_at (Err e) x P is p = cc

same_err : {T E : Type 0} (r : Result T E) (a b : E) → r ≡ Err a → r ≡ Err b → a ≡ b
same_err r a b is e = cc

-- a fault that was handed on is the one that came
pub err_at : {T U E : Type 0} (r : Result T E) (s : Result U E) (a b : E) → r ≡ Err a → s ≡ Err a → s ≡ Err b → r ≡ Err b
err_at {T} {U} {E} r s a b came on is = came ∙ ap (λ (x : E). Err x) (same_err s a b on is)

-- ---- faults

same_place : (a b d place : ℕ) → recovered.Damaged a b ≡ recovered.Damaged d place → b ≡ place
same_place a b d place is = cc

failed_disk : (a d : ℕ) → recovered.Failed a ≡ recovered.Failed d → a ≡ d
failed_disk a d is = cc

pub page_damaged : (fault : StoreFault) (d place : ℕ) → page_fault fault ≡ recovered.Damaged d place → fault ≡ of_page.Damaged place
page_damaged of_page.Failed d place is = cc
page_damaged (of_page.Damaged p) d place is = ap (λ (x : ℕ). of_page.Damaged x) (same_place 2 p d place is)
page_damaged of_page.NoMemory d place is = cc

pub page_failed : (fault : StoreFault) (d : ℕ) → page_fault fault ≡ recovered.Failed d → (d ≡ 2) × (fault ≡ of_page.Failed)
page_failed of_page.Failed d is = (sym (failed_disk 2 d is), refl)
page_failed (of_page.Damaged p) d is = cc
page_failed of_page.NoMemory d is = cc

pub page_memory : (fault : StoreFault) → page_fault fault ≡ recovered.NoMemory → fault ≡ of_page.NoMemory
page_memory of_page.Failed is = cc
page_memory (of_page.Damaged p) is = cc
page_memory of_page.NoMemory is = refl

pub log_damaged : (disk : ℕ) (fault : LogFault) (d place : ℕ) → log_fault disk fault ≡ recovered.Damaged d place → fault ≡ of_log.Damaged place
log_damaged disk of_log.Failed d place is = cc
log_damaged disk (of_log.Damaged p) d place is = ap (λ (x : ℕ). of_log.Damaged x) (same_place disk p d place is)
log_damaged disk of_log.NoMemory d place is = cc

pub log_failed : (disk : ℕ) (fault : LogFault) (d : ℕ) → log_fault disk fault ≡ recovered.Failed d → (disk ≡ d) × (fault ≡ of_log.Failed)
log_failed disk of_log.Failed d is = (failed_disk disk d is, refl)
log_failed disk (of_log.Damaged p) d is = cc
log_failed disk of_log.NoMemory d is = cc

pub log_memory : (disk : ℕ) (fault : LogFault) → log_fault disk fault ≡ recovered.NoMemory → fault ≡ of_log.NoMemory
log_memory disk of_log.Failed is = cc
log_memory disk (of_log.Damaged p) is = cc
log_memory disk of_log.NoMemory is = refl

-- ---- the disk of pages is read

pub stays_none : (disks : Disks) → Stays disks disks
stays_none disks = record { alone = alone_none disks 2; content = refl; crash = λ image left. left }

pub stays_then : (old mid new : Disks) → Stays old mid → Stays mid new → Stays old new
stays_then old mid new first then = record {
  alone = alone_then old mid new 2 first.alone then.alone;
  content = then.content ∙ first.content;
  crash = λ image left. first.crash image (then.crash image left);
}

-- the log holds what it held
pub holds_on : (old new : Disks) (log : Place) (s : State) → Stays old new → Holds old log s → Holds new log s
holds_on old new log s stays holds =
    let same = content_stays old new 2 stays.alone stays.content in
    record {
      within = holds.within;
      settled = settled_still old new 2 (omega arith) stays.alone stays.content stays.crash holds.settled;
      agrees = λ bytes told. holds.agrees bytes (sym (same log.disk) ∙ told);
      told = λ bytes other told beside_told opened stood. holds.told bytes other (sym (same log.disk) ∙ told) (sym (same (beside log.disk)) ∙ beside_told) opened stood;
    }

-- images that the log disks may leave say what the log holds
logs_say : (disks : Disks) (place : Place) (s : State) → Holds disks place s → TellsAll disks → (images : ℕ → List ℕ) → ((d : ℕ) → d < 2 → MayLeave disks d (images d)) → Says s images
logs_say disks place s holds tells images left =
    let d = place.disk in
    let logs : beside d < 2 = is_log d holds.within in
    let log = tells d (omega (arith, holds.within)) in
    let other = tells (beside d) (omega (arith, logs)) in
    let agrees = holds.agrees log.0 log.1 in
    let h = holds.told log.0 other.0 log.1 other.1 agrees.opened agrees.stands in
    let here : images d ≡ log.0 = holds.settled d (omega (arith, holds.within)) log.0 log.1 (images d) (left d holds.within) in
    let there : images (beside d) ≡ other.0 = holds.settled (beside d) (omega (arith, logs)) other.0 other.1 (images (beside d)) (left (beside d) logs) in
    stands_of d images agrees.opened s holds.within
    (subst (λ (l : List ℕ). Stands l agrees.opened) (sym here) agrees.stands)
    (subst (λ (l : List ℕ). Under d agrees.opened.sequence (read_log l)) (sym there) h.under)
    h.state

not_pages : (d : ℕ) → d < 2 → d ≢ 2
not_pages d within = λ same. (let no : 2 < 2 = omega (arith, same, within) in omega (arith, no))

-- at each moment of a reading
pub reads_say : (old new : Disks) (place : Place) (s : State) → Stays old new → Holds old place s → TellsAll old → LeavesAll old new (Says s)
reads_say old new place s stays holds tells = record {
  goes = goes_one old new 2 stays.alone;
  each = λ m images from to left. logs_say old place s holds tells images (λ d within. stays.alone.others_images m d (images d) (not_pages d within) from to (left d (omega (arith, within))));
}

pub reads_goes : (old new : Disks) → Stays old new → GoesOn old new
reads_goes old new stays = goes_one old new 2 stays.alone

pub reads_steady : (old new : Disks) → Stays old new → new.faults 2 ≡ old.faults 2 → NoFault old new
reads_steady old new stays same = no_fault_beside old new 2 stays.alone same

-- the state, or what a migration made of it
pub says_migrated : (old new : Disks) (s : State) (disk : List ℕ) → LeavesAll old new (Says s) → LeavesAll old new (SaysMigrated s disk)
says_migrated old new s disk run = all_weaker old new (Says s) (SaysMigrated s disk) (λ images says. inl says) run

pub either_migrated : (old new : Disks) (s t : State) (disk : List ℕ) → IsMigrated s disk t → LeavesAll old new (SaysEither s t) → LeavesAll old new (SaysMigrated s disk)
either_migrated old new s t disk made run = all_weaker old new (SaysEither s t) (SaysMigrated s disk) (λ images says. elim says [
  | inl before ↦ inl before
  | inr behind ↦ inr (t, made, behind)
]) run

pub both_say : (old mid new : Disks) (place : Place) (s t : State) (disk : List ℕ) → Stays old mid → Holds old place s → TellsAll old → IsMigrated s disk t → (TellsAll mid → LeavesAll mid new (SaysEither s t)) → LeavesAll old new (SaysMigrated s disk)
both_say old mid new place s t disk stays holds tells made run =
    all_then old mid new (SaysMigrated s disk) (says_migrated old mid s disk (reads_say old mid place s stays holds tells))
    (either_migrated mid new s t disk made (run (tells_on old mid (reads_goes old mid stays) tells)))

-- ---- what is in memory takes the objects

-- as the checkpoint says
pub taken_said : (held moved : Held) (state : State) → state ≡ record (spelled held) { installed = state.installed; mob = state.mob } → said moved ≡ state → said (record held { objects = moved.objects; next_page = held.next_grant }) ≡ state
taken_said held moved state same is =
    ap (λ (i : List (ℕ × ℕ)). record (spelled held) { installed = i; mob = moved.objects.mob.objects }) (ap (λ (s : State). s.installed) is)
    ∙ (ap (λ (m : List (Oref × Obj)). record (spelled held) { installed = state.installed; mob = m }) (ap (λ (s : State). s.mob) is) ∙ sym same)

pub taken_repo : (held moved : Held) (state : State) → state ≡ record (spelled held) { installed = state.installed; mob = state.mob } → said moved ≡ state → moved.repo ≡ held.repo
taken_repo held moved state same is = ap (λ (s : State). s.repo) is ∙ ap (λ (s : State). s.repo) same
