-- All disks of a repository are synced, one after the other.
use Rattle.disk_trait.specs.AllDisks.{AllSettled, GoesOn, LeavesAll, MayLeaveAll, SameContent}
use Rattle.disk_trait.specs.Disks.{Disks, IsSettled, MayLeave, NoNewImage, OnDisk}
use Rattle.repo_opening.specs.Same.{AreSame, Same}
use Rattle.repo_opening.specs.Unsound.{Failing}
use Rattle.disk_trait.proofs.Several.{all_now, content_stays, goes_one, goes_then, settled_beside}
use Rattle.std.proofs.Common.{List, [], arith, inl, inr, refl, subst, suc, sym, zero, ◌∙◌, ◌≡◌, ◌≢◌, ◌∷◌, ℕ}
use Rattle.std.proofs.lemmas.Bool.{cases_eq}

not_one : ◌≢◌ {A = ℕ} 0 1
not_one = λ e. omega (arith, e)

not_two : ◌≢◌ {A = ℕ} 0 2
not_two = λ e. omega (arith, e)

one_not_two : ◌≢◌ {A = ℕ} 1 2
one_not_two = λ e. omega (arith, e)

pub all_synced : (a b c : Disks) → IsSettled a 0 → OnDisk a b 1 → IsSettled b 1 → OnDisk b c 2 → IsSettled c 2 → AllSettled c
all_synced a b c first second at_second third at_third zero within = settled_beside b c 2 0 third not_two (settled_beside a b 1 0 second not_one first)
all_synced a b c first second at_second third at_third (suc zero) within = settled_beside b c 2 1 third one_not_two at_second
all_synced a b c first second at_second third at_third (suc (suc zero)) within = at_third
all_synced a b c first second at_second third at_third (suc (suc (suc d))) within = absurd (omega (arith, within))

pub same_none : (disks : Disks) → Same disks disks
same_none disks = record { content = λ d. refl; crash = λ images left. left }

pub same_then : (old mid new : Disks) → Same old mid → Same mid new → Same old new
same_then old mid new first then = record {
  content = λ d. then.content d ∙ first.content d;
  crash = λ images left. first.crash images (then.crash images left);
}

-- one disk was called, and is as it was
pub same_beside : (old new : Disks) (disk : ℕ) → OnDisk old new disk → new.content disk ≡ old.content disk → NoNewImage old new disk → Same old new
same_beside old new disk alone content crash = record {
  content = content_stays old new disk alone content;
  crash = λ images left d within. elim (cases_eq d disk) [
    | inl this ↦ crash_of d images this (left d within)
    | inr other ↦ alone.others_images new.time d (images d) other alone.later (omega arith) (left d within)
  ];
}
  where
    crash_of : (d : ℕ) (images : ℕ → List ℕ) → d ≡ disk → MayLeave new d (images d) → MayLeave old d (images d)
    crash_of d images this left = subst (λ (n : ℕ). MayLeave old n (images d)) (sym this) (crash (images d) (subst (λ (n : ℕ). MayLeave new n (images d)) this left))

-- calls on all disks of which a crash leaves what it could leave before
pub same_content : (old new : Disks) → SameContent old new → LeavesAll old new (MayLeaveAll old old.time) → Same old new
same_content old new content run = record { content = content; crash = all_now old new (MayLeaveAll old old.time) run }

-- nothing was done
pub same_all : {P : Type 0} (disks : P → Disks) (parts : List P) → AreSame disks parts parts
same_all disks [] = tt
same_all disks (p ∷ parts) = (same_none (disks p), same_all disks parts)

-- ---- what fails

-- calls on two of the disks, and on three
pub goes_both : (a b c : Disks) (d e : ℕ) → OnDisk a b d → OnDisk b c e → GoesOn a c
goes_both a b c d e first then = goes_then a b c (goes_one a b d first) (goes_one b c e then)

pub goes_all : (a b c d : Disks) → OnDisk a b 0 → OnDisk b c 1 → OnDisk c d 2 → GoesOn a d
goes_all a b c d first second third = goes_then a c d (goes_both a b c 0 1 first second) (goes_one c d 2 third)

-- a disk failed in later calls
pub failing_then : (old mid new : Disks) → GoesOn old mid → Failing mid new → Failing old new
failing_then old mid new goes fails = record {
  disk = fails.disk;
  within = fails.within;
  rose = λ small. let before = goes.faults fails.disk in let rose = fails.rose small in omega (arith, before, rose);
}

pub failing_second : (a b c : Disks) → OnDisk a b 0 → Failing b c → Failing a c
failing_second a b c first fails = failing_then a b c (goes_one a b 0 first) fails

pub failing_third : (a b c d : Disks) → OnDisk a b 0 → OnDisk b c 1 → Failing c d → Failing a d
failing_third a b c d first second fails = failing_then a c d (goes_both a b c 0 1 first second) fails
