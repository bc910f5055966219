-- How calls on several disks follow one another. For crates above.
use Rattle.std.proofs.Common.{◌≡◌, ◌≢◌, ℕ, ◌≤◌, ◌<◌, List, Option, Some, None, is_some, Result, ◌∙◌, refl, ap, sym, subst, arith, inl, inr}
use Rattle.std.proofs.lemmas.Bool.{cases_lt, cases_eq}
use Rattle.disk_trait.specs.AllDisks.{MayLeaveAll, TellsAll, GoesOn, LeavesAll, AllSettled, NoFault, SameContent}
use Rattle.disk_trait.specs.Calls.{Restarts}
use Rattle.disk_trait.specs.Disks.{Disks, OnDisk, Leaves, MayLeave, IsSettled, NoNewImage, SameDisks}
use Rattle.disk_trait.specs.declared.parts.Outage.{Outage}
use Rattle.disk_trait.proofs.Runs.{still_none, still_call}

-- calls on one disk
pub goes_one : (old new : Disks) (disk : ℕ) → OnDisk old new disk → GoesOn old new
goes_one old new disk alone = record {
  later = alone.later;
  past = alone.past;
  kept = alone.kept;
  told = λ d. told d;
  faults = λ d. faults d;
  clock = omega (arith, alone.clock);
}
  where
    told : (d : ℕ) → is_some (new.content d) ≡ is_some (old.content d)
    told d = elim (cases_eq d disk) [
      | inl same ↦ subst (λ n. is_some (new.content n) ≡ is_some (old.content n)) (sym same) alone.told
      | inr other ↦ ap is_some (alone.others d other)
    ]

    faults : (d : ℕ) → old.faults d ≤ new.faults d
    faults d = elim (cases_eq d disk) [
      | inl same ↦ subst (λ n. old.faults n ≤ new.faults n) (sym same) alone.faults_stay
      | inr other ↦ omega (arith, alone.others_faults d other)
    ]

pub goes_none : (disks : Disks) → GoesOn disks disks
goes_none disks = record {
  later = omega arith;
  past = λ m d image early left. left;
  kept = λ m d image early left. left;
  told = λ d. refl;
  faults = λ d. omega arith;
  clock = omega arith;
}

pub goes_then : (old mid new : Disks) → GoesOn old mid → GoesOn mid new → GoesOn old new
goes_then old mid new first then = record {
  later = omega (arith, first.later, then.later);
  past = λ m d image early left. first.past m d image early (then.past m d image (omega (arith, early, first.later)) left);
  kept = λ m d image early left. then.kept m d image (omega (arith, early, first.later)) (first.kept m d image early left);
  told = λ d. then.told d ∙ first.told d;
  faults = λ d. omega (arith, first.faults d, then.faults d);
  clock = omega (arith, first.clock, then.clock);
}

-- disks that told go on to tell
pub tells_on : (old new : Disks) → GoesOn old new → TellsAll old → TellsAll new
tells_on old new goes tells = λ d within. some (new.content d) (old.content d) (goes.told d) (tells d within).0 (tells d within).1
  where
    some : (now then : Option (List ℕ)) → is_some now ≡ is_some then → (bytes : List ℕ) → then ≡ Some bytes → (bytes : List ℕ) × (now ≡ Some bytes)
    some (Some x) then same bytes told = (x, refl)
    some None (Some y) same bytes told = cc
    some None None same bytes told = cc

-- before the first call
pub all_none : (disks : Disks) (P : (ℕ → List ℕ) → Type 0) → ((images : ℕ → List ℕ) → MayLeaveAll disks disks.time images → P images) → LeavesAll disks disks P
all_none disks P now = record {
  goes = goes_none disks;
  each = λ m images from to left. let e : m ≡ disks.time = omega arith in now images (subst (λ n. MayLeaveAll disks n images) e left);
}

-- Calls, and then more of them, on whatever disks.
pub all_then : (old mid new : Disks) (P : (ℕ → List ℕ) → Type 0) → LeavesAll old mid P → LeavesAll mid new P → LeavesAll old new P
all_then old mid new P first then = record {
  goes = goes_then old mid new first.goes then.goes;
  each = λ m images from to left. elim (cases_lt m mid.time) [
    | inl before ↦ first.each m images from (omega arith) (λ d within. then.goes.past m d (images d) (omega arith) (left d within))
    | inr behind ↦ then.each m images behind to left
  ];
}

-- what has P has Q
pub all_weaker : (old new : Disks) (P Q : (ℕ → List ℕ) → Type 0) → ((images : ℕ → List ℕ) → P images → Q images) → LeavesAll old new P → LeavesAll old new Q
all_weaker old new P Q leads run = record { goes = run.goes; each = λ m images from to left. leads images (run.each m images from to left) }

-- Calls on one disk, whatever a crash leaves of the others.
pub all_of_one : (old new : Disks) (disk : ℕ) (Q : List ℕ → Type 0) (P : (ℕ → List ℕ) → Type 0) → disk < 3 → Leaves old new disk Q → ((images : ℕ → List ℕ) → ((d : ℕ) → d < 3 → d ≢ disk → MayLeave old d (images d)) → Q (images disk) → P images) → LeavesAll old new P
all_of_one old new disk Q P there run leads = record {
  goes = goes_one old new disk run.alone;
  each = λ m images from to left. leads images (λ d within other. run.alone.others_images m d (images d) other from to (left d within)) (run.each m (images disk) from to (left disk there));
}

-- Calls on one disk of which a crash leaves what it could leave before: of all disks it leaves that.
pub all_still : (old new : Disks) (disk : ℕ) → disk < 3 → Leaves old new disk (MayLeave old disk) → LeavesAll old new (MayLeaveAll old old.time)
all_still old new disk there run = all_of_one old new disk (MayLeave old disk) (MayLeaveAll old old.time) there run
    (λ images others this d within. elim (cases_eq d disk) [
      | inl same ↦ subst (λ n. MayLeave old n (images n)) (sym same) this
      | inr other ↦ others d within other
    ])

-- a crash now
pub all_now : (old new : Disks) (P : (ℕ → List ℕ) → Type 0) → LeavesAll old new P → (images : ℕ → List ℕ) → MayLeaveAll new new.time images → P images
all_now old new P run images left = run.each new.time images run.goes.later (omega arith) left

-- Calls that leave what has P, and then calls that leave what could be left before them.
pub all_then_still : (old mid new : Disks) (P : (ℕ → List ℕ) → Type 0) → LeavesAll old mid P → LeavesAll mid new (MayLeaveAll mid mid.time) → LeavesAll old new P
all_then_still old mid new P first still = all_then old mid new P first (all_weaker mid new (MayLeaveAll mid mid.time) P (all_now old mid P first) still)

-- a disk that calls on another one leave alone stays settled
pub settled_beside : (old new : Disks) (disk d : ℕ) → OnDisk old new disk → d ≢ disk → IsSettled old d → IsSettled new d
settled_beside old new disk d alone other settled = λ bytes told image left.
    settled bytes (sym (alone.others d other) ∙ told) image (alone.others_images new.time d image other alone.later (omega arith) left)

-- where one disk was settled by these calls, all are
pub all_settled : (old new : Disks) (disk : ℕ) → OnDisk old new disk → AllSettled old → IsSettled new disk → AllSettled new
all_settled old new disk alone before this = λ d within. elim (cases_eq d disk) [
  | inl same ↦ subst (λ n. IsSettled new n) (sym same) this
  | inr other ↦ settled_beside old new disk d alone other (before d within)
]

-- calls that look at one disk alone
pub settled_still : (old new : Disks) (disk : ℕ) → disk < 3 → OnDisk old new disk → new.content disk ≡ old.content disk → NoNewImage old new disk → AllSettled old → AllSettled new
settled_still old new disk there alone content crash settled = all_settled old new disk alone settled (λ bytes told image left. settled disk there bytes (sym content ∙ told) image (crash image left))

pub content_stays : (old new : Disks) (disk : ℕ) → OnDisk old new disk → new.content disk ≡ old.content disk → SameContent old new
content_stays old new disk alone content d = elim (cases_eq d disk) [
  | inl same ↦ subst (λ (n : ℕ). new.content n ≡ old.content n) (sym same) content
  | inr other ↦ alone.others d other
]

-- a disk that didn't fail, where the calls were on it alone
pub no_fault_beside : (old new : Disks) (disk : ℕ) → OnDisk old new disk → new.faults disk ≡ old.faults disk → NoFault old new
no_fault_beside old new disk alone same d = elim (cases_eq d disk) [
  | inl this ↦ subst (λ (n : ℕ). new.faults n ≡ old.faults n) (sym this) same
  | inr other ↦ alone.others_faults d other
]

-- the clock was asked
pub goes_asked : (old new : Disks) → SameDisks old new → old.clock ≤ new.clock → GoesOn old new
goes_asked old new same later = record {
  later = omega (arith, same.time);
  past = λ m d image early left. same.images m d image left;
  kept = λ m d image early left. same.kept m d image left;
  told = λ d. ap is_some (same.content d);
  faults = λ d. omega (arith, same.faults d);
  clock = later;
}

-- one disk is crashed and started again
pub all_restarted : {T : Type 0} (old new : Disks) (disk : ℕ) (result : Result T Outage) → disk < 3 → Restarts old new disk result → LeavesAll old new (MayLeaveAll old old.time)
all_restarted old new disk result there call = all_still old new disk there (still_call old old new disk result (still_none old disk) call.call call.crash)
