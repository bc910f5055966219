-- How calls on one disk follow one another. For crates above.
use Rattle.std.proofs.Common.{◌≡◌, ◌≢◌, ℕ, ◌≤◌, List, Result, ◌∙◌, refl, subst, arith, inl, inr}
use Rattle.std.proofs.lemmas.Bool.{cases_lt}
use Rattle.disk_trait.specs.Disks.{Disks, OnDisk, Leaves, MayLeave, NoNewImage}
use Rattle.disk_trait.specs.Calls.{IsCall}
use Rattle.disk_trait.specs.declared.parts.Outage.{Outage}

-- no call
pub alone_none : (disks : Disks) (disk : ℕ) → OnDisk disks disks disk
alone_none disks disk = record {
  later = omega arith;
  past = λ m d image early left. left;
  kept = λ m d image early left. left;
  told = refl;
  others = λ d other. refl;
  others_images = λ m d image other from to left. at_now m d image from to left;
  others_kept = λ m d image other from to left. now_at m d image from to left;
  others_faults = λ d other. refl;
  faults_stay = omega arith;
  clock = refl;
}
  where
    at_now : (m d : ℕ) (image : List ℕ) → disks.time ≤ m → m ≤ disks.time → disks.images m d image → disks.images disks.time d image
    at_now m d image from to left = let e : m ≡ disks.time = omega arith in subst (λ n. disks.images n d image) e left

    now_at : (m d : ℕ) (image : List ℕ) → disks.time ≤ m → m ≤ disks.time → disks.images disks.time d image → disks.images m d image
    now_at m d image from to left = let e : disks.time ≡ m = omega arith in subst (λ n. disks.images n d image) e left

-- calls, and then more of them
pub alone_then : (old mid new : Disks) (disk : ℕ) → OnDisk old mid disk → OnDisk mid new disk → OnDisk old new disk
alone_then old mid new disk first then = record {
  later = omega (arith, first.later, then.later);
  past = λ m d image early left. first.past m d image early (then.past m d image (omega (arith, early, first.later)) left);
  kept = λ m d image early left. then.kept m d image (omega (arith, early, first.later)) (first.kept m d image early left);
  told = then.told ∙ first.told;
  others = λ d other. then.others d other ∙ first.others d other;
  others_images = λ m d image other from to left. came m d image other from to left;
  others_kept = λ m d image other from to left. stays m d image other from to left;
  others_faults = λ d other. then.others_faults d other ∙ first.others_faults d other;
  faults_stay = omega (arith, first.faults_stay, then.faults_stay);
  clock = then.clock ∙ first.clock;
}
  where
    came : (m d : ℕ) (image : List ℕ) → d ≢ disk → old.time ≤ m → m ≤ new.time → new.images m d image → MayLeave old d image
    came m d image other from to left = elim (cases_lt m mid.time) [
      | inl before ↦ first.others_images m d image other from (omega arith) (then.past m d image (omega arith) left)
      | inr behind ↦ first.others_images mid.time d image other first.later (omega arith) (then.others_images m d image other behind to left)
    ]

    stays : (m d : ℕ) (image : List ℕ) → d ≢ disk → old.time ≤ m → m ≤ new.time → MayLeave old d image → new.images m d image
    stays m d image other from to left = elim (cases_lt m mid.time) [
      | inl before ↦ then.kept m d image (omega arith) (first.others_kept m d image other from (omega arith) left)
      | inr behind ↦ then.others_kept m d image other behind to (first.others_kept mid.time d image other first.later (omega arith) left)
    ]

-- before the first call
pub leaves_none : (disks : Disks) (disk : ℕ) (P : List ℕ → Type 0) → ((image : List ℕ) → MayLeave disks disk image → P image) → Leaves disks disks disk P
leaves_none disks disk P now = record {
  alone = alone_none disks disk;
  each = λ m image from to left. let e : m ≡ disks.time = omega arith in now image (subst (λ n. disks.images n disk image) e left);
}

-- Calls, and then more of them.
pub leaves_then : (old mid new : Disks) (disk : ℕ) (P : List ℕ → Type 0) → Leaves old mid disk P → Leaves mid new disk P → Leaves old new disk P
leaves_then old mid new disk P first then = record {
  alone = alone_then old mid new disk first.alone then.alone;
  each = λ m image from to left. elim (cases_lt m mid.time) [
    | inl before ↦ first.each m image from (omega arith) (then.alone.past m disk image (omega arith) left)
    | inr behind ↦ then.each m image behind to left
  ];
}

-- Calls, and then one more, after which a crash leaves what has P.
pub leaves_call : {T : Type 0} (old mid new : Disks) (disk : ℕ) (P : List ℕ → Type 0) (result : Result T Outage) → Leaves old mid disk P → IsCall mid new disk result → ((image : List ℕ) → MayLeave new disk image → P image) → Leaves old new disk P
leaves_call old mid new disk P result first call now = record {
  alone = alone_then old mid new disk first.alone call.alone;
  each = λ m image from to left. elim (cases_lt mid.time m) [
    | inr early ↦ first.each m image from early (call.alone.past m disk image early left)
    | inl late ↦ let e : m ≡ new.time = omega (arith, late, to, call.one_moment) in now image (subst (λ n. new.images n disk image) e left)
  ];
}

-- what has P has Q
pub leaves_weaker : (old new : Disks) (disk : ℕ) (P Q : List ℕ → Type 0) → ((image : List ℕ) → P image → Q image) → Leaves old new disk P → Leaves old new disk Q
leaves_weaker old new disk P Q leads run = record { alone = run.alone; each = λ m image from to left. leads image (run.each m image from to left) }

-- What is looked at alone stays: at each moment a crash leaves what it could leave at first.
pub still_none : (disks : Disks) (disk : ℕ) → Leaves disks disks disk (MayLeave disks disk)
still_none disks disk = leaves_none disks disk (MayLeave disks disk) (λ image left. left)

pub still_call : {T : Type 0} (old mid new : Disks) (disk : ℕ) (result : Result T Outage) → Leaves old mid disk (MayLeave old disk) → IsCall mid new disk result → NoNewImage mid new disk → Leaves old new disk (MayLeave old disk)
still_call old mid new disk result still call same = leaves_call old mid new disk (MayLeave old disk) result still call (λ image left. still.each mid.time image still.alone.later (omega arith) (same image left))
