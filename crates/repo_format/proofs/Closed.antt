-- Headers that aren't open.
use Rattle.disk_trait.proofs.Several.{all_settled, settled_still}
use Rattle.disk_trait.specs.AllDisks.{AllSettled}
use Rattle.disk_trait.specs.Disks.{Disks, IsSettled, NoNewImage, OnDisk}
use Rattle.log_frame.proofs.Formats.{shut_none}
use Rattle.log_frame.specs.Log.{IsShut, read_log}
use Rattle.std.proofs.Common.{Err, List, None, Ok, OnOk, Result, [], arith, drop, false, length, nat_eq, refl, slice_index_or, subst, take, ◌<◌, ◌∷◌, ◌≡◌, ℕ}
use Rattle.std.proofs.lemmas.Bool.Decides.{nat_tests}

-- no header stands where fewer than two bytes do
pub short_none : (bytes : List ℕ) → length bytes < 2 → read_log bytes ≡ None
short_none [] short = refl
short_none (gate ∷ []) short = refl
short_none (gate ∷ byte ∷ rest) short = absurd (omega arith)

-- nor where the first byte isn't an open gate
pub is_shut_none : (bytes : List ℕ) → IsShut bytes → read_log bytes ≡ None
is_shut_none bytes shut = shut_none bytes shut.1

pub read_none : (bytes gate : List ℕ) → gate ≡ take 1 (drop 0 bytes) → nat_eq (slice_index_or gate 0 0) 1 ≡ false → read_log bytes ≡ None
read_none [] gate is test = refl
read_none (g ∷ []) gate is test = refl
read_none (g ∷ byte ∷ rest) gate is test =
    let first : nat_eq g 1 ≡ false = subst (λ (l : List ℕ). nat_eq (slice_index_or l 0 0) 1 ≡ false) is test in
    shut_none (g ∷ byte ∷ rest) (λ same. grind (arith, nat_tests))

pub on_ok : {T E P Q : Type 0} (result : Result T E) → OnOk result P → (P → Q) → OnOk result Q
on_ok (Ok x) p f = f p
on_ok (Err e) p f = tt

-- a disk was read, and then one of it was written and synced
pub settled_closed : (old mid new : Disks) (disk : ℕ) → disk < 3 → AllSettled old → OnDisk old mid disk → mid.content disk ≡ old.content disk → NoNewImage old mid disk → OnDisk mid new disk → IsSettled new disk → AllSettled new
settled_closed old mid new disk there settled looked content crash wrote synced =
    all_settled mid new disk wrote (settled_still old mid disk there looked content crash settled) synced
