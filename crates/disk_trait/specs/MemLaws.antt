-- A law of the disks in memory: what a read gives is one of the images.
use Rattle.std.specs.Prelude.{◌≡◌, ◌≤◌, ℕ, Bool, true, false, nat_le, List, [], ◌∷◌, Option, Some, None, slice_get, MatchBool}
use Rattle.std.specs.List.{All}
use Rattle.std.proofs.Common.{subst, refl, arith}
use Rattle.std.proofs.lemmas.Option.{slice_get_within, get_or_from_slice_get}
use Rattle.std.proofs.lemmas.Bool.Decides.{nat_tests}
use Rattle.disk_trait.specs.Kept.{Kept, IsSound}
use Rattle.disk_trait.specs.Record.{ImageNow, ImageAt, newest}
use Rattle.disk_trait.specs.Mem.{bytes_of, images_of}
use Rattle.disk_trait.specs.declared.record.Call.{Call}

give_true : (test : Bool) (P Q : Type 0) → test ≡ true → P → MatchBool test P Q
give_true true P Q is h = h
give_true false P Q is h = cc

-- from the newest call on a crash leaves what it leaves now
pub now_at : (moment : ℕ) (calls : List Call) (bytes image : List ℕ) → newest calls ≤ moment → ImageNow calls bytes image → ImageAt moment calls bytes image
now_at moment [] bytes image past left = left
now_at moment (call ∷ calls) bytes image past left = give_true (nat_le call.time moment) _ _ (grind (arith, nat_tests)) left

-- what holds of each disk holds of this one
pub sound_at : (moment : ℕ) (disks : List Kept) (d : ℕ) (disk : Kept) → All (IsSound moment) disks → slice_get disks d ≡ Some disk → IsSound moment disk
sound_at moment disks d disk all stood =
    subst (IsSound moment) (get_or_from_slice_get disks d disk disk stood) (all d disk (slice_get_within disks d disk stood))

same_bytes : (disk : Kept) (bytes : List ℕ) → bytes_of (Some disk) ≡ Some bytes → disk.bytes ≡ bytes
same_bytes disk bytes is = cc

pub mem_reads : (disks : List Kept) (moment d : ℕ) (bytes : List ℕ) → All (IsSound moment) disks → bytes_of (slice_get disks d) ≡ Some bytes → images_of moment (slice_get disks d) bytes
mem_reads disks moment d bytes sound told = by_disk (slice_get disks d) (λ disk is. sound_at moment disks d disk sound is) told
  where
    by_disk : (o : Option Kept) → ((disk : Kept) → o ≡ Some disk → IsSound moment disk) → bytes_of o ≡ Some bytes → images_of moment o bytes
    by_disk None fine is = cc
    by_disk (Some disk) fine is =
        let one = fine disk refl in
        subst (ImageAt moment disk.calls disk.bytes) (same_bytes disk bytes is) (now_at moment disk.calls disk.bytes disk.bytes one.past one.image)
