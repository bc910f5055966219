-- The schedule's stop: a fuse that falls after a number of calls.
use Rattle.std.specs.Prelude.{ℕ, ◌+◌, ◌-◌, ◌^◌, ◌==◌, Bool, true, false, min, List, slice_index, slice_set, Result, Err}
use Rattle.disk_trait.specs.Disks.{Disks}
use Rattle.disk_trait.specs.declared.parts.Outage.{Outage}
use Rattle.disk_trait.specs.declared.parts.Outage.TheVariants.{Failed}
use Rattle.disk_trait.specs.declared.fuse.Fuse.{Fuse}

-- one more, at most 2 ^ 64 - 1
abbrev pub one_more : ℕ → ℕ
one_more count = min (count + 1) (2 ^ 64 - 1)

-- the stop falls in the next call
-- how often it fell on each disk, after it fell in a call on this one, or didn't
abbrev pub falls_after : Bool → List ℕ → ℕ → List ℕ
falls_after true falls disk = slice_set falls disk (one_more (slice_index falls disk))
falls_after false falls disk = falls

-- the fuse after a call on this disk
abbrev pub burnt : Fuse → ℕ → Fuse
burnt fuse disk = record { left = fuse.left - 1; falls = falls_after (fuse.left == 1) fuse.falls disk }

-- what a call answers that the parts answered so, where the stop fell in it, or didn't
abbrev pub answer_after : {T : Type 0} → Bool → Result T Outage → Result T Outage
answer_after true answer = Err Failed
answer_after false answer = answer

-- what a call answers that the parts answered so
abbrev pub stopped : {T : Type 0} → Fuse → Result T Outage → Result T Outage
stopped fuse answer = answer_after (fuse.left == 1) answer

-- the parts with the falls counted as faults of the disks
abbrev pub with_falls : Disks → List ℕ → Disks
with_falls disks falls =
    record {
      content = disks.content;
      time = disks.time;
      images = disks.images;
      clock = disks.clock;
      faults = λ d. min (disks.faults d + slice_index falls d) (2 ^ 64 - 1);
    }
