-- Parts that tell nothing but how often they were called and how often each disk failed.
use Rattle.std.specs.Prelude.{ℕ, ◌-◌, ◌^◌, min, Bool, Option, Some, None, slice_index, Result, Ok, Err}
use Rattle.disk_trait.specs.Disks.{Disks}
use Rattle.disk_trait.specs.Fuse.{one_more, falls_after}
use Rattle.disk_trait.specs.declared.parts.Outage.{Outage}
use Rattle.disk_trait.specs.declared.parts.Outage.TheVariants.{Failed}
use Rattle.disk_trait.specs.declared.counts.Counts.{Counts}

-- the counts after a call on this disk, which failed or didn't
abbrev pub counted : Counts → ℕ → Bool → Counts
counted counts disk failed = record { time = one_more counts.time; faults = falls_after failed counts.faults disk }

-- no answer is a failure
abbrev pub answer_of : {T : Type 0} → Option T → Result T Outage
answer_of (Some answer) = Ok answer
answer_of None = Err Failed

-- What contracts see of such parts: no content, and nothing of what a crash leaves.
abbrev pub untold : Counts → ℕ → Disks
untold counts clock =
    record {
      content = λ d. None;
      time = min counts.time (2 ^ 64 - 1);
      images = λ m d bytes. Unit {0};
      clock = clock;
      faults = λ d. min (slice_index counts.faults d) (2 ^ 64 - 1);
    }
