-- Parts that carry the schedule's stop.
use Rattle.std.specs.Prelude.{ℕ, ◌-◌, ◌^◌, min, sum, [], ◌∷◌}
use Rattle.disk_trait.specs.Disks.{Disks}
use Rattle.disk_trait.specs.Fuse.{with_falls}
use Rattle.disk_trait.specs.declared.fuse.Fuse.{Fuse}
use Rattle.disk_trait.specs.declared.fused.Fused.{Fused}

-- the parts inside
abbrev pub parts_of : {P : Type 0} → Fused P → P
parts_of fused = fused.parts

-- the stop
abbrev pub fuse_of : {P : Type 0} → Fused P → Fuse
fuse_of fused = fused.fuse

-- a stop that isn't armed and never fell
abbrev pub new_fuse : Fuse
new_fuse = record { left = 0; falls = 0 ∷ 0 ∷ 0 ∷ [] }

-- the same with a stop that falls in the last of this many calls; with 0 it isn't armed
abbrev pub armed : {P : Type 0} → Fused P → ℕ → Fused P
armed fused calls = record fused { fuse = record fused.fuse { left = calls } }

-- how often the stop fell, in a count that stays at 2 ^ 64 - 1
abbrev pub fell_of : {P : Type 0} → Fused P → ℕ
fell_of fused = min (sum fused.fuse.falls) (2 ^ 64 - 1)

-- What contracts see of parts with a stop: the falls count as faults of the disks.
abbrev pub fused_disks : {P : Type 0} → (P → Disks) → Fused P → Disks
fused_disks disks fused = with_falls (disks fused.parts) fused.fuse.falls
