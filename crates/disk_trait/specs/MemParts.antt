-- Parts in memory: what their fields hold.
use Rattle.std.specs.Prelude.{ℕ, List}
use Rattle.disk_trait.specs.Disks.{Disks}
use Rattle.disk_trait.specs.Kept.{Kept}
use Rattle.disk_trait.specs.Mem.{told}
use Rattle.disk_trait.specs.declared.mem_parts.MemParts.{MemParts}

-- the disks of the parts
abbrev pub disks_of : {C : Type 0} → MemParts C → List Kept
disks_of parts = parts.disks

-- the moment
abbrev pub time_of : {C : Type 0} → MemParts C → ℕ
time_of parts = parts.time

-- the calls that are to fail
abbrev pub fails_of : {C : Type 0} → MemParts C → List (ℕ × ℕ)
fails_of parts = parts.fails.items

-- the clock
abbrev pub clock_in : {C : Type 0} → MemParts C → C
clock_in parts = parts.clock

-- what contracts see of parts in memory
abbrev pub mem_disks : {C : Type 0} → (C → ℕ) → MemParts C → Disks
mem_disks greatest parts = told parts.disks parts.time (greatest parts.clock)
