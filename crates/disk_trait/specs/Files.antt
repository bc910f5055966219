-- Parts over three files.
use Rattle.std.specs.Prelude.{ℕ, [], ◌∷◌}
use Rattle.disk_trait.specs.Disks.{Disks}
use Rattle.disk_trait.specs.Counts.{untold}
use Rattle.disk_trait.specs.declared.counts.Counts.{Counts}
use Rattle.disk_trait.specs.declared.files.FileParts.{FileParts}

-- how often the files were called and failed
abbrev pub counts_of : {C : Type 0} → FileParts C → Counts
counts_of files = files.counts

-- the clock beside them
abbrev pub clock_of : {C : Type 0} → FileParts C → C
clock_of files = files.clock

-- no call yet
abbrev pub no_counts : Counts
no_counts = record { time = 0; faults = 0 ∷ 0 ∷ 0 ∷ [] }

-- what contracts see of files: their counts alone
abbrev pub file_disks : {C : Type 0} → (C → ℕ) → FileParts C → Disks
file_disks greatest files = untold files.counts (greatest files.clock)
