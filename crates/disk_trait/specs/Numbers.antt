-- The numbers of a repository's three disks, by which definitions speak of them.
use Rattle.std.specs.Prelude.{ℕ}
use Rattle.disk_trait.specs.declared.disk.Disk.{Disk}
use Rattle.disk_trait.specs.declared.disk.Disk.TheVariants.{Log0, Log1, Pages}

abbrev pub number : Disk → ℕ
number Log0 = 0
number Log1 = 1
number Pages = 2
