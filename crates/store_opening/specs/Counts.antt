-- The repositories of a store that was found, and so its parts: how many there are, and which.
use Rattle.disk_trait.specs.Disks.{Disks}
use Rattle.std.specs.Prelude.{List, vec_len, ℕ}
use Rattle.store_opening.specs.Seated.{AreSeated}
use Rattle.store_opening.specs.declared.found.Found.{Found}

abbrev pub parts_in : {P : Type 0} → {g : _} → Found P g → ℕ
parts_in found = vec_len found.places

-- A store that was found has these parts, in their order, and their disks are as they were.
abbrev pub HasParts : {P : Type 0} → {g : _} → (P → Disks) → List P → Found P g → Type 0
HasParts disks parts found = AreSeated disks parts found.places.items
