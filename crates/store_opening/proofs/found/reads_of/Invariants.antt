use Rattle.std.proofs.Common.{List, take, ℕ}
use Rattle.store_opening.specs.Joined.{AreKept, read_states}
use Rattle.store_opening.specs.Reading.{ReadAll, StandFor}
use Rattle.store_opening.specs.Seated.{AreSeated}
use Rattle.store_opening.specs.Unsound.{HaveLogs}
use Rattle.store_opening.proofs.found.reads_of.Given as goal

-- what was read so far is well kept, and is what the disks stand for
abbrev pub invariant-loop-place : goal.invariant-loop-place
invariant-loop-place g l = AreKept l.reads.items
    × ((parts : List _) (images : List (ℕ → List ℕ)) → AreSeated g.P.Parts.disks parts l.places → ReadAll g.P.Parts.disks parts images → StandFor (take l.place-index images) (read_states l.reads.items))
    × ((parts : List _) (images : List (ℕ → List ℕ)) → AreSeated g.P.Parts.disks parts l.places → ReadAll g.P.Parts.disks parts images → HaveLogs (take l.place-index images) l.reads.items)
