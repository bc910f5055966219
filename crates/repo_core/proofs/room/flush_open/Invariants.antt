use Rattle.disk_trait.specs.AllDisks.{NoFault}
use Rattle.std.proofs.Common.{[], true, ◌≡◌}
use Rattle.repo_core.specs.Behind.{MovesObjects}
use Rattle.repo_durable.specs.Failing.{NoFewer}
use Rattle.repo_durable.specs.Flushes.{HasFlushed}
use Rattle.repo_durable.specs.Mapping.{StoreMoves}
use Rattle.repo_durable.specs.Pages.{HasPages}
use Rattle.repo_durable.specs.Saying.{IsSaid}
use Rattle.repo_durable.specs.Kept.{IsKept, disks_of, held_of, is_up}
use Rattle.repo_core.proofs.room.flush_open.Given as goal

-- objects have moved, and all else stays
abbrev pub invariant-loop : goal.invariant-loop
invariant-loop g l = record { kept : IsKept g.P.Parts.disks l.stable; says : IsSaid g.P.Parts.disks l.stable; readable : HasPages g.P.Parts.disks l.fn.stable → HasPages g.P.Parts.disks l.stable; up : is_up l.stable ≡ true; held : MovesObjects (held_of l.fn.stable) (held_of l.stable); counts : NoFault (disks_of g.P.Parts.disks l.fn.stable) (disks_of g.P.Parts.disks l.stable); flushed : HasFlushed (held_of l.fn.stable).objects.mob.objects (held_of l.stable).objects.mob.objects; map : StoreMoves g.P.Parts.disks [] l.fn.stable l.stable; limit : (held_of l.stable).objects.mob.limit ≡ (held_of l.fn.stable).objects.mob.limit; clock : (disks_of g.P.Parts.disks l.stable).clock ≡ (disks_of g.P.Parts.disks l.fn.stable).clock; faults : NoFewer (disks_of g.P.Parts.disks l.fn.stable).faults (disks_of g.P.Parts.disks l.stable).faults }
