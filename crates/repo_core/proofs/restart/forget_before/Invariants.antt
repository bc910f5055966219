use Rattle.std.proofs.Common.{true, ◌≡◌}
use Rattle.repo_core.specs.Restarting.{LetsGo}
use Rattle.repo_durable.specs.Kept.{IsKept, held_of, is_up, parts_in}
use Rattle.repo_durable.specs.Saying.{IsSaid}
use Rattle.repo_core.proofs.restart.forget_before.Given as goal

-- decisions are forgotten, and all else stays
abbrev pub invariant-loop : goal.invariant-loop
invariant-loop g l = record {
  kept : IsKept g.P.Parts.disks l.stable;
  up : is_up l.stable ≡ true;
  says : IsSaid g.P.Parts.disks l.stable;
  phase : l.stable.phase ≡ l.fn.stable.phase;
  parts : parts_in l.stable ≡ parts_in l.fn.stable;
  held : held_of l.stable ≡ record (held_of l.fn.stable) { table = (held_of l.stable).table };
  go : LetsGo l.life (held_of l.fn.stable).table (held_of l.stable).table;
}
