use Rattle.std.proofs.Common.{ap, refl, ◌∙◌}
use Rattle.repo_core.proofs.Letting.{goes_itself, goes_on, table_on}
use Rattle.repo_durable.specs.Kept.{held_of, is_up_in}
use Rattle.repo_core.proofs.restart.forget_before.Goals as goal

pub loop-init : goal.loop-init
loop-init g c = record { kept = c.requires.kept; up = c.requires.up; says = c.requires.says; phase = refl; parts = refl; held = refl; go = goes_itself c.args.life (held_of c.args.stable.now).table }

pub loop-preserved : goal.loop-preserved
loop-preserved g c = record {
  kept = c.forget_earlier.ensures.kept;
  up = ap is_up_in c.forget_earlier.ensures.phase ∙ c.loop.invariant.up;
  says = c.forget_earlier.ensures.says;
  phase = c.forget_earlier.ensures.phase ∙ c.loop.invariant.phase;
  parts = c.forget_earlier.ensures.parts ∙ c.loop.invariant.parts;
  held = table_on (held_of c.args.stable.now) (held_of c.loop.stable) (held_of c.forget_earlier.new.stable) c.loop.invariant.held c.forget_earlier.ensures.held;
  go = goes_on c.args.life (held_of c.args.stable.now).table (held_of c.loop.stable).table (held_of c.forget_earlier.new.stable).table c.loop.invariant.go c.forget_earlier.ensures.go;
}
