use Rattle.cached_sets.proofs.Finding.{stale_here, stale_later}
use Rattle.cached_sets.proofs.invalid_set.InvalidSet.first_of_names.Goals as goal
use Rattle.std.proofs.Common.{arith, sym, ◌∙◌}

pub returns-in-Some-clause-value : goal.returns-in-Some-clause-value
returns-in-Some-clause-value g c = sym (stale_here c.args.self.now c.args.upto c.args.names.now c.loop-name.name-index _ c.in-Some.stale c.loop-name-test.true (sym c.if_stale.ensures ∙ c.in-Some.is)) ∙ c.loop-name.invariant.left

pub loop-name-preserved : goal.loop-name-preserved
loop-name-preserved g c = record {
  left = stale_later c.args.self.now c.args.upto c.args.names.now c.loop-name.name-index _ c.loop-name-test.true (sym c.if_stale.ensures ∙ c.in_default.is) ∙ c.loop-name.invariant.left;
  cost = omega (arith, c.tick.ensures, c.loop-name.invariant.cost);
}
