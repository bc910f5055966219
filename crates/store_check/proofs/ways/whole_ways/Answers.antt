use Rattle.store_check.proofs.Doubling.{ended_ways_are, first_ways_are, longer_ways_are}
use Rattle.store_check.proofs.ways.whole_ways.Goals as goal
use Rattle.std.proofs.Common.{arith, rules}

pub doubled-init : goal.doubled-init
doubled-init c = record {
  some = omega arith;
  ways = first_ways_are c.args.schemas.now c.args.objects.now c.args.namings.now c.args.names.now c.requires.noted c.requires.names c.in_ok-ways.ways c.in_ok-ways.ensures;
}

pub returns-then-not-some_goes_on : goal.returns-then-not-some_goes_on
returns-then-not-some_goes_on c =
    ended_ways_are c.args.schemas.now c.args.objects.now c.args.namings.now c.args.names.now c.requires.noted c.requires.names c.doubled.steps c.doubled.ways
    c.some_goes_on.result c.doubled.invariant.ways c.some_goes_on.ensures (search rules)

pub doubled-preserved : goal.doubled-preserved
doubled-preserved c = record {
  some = let h = c.doubled.invariant.some in omega (arith, h);
  ways = longer_ways_are c.args.schemas.now c.args.objects.now c.args.namings.now c.args.names.now c.requires.noted c.requires.names c.doubled.steps c.doubled.ways
      c.in_ok-ways-2.ways c.doubled.invariant.ways c.in_ok-ways-2.ensures;
}
