use Rattle.cluster_port.proofs.Happening.{happened_at, none_happened}
use Rattle.cluster_port.proofs.Placing.{placed_at}
use Rattle.repo_site.specs.Happening.{ComesBack, GoesOn}
use Rattle.std.proofs.Common.{arith, inl, inr, refl}
use Rattle.std.specs.Vec.{vec_len}
use Rattle.cluster_port.proofs.events.restart.Goals as goal

pub returns-in-Some-clause-placed : goal.returns-in-Some-clause-placed
returns-in-Some-clause-placed g c = placed_at c.args.sites.now.items c.args.place (vec_len c.args.sites.now) c.in-Some.site.now c.restart.new.self c.requires c.restart.ensures.happens.number (omega (arith, c.args.sites.now.ok.0)) (c.in-Some.ensures.variant.0 refl) c.in-Some.ensures.value

pub returns-in-Some-clause-does : goal.returns-in-Some-clause-does
returns-in-Some-clause-does g c = happened_at GoesOn c.args.sites.now.items c.args.place (vec_len c.args.sites.now) c.in-Some.site.now c.restart.new.self (omega (arith, c.args.sites.now.ok.0)) (c.in-Some.ensures.variant.0 refl) c.in-Some.ensures.value c.restart.ensures.does

pub returns-in-None-clause-does : goal.returns-in-None-clause-does
returns-in-None-clause-does g c = none_happened GoesOn c.args.sites.now.items c.args.place (vec_len c.args.sites.now) (omega (arith, c.args.sites.now.ok.0)) c.in-None.ensures.variant.1

pub returns-in-Some-clause-comes : goal.returns-in-Some-clause-comes
returns-in-Some-clause-comes g c = elim c.restart.ensures.comes [
  | inl wants ↦ inl wants
  | inr comes ↦ inr (happened_at ComesBack c.args.sites.now.items c.args.place (vec_len c.args.sites.now) c.in-Some.site.now c.restart.new.self (omega (arith, c.args.sites.now.ok.0)) (c.in-Some.ensures.variant.0 refl) c.in-Some.ensures.value comes)
]

pub returns-in-None-clause-comes : goal.returns-in-None-clause-comes
returns-in-None-clause-comes g c = inr (none_happened ComesBack c.args.sites.now.items c.args.place (vec_len c.args.sites.now) (omega (arith, c.args.sites.now.ok.0)) c.in-None.ensures.variant.1)
