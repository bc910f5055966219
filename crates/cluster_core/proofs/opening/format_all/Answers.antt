use Rattle.cluster_core.proofs.Failing.{failed_twice, fell_twice}
use Rattle.cluster_core.proofs.opening.format_all.Goals as goal
use Rattle.cluster_port.specs.Sited.{BeginsNew}
use Rattle.std.proofs.Common.{subst, sym, ℕ}

pub format_last-requires-clause-begins : goal.format_last-requires-clause-begins
format_last-requires-clause-begins g c = λ n.
    subst (λ (repos : ℕ). BeginsNew g.O.Opening.run n repos c.args.setup.now c.args.mob) (sym c.format_from-seats.ensures.count) (c.requires.begins n)

pub returns-clause-fell : goal.returns-clause-fell
returns-clause-fell g c = fell_twice g.P.Parts.disks c.format_from-seats.result.1 c.format_last.result.1 c.args.seats.items c.format_from-seats.result.0.items c.format_last.result.0.items c.format_from-seats.ensures.fell c.format_last.ensures.others c.format_last.ensures.fell

pub returns-clause-failed : goal.returns-clause-failed
returns-clause-failed g c = λ r is.
    failed_twice g.P.Parts.disks c.format_from-seats.result.1 c.args.seats.items c.format_from-seats.result.0.items c.format_last.result.0.items r c.format_from-seats.ensures.fell (c.format_from-seats.ensures.failed r) (c.format_last.ensures.failed r is)
