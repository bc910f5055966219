use Rattle.repo_core.proofs.Unbegun.{failed_out, fell_out, stopped_of}
use Rattle.repo_durable.specs.Kept.{disks_of}
use Rattle.repo_refusals.specs.declared.refusal.Refusal.TheVariants as refused
use Rattle.std.proofs.Common.{IsErrOf, rules}
use Rattle.repo_core.proofs.opening.begin.Goals as goal

pub returns-in-Ok-write_life-clause-fell : goal.returns-in-Ok-write_life-clause-fell
returns-in-Ok-write_life-clause-fell g c = fell_out (disks_of g.P.Parts.disks c.args.stable) c.write_life.new.self c.in-Ok-write_life.ensures.steady

pub returns-in-Err-write_life-clause-failed : goal.returns-in-Err-write_life-clause-failed
returns-in-Err-write_life-clause-failed g c = λ is.
    let told = c.unbegun.ensures is in
    let stopped = stopped_of c.in-Err-write_life.refusal told.0 in
    let wrong : IsErrOf c.write_life.result (refused.Stopped stopped.0) = search rules in
    failed_out (disks_of g.P.Parts.disks c.args.stable) c.write_life.new.self (g.P.Parts.disks c.unbegun.result.parts).faults (c.write_life.ensures.stopped stopped.0 wrong) told.1
