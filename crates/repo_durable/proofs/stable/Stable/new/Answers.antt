use Rattle.repo_state.specs.Said.{said}
use Rattle.repo_durable.proofs.Failing.{fell_fused}
use Rattle.repo_durable.proofs.Readable.{fused_has}
use Rattle.repo_durable.proofs.Saying.{log_fused}
use Rattle.repo_durable.proofs.Staying.{opened_fused}
use Rattle.std.proofs.Common.{false}
use Rattle.repo_durable.proofs.stable.Stable.new.Goals as goal

pub returns-clause-kept : goal.returns-clause-kept
returns-clause-kept g c = record { stands = opened_fused g.P.Parts.disks c.args.parts c.new.result c.args.log c.args.held c.new.ensures.parts c.requires }

pub returns-clause-says : goal.returns-clause-says
returns-clause-says g c = λ says. record { says = log_fused g.P.Parts.disks c.args.parts c.new.result c.args.log (said c.args.held) c.new.ensures.parts says }

pub returns-clause-readable : goal.returns-clause-readable
returns-clause-readable g c = λ tells are. fused_has g.P.Parts.disks c.args.parts c.new.result false c.args.held.objects.pages.sides c.new.ensures.parts tells are

pub returns-clause-fell : goal.returns-clause-fell
returns-clause-fell g c = fell_fused g.P.Parts.disks c.args.parts c.new.result c.new.ensures.parts
