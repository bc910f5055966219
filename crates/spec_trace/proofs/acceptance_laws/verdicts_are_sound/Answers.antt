use Rattle.spec_trace.proofs.Accepted.{one, prepared, upgraded}
use Rattle.repo_refusals.proofs.Validated.{validated}
use Rattle.spec_trace.proofs.acceptance_laws.verdicts_are_sound.Goals as goal

pub returns : goal.returns
returns c = record { accepts = validated; prepared = prepared; one = one; upgraded = upgraded }
