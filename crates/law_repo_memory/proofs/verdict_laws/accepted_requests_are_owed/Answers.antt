use Rattle.law_repo_memory.proofs.Accepted.{continues-one, continues-prepared, continues-upgraded}
use Rattle.law_repo_memory.proofs.verdict_laws.accepted_requests_are_owed.Goals as goal

pub returns : goal.returns
returns c = record { prepared = continues-prepared; one = continues-one; upgraded = continues-upgraded }
