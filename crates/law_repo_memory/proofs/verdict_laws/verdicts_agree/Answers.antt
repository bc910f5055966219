use Rattle.law_repo_memory.proofs.Accepted.{not-too-old}
use Rattle.law_repo_memory.proofs.Judging.{accepted-by-trace, epoch-fits, unknown-here, verdict-exact}
use Rattle.law_repo_memory.proofs.verdict_laws.verdicts_agree.Goals as goal

pub returns : goal.returns
returns c = record { exact = verdict-exact; accepted = accepted-by-trace; above = not-too-old; unknown = unknown-here; epoch = epoch-fits }
