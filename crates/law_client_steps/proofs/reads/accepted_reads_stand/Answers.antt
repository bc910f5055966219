use Rattle.law_client_steps.proofs.Standing.{committed_reads, prepared_reads}
use Rattle.law_client_steps.proofs.reads.accepted_reads_stand.Goals as goal

pub returns : goal.returns
returns c = record { commit_one = committed_reads; prepare = prepared_reads }
