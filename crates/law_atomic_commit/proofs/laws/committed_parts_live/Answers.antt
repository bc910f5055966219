use Rattle.law_atomic_commit.proofs.Parts.{all_parts, none_aborted, none_aborted_before}
use Rattle.law_atomic_commit.proofs.laws.committed_parts_live.Goals as goal

pub returns : goal.returns
returns c = record { parts = all_parts; nowhere = none_aborted; prefixes = none_aborted_before }
