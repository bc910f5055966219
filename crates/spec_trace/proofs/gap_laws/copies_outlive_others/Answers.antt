use Rattle.spec_trace.proofs.Outlived.{outlive}
use Rattle.spec_trace.proofs.gap_laws.copies_outlive_others.Goals as goal

pub returns : goal.returns
returns c = outlive
