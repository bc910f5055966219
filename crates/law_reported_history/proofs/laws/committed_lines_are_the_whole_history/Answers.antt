use Rattle.law_reported_history.proofs.Listing.{lines-are}
use Rattle.law_reported_history.proofs.laws.committed_lines_are_the_whole_history.Goals as goal

pub returns : goal.returns
returns c = lines-are
