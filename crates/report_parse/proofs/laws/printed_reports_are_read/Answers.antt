use Rattle.report_parse.proofs.Reported.{printed_is}
use Rattle.report_parse.proofs.laws.printed_reports_are_read.Goals as goal

pub returns : goal.returns
returns c = printed_is
