use Rattle.report_text.proofs.ReportTells.{text_tells}
use Rattle.report_text.proofs.ReportShows.{same_text}
use Rattle.report_text.proofs.laws.text_tells_the_report.Goals as goal

pub returns-clause-items : goal.returns-clause-items
returns-clause-items c ends history others other p q e = (text_tells ends history others other p q e).0

pub returns-clause-history : goal.returns-clause-history
returns-clause-history c ends history others other p q e = (text_tells ends history others other p q e).1

pub returns-clause-alone : goal.returns-clause-alone
returns-clause-alone c = same_text
