use Rattle.report_parse.proofs.Stops.{same_report}
use Rattle.report_parse.proofs.Reported.{is_reported}
use Rattle.report_parse.proofs.laws.texts_tell_reports.Goals as goal

pub returns-clause-one : goal.returns-clause-one
returns-clause-one c = same_report

pub returns-clause-reported : goal.returns-clause-reported
returns-clause-reported c = is_reported
