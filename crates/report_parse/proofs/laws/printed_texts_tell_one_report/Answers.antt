use Rattle.report_parse.proofs.Reported.{printed_is}
use Rattle.report_parse.proofs.Stops.{same_report}
use Rattle.report_parse.proofs.laws.printed_texts_tell_one_report.Goals as goal
use Rattle.report_parse.specs.Reports.{report_of}
use Rattle.std.proofs.Common.{◌∙◌}

pub returns : goal.returns
returns c = λ ends history text is fits a ok told. same_report a (report_of ends history) ok fits (told ∙ is ∙ printed_is ends history)
