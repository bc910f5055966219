use Rattle.std.proofs.Common.{refl}
use Rattle.std.specs.Fmt.{digits}
use Rattle.report_text.specs.Words.{who_word, ts_word, oref_word, cause_words}
use Rattle.report_text.specs.Report.{report_text, item_line, history_line, outcome_words}
use Rattle.report_text.proofs.ExampleFits.{example_fits}
use Rattle.report_text.proofs.laws.example_report_is_as_shown.Goals as goal

pub returns-clause-text : goal.returns-clause-text
unfolding digits report_text item_line history_line outcome_words who_word ts_word oref_word cause_words
returns-clause-text c = refl

pub returns-clause-reported : goal.returns-clause-reported
returns-clause-reported c = example_fits
