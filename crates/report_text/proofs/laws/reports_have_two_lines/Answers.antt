use Rattle.report_text.proofs.Newlines.{two_newlines, ends_a_line, no_single_line}
use Rattle.report_text.proofs.laws.reports_have_two_lines.Goals as goal

pub returns-clause-two : goal.returns-clause-two
returns-clause-two c = two_newlines

pub returns-clause-whole : goal.returns-clause-whole
returns-clause-whole c = ends_a_line

pub returns-clause-apart : goal.returns-clause-apart
returns-clause-apart c = no_single_line
