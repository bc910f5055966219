use Rattle.report_text.proofs.Newlines.{newlines-append, newlines-decimal}
use Rattle.report_text.proofs.laws.newlines_add_up.Goals as goal

pub returns-clause-joined : goal.returns-clause-joined
returns-clause-joined c = newlines-append

pub returns-clause-number : goal.returns-clause-number
returns-clause-number c = newlines-decimal
