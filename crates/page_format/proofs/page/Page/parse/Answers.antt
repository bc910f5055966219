use Rattle.page_format.proofs.Pages.{is_written, read_found}
use Rattle.page_format.proofs.page.Page.parse.Goals as goal

pub returns-clause-found : goal.returns-clause-found
returns-clause-found c = read_found c.args.bytes.now c.parse_in.result c.parse_in.ensures.found

pub returns-clause-only : goal.returns-clause-only
returns-clause-only c = λ d fits e. c.parse_in.ensures.only d (is_written d fits) e

pub returns-clause-damaged : goal.returns-clause-damaged
returns-clause-damaged c = λ h d fits e. c.parse_in.ensures.damaged h d (is_written d fits) e
