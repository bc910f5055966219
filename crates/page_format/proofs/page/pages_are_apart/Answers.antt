use Rattle.page_format.proofs.Pages.{one_page}
use Rattle.page_format.proofs.page.pages_are_apart.Goals as goal

pub returns : goal.returns
returns c = one_page
