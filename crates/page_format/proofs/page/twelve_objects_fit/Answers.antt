use Rattle.page_format.proofs.Pages.{twelve}
use Rattle.page_format.proofs.page.twelve_objects_fit.Goals as goal

pub returns : goal.returns
returns c = twelve
