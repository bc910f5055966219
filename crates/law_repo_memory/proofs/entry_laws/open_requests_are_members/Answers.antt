use Rattle.law_repo_memory.proofs.Entries.{open-member}
use Rattle.law_repo_memory.proofs.entry_laws.open_requests_are_members.Goals as goal

pub returns : goal.returns
returns c = open-member
