use Rattle.law_repo_memory.proofs.Accepted.{owes-decided, owes-finished}
use Rattle.law_repo_memory.proofs.Entries.{agrees-decided, agrees-finished}
use Rattle.law_repo_memory.proofs.entry_laws.decisions_agree.Goals as goal

pub returns : goal.returns
returns c = record {
  decided = λ b r h M N t q k a there here m. agrees-decided b r h M N a t q k there (owes-decided b r h M.requested t q a.held there k here) m;
  finished = λ b r h M N t q k a there other m. agrees-finished b r h M N a t q k there (owes-finished b r h M.requested t q a.held there k other) m;
}
