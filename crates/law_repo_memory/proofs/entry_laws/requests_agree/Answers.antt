use Rattle.law_repo_memory.proofs.Entries.{agrees-one, agrees-prepared, agrees-upgraded}
use Rattle.std.proofs.Common.{refl}
use Rattle.law_repo_memory.proofs.entry_laws.requests_agree.Goals as goal

pub returns : goal.returns
returns c = record {
  prepared = λ b r h M N q a ow unkept granted m. agrees-prepared b r h M N a q ow unkept granted m;
  one = λ b r h M N q a ow unkept granted m. agrees-one b r h M N a q ow unkept granted m;
  upgraded = λ b r h M N q a ow unkept granted m. agrees-upgraded b r h M N a q ow unkept granted m;
  memory = λ h M q. record { queue = refl; requested = refl; drawn = refl };
}
