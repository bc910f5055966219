use Rattle.law_client_steps.proofs.Quieting.{settles}
use Rattle.law_client_steps.proofs.quiet.handed_on_is_settled.Goals as goal
use Rattle.std.proofs.Common.{false}

pub returns : goal.returns
returns c = record { nothing = λ port r s told q seen. settles port r s (λ t. false) told q (λ t e. cc) seen; running = settles }
