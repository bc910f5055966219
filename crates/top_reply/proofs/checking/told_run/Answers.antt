use Rattle.std.proofs.Common.{rules}
use Rattle.top_reply.proofs.checking.told_run.Goals as goal

pub returns-in_ok-text-in-Some : goal.returns-in_ok-text-in-Some
returns-in_ok-text-in-Some c = record { run = search rules; has = search rules }
