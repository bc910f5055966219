use Rattle.top_statement.proofs.WrittenLaws.{ok_same}
use Rattle.top_statement.proofs.writing.write.Goals as goal

pub returns-in-Ok-clause-same : goal.returns-in-Ok-clause-same
returns-in-Ok-clause-same g c = ok_same c.write_made.result.1 c.args.reply c.in-Ok.reply c.in-Ok.is c.write_made.ensures.same
