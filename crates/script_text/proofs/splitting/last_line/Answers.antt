use Rattle.std.proofs.Common.{sym}
use Rattle.script_text.proofs.LastLine.{last_at}
use Rattle.script_text.proofs.splitting.last_line.Goals as goal

pub returns-in-Some : goal.returns-in-Some
returns-in-Some c = sym (last_at c.args.tokens.now c.in-Some.token.now (sym c.in-Some.ensures.value))
