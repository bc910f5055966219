use Rattle.std.proofs.Common.{subst}
use Rattle.log_codec.specs.Grammar.{BodyFits, body_format}
use Rattle.log_codec.proofs.bodies.BodySpelled.put.Goals as goal

pub put_entry-requires : goal.put_entry-requires
unfolding body_format
put_entry-requires c = subst BodyFits c.in-Entry.is c.requires

pub put_installed-requires : goal.put_installed-requires
unfolding body_format
put_installed-requires c = let h = subst BodyFits c.in-Installed.is c.requires in h.1
