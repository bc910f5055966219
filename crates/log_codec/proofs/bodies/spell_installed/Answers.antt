use Rattle.std.proofs.Common.{arith}
use Rattle.log_codec.specs.Grammar.{body_format}
use Rattle.log_codec.specs.declared.body.Body.TheVariants.{Installed as AnInstalled}
use Rattle.log_codec.proofs.Grammars.{exact_body}
use Rattle.log_codec.proofs.WholeLaws.{read_again, spelled_ok}
use Rattle.log_codec.proofs.bodies.spell_installed.Goals as goal

pub returns-clause-spelled : goal.returns-clause-spelled
unfolding body_format
returns-clause-spelled c = spelled_ok body_format exact_body (AnInstalled c.args.page c.args.side) c.put_installed.new.out (omega (arith, c.ranges.page.fits), c.requires) (rw c.new-put.ensures at c.in_ok-put_installed.ensures) c.short_text.result c.short_text.ensures.same c.short_text.ensures.short

pub returns-clause-read : goal.returns-clause-read
unfolding body_format
returns-clause-read c = read_again body_format exact_body (AnInstalled c.args.page c.args.side) c.put_installed.new.out (omega (arith, c.ranges.page.fits), c.requires) (rw c.new-put.ensures at c.in_ok-put_installed.ensures) c.short_text.result c.short_text.ensures.same c.short_text.ensures.short
