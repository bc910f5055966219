use Rattle.log_codec.specs.Grammar.{body_format}
use Rattle.log_codec.specs.declared.body.Body.TheVariants.{Entry as AnEntry}
use Rattle.log_codec.proofs.Grammars.{exact_body}
use Rattle.log_codec.proofs.WholeLaws.{read_again, spelled_ok}
use Rattle.log_codec.proofs.bodies.spell_entry.Goals as goal

pub returns-clause-spelled : goal.returns-clause-spelled
unfolding body_format
returns-clause-spelled c = spelled_ok body_format exact_body (AnEntry c.args.entry.now) c.put_entry.new.out c.requires (rw c.in_ok-put.ensures at c.in_ok-put_entry.ensures) c.short_text.result c.short_text.ensures.same c.short_text.ensures.short

pub returns-clause-read : goal.returns-clause-read
unfolding body_format
returns-clause-read c = read_again body_format exact_body (AnEntry c.args.entry.now) c.put_entry.new.out c.requires (rw c.in_ok-put.ensures at c.in_ok-put_entry.ensures) c.short_text.result c.short_text.ensures.same c.short_text.ensures.short
