use Rattle.log_codec.specs.Checkpoint.{state_format}
use Rattle.log_codec.proofs.CheckpointLaws.{exact_state}
use Rattle.log_codec.proofs.WholeLaws.{read_again, spelled_ok}
use Rattle.log_codec.proofs.checkpoints.spell_state.Goals as goal

pub put-requires : goal.put-requires
unfolding state_format
put-requires c = c.requires

pub returns-clause-spelled : goal.returns-clause-spelled
unfolding state_format
returns-clause-spelled c = spelled_ok state_format exact_state c.args.state.now c.put.new.out c.requires (rw c.new-text.ensures at c.in_ok-put.ensures) c.short_text.result c.short_text.ensures.same c.short_text.ensures.short

pub returns-clause-read : goal.returns-clause-read
unfolding state_format
returns-clause-read c = read_again state_format exact_state c.args.state.now c.put.new.out c.requires (rw c.new-text.ensures at c.in_ok-put.ensures) c.short_text.result c.short_text.ensures.same c.short_text.ensures.short
