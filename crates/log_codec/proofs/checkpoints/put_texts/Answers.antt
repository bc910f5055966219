use Rattle.log_codec.proofs.CheckpointLaws.{roots_spell, texts_any}
use Rattle.log_codec.proofs.checkpoints.put_texts.Goals as goal

pub put-requires-2 : goal.put-requires-2
put-requires-2 c = roots_spell c.args.state.now.roots c.requires.roots

pub put-requires-3 : goal.put-requires-3
put-requires-3 c = texts_any c.args.state.now.upgrades
