use Rattle.log_codec.proofs.CheckpointLaws.{requests_spell, stamps_to}
use Rattle.log_codec.proofs.checkpoints.put_transactions.Goals as goal

pub put-requires : goal.put-requires
put-requires c = requests_spell c.args.state.now.prepared c.requires.prepared

pub put-requires-3 : goal.put-requires-3
put-requires-3 c = stamps_to c.args.state.now.alone c.requires.alone
