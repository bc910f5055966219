use Rattle.log_codec.proofs.checkpoints.stamps_rise.Goals as goal

pub returns : goal.returns
returns c = c.rises.ensures
