use Rattle.paused_eval.proofs.Writes.{by_names, so_they_stand}
use Rattle.paused_eval.proofs.paused.writes.Goals as goal

pub returns-clause-writes : goal.returns-clause-writes
returns-clause-writes c = by_names c.writes_of.result c.args.epoch c.args.copies.now.cache c.writes_of.ensures.writes

pub returns-clause-wrote : goal.returns-clause-wrote
returns-clause-wrote c =
    so_they_stand c.writes_of.result c.args.epoch c.args.copies.now.cache c.writes_of.new.cache c.args.copies.now.tied c.writes_of.ensures.dated
    (by_names c.writes_of.result c.args.epoch c.args.copies.now.cache c.writes_of.ensures.writes)
