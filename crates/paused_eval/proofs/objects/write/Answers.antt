use Rattle.paused_eval.proofs.Hands.{wrote, wrote_tied}
use Rattle.paused_eval.proofs.objects.write.Goals as goal

pub returns-clause-writes : goal.returns-clause-writes
returns-clause-writes c = wrote c.args.oref _ c.args.cache.now c.write.new.self c.requires.tied c.in_ok-write.ensures.changed c.in_ok-write.ensures.written

pub returns-clause-tied : goal.returns-clause-tied
returns-clause-tied c = wrote_tied c.args.oref _ c.args.cache.now c.write.new.self c.requires.tied c.in_ok-write.ensures.changed c.in_ok-write.ensures.written c.requires.slot
