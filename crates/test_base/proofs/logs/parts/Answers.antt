use Rattle.test_base.proofs.logs.parts.Goals as goal

-- Whatever the clock gave, nobody has called the disks yet.
pub returns : goal.returns
returns c = c.new-4.ensures.settled c.new-3.result.greatest 0
