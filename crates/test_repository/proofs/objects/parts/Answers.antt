use Rattle.test_repository.proofs.objects.parts.Goals as goal

-- Whatever the clock gave, nobody has called the disks yet.
pub returns-clause-settled : goal.returns-clause-settled
returns-clause-settled c = c.new-4.ensures.settled c.new-3.result.greatest 2
