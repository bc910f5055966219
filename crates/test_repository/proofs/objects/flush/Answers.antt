use Rattle.test_repository.proofs.objects.flush.Goals as goal

pub load-requires : goal.load-requires
load-requires g c = record { one_repo = (1, (rw c.new-store.ensures (rw c.in_ok-new.ensures tt)), c.in_ok-writes.ensures) }
