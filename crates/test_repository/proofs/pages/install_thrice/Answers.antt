use Rattle.test_repository.proofs.pages.install_thrice.Goals as goal

pub install-requires-2-clause-agrees : goal.install-requires-2-clause-agrees
install-requires-2-clause-agrees g c = λ disk told. c.settle.ensures.agrees disk (c.in_ok-first.ensures.agrees disk told)

pub install-requires-3-clause-agrees : goal.install-requires-3-clause-agrees
install-requires-3-clause-agrees g c = λ disk told. c.settle-2.ensures.agrees disk (c.in_ok-second.ensures.agrees disk told)

pub read-requires : goal.read-requires
read-requires g c = record { agrees = λ disk told. c.settle-3.ensures.agrees disk (c.in_ok-third.ensures.agrees disk told) }
