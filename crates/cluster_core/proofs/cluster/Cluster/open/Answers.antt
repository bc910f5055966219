use Rattle.cluster_core.proofs.cluster.Cluster.open.Goals as goal

pub returns-in_default-clause-failed : goal.returns-in_default-clause-failed
returns-in_default-clause-failed g c = λ given each r is. absurd (c.without_room.ensures.failed r is)

pub returns-in_default-with_capacity-clause-failed : goal.returns-in_default-with_capacity-clause-failed
returns-in_default-with_capacity-clause-failed g c = λ given each r is. absurd (c.without_room-in_default-with_capacity.ensures.failed r is)
