use Rattle.front_end.proofs.client.Client.stop_waiting.Goals as goal

pub returns-clause-writes : goal.returns-clause-writes
returns-clause-writes c = λ w. rw (c.stop_waiting.ensures.rest) w
