use denote.Param.Send.{sendable}
use Rattle.cluster_threads.proofs.ClientsCross.{front_end_send, opened_sync}
use Rattle.cluster_threads.proofs.running.run_apart.Goals as goal

pub run_locked-seats-requires-send-C : goal.run_locked-seats-requires-send-C
run_locked-seats-requires-send-C g c κs within = search (front_end_send, sendable) depth 30

pub run_locked-seats-requires-sync-S : goal.run_locked-seats-requires-sync-S
run_locked-seats-requires-sync-S g c κs within = search (opened_sync, sendable) depth 30
