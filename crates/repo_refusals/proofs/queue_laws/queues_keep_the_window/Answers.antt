use Rattle.repo_refusals.proofs.Following.{follows}
use Rattle.repo_refusals.proofs.Queued as queued
use Rattle.repo_refusals.proofs.queue_laws.queues_keep_the_window.Goals as goal
use Rattle.std.proofs.Common.{refl}

pub returns : goal.returns
returns c = record {
  begins = λ t. refl;
  members = queued.get-queue;
  len = queued.len-queue;
  enters = queued.enters;
  commits = queued.commits;
  aborts = queued.aborts;
  clears = queued.clears;
  restarts = queued.restarts;
  follows = follows;
}
