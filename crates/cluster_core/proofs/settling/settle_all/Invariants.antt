use Rattle.cluster_port.specs.Counting.{HaveSameFaults}
use Rattle.cluster_port.specs.Lent.{AreInPlace}
use Rattle.std.proofs.Common.{vec_len, ◌≡◌}
use Rattle.cluster_core.proofs.settling.settle_all.Given as goal

abbrev pub invariant-loop-place : goal.invariant-loop-place
invariant-loop-place g l = AreInPlace l.sites.items × (vec_len l.sites ≡ vec_len l.fn.sites) × HaveSameFaults l.fn.sites.items l.sites.items
