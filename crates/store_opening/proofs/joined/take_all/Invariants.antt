use Rattle.std.proofs.Common.{take, ◌≡◌}
use Rattle.std.specs.List.{fold}
use Rattle.store_opening.specs.Joined.{read_states}
use Rattle.store_opening.specs.OpenedStore.{with_repository}
use Rattle.store_opening.proofs.joined.take_all.Given as goal

abbrev pub invariant-loop-read : goal.invariant-loop-read
invariant-loop-read l = l.objects ≡ fold (with_repository (read_states l.store)) l.fn.objects (read_states (take l.read-index l.store))
