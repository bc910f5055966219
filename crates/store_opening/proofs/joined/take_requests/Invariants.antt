use Rattle.std.proofs.Common.{map, take, ◌≡◌}
use Rattle.std.specs.List.{fold}
use Rattle.thor_value.specs.FiniteMap.{overwrite}
use Rattle.store_opening.proofs.joined.take_requests.Given as goal

abbrev pub invariant-loop-request : goal.invariant-loop-request
invariant-loop-request l = l.objects ≡ fold (λ n q. overwrite n q.writes) l.fn.objects (map (λ q. q.now) (take l.request-index l.requests))
