use Rattle.std.proofs.Common.{map, take, ◌≡◌}
use Rattle.std.specs.List.{fold}
use Rattle.commit_log.specs.Recovered.{texts_after, threshold_after}
use Rattle.store_opening.proofs.joined.commit_all.Given as goal

abbrev pub invariant-loop-request : goal.invariant-loop-request
invariant-loop-request l =
    (l.settled.threshold ≡ fold (λ threshold q. threshold_after threshold q.kind q.tx) l.fn.settled.threshold (map (λ q. q.now) (take l.request-index l.requests)))
    × (l.settled.upgrades ≡ fold (λ texts q. texts_after texts q.kind) l.fn.settled.upgrades (map (λ q. q.now) (take l.request-index l.requests)))
