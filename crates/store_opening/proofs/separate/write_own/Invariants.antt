use Rattle.std.proofs.Common.{map, take, true, ◌≡◌}
use Rattle.std.specs.List.{list_all}
use Rattle.store_opening.specs.Fitting.{is_own}
use Rattle.store_opening.specs.Standing.{member_of}
use Rattle.store_opening.proofs.separate.write_own.Given as goal

-- those so far write own names
abbrev pub invariant-loop-request : goal.invariant-loop-request
invariant-loop-request l = list_all (λ q. list_all (λ w. is_own (member_of l.one) w.0) q.writes) (map (λ q. q.now) (take l.request-index l.requests)) ≡ true
