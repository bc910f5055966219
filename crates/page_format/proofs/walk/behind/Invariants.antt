use Rattle.std.proofs.Common.{◌≡◌, ◌-◌}
use Rattle.page_format.specs.Walking.{behind_at}
use Rattle.page_format.proofs.walk.behind.Given as goal

-- what is behind the objects that are left is behind all
abbrev pub invariant-loop : goal.invariant-loop
invariant-loop l = behind_at (l.count - l.counter) l.low l.rest ≡ behind_at l.count 0 l.bytes
