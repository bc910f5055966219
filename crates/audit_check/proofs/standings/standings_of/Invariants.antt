use Rattle.audit_check.proofs.Found.{AreBehind}
use Rattle.audit_check.proofs.standings.standings_of.Given as goal

-- what stands of each item by so many entries from the last
abbrev pub invariant-loop-behind : goal.invariant-loop-behind
invariant-loop-behind l = AreBehind l.standings l.least l.history l.behind
