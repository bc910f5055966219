use Rattle.std.proofs.Common.{take, ◌≡◌, ◌≤◌}
use Rattle.repo_format.specs.Fresh.{page_count}
use Rattle.repo_format.proofs.state.page_count.Given as goal

-- so many pages the roots so far take
abbrev pub invariant-loop-root : goal.invariant-loop-root
invariant-loop-root l = (l.count ≡ page_count l.repo (take l.root-index l.roots)) × (l.count ≤ 65536)
