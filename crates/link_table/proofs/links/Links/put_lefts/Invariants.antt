use Rattle.link_table.proofs.Chains.{Leads}
use Rattle.link_table.proofs.links.Links.put_lefts.Given as goal
use Rattle.link_table.specs.Pairs.{lefts}
use Rattle.link_table.specs.States.{state_of}
use Rattle.link_table.specs.Tables.{pairs}
use Rattle.std.proofs.Common.{List, ◌++◌, ◌≡◌, ℕ}

-- the lefts that are left lead to all of them
abbrev pub invariant-loop : goal.invariant-loop
invariant-loop l = (rest : List ℕ) × Leads (state_of l.self-inside.table).nodes l.key rest × (l.out.items ++ rest ≡ l.fn.out.items ++ lefts (pairs (state_of l.self-inside.table)) l.right)
