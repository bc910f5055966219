use Rattle.cluster_core.specs.Failing.{HaveCounted}
use Rattle.repo_opening.specs.declared.unopened.Unopened.TheVariants.{Failed}
use Rattle.std.proofs.Common.{vec_capacity, vec_len, ℕ, ◌++◌, ◌+◌, ◌≡◌, ◌≤◌}
use Rattle.std.specs.Vec.Iter.{into_iter_items, into_iter_len}
use Rattle.cluster_core.proofs.cluster.give_back.Given as goal

-- one for each so far, and room for the rest
abbrev pub invariant-loop-site : goal.invariant-loop-site
invariant-loop-site g l = (vec_len l.parts + into_iter_len l.site-iterator ≡ into_iter_len l.initial.site-iterator)
    × (vec_len l.parts + into_iter_len l.site-iterator ≤ vec_capacity l.parts)
    × (l.yielded ++ into_iter_items l.site-iterator ≡ l.fn.sites.items)
    × ((r : ℕ) → l.why ≡ Failed r → (l.fn.why ≡ Failed r) × HaveCounted g.P.Parts.disks l.yielded l.parts.items)
