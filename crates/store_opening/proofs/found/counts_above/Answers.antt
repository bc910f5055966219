use Rattle.std.proofs.Common.{inl, inr, subst, ℕ, ◌<◌}
use Rattle.std.proofs.lemmas.Bool.{ltb-true}
use Rattle.store_opening.proofs.Limits.{known_count}
use Rattle.store_opening.proofs.found.counts_above.Goals as goal

pub returns-then-limit-sequence : goal.returns-then-limit-sequence
returns-then-limit-sequence g c = λ is part images same reads.
    known_count (g.P.Parts.disks part) _ c.recovered-recovered.result.now c.recovered-recovered.ensures c.args.limit
    (inl (subst (λ (n : ℕ). c.args.limit < n) c.sequence.ensures (ltb-true c.args.limit c.sequence.result is)))
    images same reads

pub returns-else-limit-sequence : goal.returns-else-limit-sequence
returns-else-limit-sequence g c = λ is part images same reads.
    known_count (g.P.Parts.disks part) _ c.recovered-recovered.result.now c.recovered-recovered.ensures c.args.limit
    (inr (subst (λ (n : ℕ). c.args.limit < n) c.count.ensures (ltb-true c.args.limit c.count.result is)))
    images same reads
