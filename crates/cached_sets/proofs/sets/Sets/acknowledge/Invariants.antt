use Rattle.cached_sets.proofs.sets.Sets.acknowledge.Given as goal

-- the ledger that it opens
abbrev pub ghosts-acknowledge_uncounted : goal.ghosts-acknowledge_uncounted
ghosts-acknowledge_uncounted a = record { name = a.ledger.name; parts = a.ledger.parts }
