use Rattle.cached_sets.proofs.sets.Sets.stale.Given as goal

-- the ledger that it opens
abbrev pub ghosts-stale_uncounted : goal.ghosts-stale_uncounted
ghosts-stale_uncounted a = record { name = a.ledger.name; parts = a.ledger.parts }
