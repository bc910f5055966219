use Rattle.cached_sets.proofs.sets.Sets.touch_marking.Given as goal

-- the ledger that it opens
abbrev pub ghosts-mark_uncounted : goal.ghosts-mark_uncounted
ghosts-mark_uncounted a = record { name = a.ledger.name; parts = a.ledger.parts }
