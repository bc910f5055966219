use Rattle.cached_sets.proofs.sets.Sets.touch.Given as goal

-- the ledger that it opens
abbrev pub ghosts-touch_uncounted : goal.ghosts-touch_uncounted
ghosts-touch_uncounted a = record { name = a.ledger.name; parts = a.ledger.parts }
