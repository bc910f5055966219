use Rattle.cached_sets.proofs.sets.Sets.drop_session.Given as goal

-- the ledger that it opens
abbrev pub ghosts-drop_uncounted : goal.ghosts-drop_uncounted
ghosts-drop_uncounted a = record { name = a.ledger.name; parts = a.ledger.parts }
