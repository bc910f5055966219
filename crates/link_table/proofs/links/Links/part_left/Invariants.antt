use Rattle.link_table.proofs.links.Links.part_left.Given as goal

-- the ledger that it opens
abbrev pub ghosts-part_uncounted : goal.ghosts-part_uncounted
ghosts-part_uncounted a = record { name = a.ledger.name; parts = a.ledger.parts }
