use Rattle.client_cache.proofs.held_pages.HeldPages.changes_of.Goals as goal

pub returns-clause-kept : goal.returns-clause-kept
returns-clause-kept c = rw (← c.get.ensures) c.changes_of.ensures.kept
