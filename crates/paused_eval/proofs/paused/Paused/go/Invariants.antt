use Rattle.paused_eval.proofs.paused.Paused.go.Given as goal

-- the ledger that it opens
abbrev pub ghosts-go_uncounted : goal.ghosts-go_uncounted
ghosts-go_uncounted a = record { name = a.ledger.name; parts = a.ledger.parts }
