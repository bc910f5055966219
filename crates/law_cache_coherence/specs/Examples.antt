-- What a client keeps, against the small traces of spec_trace: client 2 has session 2, has taken page 0, and
-- others write its object x then.
use Rattle.law_cache_coherence.specs.Fitting.{Copies, Kept}
use Rattle.log_entries.specs.declared.entry.Entry.TheVariants.{Decided, Life}
use Rattle.spec_history.specs.Examples.{at, box, x}
use Rattle.spec_trace.specs.ExactExamples.{deciding}
use Rattle.spec_trace.specs.Trace.{E, Item}
use Rattle.spec_trace.specs.SessionExamples.{written_since}
use Rattle.std.specs.Prelude.{List, None, Some, [], cond, drop, false, take, true, ℕ, ◌++◌, ◌∷◌}
use Rattle.thor_value.specs.Names.{same_oref}

-- a copy of x as it was at the beginning, and none
abbrev pub copy_of_x : Copies
copy_of_x y = cond (same_oref y x) (Some (box 0)) None

abbrev pub no_copy : Copies
no_copy y = None

-- The page waits for client 2 while the first one writes x; and a copy of what that wrote.
abbrev pub page_waits : List Item
page_waits = take 4 written_since ++ drop 5 written_since

abbrev pub newer_of_x : Copies
newer_of_x y = cond (same_oref y x) (Some (box 7)) None

-- client 2 waits for no answer, knows the places below this one, and has these copies
abbrev pub keeping : ℕ → Copies → Kept
keeping upto copies = record { session = 2; upto = upto; awaits = false; copies = copies }

-- it waits for its page
abbrev pub awaiting : Copies → Kept
awaiting copies = record (keeping 1 copies) { awaits = true }

-- ---- doomed transactions

-- Client 1 has prepared a transaction at its coordinator,
abbrev pub prepared : List Item
prepared = take 6 deciding

-- which is then restarted
abbrev pub lost : List Item
lost = prepared ++ E (Life 2) ∷ []

-- Its decision to commit has come while the call stopped, and a restart behind it.
abbrev pub unanswered : List Item
unanswered = prepared ++ E (Decided (at 1) true) ∷ E (Life 2) ∷ []
