-- Two repositories with their traces, on which what a coordinator answers is computed.
use Rattle.law_atomic_commit.specs.AcrossExamples.{at, base_of, setting, v, x, y, z}
use Rattle.law_atomic_commit.specs.Several.{Repositories}
use Rattle.log_entries.specs.declared.entry.Entry.TheVariants.{Decided, Finished, Life, One, Prepared}
use Rattle.spec_trace.specs.Trace.{E, Item, M}
use Rattle.spec_trace.specs.declared.mark.Mark.TheVariants.{Forgot}
use Rattle.std.specs.Prelude.{List, [], false, suc, true, zero, ℕ, ◌∷◌}

-- Repository 0 coordinates: 1 commits at both, is finished, and is forgotten; 2 is aborted, and 3 commits at both,
-- which repository 1 hasn't heard of; 4 commits at repository 0 alone, and so does 5, of the same client, behind it; 6
-- is prepared and undecided.
abbrev trace_of : ℕ → List Item
trace_of zero =
    E (Life 1) ∷ E (Prepared (setting (at 1) (x ∷ []) x 5 (1 ∷ []))) ∷ E (Decided (at 1) true) ∷ M (Forgot (at 1))
    ∷ E (Prepared (setting (at 2) (x ∷ []) x 6 (1 ∷ []))) ∷ E (Decided (at 2) false)
    ∷ E (Prepared (setting (at 3) (x ∷ []) x 7 (1 ∷ []))) ∷ E (Decided (at 3) true)
    ∷ E (One (setting (at 4) (y ∷ []) y 8 [])) ∷ E (One (setting (at 5) (y ∷ []) y 9 []))
    ∷ E (Prepared (setting (at 6) (x ∷ []) x 1 (1 ∷ []))) ∷ []
trace_of (suc zero) =
    E (Life 1) ∷ E (Prepared (setting (at 1) (z ∷ []) z 5 (0 ∷ []))) ∷ E (Finished (at 1) true)
    ∷ E (Prepared (setting (at 2) (z ∷ []) z 6 (0 ∷ []))) ∷ E (Finished (at 2) false)
    ∷ E (Prepared (setting (at 3) (z ∷ []) z 7 (0 ∷ [])))
    ∷ E (Prepared (setting (at 6) (v ∷ []) v 1 (0 ∷ []))) ∷ []
trace_of (suc (suc n)) = []

abbrev pub coordinated : Repositories
coordinated = record { repos = 2; base = base_of; trace = trace_of }
