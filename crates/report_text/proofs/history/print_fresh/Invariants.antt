use Rattle.std.proofs.Common.{◌≡◌, ◌++◌, ◌∷◌, take, map, codes, All}
use Rattle.std.specs.String.{string_bytes}
use Rattle.report_text.specs.Fits.{FitsOref}
use Rattle.report_text.specs.Lines.{spaced_words}
use Rattle.report_text.specs.Words.{oref_word}
use Rattle.report_text.proofs.history.print_fresh.Given as goal

-- the words of the names so far, which have 64 bits
abbrev pub invariant-loop-oref : goal.invariant-loop-oref
invariant-loop-oref l = (string_bytes l.out ≡ string_bytes l.fn.out ++ spaced_words (codes "new" ∷ map oref_word (take l.oref-index l.fresh)))
    × All FitsOref (take l.oref-index l.fresh)
