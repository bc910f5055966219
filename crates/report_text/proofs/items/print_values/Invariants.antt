use Rattle.std.proofs.Common.{◌≡◌, ◌++◌, ◌∷◌, take, map, codes}
use Rattle.std.specs.Fmt.{signed_decimal}
use Rattle.std.specs.String.{string_bytes}
use Rattle.report_text.specs.Fits.{FitsInts}
use Rattle.report_text.specs.Lines.{spaced_words}
use Rattle.report_text.proofs.items.print_values.Given as goal

-- the words of the values so far, which have 64 bits
abbrev pub invariant-loop-value : goal.invariant-loop-value
invariant-loop-value l = (string_bytes l.out ≡ string_bytes l.fn.out ++ spaced_words (codes ":" ∷ map signed_decimal (take l.value-index l.values)))
    × FitsInts (take l.value-index l.values)
