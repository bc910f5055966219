use Rattle.std.proofs.Common.{◌≡◌, ◌-◌}
use Rattle.method_parse.specs.Reader.{repeat}
use Rattle.method_parse.specs.Setups.{more_roots, roots}
use Rattle.std.specs.Prelude.{codes}
use Rattle.method_parse.specs.Matching.{is}
use Rattle.method_parse.proofs.setups.roots.Given as goal

-- what was read before, and what is still read
abbrev pub invariant-loop-turn : goal.invariant-loop-turn
invariant-loop-turn l =
    roots l.fn.tokens ≡ repeat (256 - l._turn) (λ roots. is (codes "root")) more_roots l.read l.rest
