use Rattle.std.proofs.Common.{◌≡◌, drop}
use Rattle.log_codec.specs.Grammar.{rise, rise_from}
use Rattle.log_codec.proofs.rising.rises.Given as goal

-- what is left decides
abbrev pub invariant-loop-key : goal.invariant-loop-key
invariant-loop-key g l = rise_from g.K.Ord.cmp l.last (drop l.key-index l.keys) ≡ rise g.K.Ord.cmp l.keys
