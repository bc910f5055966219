use Rattle.std.proofs.Common.{◌≡◌, drop}
use Rattle.std.specs.List.{list_all}
use Rattle.method_eval.specs.Names.{is_of_other}
use Rattle.method_eval.proofs.names.are_of_others.Given as goal

-- the names to come are of other pages exactly where all are
abbrev pub invariant-loop-one : goal.invariant-loop-one
invariant-loop-one l = list_all (is_of_other l.repo l.page) (drop l.one-index l.held) ≡ list_all (is_of_other l.repo l.page) l.held
