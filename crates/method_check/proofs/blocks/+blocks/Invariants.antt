use Rattle.std.proofs.Common.{◌≡◌, map, drop, take, length}
use Rattle.class_defs.specs.Rules.{least_with}
use Rattle.class_defs.specs.StatementRules.{in_turn, ruled}
use Rattle.method_check.specs.Bodies.{sight}
use Rattle.method_check.proofs.blocks.+blocks.Given as goal

-- the statements to come break, beside what was found so far, what all break; the locals around the block stand
-- first
abbrev pub invariant-block-loop-stmt : goal.invariant-block-loop-stmt
invariant-block-loop-stmt l = record {
  broken : least_with l.found (in_turn (map ruled (drop l.stmt-index l.stmts)) (sight l.body l.locals)) ≡ least_with l.fn.found (in_turn (map ruled l.stmts) (sight l.body l.fn.locals));
  outer : take (length l.fn.locals) l.locals ≡ l.fn.locals;
}
