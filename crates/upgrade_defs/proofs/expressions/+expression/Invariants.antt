use Rattle.std.proofs.Common.{◌≡◌, ◌≤◌, ◌-◌, ◌+◌, ◌*◌}
use Rattle.method_parse.specs.Reader.{repeat}
use Rattle.upgrade_defs.specs.Expressions.{is_join, joined, joins, parts_of}
use Rattle.upgrade_defs.proofs.expressions.+expression.Given as goal

abbrev pub decreases-expression_in : goal.decreases-expression_in
decreases-expression_in l = 16 * l.room + 10

abbrev pub decreases-at_level : goal.decreases-at_level
decreases-at_level l = 16 * l.room + 9

abbrev pub decreases-sum : goal.decreases-sum
decreases-sum l = 16 * l.room + 8

abbrev pub decreases-term : goal.decreases-term
decreases-term l = 16 * l.room + 7

abbrev pub decreases-unary : goal.decreases-unary
decreases-unary l = 16 * l.room + 6

abbrev pub decreases-primary : goal.decreases-primary
decreases-primary l = 16 * l.room + 5

abbrev pub decreases-joins : goal.decreases-joins
decreases-joins l = 16 * l.room + 4

abbrev pub decreases-joined : goal.decreases-joined
decreases-joined l = 16 * l.room + 3

abbrev pub decreases-parens : goal.decreases-parens
decreases-parens l = 16 * l.room + 3

abbrev pub decreases-operand : goal.decreases-operand
decreases-operand l = 16 * l.room + 2

-- what was read before, and what is still read; and how deep it is
abbrev pub invariant-joins-loop-turn : goal.invariant-joins-loop-turn
invariant-joins-loop-turn l = record {
  read : joins l.level l.room (parts_of l.room) l.fn.left l.fn.tokens
      ≡ repeat (l.room - l._turn) (is_join l.level l.room) (joined l.level (parts_of l.room)) l.read l.rest;
  within : l.read.depth ≤ l.room;
}
