use Rattle.std.proofs.Common.{◌≡◌, ◌<◌, ◌≤◌, ◌-◌, ℕ, ◌+◌, ◌*◌}
use Rattle.method_parse.specs.declared.deep.Level.{Level}
use Rattle.method_parse.specs.declared.deep.Level.TheVariants as levels
use Rattle.method_parse.specs.Reader.{repeat}
use Rattle.method_parse.specs.Expressions.{is_comma, argument, more_arguments, is_call, called, calls, is_join, joined, joins, inner_of, parts_of}
use Rattle.method_parse.proofs.expressions.+expression.Given as goal

-- how many levels are read inside a level
abbrev looseness : Level → ℕ
looseness levels.Comparison = 3
looseness levels.Sum = 2
looseness levels.Term = 1
looseness levels.Unary = 0

abbrev pub decreases-expression_in : goal.decreases-expression_in
decreases-expression_in l = 32 * l.room.depth + 20

abbrev pub decreases-at_level : goal.decreases-at_level
decreases-at_level l = 32 * l.room.depth + 15 + looseness l.level

abbrev pub decreases-unary : goal.decreases-unary
decreases-unary l = 32 * l.room.depth + 14

abbrev pub decreases-primary : goal.decreases-primary
decreases-primary l = 32 * l.room.depth + 13

abbrev pub decreases-after_this : goal.decreases-after_this
decreases-after_this l = 32 * l.room.depth + 12

abbrev pub decreases-after_field : goal.decreases-after_field
decreases-after_field l = 32 * l.room.depth + 11

abbrev pub decreases-calls : goal.decreases-calls
decreases-calls l = 32 * l.room.depth + 12

abbrev pub decreases-called : goal.decreases-called
decreases-called l = 32 * l.room.depth + 11

abbrev pub decreases-joins : goal.decreases-joins
decreases-joins l = 32 * l.room.depth + 12

abbrev pub decreases-joined : goal.decreases-joined
decreases-joined l = 32 * l.room.depth + 11

abbrev pub decreases-parens : goal.decreases-parens
decreases-parens l = 32 * l.room.depth + 10

abbrev pub decreases-operand : goal.decreases-operand
decreases-operand l = 32 * l.room.depth + 10

abbrev pub decreases-arguments : goal.decreases-arguments
decreases-arguments l = 32 * l.room.depth + 9

abbrev pub decreases-listed : goal.decreases-listed
decreases-listed l = 32 * l.room.depth + 8

abbrev pub decreases-some_arguments : goal.decreases-some_arguments
decreases-some_arguments l = 32 * l.room.depth + 7

abbrev pub decreases-more_arguments : goal.decreases-more_arguments
decreases-more_arguments l = 32 * l.room.depth + 6

abbrev pub decreases-argument : goal.decreases-argument
decreases-argument l = 32 * l.room.depth + 5

abbrev pub decreases-inner : goal.decreases-inner
decreases-inner l = 32 * l.room.depth + 4

-- what was read before, and what is still read; and how deep it is
abbrev pub invariant-calls-loop-turn : goal.invariant-calls-loop-turn
invariant-calls-loop-turn l = record {
  read : calls l.room (inner_of l.place l.room) l.fn.receiver l.fn.tokens ≡ repeat (l._turn-end - l._turn) (is_call l.room) (called (inner_of l.place l.room)) l.read l.rest;
  within : l.read.depth ≤ l.room.depth;
}

abbrev pub invariant-joins-loop-turn : goal.invariant-joins-loop-turn
invariant-joins-loop-turn l = record {
  read : joins l.level l.room (parts_of l.place l.room) l.fn.left l.fn.tokens ≡ repeat (l._turn-end - l._turn) (is_join l.level l.room) (joined l.level (parts_of l.place l.room)) l.read l.rest;
  within : l.read.depth ≤ l.room.depth;
}

abbrev pub invariant-more_arguments-loop-turn : goal.invariant-more_arguments-loop-turn
invariant-more_arguments-loop-turn l = record {
  read : more_arguments (inner_of l.place l.room) l.fn.first l.fn.tokens ≡ repeat (l._turn-end - l._turn) is_comma (argument (inner_of l.place l.room)) l.read l.rest;
  within : l.read.depth < l.room.depth;
}
