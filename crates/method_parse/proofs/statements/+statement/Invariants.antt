use Rattle.std.proofs.Common.{◌≡◌, ◌-◌, ◌+◌, ◌*◌}
use Rattle.method_parse.specs.Reader.{repeat}
use Rattle.method_parse.specs.Statements.{goes_on, more_statements, statements, block_in}
use Rattle.method_parse.proofs.statements.+statement.Given as goal

abbrev pub decreases-braces : goal.decreases-braces
decreases-braces l = 8 * l.brackets + 7

abbrev pub decreases-statements : goal.decreases-statements
decreases-statements l = 8 * l.brackets + 6

abbrev pub decreases-more_statements : goal.decreases-more_statements
decreases-more_statements l = 8 * l.brackets + 5

abbrev pub decreases-statement : goal.decreases-statement
decreases-statement l = 8 * l.brackets + 4

abbrev pub decreases-branch : goal.decreases-branch
decreases-branch l = 8 * l.brackets + 3

abbrev pub decreases-while_loop : goal.decreases-while_loop
decreases-while_loop l = 8 * l.brackets + 3

abbrev pub decreases-after_branch : goal.decreases-after_branch
decreases-after_branch l = 8 * l.brackets + 2

abbrev pub decreases-block_in : goal.decreases-block_in
decreases-block_in l = 8 * l.brackets

-- what was read before, and what is still read
abbrev pub invariant-statements-loop-turn : goal.invariant-statements-loop-turn
invariant-statements-loop-turn l =
    statements l.place l.brackets (block_in l.place l.brackets) l.fn.tokens ≡ repeat (l._turn-end - l._turn) goes_on (more_statements l.place l.brackets (block_in l.place l.brackets)) l.stmts l.rest
