use Rattle.std.proofs.Common.{◌≡◌, ◌-◌, length, refl, sym, ◌∙◌, arith}
use Rattle.std.proofs.lemmas.Result.{err_from_is_err_and}
use Rattle.method_parse.specs.Statements.{more_statements, statements, block_in, goes_on as statements_go_on}
use Rattle.method_parse.proofs.Repeats.{goes_on, stops, ends, breaks}
use Rattle.method_parse.proofs.Rooms.{with_brackets}
use Rattle.method_parse.proofs.statements.+statement.Goals as goal

pub statements-loop-turn-init : goal.statements-loop-turn-init
unfolding statements
statements-loop-turn-init t c =
    let e : (length c.args.tokens.now) - 0 ≡ (length c.args.tokens.now) = omega arith in rw (e, c.new-stmts.ensures) refl

pub statements-returns-then-not-goes_on : goal.statements-returns-then-not-goes_on
statements-returns-then-not-goes_on t c =
    stops (statements_go_on) (more_statements c.args.place c.args.brackets (block_in c.args.place c.args.brackets)) (length c.args.tokens.now) c.loop-turn._turn c.loop-turn.stmts c.loop-turn.rest.now _ (sym c.goes_on.ensures ∙ c.if-not-goes_on.true) c.loop-turn.invariant

pub statements-returns-in_err-more : goal.statements-returns-in_err-more
statements-returns-in_err-more t c =
    let b = breaks (statements_go_on) (more_statements c.args.place c.args.brackets (block_in c.args.place c.args.brackets)) c.in_err-more.field-0.0 (length c.args.tokens.now) c.loop-turn._turn c.loop-turn.stmts c.loop-turn.rest.now _ c.loop-turn-test.true (sym c.goes_on.ensures ∙ c.if-not-goes_on.false) c.in_err-more.ensures c.loop-turn.invariant in
    let p = err_from_is_err_and c.from_residual.result c.from_residual.ensures.1 in
    rw (p.1, p.2) b

pub statements-loop-turn-preserved : goal.statements-loop-turn-preserved
statements-loop-turn-preserved t c =
    goes_on (statements_go_on) (more_statements c.args.place c.args.brackets (block_in c.args.place c.args.brackets)) (length c.args.tokens.now) c.loop-turn._turn c.loop-turn.stmts c.in_ok-more.more c.loop-turn.rest.now c.in_ok-more.after.now _ c.loop-turn-test.true (sym c.goes_on.ensures ∙ c.if-not-goes_on.false) c.in_ok-more.ensures c.loop-turn.invariant

pub statements-returns : goal.statements-returns
statements-returns t c =
    ends (statements_go_on) (more_statements c.args.place c.args.brackets (block_in c.args.place c.args.brackets)) (length c.args.tokens.now) c.loop-turn._turn c.loop-turn.stmts c.loop-turn.rest.now _ c.loop-turn-test.false c.loop-turn.invariant

pub block_in-returns-then-brackets-eq0 : goal.block_in-returns-then-brackets-eq0
unfolding block_in
block_in-returns-then-brackets-eq0 t c = rw c.if-brackets-eq0.true refl

pub block_in-returns : goal.block_in-returns
block_in-returns t c =
    rw (with_brackets c.args.place c.args.brackets (omega arith)) c.braces.ensures
