use Rattle.std.proofs.Common.{◌≡◌, ◌-◌, refl, sym, ◌∙◌, arith}
use Rattle.std.proofs.lemmas.Result.{err_from_is_err_and}
use Rattle.method_parse.proofs.Repeats.{breaks, ends, goes_on, stops}
use Rattle.upgrade_defs.specs.Expressions.{expression_in, is_join, joined, joins, parts_of}
use Rattle.upgrade_defs.proofs.Rooms.{in_room}
use Rattle.upgrade_defs.proofs.expressions.+expression.Goals as goal

pub joins-loop-turn-init : goal.joins-loop-turn-init
unfolding joins
joins-loop-turn-init t c =
    let e : c.args.room - 0 ≡ c.args.room = omega arith in
    record { read = rw e refl; within = c.requires.before }

pub joins-returns-then-not-is_join-clause-read : goal.joins-returns-then-not-is_join-clause-read
joins-returns-then-not-is_join-clause-read t c =
    stops (is_join c.args.level c.args.room)
    (joined c.args.level (parts_of c.args.room)) c.args.room c.loop-turn._turn c.loop-turn.read c.loop-turn.rest.now _
    (sym c.is_join.ensures.value ∙ c.if-not-is_join.true) c.loop-turn.invariant.read

pub joins-returns-in_err-more-clause-read : goal.joins-returns-in_err-more-clause-read
joins-returns-in_err-more-clause-read t c =
    let b = breaks (is_join c.args.level c.args.room)
    (joined c.args.level (parts_of c.args.room)) c.in_err-more.field-0.0 c.args.room c.loop-turn._turn c.loop-turn.read c.loop-turn.rest.now _
    c.loop-turn-test.true (sym c.is_join.ensures.value ∙ c.if-not-is_join.false) c.in_err-more.ensures.read c.loop-turn.invariant.read in
    let p = err_from_is_err_and c.from_residual.result c.from_residual.ensures.1 in
    rw (p.1, p.2) b

pub joins-loop-turn-preserved : goal.joins-loop-turn-preserved
joins-loop-turn-preserved t c = record {
  read = goes_on (is_join c.args.level c.args.room)
      (joined c.args.level (parts_of c.args.room)) c.args.room c.loop-turn._turn c.loop-turn.read c.in_ok-more.more c.loop-turn.rest.now
      c.in_ok-more.after.now _ c.loop-turn-test.true (sym c.is_join.ensures.value ∙ c.if-not-is_join.false) c.in_ok-more.ensures.read
      c.loop-turn.invariant.read;
  within = c.in_ok-more.ensures.within;
}

pub joins-returns-clause-read : goal.joins-returns-clause-read
joins-returns-clause-read t c =
    ends (is_join c.args.level c.args.room)
    (joined c.args.level (parts_of c.args.room)) c.args.room c.loop-turn._turn c.loop-turn.read c.loop-turn.rest.now _ c.loop-turn-test.false
    c.loop-turn.invariant.read

pub expression_in-returns-then-room-eq0-clause-read : goal.expression_in-returns-then-room-eq0-clause-read
unfolding expression_in
expression_in-returns-then-room-eq0-clause-read t c = rw c.if-room-eq0.true refl

pub expression_in-returns-clause-read : goal.expression_in-returns-clause-read
expression_in-returns-clause-read t c = rw (in_room c.args.room c.args.level (omega arith)) c.at_level.ensures.read
