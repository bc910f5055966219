use Rattle.std.proofs.Common.{◌≡◌, ◌-◌, ◌<◌, length, refl, sym, ◌∙◌, arith}
use Rattle.std.proofs.lemmas.Result.{err_from_is_err_and}
use Rattle.method_parse.specs.Expressions.{is_comma, argument, more_arguments, is_call, called, calls, is_join, joined, joins, expression_in, inner_of, parts_of}
use Rattle.method_parse.proofs.Repeats.{goes_on, stops, ends, breaks}
use Rattle.method_parse.proofs.Rooms.{field_call_room, in_room}
use Rattle.method_parse.proofs.expressions.+expression.Goals as goal

pub calls-loop-turn-init : goal.calls-loop-turn-init
unfolding calls
calls-loop-turn-init t c =
    let e : c.args.room.depth - 0 ≡ c.args.room.depth = omega arith in
    record { read = rw e refl; within = c.requires.before }

pub calls-returns-then-not-is_call-clause-read : goal.calls-returns-then-not-is_call-clause-read
calls-returns-then-not-is_call-clause-read t c =
    stops (is_call c.args.room) (called (inner_of c.args.place c.args.room)) c.args.room.depth c.loop-turn._turn c.loop-turn.read c.loop-turn.rest.now _ (sym c.is_call.ensures ∙ c.if-not-is_call.true) c.loop-turn.invariant.read

pub calls-returns-in_err-more-clause-read : goal.calls-returns-in_err-more-clause-read
calls-returns-in_err-more-clause-read t c =
    let b = breaks (is_call c.args.room) (called (inner_of c.args.place c.args.room)) c.in_err-more.field-0.0 c.args.room.depth c.loop-turn._turn c.loop-turn.read c.loop-turn.rest.now _ c.loop-turn-test.true (sym c.is_call.ensures ∙ c.if-not-is_call.false) c.in_err-more.ensures.read c.loop-turn.invariant.read in
    let p = err_from_is_err_and c.from_residual.result c.from_residual.ensures.1 in
    rw (p.1, p.2) b

pub calls-loop-turn-preserved : goal.calls-loop-turn-preserved
calls-loop-turn-preserved t c = record {
  read = goes_on (is_call c.args.room) (called (inner_of c.args.place c.args.room)) c.args.room.depth c.loop-turn._turn c.loop-turn.read c.in_ok-more.more c.loop-turn.rest.now c.in_ok-more.after.now _ c.loop-turn-test.true (sym c.is_call.ensures ∙ c.if-not-is_call.false) c.in_ok-more.ensures.read c.loop-turn.invariant.read;
  within = c.in_ok-more.ensures.within;
}

pub calls-returns-clause-read : goal.calls-returns-clause-read
calls-returns-clause-read t c =
    ends (is_call c.args.room) (called (inner_of c.args.place c.args.room)) c.args.room.depth c.loop-turn._turn c.loop-turn.read c.loop-turn.rest.now _ c.loop-turn-test.false c.loop-turn.invariant.read

pub joins-loop-turn-init : goal.joins-loop-turn-init
unfolding joins
joins-loop-turn-init t c =
    let e : c.most_joins-turn-end.result - 0 ≡ c.most_joins-turn-end.result = omega arith in
    record { read = rw (e, c.most_joins-turn-end.ensures) refl; within = c.requires.before }

pub joins-returns-then-not-is_join-clause-read : goal.joins-returns-then-not-is_join-clause-read
joins-returns-then-not-is_join-clause-read t c =
    stops (is_join c.args.level c.args.room) (joined c.args.level (parts_of c.args.place c.args.room)) c.most_joins-turn-end.result c.loop-turn._turn c.loop-turn.read c.loop-turn.rest.now _ (sym c.is_join.ensures ∙ c.if-not-is_join.true) c.loop-turn.invariant.read

pub joins-returns-in_err-more-clause-read : goal.joins-returns-in_err-more-clause-read
joins-returns-in_err-more-clause-read t c =
    let b = breaks (is_join c.args.level c.args.room) (joined c.args.level (parts_of c.args.place c.args.room)) c.in_err-more.field-0.0 c.most_joins-turn-end.result c.loop-turn._turn c.loop-turn.read c.loop-turn.rest.now _ c.loop-turn-test.true (sym c.is_join.ensures ∙ c.if-not-is_join.false) c.in_err-more.ensures.read c.loop-turn.invariant.read in
    let p = err_from_is_err_and c.from_residual.result c.from_residual.ensures.1 in
    rw (p.1, p.2) b

pub joins-loop-turn-preserved : goal.joins-loop-turn-preserved
joins-loop-turn-preserved t c = record {
  read = goes_on (is_join c.args.level c.args.room) (joined c.args.level (parts_of c.args.place c.args.room)) c.most_joins-turn-end.result c.loop-turn._turn c.loop-turn.read c.in_ok-more.more c.loop-turn.rest.now c.in_ok-more.after.now _ c.loop-turn-test.true (sym c.is_join.ensures ∙ c.if-not-is_join.false) c.in_ok-more.ensures.read c.loop-turn.invariant.read;
  within = c.in_ok-more.ensures.within;
}

pub joins-returns-clause-read : goal.joins-returns-clause-read
joins-returns-clause-read t c =
    ends (is_join c.args.level c.args.room) (joined c.args.level (parts_of c.args.place c.args.room)) c.most_joins-turn-end.result c.loop-turn._turn c.loop-turn.read c.loop-turn.rest.now _ c.loop-turn-test.false c.loop-turn.invariant.read

pub more_arguments-loop-turn-init : goal.more_arguments-loop-turn-init
unfolding more_arguments
more_arguments-loop-turn-init t c =
    let e : (length c.args.tokens.now) - 0 ≡ (length c.args.tokens.now) = omega arith in
    record { read = rw e refl; within = c.requires.before }

pub more_arguments-returns-then-not-next_is-clause-read : goal.more_arguments-returns-then-not-next_is-clause-read
more_arguments-returns-then-not-next_is-clause-read t c =
    stops (is_comma) (argument (inner_of c.args.place c.args.room)) (length c.args.tokens.now) c.loop-turn._turn c.loop-turn.read c.loop-turn.rest.now _ (sym c.next_is.ensures ∙ c.if-not-next_is.true) c.loop-turn.invariant.read

pub more_arguments-returns-in_err-more-clause-read : goal.more_arguments-returns-in_err-more-clause-read
more_arguments-returns-in_err-more-clause-read t c =
    let b = breaks (is_comma) (argument (inner_of c.args.place c.args.room)) c.in_err-more.field-0.0 (length c.args.tokens.now) c.loop-turn._turn c.loop-turn.read c.loop-turn.rest.now _ c.loop-turn-test.true (sym c.next_is.ensures ∙ c.if-not-next_is.false) c.in_err-more.ensures.read c.loop-turn.invariant.read in
    let p = err_from_is_err_and c.from_residual.result c.from_residual.ensures.1 in
    rw (p.1, p.2) b

pub more_arguments-loop-turn-preserved : goal.more_arguments-loop-turn-preserved
more_arguments-loop-turn-preserved t c = record {
  read = goes_on (is_comma) (argument (inner_of c.args.place c.args.room)) (length c.args.tokens.now) c.loop-turn._turn c.loop-turn.read c.in_ok-more.more c.loop-turn.rest.now c.in_ok-more.after.now _ c.loop-turn-test.true (sym c.next_is.ensures ∙ c.if-not-next_is.false) c.in_ok-more.ensures.read c.loop-turn.invariant.read;
  within = c.in_ok-more.ensures.within;
}

pub more_arguments-returns-clause-read : goal.more_arguments-returns-clause-read
more_arguments-returns-clause-read t c =
    ends (is_comma) (argument (inner_of c.args.place c.args.room)) (length c.args.tokens.now) c.loop-turn._turn c.loop-turn.read c.loop-turn.rest.now _ c.loop-turn-test.false c.loop-turn.invariant.read

pub expression_in-returns-then-room-eq0-clause-read :
    goal.expression_in-returns-then-room-eq0-clause-read
unfolding expression_in
expression_in-returns-then-room-eq0-clause-read t c = rw c.if-room-eq0.true refl

pub expression_in-returns-clause-read : goal.expression_in-returns-clause-read
expression_in-returns-clause-read t c =
    rw (in_room c.args.place c.args.room c.args.level (omega arith)) c.at_level.ensures.read

pub after_field-returns-clause-within : goal.after_field-returns-clause-within
after_field-returns-clause-within t c =
    let room : 1 < c.args.room.depth = field_call_room c.args.room c.args.tokens.now (sym c.is_field_call.ensures ∙ c.if-not-is_field_call.false) in
    omega (arith, c.max-depth.ensures, c.in_ok-read.ensures.within, room)
