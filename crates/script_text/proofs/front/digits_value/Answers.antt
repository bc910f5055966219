use Rattle.std.proofs.Common.{arith}
use Rattle.script_text.proofs.Digits.{next_digit}
use Rattle.script_text.proofs.front.digits_value.Goals as goal

pub overflow_mul-value : goal.overflow_mul-value
overflow_mul-value c =
    let next = next_digit c.args.digits.now c.loop-digit.digit-index c.requires.digits c.requires.few (omega arith) in
    omega (arith, next.value, next.fits, c.loop-digit.invariant)

pub overflow_sub-digit : goal.overflow_sub-digit
overflow_sub-digit c =
    let next = next_digit c.args.digits.now c.loop-digit.digit-index c.requires.digits c.requires.few (omega arith) in
    omega (arith, next.low)

pub overflow_add-value : goal.overflow_add-value
overflow_add-value c =
    let next = next_digit c.args.digits.now c.loop-digit.digit-index c.requires.digits c.requires.few (omega arith) in
    omega (arith, next.value, next.fits, c.loop-digit.invariant)

pub loop-digit-preserved : goal.loop-digit-preserved
loop-digit-preserved c =
    let next = next_digit c.args.digits.now c.loop-digit.digit-index c.requires.digits c.requires.few (omega arith) in
    grind (arith, next.value, c.loop-digit.invariant)
