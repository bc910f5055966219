use Rattle.std.proofs.Common.{◌≡◌, ◌≤◌, take}
use Rattle.std.specs.Prelude.{IfSome}
use Rattle.script_text.specs.Numbers.{digits_value}
use Rattle.script_text.proofs.numbers.digits_value.Given as goal

-- the number that the digits so far write
abbrev pub invariant-loop-digit : goal.invariant-loop-digit
invariant-loop-digit l = record { value : l.value ≡ digits_value l.greatest (take l.digit-index l.digits); within : IfSome l.value (λ n. n ≤ l.greatest) }
