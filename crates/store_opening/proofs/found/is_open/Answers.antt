use Rattle.store_opening.specs.Joined.{state_of}
use Rattle.store_opening.proofs.found.is_open.Goals as goal

pub returns-in-Some : goal.returns-in-Some
returns-in-Some g c = λ _ part image seated reads. record { state = state_of c.in-Some._read; is = c.in-Some.ensures.stands part image seated reads }
