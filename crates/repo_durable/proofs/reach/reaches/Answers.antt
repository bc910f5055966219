use Rattle.repo_durable.proofs.Reaching.{not_reached}
use Rattle.std.proofs.Common.{Bool, Ok, Result, false, refl, ◌≡◌}
use Rattle.repo_durable.proofs.reach.reaches.Goals as goal

same_answer : {E : Type 0} (r : Result Bool E) (a b : Bool) → r ≡ Ok a → r ≡ Ok b → a ≡ b
same_answer r a b one other = cc

pub returns-clause-lacks : goal.returns-clause-lacks
returns-clause-lacks g c = λ isnt bytes told reaches.
    not_reached c.args.sides.now bytes c.are_within.result c.as_slice.ensures.fit
    (rw (← c.in_ok-length.ensures.bytes bytes told) (rw (← c.as_slice.ensures.value) c.are_within.ensures)) (same_answer _ c.are_within.result false refl isnt) reaches
