-- The example of an own write: current while it is undecided here, and right behind its commit.
use Rattle.spec_trace.specs.Current.{IsCurrent, OthersSince, RightAt}
use Rattle.spec_history.specs.Examples.{at, away, box, far}
use Rattle.spec_history.specs.History.{writers}
use Rattle.spec_trace.specs.Session.{Page, session}
use Rattle.spec_trace.specs.SessionExamples.{committed_there, own_finished, own_prepared}
use Rattle.spec_trace.specs.Trace.{entries}
use Rattle.std.proofs.Common.{[], arith, false, inr, refl, suc, zero, ℕ, ◌∷◌, ◌≡◌, ◌≤◌}
use Rattle.std.proofs.lemmas.List.Elements.{All-cons, All-nil}
use Rattle.std.specs.Option.{IsSomeAnd}
use Rattle.std.specs.Prelude.{Some, nat_eq}
use Rattle.std.specs.List.{slice_get}

pub current : IsSomeAnd (session away own_prepared 1) (λ v. IsCurrent away (entries own_prepared) 1 v committed_there far (box 7))
current = inr (at 1, _, record { there = refl; open' = refl; own = refl; wrote = refl; settled = refl })

since : OthersSince 1 3 (writers away (entries own_finished) far)
since = All-cons (λ c. 3 ≤ c.0 → nat_eq c.1.session 1 ≡ false) _ [] (λ l. absurd (omega arith)) (All-nil (λ c. 3 ≤ c.0 → nat_eq c.1.session 1 ≡ false))

-- the page was taken
taken : (i k : ℕ) → 1 ≤ i → slice_get (Page 0 1 ∷ []) i ≡ Some (Page 0 k) → 3 ≤ k
taken zero k l e = absurd (low l)
  where
    low : 1 ≤ 0 → ⊥
    low h = omega arith
taken (suc i) k l e = cc

pub right : IsSomeAnd (session away own_finished 1) (λ v. RightAt away (entries own_finished) 1 v far (box 7) 3)
right = record { unknown = omega arith; there = omega arith; cached = omega arith; value = refl; others = since; before = taken }
