-- A draw that is refused asked the clock.
use Rattle.repo_core.specs.Behind.{is_marked}
use Rattle.repo_core.specs.Calls.{WasAsked}
use Rattle.repo_core.specs.Shown.{Shown}
use Rattle.std.proofs.Common.{ap, sym, true, ℕ, ◌∙◌, ◌≡◌}
use Rattle.repo_refusals.specs.declared.refusal.Refusal.{Refusal}

-- what is told with a mark is what was refused
told_so : (r s w : Refusal) → (is_marked r ≡ true → r ≡ s) → is_marked w ≡ true → r ≡ w → s ≡ w
told_so r s w same marked is = sym (same (ap is_marked is ∙ marked)) ∙ is

pub asked_refused : (x y z : Shown) (floor : ℕ) (r s w : Refusal) → (is_marked r ≡ true → r ≡ s) → is_marked w ≡ true → (s ≡ w → WasAsked x y floor) → z.clock ≡ y.clock → r ≡ w → WasAsked x z floor
asked_refused x y z floor r s w same marked asks clock is =
    let asked = asks (told_so r s w same marked is) in
    record { now = asked.now; clock = clock ∙ asked.clock; late = asked.late }

pub unasked_refused : (x y z : Shown) (r s w : Refusal) → (is_marked r ≡ true → r ≡ s) → is_marked w ≡ true → (s ≡ w → y.clock ≡ x.clock) → z.clock ≡ y.clock → r ≡ w → z.clock ≡ x.clock
unasked_refused x y z r s w same marked stays clock is = clock ∙ stays (told_so r s w same marked is)
