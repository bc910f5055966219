-- What falls, and what leads on to it.
use Rattle.client_items.specs.Courses.{Course}
use Rattle.client_items.specs.Falling.{CountsDown, Falls, Left, NeverRises, Standing, StandsStill, left_by, most_calls}
use Rattle.client_items.specs.declared.attempts.Attempts.{Attempts}
use Rattle.std.proofs.Common.{ap, arith, inl, inr, length, refl, subst, sym, ◌+◌, ◌-◌, ◌<◌, ◌≡◌, ◌∙◌, ℕ}
use Rattle.std.proofs.Math.Nat.{eq-or-lt_of_le}
use Rattle.std.specs.Prelude.{◌≤◌, ◌⊎◌}

pub both_fall : (a b c : Left) → Falls a b → Falls b c → Falls a c
both_fall a b c (inl p) (inl q) = inl (omega (arith, p, q))
both_fall a b c (inl p) (inr (inl q)) = inl (omega (arith, p, q.0))
both_fall a b c (inl p) (inr (inr (inl q))) = inl (omega (arith, p, q.0))
both_fall a b c (inl p) (inr (inr (inr q))) = inl (omega (arith, p, q.0))
both_fall a b c (inr (inl p)) (inl q) = inl (omega (arith, p.0, q))
both_fall a b c (inr (inl p)) (inr (inl q)) = inr (inl (q.0 ∙ p.0, omega (arith, p.1, q.1)))
both_fall a b c (inr (inl p)) (inr (inr (inl q))) = inr (inl (q.0 ∙ p.0, omega (arith, p.1, q.1)))
both_fall a b c (inr (inl p)) (inr (inr (inr q))) = inr (inl (q.0 ∙ p.0, omega (arith, p.1, q.1)))
both_fall a b c (inr (inr (inl p))) (inl q) = inl (omega (arith, p.0, q))
both_fall a b c (inr (inr (inl p))) (inr (inl q)) = inr (inl (q.0 ∙ p.0, omega (arith, p.1, q.1)))
both_fall a b c (inr (inr (inl p))) (inr (inr (inl q))) = inr (inr (inl (q.0 ∙ p.0, q.1 ∙ p.1, omega (arith, p.2, q.2))))
both_fall a b c (inr (inr (inl p))) (inr (inr (inr q))) = inr (inr (inl (q.0 ∙ p.0, q.1 ∙ p.1, omega (arith, p.2, q.2))))
both_fall a b c (inr (inr (inr p))) (inl q) = inl (omega (arith, p.0, q))
both_fall a b c (inr (inr (inr p))) (inr (inl q)) = inr (inl (q.0 ∙ p.0, omega (arith, p.1, q.1)))
both_fall a b c (inr (inr (inr p))) (inr (inr (inl q))) = inr (inr (inl (q.0 ∙ p.0, q.1 ∙ p.1, omega (arith, p.2, q.2))))
both_fall a b c (inr (inr (inr p))) (inr (inr (inr q))) = inr (inr (inr (q.0 ∙ p.0, q.1 ∙ p.1, q.2 ∙ p.2, omega (arith, p.3, q.3))))

-- a call was counted
pub calls_fall : (old new : Standing) → new.course ≡ old.course → old.attempts.calls < most_calls → new.attempts ≡ record old.attempts { calls = old.attempts.calls + 1 } → CountsDown old new
calls_fall old new same room counted = record { falls = λ n m. inr (inr (inl (ap (λ (c : Course). c.count - length c.ended) same, ap (λ (a : Attempts). a.each - a.tried) counted, rw (ap (λ (a : Attempts). most_calls - a.calls) counted) (omega (arith, room))))) }

-- nothing has changed
pub stands_still : (old new : Standing) → new.course ≡ old.course → new.attempts ≡ old.attempts → StandsStill old new
stands_still old new same tries = record { same = λ n. rw (same, tries) refl }

-- what has fallen and never rises then has fallen
pub then_never_rises : (a b c : Standing) → CountsDown a b → NeverRises b c → CountsDown a c
then_never_rises a b c falls (inl same) = record { falls = λ n m. subst (Falls (left_by a n)) (sym (same.same m)) (falls.falls n m) }
then_never_rises a b c falls (inr more) = record { falls = λ n m. both_fall (left_by a n) (left_by b 0) (left_by c m) (falls.falls n 0) (more.falls 0 m) }

-- where what isn't counted falls, and what is counted never rises, what is left falls
pub uncounted_falls : (old new : Standing) (n m : ℕ) → NeverRises old new → m < n → Falls (left_by old n) (left_by new m)
uncounted_falls old new n m (inl same) less = let e = same.same m in inr (inr (inr (ap (λ (l : Left). l.items) e, ap (λ (l : Left). l.tries) e, ap (λ (l : Left). l.calls) e, less)))
uncounted_falls old new n m (inr more) less = more.falls n m

-- where what isn't counted doesn't rise either, what is left stays or falls
pub nothing_rises : (old new : Standing) (n m : ℕ) → NeverRises old new → m ≤ n → (left_by new m ≡ left_by old n) ⊎ Falls (left_by old n) (left_by new m)
nothing_rises old new n m (inr more) less = inr (more.falls n m)
nothing_rises old new n m (inl same) less = elim (eq-or-lt_of_le less) [
  | inl e ↦ inl (ap (left_by new) e ∙ same.same n)
  | inr l ↦ inr (uncounted_falls old new n m (inl same) l)
]
