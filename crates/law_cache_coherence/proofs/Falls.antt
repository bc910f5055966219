-- What falls comes to an end.
use Rattle.client_items.specs.Falling.{Falls, Left}
use Rattle.std.proofs.Common.{arith, inl, inr, refl, subst, suc, sym, zero, ◌+◌, ◌<◌, ◌≡◌, ℕ}

-- what holds as soon as it holds of all below holds of all
below : (P : ℕ → Type 0) → ((n : ℕ) → ((m : ℕ) → m < n → P m) → P n) → (n m : ℕ) → m < n → P m
below P step zero m l = absurd (omega arith)
below P step (suc n) m l = step m (λ k h. below P step n k (omega arith))

all_of : (P : ℕ → Type 0) → ((n : ℕ) → ((m : ℕ) → m < n → P m) → P n) → (n : ℕ) → P n
all_of P step n = below P step (n + 1) n (omega arith)

module _ (P : Left → Type 0) (step : (old : Left) → ((new : Left) → Falls old new → P new) → P old) where
  abbrev at : ℕ → ℕ → ℕ → ℕ → Left
  at i t c u = record { items = i; tries = t; calls = c; uncounted = u }

  by_items : (i : ℕ) → (t c u : ℕ) → P (at i t c u)
  by_items = all_of (λ i. (t c u : ℕ) → P (at i t c u)) (λ i fewer. by_tries i fewer)
    where
      by_uncounted : (i : ℕ) → ((j : ℕ) → j < i → (t c u : ℕ) → P (at j t c u)) → (t : ℕ) → ((s : ℕ) → s < t → (c u : ℕ) → P (at i s c u)) → (c : ℕ) → ((d : ℕ) → d < c → (u : ℕ) → P (at i t d u)) → (u : ℕ) → P (at i t c u)
      by_uncounted i fewer t tried c called = all_of (λ u. P (at i t c u)) (λ u owed. step (at i t c u) (λ new f. one u owed new f))
        where
          one : (u : ℕ) → ((v : ℕ) → v < u → P (at i t c v)) → (new : Left) → Falls (at i t c u) new → P new
          one u owed new (inl l) = fewer new.items l new.tries new.calls new.uncounted
          one u owed new (inr (inl h)) = subst (λ (j : ℕ). P (at j new.tries new.calls new.uncounted)) (sym h.0) (tried new.tries h.1 new.calls new.uncounted)
          one u owed new (inr (inr (inl h))) = subst (λ (j : ℕ). P (at j new.tries new.calls new.uncounted)) (sym h.0) (subst (λ (s : ℕ). P (at i s new.calls new.uncounted)) (sym h.1) (called new.calls h.2 new.uncounted))
          one u owed new (inr (inr (inr h))) = subst (λ (j : ℕ). P (at j new.tries new.calls new.uncounted)) (sym h.0) (subst (λ (s : ℕ). P (at i s new.calls new.uncounted)) (sym h.1) (subst (λ (d : ℕ). P (at i t d new.uncounted)) (sym h.2) (owed new.uncounted h.3)))

      by_calls : (i : ℕ) → ((j : ℕ) → j < i → (t c u : ℕ) → P (at j t c u)) → (t : ℕ) → ((s : ℕ) → s < t → (c u : ℕ) → P (at i s c u)) → (c u : ℕ) → P (at i t c u)
      by_calls i fewer t tried = all_of (λ c. (u : ℕ) → P (at i t c u)) (λ c called. by_uncounted i fewer t tried c called)

      by_tries : (i : ℕ) → ((j : ℕ) → j < i → (t c u : ℕ) → P (at j t c u)) → (t c u : ℕ) → P (at i t c u)
      by_tries i fewer = all_of (λ t. (c u : ℕ) → P (at i t c u)) (λ t tried. by_calls i fewer t tried)

  pub induction : (l : Left) → P l
  induction l = by_items l.items l.tries l.calls l.uncounted

pub never : (f : ℕ → Left) → ¬ ((n : ℕ) → Falls (f n) (f (n + 1)))
never f falls = induction (λ l. (n : ℕ) → f n ≡ l → ⊥) (λ old less n e. less (f (n + 1)) (subst (λ (l : Left). Falls l (f (n + 1))) e (falls n)) (n + 1) refl) (f 0) 0 refl
