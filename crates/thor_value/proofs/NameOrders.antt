-- That names and timestamps are in total orders that tell all of them apart, and that the zero
-- timestamp is the least.
use Rattle.std.proofs.Common.{◌≡◌, ◌<◌, ap, refl, subst, ℕ, arith}
use Rattle.std.proofs.lemmas.Cmp.{on_total, then_total, tied_itself, ranked}
use Rattle.std.proofs.lemmas.Map.Lookups.{CmpEqualImpliesEq, exact_pairs, exact_unsigned}
use Rattle.std.specs.Cmp.{IsTotalOrder, nat_cmp_total}
use Rattle.std.specs.Ordering.{nat_cmp, ordering_then, MatchOrdering}
use Rattle.std.specs.declared.cmp.Ordering.{Ordering}
use Rattle.std.specs.declared.cmp.Ordering.TheVariants.{Less, Equal, Greater}
use Rattle.thor_value.specs.Names.{oref_cmp, ts_cmp, Before, zero_ts}
use Rattle.thor_value.specs.declared.names.Oref.{Oref}
use Rattle.thor_value.specs.declared.names.Ts.{Ts}

pub oref_total : IsTotalOrder oref_cmp
oref_total = then_total (on_total (λ (x : Oref). x.repo) nat_cmp_total) (then_total (on_total (λ (x : Oref). x.page) nat_cmp_total) (on_total (λ (x : Oref). x.slot) nat_cmp_total))

pub ts_total : IsTotalOrder ts_cmp
ts_total = then_total (on_total (λ (t : Ts). t.time) nat_cmp_total) (then_total (on_total (λ (t : Ts). t.repo) nat_cmp_total) (on_total (λ (t : Ts). t.life) nat_cmp_total))

exact_triples : CmpEqualImpliesEq (λ (x y : ℕ × (ℕ × ℕ)). ordering_then (nat_cmp x.0 y.0) (ordering_then (nat_cmp x.1.0 y.1.0) (nat_cmp x.1.1 y.1.1)))
exact_triples = exact_pairs nat_cmp _ exact_unsigned (exact_pairs nat_cmp nat_cmp exact_unsigned exact_unsigned)

-- names that compare alike are one
pub oref_exact : CmpEqualImpliesEq oref_cmp
oref_exact x y h = ap (λ (p : ℕ × (ℕ × ℕ)). record { repo = p.0; page = p.1.0; slot = p.1.1 }) (exact_triples (x.repo, (x.page, x.slot)) (y.repo, (y.page, y.slot)) h)

-- timestamps that compare alike are one
pub ts_exact : CmpEqualImpliesEq ts_cmp
ts_exact t u h = ap (λ (p : ℕ × (ℕ × ℕ)). record { time = p.0; repo = p.1.0; life = p.1.1 }) (exact_triples (t.time, (t.repo, t.life)) (u.time, (u.repo, u.life)) h)

neither_less : (a b : Ordering) → ¬ (a ≡ Less) → ¬ (b ≡ Less) → ¬ (ordering_then a b ≡ Less)
neither_less Less b p q h = p refl
neither_less Equal b p q h = q h
neither_less Greater b p q h = cc

none_below_zero : (n : ℕ) → ¬ (nat_cmp n 0 ≡ Less)
none_below_zero n h = let r : n < 0 = subst (λ o. MatchOrdering o (n < 0) (n ≡ 0) (0 < n)) h (ranked n 0 (nat_cmp n 0) refl) in absurd (omega arith)

-- no timestamp is before the zero timestamp
pub none_before_zero : (t : Ts) → ¬ Before t zero_ts
none_before_zero t = neither_less _ _ (none_below_zero t.time) (neither_less _ _ (none_below_zero t.repo) (none_below_zero t.life))

-- no timestamp is before itself
pub not_before_itself : (t : Ts) → ¬ Before t t
not_before_itself t h = let e = tied_itself ts_total t in cc
