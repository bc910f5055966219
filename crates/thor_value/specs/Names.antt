-- The orders of names and of timestamps, and the least of each.
use Rattle.std.specs.Prelude.{◌≡◌, Bool}
use Rattle.std.specs.Coded.{Coded, code_by, coded×, coded_ℕ}
use Rattle.std.specs.Ordering.{nat_cmp, ordering_then, match_ordering, is_eq}
use Rattle.std.specs.declared.cmp.Ordering.{Ordering}
use Rattle.std.specs.declared.cmp.Ordering.TheVariants.{Less}
use Rattle.thor_value.specs.declared.names.Oref.{Oref}
use Rattle.thor_value.specs.declared.names.Ts.{Ts}
use Rattle.std.specs.Prelude.{ℕ, refl}

-- The order of names: by repository, then page, then slot.
abbrev pub oref_cmp : Oref → Oref → Ordering
oref_cmp x y = ordering_then (nat_cmp x.repo y.repo) (ordering_then (nat_cmp x.page y.page) (nat_cmp x.slot y.slot))

-- The order of timestamps, which is the serial order of transactions: by time, then repository,
-- then life (Adya and others, SIGMOD 1995; Liskov and others, SIGMOD 1996).
abbrev pub ts_cmp : Ts → Ts → Ordering
ts_cmp t u = ordering_then (nat_cmp t.time u.time) (ordering_then (nat_cmp t.repo u.repo) (nat_cmp t.life u.life))

-- whether two names are one
abbrev pub same_oref : Oref → Oref → Bool
same_oref x y = is_eq (oref_cmp x y)

-- whether two timestamps are one
abbrev pub same_ts : Ts → Ts → Bool
same_ts t u = is_eq (ts_cmp t u)

-- t comes before u
abbrev pub Before : Ts → Ts → Type 0
Before t u = ts_cmp t u ≡ Less

-- t comes before u or is u
abbrev pub AtMost : Ts → Ts → Type 0
AtMost t u = ¬ Before u t

-- the timestamp before every other: that of no transaction, since lives count from 1
abbrev pub zero_ts : Ts
zero_ts = record { time = 0; repo = 0; life = 0 }

-- the later of two timestamps
abbrev pub later_of : Ts → Ts → Ts
later_of t u = match_ordering (ts_cmp t u) u u t

-- a name as it is stored: its three numbers
abbrev pub coded_oref : Coded Oref
coded_oref = code_by (ℕ × (ℕ × ℕ)) (coded× coded_ℕ (coded× coded_ℕ coded_ℕ)) (λ x. (x.repo, (x.page, x.slot))) (λ p. record { repo = p.0; page = p.1.0; slot = p.1.1 }) (λ _. refl)

-- a timestamp as it is stored: its three numbers
abbrev pub coded_ts : Coded Ts
coded_ts = code_by (ℕ × (ℕ × ℕ)) (coded× coded_ℕ (coded× coded_ℕ coded_ℕ)) (λ t. (t.time, (t.repo, t.life))) (λ p. record { time = p.0; repo = p.1.0; life = p.1.1 }) (λ _. refl)
