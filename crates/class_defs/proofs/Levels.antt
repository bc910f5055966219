-- What holds of levels: behind which upgrades an object lags, and whether it is due.
use Rattle.std.proofs.Common.{◌≡◌, ◌≤◌, arith, Bool, true, false, cond, not, ℕ, zero, suc, nat_lt, Option, Some, None, is_some, refl, sym, ◌∙◌, subst}
use Rattle.std.proofs.lemmas.Bool.{lt-ltb, ltb-true, le-ltb, ltb-false, not-true, or_from, or_parts}
use Rattle.std.specs.Prelude.{◌&&◌, ◌||◌}
use Rattle.thor_value.specs.declared.values.Obj.{Obj}
use Rattle.class_defs.specs.Epochs.{next_of}
use Rattle.class_defs.specs.Levels.{changes, greatest, is_due, lags, last_naming, level}
use Rattle.class_defs.specs.declared.store.Schemas.{Schemas}
use Rattle.class_defs.specs.declared.upgrades.ClassUpgrade.{ClassUpgrade}

-- ---- lagging

-- an object that lags behind no upgrade up to k + 1 lags behind none up to k
pub lags_less : (s : Schemas) (o : Obj) (k : ℕ) → lags s o (suc k) ≡ false → lags s o k ≡ false
unfolding lags
lags_less s o k h = (or_parts (lags s o k) (changes s k o) h).0

pub changes_not : (s : Schemas) (o : Obj) (k : ℕ) → lags s o (suc k) ≡ false → changes s k o ≡ false
unfolding lags
changes_not s o k h = (or_parts (lags s o k) (changes s k o) h).1

down_by : (s : Schemas) (o : Obj) (k j : ℕ) (b : Bool) → nat_lt k j ≡ b → j ≤ suc k → lags s o (suc k) ≡ false
    → (j ≤ k → lags s o j ≡ false) → lags s o j ≡ false
down_by s o k j true is le h rest = let e : suc k ≡ j = omega (arith, le, ltb-true k j is) in subst (λ i. lags s o i ≡ false) e h
down_by s o k j false is le h rest = rest (ltb-false k j is)

pub lags_down : (s : Schemas) (o : Obj) (k j : ℕ) → j ≤ k → lags s o k ≡ false → lags s o j ≡ false
lags_down s o zero j le h = let e : zero ≡ j = omega (arith, le) in subst (λ i. lags s o i ≡ false) e h
lags_down s o (suc k) j le h = down_by s o k j (nat_lt k j) refl le h (λ below. lags_down s o k j below (lags_less s o k h))

changes_never : (b : Bool) (u : Option ClassUpgrade) → b ≡ true → (not b && is_some u) ≡ false
changes_never true u h = refl
changes_never false u h = cc

-- an object lags behind no upgrade before the epoch in which it was written
pub lags_early : (s : Schemas) (o : Obj) (k : ℕ) → k ≤ o.ver → lags s o k ≡ false
unfolding lags
lags_early s o zero h = refl
lags_early s o (suc k) h =
    or_from (lags s o k) (changes s k o) (lags_early s o k (omega (arith, h)))
    (changes_never (nat_lt k o.ver) (next_of s k o.class) (lt-ltb k o.ver (omega (arith, h))))

-- ---- the level

found : (test : ℕ → Bool) (n : ℕ) (b : Bool) → test (suc n) ≡ b → test (greatest test n) ≡ true → test (cond b (suc n) (greatest test n)) ≡ true
found test n true h g = h
found test n false h g = g

pub greatest_passes : (test : ℕ → Bool) (n : ℕ) → test zero ≡ true → test (greatest test n) ≡ true
unfolding greatest
greatest_passes test zero h = h
greatest_passes test (suc n) h = found test n (test (suc n)) refl (greatest_passes test n h)

bounded : (n g : ℕ) (b : Bool) → g ≤ n → cond b (suc n) g ≤ suc n
bounded n g true h = omega arith
bounded n g false h = omega (arith, h)

pub greatest_within : (test : ℕ → Bool) (n : ℕ) → greatest test n ≤ n
unfolding greatest
greatest_within test zero = omega arith
greatest_within test (suc n) = bounded n (greatest test n) (test (suc n)) (greatest_within test n)

pub lags_at_level : (s : Schemas) (e : ℕ) (o : Obj) → lags s o (level s e o) ≡ false
unfolding lags
lags_at_level s e o = not-true _ (greatest_passes (λ k. not (lags s o k)) e refl)

pub lags_to_level : (s : Schemas) (e k : ℕ) (o : Obj) → k ≤ level s e o → lags s o k ≡ false
lags_to_level s e k o h = lags_down s o (level s e o) k h (lags_at_level s e o)

due_at : (n g : ℕ) (b : Bool) → g ≤ n → nat_lt (cond (not b) (suc n) g) (suc n) ≡ b
due_at n g true h = lt-ltb g (suc n) (omega (arith, h))
due_at n g false h = le-ltb (suc n) (suc n) (omega arith)

-- an object is due where one of the upgrades changes it
pub due_is : (s : Schemas) (e : ℕ) (o : Obj) → is_due s e o ≡ lags s o e
unfolding greatest lags
due_is s zero o = refl
due_is s (suc n) o = due_at n (greatest (λ k. not (lags s o k)) n) (lags s o (suc n)) (greatest_within (λ k. not (lags s o k)) n)

-- an object that isn't due has the map's epoch as its level
pub undue_level : (s : Schemas) (e : ℕ) (o : Obj) → is_due s e o ≡ false → level s e o ≡ e
undue_level s e o h =
    let a : e ≤ level s e o = ltb-false (level s e o) e h in
    let b : level s e o ≤ e = greatest_within (λ k. not (lags s o k)) e in
    omega (arith, a, b)

-- ---- the last upgrade that names a class

last_at : (v k n : ℕ) (w : Option ClassUpgrade) (l : Bool) → l ≡ nat_lt v n → n ≤ k
    → (l || (not (nat_lt k v) && is_some w)) ≡ nat_lt v (cond (is_some w) (suc k) n)
last_at v k n None true h b = h
last_at v k n None false h b = nothing (nat_lt k v) ∙ h
  where
    nothing : (c : Bool) → (not c && false) ≡ false
    nothing true = refl
    nothing false = refl
last_at v k n (Some u) true h b = let below = ltb-true v n (sym h) in sym (lt-ltb v (suc k) (omega (arith, below, b)))
last_at v k n (Some u) false h b = by_place (nat_lt k v) refl
  where
    by_place : (c : Bool) → nat_lt k v ≡ c → (not c && true) ≡ nat_lt v (suc k)
    by_place true is = let above = ltb-true k v is in sym (le-ltb v (suc k) (omega (arith, above)))
    by_place false is = let below = ltb-false k v is in sym (lt-ltb v (suc k) (omega (arith, below)))

last_bound : (k n : ℕ) (b : Bool) → n ≤ k → cond b (suc k) n ≤ suc k
last_bound k n true h = omega arith
last_bound k n false h = omega (arith, h)

last_within : (s : Schemas) (c k : ℕ) → last_naming s c k ≤ k
unfolding last_naming
last_within s c zero = omega arith
last_within s c (suc k) = last_bound k (last_naming s c k) (is_some (next_of s k c)) (last_within s c k)

-- an object lags where the last upgrade that names its class comes behind its last write
lags_by_last : (s : Schemas) (o : Obj) (k : ℕ) → lags s o k ≡ nat_lt o.ver (last_naming s o.class k)
unfolding lags last_naming
lags_by_last s o zero = sym (le-ltb o.ver zero (omega arith))
lags_by_last s o (suc k) =
    last_at o.ver k (last_naming s o.class k) (next_of s k o.class) (lags s o k) (lags_by_last s o k) (last_within s o.class k)

pub due_by_last : (s : Schemas) (e : ℕ) (o : Obj) → is_due s e o ≡ nat_lt o.ver (last_naming s o.class e)
due_by_last s e o = due_is s e o ∙ lags_by_last s o e
