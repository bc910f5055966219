-- The level of an object is where the first upgrade stands that changes it.
use Rattle.std.proofs.Common.{◌≡◌, ◌≤◌, ◌<◌, ◌+◌, arith, Bool, true, false, cond, not, ℕ, zero, suc, nat_lt, List, Option, Some, None, is_some, refl, sym, ◌∙◌, subst}
use Rattle.std.proofs.lemmas.Bool.{le-ltb, ltb-true, ltb-false, not_from_false}
use Rattle.std.specs.Option.{option_copied}
use Rattle.std.specs.Prelude.{◌&&◌, ◌||◌}
use denote.Bor.{Bor}
use Rattle.thor_value.specs.declared.values.Obj.{Obj}
use Rattle.thor_value.specs.declared.values.Value.{Value}
use Rattle.class_defs.proofs.Levels.{due_is, lags_early, lags_to_level, undue_level}
use Rattle.class_defs.specs.Epochs.{next_of}
use Rattle.class_defs.specs.Levels.{greatest, lags, level}
use Rattle.class_defs.specs.declared.store.Schemas.{Schemas}
use Rattle.class_defs.specs.declared.upgrades.ClassUpgrade.{ClassUpgrade}

-- a reference is there where its value is
pub is_there : {T : Type 0} (r : Option (Bor T)) → is_some (option_copied r) ≡ is_some r
is_there None = refl
is_there (Some x) = refl

-- an object of a class that was written in an epoch
abbrev pub written : ℕ → ℕ → List Value → Obj
written c ver fields = record { class = c; ver = ver; fields = fields }

-- no object of the class that was written then lags behind one of the first k upgrades
abbrev pub NoneLag : Schemas → ℕ → ℕ → ℕ → Type 0
NoneLag s c ver k = (fields : List Value) → lags s (written c ver fields) k ≡ false

pub none_at_first : (s : Schemas) (c ver : ℕ) → NoneLag s c ver ver
none_at_first s c ver fields = lags_early s (written c ver fields) ver (omega arith)

step : (a b : Bool) (w : Option ClassUpgrade) → a ≡ false → is_some w ≡ false → (a || (not b && is_some w)) ≡ false
step true b w h g = cc
step false true w h g = refl
step false false w h g = g

pub none_behind : (s : Schemas) (c ver k : ℕ) → NoneLag s c ver k → is_some (next_of s k c) ≡ false → NoneLag s c ver (k + 1)
unfolding lags
none_behind s c ver k h g =
    let e : suc k ≡ k + 1 = omega arith in
    let next : NoneLag s c ver (suc k) = λ fields. step (lags s (written c ver fields) k) (nat_lt k ver) (next_of s k c) (h fields) g in
    subst (NoneLag s c ver) e next

up_to : (test : ℕ → Bool) (n k : ℕ) (b : Bool) → test (suc n) ≡ b → test k ≡ true → k ≤ suc n → (k ≤ n → k ≤ greatest test n) → k ≤ cond b (suc n) (greatest test n)
up_to test n k true is h le rest = le
up_to test n k false is h le rest = rest (by_place (nat_lt n k) refl)
  where
    by_place : (c : Bool) → nat_lt n k ≡ c → k ≤ n
    by_place true above =
        let past = ltb-true n k above in
        let e : suc n ≡ k = omega (arith, le, past) in
        let wrong : test (suc n) ≡ true = subst (λ i. test i ≡ true) (sym e) h in
        absurd (apart (sym is ∙ wrong))
      where
        apart : false ≡ true → ⊥
        apart e = cc
    by_place false below = ltb-false n k below

-- the greatest number that passes is no less than one that does
pub greatest_above : (test : ℕ → Bool) (n k : ℕ) → test k ≡ true → k ≤ n → k ≤ greatest test n
unfolding greatest
greatest_above test zero k h le = le
greatest_above test (suc n) k h le = up_to test n k (test (suc n)) refl h le (λ below. greatest_above test n k h below)

does_lag : (s : Schemas) (c ver k : ℕ) (fields : List Value) → ver ≤ k → is_some (next_of s k c) ≡ true → lags s (written c ver fields) (suc k) ≡ true
unfolding lags
does_lag s c ver k fields le h = last (lags s (written c ver fields) k) (nat_lt k ver) (is_some (next_of s k c)) (le-ltb k ver le) h
  where
    last : (a b w : Bool) → b ≡ false → w ≡ true → (a || (not b && w)) ≡ true
    last true b w e g = refl
    last false true w e g = cc
    last false false w e g = g

-- the level is where the first upgrade stands that names the class
pub level_found : (s : Schemas) (e c ver k : ℕ) → NoneLag s c ver k → ver ≤ k → k ≤ e → is_some (next_of s k c) ≡ true
    → (fields : List Value) → k ≡ level s e (written c ver fields)
level_found s e c ver k none le within h fields =
    let o = written c ver fields in
    let low = greatest_above (λ j. not (lags s o j)) e k (not_from_false (lags s o k) (none fields)) within in
    by_place o low (nat_lt k (level s e o)) refl
  where
    apart : true ≡ false → ⊥
    apart e = cc

    by_place : (o : Obj) → k ≤ level s e (written c ver fields) → (b : Bool) → nat_lt k (level s e (written c ver fields)) ≡ b → k ≡ level s e (written c ver fields)
    by_place o low true is =
        let past = ltb-true k (level s e (written c ver fields)) is in
        let stays = lags_to_level s e (suc k) (written c ver fields) (omega (arith, past)) in
        absurd (apart (sym (does_lag s c ver k fields le h) ∙ stays))
    by_place o low false is = let high = ltb-false k (level s e (written c ver fields)) is in omega (arith, low, high)

-- where none does, it is the store's epoch
pub level_whole : (s : Schemas) (e c ver : ℕ) → NoneLag s c ver e → (fields : List Value) → e ≡ level s e (written c ver fields)
level_whole s e c ver none fields =
    sym (undue_level s e (written c ver fields) (due_is s e (written c ver fields) ∙ none fields))
