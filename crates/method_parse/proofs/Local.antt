-- What a reader does up to a token depends on no token behind it.
use Rattle.std.proofs.Common.{◌≡◌, ℕ, zero, suc, ◌+◌, ◌≤◌, ◌<◌, max, Bool, true, false, cond, List, [], ◌∷◌, ◌++◌, length, Option, Some, None, Result, Ok, Err, refl, sym, ap, subst, arith, ◌⊎◌, inl, inr}
use Rattle.std.proofs.lemmas.List.{length-append}
use Rattle.script_text.specs.declared.token.Token.{Token}
use Rattle.method_parse.specs.Matching.{is}
use Rattle.method_parse.specs.Reader.{Reader, onward, ◌>>=◌, give, stuck, taken, take_by, word, name, number, quoted, type_word, next, if_next, repeat, repeat_all}

-- no more tokens are left than there were
abbrev pub Within : {X : Type 0} → ℕ → Result (X × List Token) ℕ → Type 0
Within n (Ok read) = length read.1 ≤ n
Within n (Err left) = left ≤ n

-- what is left of the one has the token, and of the other the same before it
abbrev Kept : {X : Type 0} → Token → List Token → List Token → X → List Token → Result (X × List Token) ℕ → Type 0
Kept t post other x rest o = (mid : List Token) × (rest ≡ mid ++ t ∷ post) × (o ≡ Ok (x, mid ++ t ∷ other))

-- The outcome on tokens that go on behind t with post, and on tokens that go on with other: where the
-- token is read, nothing is said; else they are one.
abbrev pub Same : {X : Type 0} → Token → List Token → List Token → Result (X × List Token) ℕ → Result (X × List Token) ℕ → Type 0
Same t post other (Ok read) o = (length read.1 ≤ length post) ⊎ Kept t post other read.0 read.1 o
Same t post other (Err left) o = (left ≤ length post) ⊎ ((k : ℕ) × (left ≡ k + suc (length post)) × (o ≡ Err (k + suc (length other))))

pub record Local {X : Type 0} (reader : Reader X) : Type 0 where
  pub within : (u : List Token) → Within (length u) (reader u)
  pub same : (mid : List Token) (t : Token) (post other : List Token) → Same t post other (reader (mid ++ t ∷ post)) (reader (mid ++ t ∷ other))

within_more : {X : Type 0} (n m : ℕ) (r : Result (X × List Token) ℕ) → n ≤ m → Within n r → Within m r
within_more n m (Ok read) le h = omega arith
within_more n m (Err left) le h = omega arith

onward_within : {A B : Type 0} (n : ℕ) (r : Result (A × List Token) ℕ) (next : A → Reader B) → Within n r → ((a : A) → Local (next a)) → Within n (onward r next)
onward_within n (Ok read) next h local = within_more (length read.1) n (next read.0 read.1) h ((local read.0).within read.1)
onward_within n (Err left) next h local = h

gone : {B : Type 0} (t : Token) (post other u : List Token) (r o : Result (B × List Token) ℕ) → length u ≤ length post → Within (length u) r → Same t post other r o
gone t post other u (Ok read) o le h = inl (omega arith)
gone t post other u (Err left) o le h = inl (omega arith)

onward_same : {A B : Type 0} (t : Token) (post other : List Token) (r o : Result (A × List Token) ℕ) (next : A → Reader B) → Same t post other r o → ((a : A) → Local (next a)) → Same t post other (onward r next) (onward o next)
onward_same t post other (Ok read) o next (inl le) local = gone t post other read.1 (next read.0 read.1) (onward o next) le ((local read.0).within read.1)
onward_same t post other (Ok read) o next (inr k) local =
    subst (λ p. Same t post other (next read.0 read.1) (onward p next)) (sym k.2)
    (subst (λ (u : List Token). Same t post other (next read.0 u) (next read.0 (k.0 ++ t ∷ other))) (sym k.1) ((local read.0).same k.0 t post other))
onward_same t post other (Err left) o next (inl le) local = inl le
onward_same t post other (Err left) o next (inr k) local = inr (k.0, k.1, ap (λ p. onward p next) k.2)

pub local_bind : {A B : Type 0} {reader : Reader A} {next : A → Reader B} → Local reader → ((a : A) → Local (next a)) → Local (reader >>= next)
local_bind {reader = reader} {next = next} first second = record {
  within = λ u. onward_within (length u) (reader u) next (first.within u) second;
  same = λ mid t post other. onward_same t post other (reader (mid ++ t ∷ post)) (reader (mid ++ t ∷ other)) next (first.same mid t post other) second;
}

pub local_give : {X : Type 0} (x : X) → Local (give x)
local_give x = record { within = λ u. omega arith; same = λ mid t post other. inr (mid, refl, refl) }

pub local_stuck : {X : Type 0} → Local (stuck {X = X})
local_stuck = record { within = λ u. omega arith; same = λ mid t post other. inr (length mid, length-append mid (t ∷ post), ap (λ k. Err k) (length-append mid (t ∷ other))) }

module _ {X : Type 0} (says : Token → Option X) where
  taken_within : (o : Option X) (t : Token) (ts : List Token) → Within (suc (length ts)) (taken o t ts)
  taken_within (Some x) t ts = omega arith
  taken_within None t ts = omega arith

  one_within : (u : List Token) → Within (length u) (take_by says u)
  one_within [] = omega arith
  one_within (t ∷ ts) = taken_within (says t) t ts

  taken_at : (o : Option X) (t : Token) (post other : List Token) → Same t post other (taken o t post) (taken o t other)
  taken_at (Some x) t post other = inl (omega arith)
  taken_at None t post other = inr (0, omega arith, ap (λ (k : ℕ). Err k) (let e : suc (length other) ≡ 0 + suc (length other) = omega arith in e))

  taken_before : (o : Option X) (m : Token) (mid : List Token) (t : Token) (post other : List Token) → Same t post other (taken o m (mid ++ t ∷ post)) (taken o m (mid ++ t ∷ other))
  taken_before (Some x) m mid t post other = inr (mid, refl, refl)
  taken_before None m mid t post other = inr (suc (length mid), omega (arith, length-append mid (t ∷ post)), ap (λ (k : ℕ). Err k) (let e : suc (length (mid ++ t ∷ other)) ≡ suc (length mid) + suc (length other) = omega (arith, length-append mid (t ∷ other)) in e))

  one_same : (mid : List Token) (t : Token) (post other : List Token) → Same t post other (take_by says (mid ++ t ∷ post)) (take_by says (mid ++ t ∷ other))
  one_same [] t post other = taken_at (says t) t post other
  one_same (m ∷ mid) t post other = taken_before (says m) m mid t post other

  pub local_one : Local (take_by says)
  local_one = record { within = one_within; same = one_same }

-- readers that are chosen by what comes next
chosen_within : {X : Type 0} (n : ℕ) (b : Bool) (r o : Result (X × List Token) ℕ) → Within n r → Within n o → Within n (cond b r o)
chosen_within n true r o p q = p
chosen_within n false r o p q = q

chosen_same : {X : Type 0} (t : Token) (post other : List Token) (b : Bool) (r s o p : Result (X × List Token) ℕ) → Same t post other r o → Same t post other s p → Same t post other (cond b r s) (cond b o p)
chosen_same t post other true r s o p h k = h
chosen_same t post other false r s o p h k = k

next_same : (test : Token → Bool) (mid : List Token) (t : Token) (post other : List Token) → next test (mid ++ t ∷ post) ≡ next test (mid ++ t ∷ other)
next_same test [] t post other = refl
next_same test (m ∷ mid) t post other = refl

pub local_if : {X : Type 0} (test : Token → Bool) {one other : Reader X} → Local one → Local other → Local (if_next test one other)
local_if test {one = one} {other = two} first second = record {
  within = λ u. chosen_within (length u) (next test u) (one u) (two u) (first.within u) (second.within u);
  same = λ mid t post other.
      subst (λ (b : Bool). Same t post other (cond (next test (mid ++ t ∷ post)) (one (mid ++ t ∷ post)) (two (mid ++ t ∷ post))) (cond b (one (mid ++ t ∷ other)) (two (mid ++ t ∷ other)))) (next_same test mid t post other)
      (chosen_same t post other (next test (mid ++ t ∷ post)) (one (mid ++ t ∷ post)) (two (mid ++ t ∷ post)) (one (mid ++ t ∷ other)) (two (mid ++ t ∷ other)) (first.same mid t post other) (second.same mid t post other));
}

pub local_by : {X C : Type 0} (see : List Token → C) (readers : C → Reader X) → ((mid : List Token) (t : Token) (post other : List Token) → see (mid ++ t ∷ post) ≡ see (mid ++ t ∷ other)) → ((c : C) → Local (readers c)) → Local (λ u. readers (see u) u)
local_by see readers seen local = record {
  within = λ u. (local (see u)).within u;
  same = λ mid t post other.
      subst (λ c. Same t post other (readers (see (mid ++ t ∷ post)) (mid ++ t ∷ post)) (readers c (mid ++ t ∷ other))) (seen mid t post other) ((local (see (mid ++ t ∷ post))).same mid t post other);
}

pub local_repeat : {X : Type 0} (test : X → Token → Bool) (step : X → Reader X) → ((x : X) → Local (step x)) → (n : ℕ) (x : X) → Local (repeat n test step x)
unfolding repeat
local_repeat test step local zero x = local_give x
local_repeat test step local (suc n) x = local_if (test x) (local_bind (local x) (λ y. local_repeat test step local n y)) (local_give x)

-- ---- repetitions as long as there are tokens

-- fewer tokens are left than there were
abbrev pub Less : {X : Type 0} → ℕ → Result (X × List Token) ℕ → Type 0
Less n (Ok read) = length read.1 < n
Less n (Err left) = Unit {0}

pub Strict : {X : Type 0} → Reader X → Type 0
Strict reader = (u : List Token) → Less (length u) (reader u)

module _ {X : Type 0} (test : X → Token → Bool) (step : X → Reader X) (strict : (x : X) → Strict (step x)) where
  step_enough : (n m : ℕ) (u : List Token) (r : Result (X × List Token) ℕ) → ((y : X) (v : List Token) → length v < length u → repeat n test step y v ≡ repeat m test step y v) → Less (length u) r
      → onward r (repeat n test step) ≡ onward r (repeat m test step)
  step_enough n m u (Ok read) same less = same read.0 read.1 less
  step_enough n m u (Err left) same less = refl

  enough : (n m : ℕ) (x : X) (u : List Token) → length u ≤ n → length u ≤ m → repeat n test step x u ≡ repeat m test step x u
  unfolding repeat Strict
  enough zero zero x u le more = refl
  enough zero (suc m) x [] le more = refl
  enough zero (suc m) x (t ∷ u) le more = absurd (omega arith)
  enough (suc n) zero x [] le more = refl
  enough (suc n) zero x (t ∷ u) le more = absurd (omega arith)
  enough (suc n) (suc m) x u le more =
      ap (λ r. cond (next (test x) u) r (give x u)) (step_enough n m u (step x u) (λ y v less. enough n m y v (omega arith) (omega arith)) (strict x u))

  pub local_repeat_all : ((x : X) → Local (step x)) → (x : X) → Local (repeat_all test step x)
  local_repeat_all local x = record {
    within = λ u. (local_repeat test step local (length u) x).within u;
    same = λ mid t post other.
        let a = mid ++ t ∷ post in
        let b = mid ++ t ∷ other in
        let n = max (length a) (length b) in
        subst (λ r. Same t post other r (repeat (length b) test step x b)) (enough n (length a) x a (omega arith) (omega arith))
        (subst (λ r. Same t post other (repeat n test step x a) r) (enough n (length b) x b (omega arith) (omega arith)) ((local_repeat test step local n x).same mid t post other));
  }

-- ---- readers of one token take it

taken_less : {X : Type 0} (o : Option X) (t : Token) (ts : List Token) → Less (suc (length ts)) (taken o t ts)
taken_less (Some x) t ts = omega arith
taken_less None t ts = tt

pub strict_one : {X : Type 0} (says : Token → Option X) → Strict (take_by says)
unfolding Strict
strict_one says [] = tt
strict_one says (t ∷ ts) = taken_less (says t) t ts

then_less : {A B : Type 0} (n : ℕ) (r : Result (A × List Token) ℕ) (next : A → Reader B) → Less n r → ((a : A) → Local (next a)) → Less n (onward r next)
then_less n (Ok read) next less local = within_less n read.1 (next read.0 read.1) less ((local read.0).within read.1)
  where
    within_less : {B : Type 0} (n : ℕ) (u : List Token) (r : Result (B × List Token) ℕ) → length u < n → Within (length u) r → Less n r
    within_less n u (Ok read) less h = omega arith
    within_less n u (Err left) less h = tt
then_less n (Err left) next less local = tt

pub strict_bind : {A B : Type 0} (reader : Reader A) (next : A → Reader B) → Strict reader → ((a : A) → Local (next a)) → Strict (reader >>= next)
unfolding Strict
strict_bind reader next strict local u = then_less (length u) (reader u) next (strict u) local

behind_less : {A B : Type 0} (n : ℕ) (r : Result (A × List Token) ℕ) (next : A → Reader B) → Within n r → ((a : A) (u : List Token) → Less (length u) (next a u)) → Less n (onward r next)
behind_less n (Ok read) next h strict = more n (length read.1) (next read.0 read.1) h (strict read.0 read.1)
  where
    more : {B : Type 0} (n k : ℕ) (r : Result (B × List Token) ℕ) → k ≤ n → Less k r → Less n r
    more n k (Ok read) le less = omega arith
    more n k (Err left) le less = tt
behind_less n (Err left) next h strict = tt

-- a reader behind which one is strict
pub strict_behind : {A B : Type 0} (reader : Reader A) (next : A → Reader B) → Local reader → ((a : A) → Strict (next a)) → Strict (reader >>= next)
unfolding Strict
strict_behind reader next local strict u = behind_less (length u) (reader u) next (local.within u) strict

chosen_less : {X : Type 0} (n : ℕ) (b : Bool) (r o : Result (X × List Token) ℕ) → Less n r → Less n o → Less n (cond b r o)
chosen_less n true r o p q = p
chosen_less n false r o p q = q

pub strict_if : {X : Type 0} (test : Token → Bool) (one other : Reader X) → Strict one → Strict other → Strict (if_next test one other)
unfolding Strict
strict_if test one other p q u = chosen_less (length u) (next test u) (one u) (other u) (p u) (q u)

pub strict_by : {X C : Type 0} (see : List Token → C) (readers : C → Reader X) → ((c : C) → Strict (readers c)) → Strict (λ u. readers (see u) u)
unfolding Strict
strict_by see readers strict u = strict (see u) u

-- ---- the readers of one token

pub local_word : (text : List ℕ) → Local (word text)
unfolding word
local_word text = local_one (λ t. cond (is text t) (Some t.line) None)

pub strict_word : (text : List ℕ) → Strict (word text)
unfolding word
strict_word text = strict_one (λ t. cond (is text t) (Some t.line) None)

pub local_name : Local name
unfolding name
local_name = local_one _

pub local_number : Local number
unfolding number
local_number = local_one _

pub local_quoted : Local quoted
unfolding quoted
local_quoted = local_one _

pub local_type : Local type_word
unfolding type_word
local_type = local_one _
