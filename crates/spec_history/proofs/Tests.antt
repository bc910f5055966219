-- Tests that decide: how they are put together.
use Rattle.spec_history.specs.Checking.{if_then, is_empty}
use Rattle.spec_history.specs.FormChecking.{rises}
use Rattle.std.proofs.Common.{List, [], eq-eqb, inl, inr, refl, ℕ, ◌<◌, ◌≡◌, ◌≤◌, ◌∷◌}
use Rattle.std.proofs.lemmas.Bool.{eqb-true, leb-true, lt-ltb, le-leb, ltb-true}
use Rattle.std.specs.Bool.{Decides}
use Rattle.std.specs.List.Sorted.{IsStrictlySortedBy}
use Rattle.std.specs.List.{AllByRecursion, list_all}
use Rattle.std.specs.Option.{IsSome, is_none, is_some}
use Rattle.std.specs.Ordering.{is_lt}
use Rattle.std.specs.Prelude.{Bool, IsTrue, None, Option, Some, false, nat_eq, nat_le, nat_lt, not, true, ◌&&◌, ◌||◌, ◌⊎◌}
use Rattle.std.specs.declared.cmp.Ordering.TheVariants.{Equal, Greater, Less}
use Rattle.std.specs.declared.cmp.Ordering.{Ordering}

-- two tests, one after the other
infixl 6 ◌also◌
pub ◌also◌ : {P Q : Type 0} {x y : Bool} → Decides x P → Decides y Q → Decides (x && y) (P × Q)
◌also◌ {x = true} p q = ((λ e. (p.0 refl, q.0 e)), (λ h. q.1 h.1))
◌also◌ {x = false} p q = ((λ e. cc), (λ h. p.1 h.0))

-- what says the same is decided by the same test
pub turned : {P Q : Type 0} {x : Bool} → Decides x P → (P → Q) → (Q → P) → Decides x Q
turned d f g = ((λ e. f (d.0 e)), (λ q. d.1 (g q)))

pub decides_and : {P Q : Type 0} (x y : Bool) → Decides x P → Decides y Q → Decides (x && y) (P × Q)
decides_and true y p q = ((λ e. (p.0 refl, q.0 e)), (λ h. q.1 h.1))
decides_and false y p q = ((λ e. cc), (λ h. p.1 h.0))

pub decides_or : {P Q : Type 0} (x y : Bool) → Decides x P → Decides y Q → Decides (x || y) (P ⊎ Q)
decides_or true y p q = ((λ e. inl (p.0 refl)), (λ h. refl))
decides_or false y p q = ((λ e. inr (q.0 e)), (λ h. elim h [ inl a ↦ (let e = p.1 a in cc) | inr c ↦ q.1 c ]))

pub decides_not : {P : Type 0} (x : Bool) → Decides x P → Decides (not x) (¬ P)
decides_not true p = ((λ e. cc), (λ h. absurd (h (p.0 refl))))
decides_not false p = ((λ e h. let k = p.1 h in cc), (λ h. refl))

pub decides_if : {P Q : Type 0} (x y : Bool) → Decides x P → Decides y Q → Decides (if_then x y) (P → Q)
decides_if true y p q = ((λ e h. q.0 e), (λ f. q.1 (f (p.0 refl))))
decides_if false y p q = ((λ e h. absurd (let k = p.1 h in cc)), (λ f. refl))

pub decides_true : (x : Bool) → Decides x (IsTrue x)
decides_true x = ((λ e. e), (λ e. e))

pub decides_false : (x : Bool) → Decides (not x) (x ≡ false)
decides_false true = ((λ e. cc), (λ e. cc))
decides_false false = ((λ e. refl), (λ e. refl))

pub decides_eq : (m n : ℕ) → Decides (nat_eq m n) (m ≡ n)
decides_eq m n = (eqb-true m n, eq-eqb m n)

pub decides_lt : (m n : ℕ) → Decides (nat_lt m n) (m < n)
decides_lt m n = (ltb-true m n, lt-ltb m n)

pub decides_none : {X : Type 0} (o : Option X) → Decides (is_none o) (o ≡ None)
decides_none None = ((λ e. refl), (λ e. refl))
decides_none (Some x) = ((λ e. cc), (λ e. cc))

pub decides_empty : {X : Type 0} (xs : List X) → Decides (is_empty xs) (xs ≡ [])
decides_empty [] = ((λ e. refl), (λ e. refl))
decides_empty (x ∷ xs) = ((λ e. cc), (λ e. cc))

pub decides_less : (o : Ordering) → Decides (is_lt o) (o ≡ Less)
decides_less Less = ((λ e. refl), (λ e. refl))
decides_less Equal = ((λ e. cc), (λ e. cc))
decides_less Greater = ((λ e. cc), (λ e. cc))

pub decides_le : (m n : ℕ) → Decides (nat_le m n) (m ≤ n)
decides_le m n = (leb-true m n, le-leb m n)

pub decides_some : {X : Type 0} (o : Option X) → Decides (is_some o) (IsSome o)
decides_some o = decides_true (is_some o)

-- ---- lists

pub decides_all : {X : Type 0} {test : X → Bool} {P : X → Type 0} → ((x : X) → Decides (test x) (P x)) → (xs : List X) → Decides (list_all test xs) (AllByRecursion P xs)
decides_all d [] = ((λ e. tt), (λ h. refl))
decides_all d (x ∷ xs) = d x also decides_all d xs

pub decides_rises : {K : Type 0} (cmp : K → K → Ordering) (ks : List K) → Decides (rises cmp ks) (IsStrictlySortedBy cmp ks)
unfolding IsStrictlySortedBy
decides_rises cmp [] = ((λ e. tt), (λ h. refl))
decides_rises cmp (k ∷ ks) = decides_all (λ q. decides_less (cmp k q)) ks also decides_rises cmp ks
