-- Walking over the open requests of a table, rising.
use Rattle.log_entries.specs.declared.request.Request.{Request}
use Rattle.repo_state.specs.Keeps.{Stands}
use Rattle.law_repo_memory.proofs.Maps.{same-key}
use Rattle.std.proofs.Common.{Bool, List, [], ap, cond, refl, subst, sym, ℕ, ◌≡◌, ◌∙◌, ◌∷◌}
use Rattle.std.proofs.lemmas.Map.Views.{tells_apart}
use Rattle.std.specs.BTreeMap.{is_at}
use Rattle.std.specs.List.Sorted.{IsStrictlySortedBy}
use Rattle.std.specs.List.{AllByRecursion, filter}
use Rattle.std.specs.Map.{keys_of, lookup}
use Rattle.std.specs.Option.{option_and_then}
use Rattle.std.specs.Ordering.{is_eq, is_lt}
use Rattle.std.specs.Prelude.{None, Option, Some, false, true}
use Rattle.std.specs.declared.cmp.Ordering.TheVariants.{Equal, Greater, Less}
use Rattle.std.specs.declared.cmp.Ordering.{Ordering}
use Rattle.thor_value.proofs.NameOrders.{ts_exact, ts_total}
use Rattle.thor_value.specs.Names.{ts_cmp}
use Rattle.thor_value.specs.declared.names.Ts.{Ts}
use Rattle.two_phase.specs.Contents.{request_of}
use Rattle.two_phase.specs.Walks.{first_open}
use Rattle.two_phase.specs.declared.transaction.Transaction.TheVariants as transaction
use Rattle.two_phase.specs.declared.transaction.Transaction.{Transaction}

-- the request that is open at t in these pairs
abbrev pub open_in : List (Ts × Transaction) → Ts → Option Request
open_in es t = option_and_then request_of (lookup (is_at (ts_cmp t)) es)

-- a key below all is none of them
pub none-above : (t : Ts) (es : List (Ts × Transaction)) → AllByRecursion (λ u. ts_cmp t u ≡ Less) (keys_of es) → open_in es t ≡ None
none-above t [] h = refl
none-above t (e ∷ es) h = ap (λ (o : Ordering). option_and_then request_of (cond (is_eq o) (Some e.1) (lookup (is_at (ts_cmp t)) es))) h.0 ∙ none-above t es h.1

below-all : (t u : Ts) (es : List (Ts × Transaction)) → ts_cmp t u ≡ Less → AllByRecursion (λ v. ts_cmp u v ≡ Less) (keys_of es) → AllByRecursion (λ v. ts_cmp t v ≡ Less) (keys_of es)
below-all t u [] l h = tt
below-all t u (e ∷ es) l h = (ts_total.trans t u e.0 l h.0, below-all t u es l h.1)

less-is : (o : Ordering) → is_lt o ≡ true → o ≡ Less
less-is Less e = refl
less-is Equal e = cc
less-is Greater e = cc

-- What a walk finds first: a request that is open at its timestamp, which passes the test, and none that is open below
-- it does.
pub record IsFirst (p : Ts → Bool) (es : List (Ts × Transaction)) (q : Request) : Type 0 where
  pub passes : p q.tx ≡ true
  pub there : open_in es q.tx ≡ Some q
  pub first : (t : Ts) → p t ≡ true → ts_cmp t q.tx ≡ Less → open_in es t ≡ None

module _ (repo : ℕ) (p : Ts → Bool) where
  head-key : (e : Ts × Transaction) (q : Request) → Stands repo e → e.1 ≡ transaction.Open q → q.tx ≡ e.0
  head-key e q h is = let s : Stands repo (e.0, transaction.Open q) = subst (λ x. Stands repo (e.0, x)) is h in s.1.0

  other-head : (e : Ts × Transaction) (es : List (Ts × Transaction)) (t : Ts) (x : Bool) → p e.0 ≡ false → p t ≡ true → open_in (e ∷ es) t ≡ open_in es t
  other-head e es t x fails pass = by (is_at (ts_cmp t) e.0) refl
    where
      by : (y : Bool) → is_at (ts_cmp t) e.0 ≡ y → option_and_then request_of (cond y (Some e.1) (lookup (is_at (ts_cmp t)) es)) ≡ open_in es t
      by true k = let z : p e.0 ≡ true = subst (λ u. p u ≡ true) (tells_apart ts_exact t e.0 k) pass in cc
      by false k = refl

  kept-head : (k : Ts) (es : List (Ts × Transaction)) (t : Ts) → AllByRecursion (λ v. ts_cmp k v ≡ Less) (keys_of es) → open_in ((k, transaction.Kept) ∷ es) t ≡ open_in es t
  kept-head k es t h = by (is_at (ts_cmp t) k) refl
    where
      by : (y : Bool) → is_at (ts_cmp t) k ≡ y → option_and_then request_of (cond y (Some transaction.Kept) (lookup (is_at (ts_cmp t)) es)) ≡ open_in es t
      by true e = sym (none-above t es (subst (λ u. AllByRecursion (λ v. ts_cmp u v ≡ Less) (keys_of es)) (sym (tells_apart ts_exact t k e)) h))
      by false e = refl

  -- where a walk finds none, none is open that passes
  pub walk-none : (es : List (Ts × Transaction)) → IsStrictlySortedBy ts_cmp (keys_of es) → first_open (filter (λ e. p e.0) es) ≡ None → (t : Ts) → p t ≡ true → open_in es t ≡ None
  unfolding first_open IsStrictlySortedBy
  walk-none [] h none t pass = refl
  walk-none ((k, transaction.Open q) ∷ es) h none t pass = by (p k) refl none (walk-none es h.1)
    where
      by : (x : Bool) → p k ≡ x → first_open (cond x ((k, transaction.Open q) ∷ filter (λ e. p e.0) es) (filter (λ e. p e.0) es)) ≡ None → (first_open (filter (λ e. p e.0) es) ≡ None → (u : Ts) → p u ≡ true → open_in es u ≡ None) → open_in ((k, transaction.Open q) ∷ es) t ≡ None
      by true e f rest = cc
      by false e f rest = other-head (k, transaction.Open q) es t true e pass ∙ rest f t pass
  walk-none ((k, transaction.Kept) ∷ es) h none t pass = by (p k) none (walk-none es h.1)
    where
      by : (x : Bool) → first_open (cond x ((k, transaction.Kept) ∷ filter (λ e. p e.0) es) (filter (λ e. p e.0) es)) ≡ None → (first_open (filter (λ e. p e.0) es) ≡ None → (u : Ts) → p u ≡ true → open_in es u ≡ None) → open_in ((k, transaction.Kept) ∷ es) t ≡ None
      by true f rest = kept-head k es t h.0 ∙ rest f t pass
      by false f rest = kept-head k es t h.0 ∙ rest f t pass

  abbrev Rest : List (Ts × Transaction) → Request → Type 0
  Rest es q = first_open (filter (λ e. p e.0) es) ≡ Some q → IsFirst p es q

  -- and where it finds one, that is the first
  pub walk-some : (es : List (Ts × Transaction)) → IsStrictlySortedBy ts_cmp (keys_of es) → AllByRecursion (Stands repo) es → (q : Request) → Rest es q
  unfolding first_open IsStrictlySortedBy
  walk-some [] h stands q found = cc
  walk-some ((k, transaction.Open r) ∷ es) h stands q found = by (p k) refl found (walk-some es h.1 stands.1 q)
    where
      by : (x : Bool) → p k ≡ x → first_open (cond x ((k, transaction.Open r) ∷ filter (λ e. p e.0) es) (filter (λ e. p e.0) es)) ≡ Some q → Rest es q → IsFirst p ((k, transaction.Open r) ∷ es) q
      by true e f rest =
          let same : r ≡ q = cc in
          let key : q.tx ≡ k = ap (λ (s : Request). s.tx) (sym same) ∙ stands.0.1.0 in
          let here : is_at (ts_cmp q.tx) k ≡ true = subst (λ u. is_at (ts_cmp u) k ≡ true) (sym key) (same-key k k refl) in
          record {
            passes = ap p key ∙ e;
            there = ap (λ y. option_and_then request_of (cond y (Some (transaction.Open r)) (lookup (is_at (ts_cmp q.tx)) es))) here ∙ ap Some same;
            first = λ t pass less.
                let l : ts_cmp t k ≡ Less = subst (λ u. ts_cmp t u ≡ Less) key less in
                none-above t ((k, transaction.Open r) ∷ es) (l, below-all t k es l h.0);
          }
      by false e f rest =
          let z = rest f in record {
            passes = z.passes;
            there = other-head (k, transaction.Open r) es q.tx true e z.passes ∙ z.there;
            first = λ t pass less. other-head (k, transaction.Open r) es t true e pass ∙ z.first t pass less;
          }
  walk-some ((k, transaction.Kept) ∷ es) h stands q found = by (p k) found (walk-some es h.1 stands.1 q)
    where
      onward : IsFirst p es q → IsFirst p ((k, transaction.Kept) ∷ es) q
      onward z = record {
        passes = z.passes;
        there = kept-head k es q.tx h.0 ∙ z.there;
        first = λ t pass less. kept-head k es t h.0 ∙ z.first t pass less;
      }

      by : (x : Bool) → first_open (cond x ((k, transaction.Kept) ∷ filter (λ e. p e.0) es) (filter (λ e. p e.0) es)) ≡ Some q → Rest es q → IsFirst p ((k, transaction.Kept) ∷ es) q
      by true f rest = onward (rest f)
      by false f rest = onward (rest f)
