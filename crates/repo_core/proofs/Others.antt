-- Open requests of other coordinators, walked over one behind the other.
use Rattle.log_entries.specs.declared.request.Request.{Request}
use Rattle.repo_state.specs.Keeps.{TableFits}
use Rattle.spec_history.proofs.Meeting.{in_order}
use Rattle.repo_core.specs.Behind.{AreOwn, IsLeastOfOthers}
use Rattle.law_repo_memory.proofs.Walking.{IsFirst, open_in, walk-none, walk-some}
use Rattle.std.proofs.Common.{Bool, List, [], ap, arith, cond, false, inl, inr, length, refl, subst, sym, true, ℕ, ◌<◌, ◌≡◌, ◌≤◌, ◌∙◌, ◌∷◌}
use Rattle.std.proofs.lemmas.Map.Views.{tells_apart}
use Rattle.std.specs.BTreeMap.{is_at}
use Rattle.std.specs.List.{filter}
use Rattle.std.specs.Map.{lookup}
use Rattle.std.specs.Option.{is_some, option_and_then}
use Rattle.std.specs.Ordering.{is_lt}
use Rattle.std.specs.Prelude.{None, Option, Some, nat_eq}
use Rattle.std.specs.declared.cmp.Ordering.TheVariants.{Equal, Greater, Less}
use Rattle.std.specs.declared.cmp.Ordering.{Ordering}
use Rattle.thor_value.proofs.NameOrders.{not_before_itself, ts_exact, ts_total}
use Rattle.thor_value.specs.Names.{Before, ts_cmp}
use Rattle.thor_value.specs.declared.names.Ts.{Ts}
use Rattle.two_phase.specs.Contents.{Contents, open_at, request_of}
use Rattle.two_phase.specs.Walks.{behind, first_open, is_past}
use Rattle.two_phase.specs.declared.transaction.Transaction.{Transaction}

-- what isn't past a timestamp and is open is the repository's own
abbrev pub Passed : ℕ → Contents → Option Ts → Type 0
Passed repo c after = (t : Ts) → is_past ts_cmp after t ≡ false → is_some (open_at c t) ≡ true → nat_eq t.repo repo ≡ true

pub passed_none : (repo : ℕ) (c : Contents) → Passed repo c None
passed_none repo c t past opened = absurd (cc)

none_open : (o : Option Request) → o ≡ None → is_some o ≡ true → ⊥
none_open o none opened = let isnt : true ≡ false = sym opened ∙ ap is_some none in cc

-- ---- fewer are left

lt_is : (o : Ordering) → is_lt o ≡ true → o ≡ Less
lt_is Less e = refl
lt_is Equal e = cc
lt_is Greater e = cc

past_behind : (after : Option Ts) (t u : Ts) → is_past ts_cmp after t ≡ true → Before t u → is_past ts_cmp after u ≡ true
past_behind None t u past before = refl
past_behind (Some a) t u past before = ap is_lt (ts_total.trans a t u (lt_is (ts_cmp a t) past) before)

not_past_itself : (t : Ts) → is_lt (ts_cmp t t) ≡ false
not_past_itself t = by (ts_cmp t t) refl
  where
    by : (o : Ordering) → ts_cmp t t ≡ o → is_lt o ≡ false
    by Less e = absurd (not_before_itself t e)
    by Equal e = refl
    by Greater e = refl

module _ (p r : Ts → Bool) (fewer : (t : Ts) → r t ≡ true → p t ≡ true) where
  at_most : (e : Ts × Transaction) (ks ms : List (Ts × Transaction)) (x y : Bool) → (x ≡ true → y ≡ true) → length ms ≤ length ks → length (cond x (e ∷ ms) ms) ≤ length (cond y (e ∷ ks) ks)
  at_most e ks ms true true so least = omega (arith, least)
  at_most e ks ms true false so least = let isnt : false ≡ true = so refl in absurd (cc)
  at_most e ks ms false true so least = omega (arith, least)
  at_most e ks ms false false so least = least

  fewer_or_same : (es : List (Ts × Transaction)) → length (filter (λ e. r e.0) es) ≤ length (filter (λ e. p e.0) es)
  fewer_or_same [] = omega arith
  fewer_or_same (e ∷ es) = at_most e (filter (λ e. p e.0) es) (filter (λ e. r e.0) es) (r e.0) (p e.0) (fewer e.0) (fewer_or_same es)

  below_by : (e : Ts × Transaction) (ks ms : List (Ts × Transaction)) (x y : Bool) → (x ≡ true → y ≡ true) → length ms < length ks → length (cond x (e ∷ ms) ms) < length (cond y (e ∷ ks) ks)
  below_by e ks ms true true so less = omega (arith, less)
  below_by e ks ms true false so less = let isnt : false ≡ true = so refl in absurd (cc)
  below_by e ks ms false true so less = omega (arith, less)
  below_by e ks ms false false so less = less

  one_less : (e : Ts × Transaction) (ks ms : List (Ts × Transaction)) (x y : Bool) → x ≡ false → y ≡ true → length ms ≤ length ks → length (cond x (e ∷ ms) ms) < length (cond y (e ∷ ks) ks)
  one_less e ks ms false true out there least = omega (arith, least)
  one_less e ks ms true y out there least = absurd (cc)
  one_less e ks ms false false out there least = absurd (cc)

  pub fewer_left : (es : List (Ts × Transaction)) (k : Ts) (q : Request) → open_in es k ≡ Some q → p k ≡ true → r k ≡ false → length (filter (λ e. r e.0) es) < length (filter (λ e. p e.0) es)
  fewer_left [] k q there passes out = absurd (cc)
  fewer_left (e ∷ es) k q there passes out = by (is_at (ts_cmp k) e.0) refl there (λ found. fewer_left es k q found passes out)
    where
      by : (x : Bool) → is_at (ts_cmp k) e.0 ≡ x → option_and_then request_of (cond x (Some e.1) (lookup (is_at (ts_cmp k)) es)) ≡ Some q → (open_in es k ≡ Some q → length (filter (λ e. r e.0) es) < length (filter (λ e. p e.0) es)) → length (filter (λ e. r e.0) (e ∷ es)) < length (filter (λ e. p e.0) (e ∷ es))
      by true at found rest =
          let same : k ≡ e.0 = tells_apart ts_exact k e.0 at in
          one_less e (filter (λ e. p e.0) es) (filter (λ e. r e.0) es) (r e.0) (p e.0) (subst (λ (t : Ts). r t ≡ false) same out) (subst (λ (t : Ts). p t ≡ true) same passes) (fewer_or_same es)
      by false at found rest = below_by e (filter (λ e. p e.0) es) (filter (λ e. r e.0) es) (r e.0) (p e.0) (fewer e.0) (rest found)

-- ---- a step of the walk

module _ (repo : ℕ) (c : Contents) (fits : TableFits repo c) (after : Option Ts) (passed : Passed repo c after) where
  pub passed_all : first_open (behind ts_cmp after c.transactions.pairs) ≡ None → AreOwn repo c
  passed_all none t opened = by (is_past ts_cmp after t) refl
    where
      by : (x : Bool) → is_past ts_cmp after t ≡ x → nat_eq t.repo repo ≡ true
      by true e = absurd (none_open (open_at c t) (walk-none repo (is_past ts_cmp after) c.transactions.pairs fits.sorted none t e) opened)
      by false e = passed t e opened

  module _ (q : Request) (found : first_open (behind ts_cmp after c.transactions.pairs) ≡ Some q) where
    first : IsFirst (is_past ts_cmp after) c.transactions.pairs q
    first = walk-some repo (is_past ts_cmp after) c.transactions.pairs fits.sorted fits.each q found

    below : (t : Ts) → Before t q.tx → is_some (open_at c t) ≡ true → nat_eq t.repo repo ≡ true
    below t before opened = by (is_past ts_cmp after t) refl
      where
        by : (x : Bool) → is_past ts_cmp after t ≡ x → nat_eq t.repo repo ≡ true
        by true e = absurd (none_open (open_at c t) (first.first t e before) opened)
        by false e = passed t e opened

    pub found_least : nat_eq q.tx.repo repo ≡ false → IsLeastOfOthers repo c q.tx
    found_least other = record { other = other; prepared = ap is_some first.there; least = below }

    pub passed_on : nat_eq q.tx.repo repo ≡ true → Passed repo c (Some q.tx)
    passed_on own t past opened = elim (in_order t q.tx) [
      | inl before ↦ below t before opened
      | inr h ↦ elim h [
        | inl same ↦ subst (λ (u : Ts). nat_eq u.repo repo ≡ true) (sym same) own
        | inr behind ↦ absurd (let isnt : true ≡ false = sym (ap is_lt behind) ∙ past in cc)
      ]
    ]

    pub left_falls : length (behind ts_cmp (Some q.tx) c.transactions.pairs) < length (behind ts_cmp after c.transactions.pairs)
    left_falls =
        fewer_left (is_past ts_cmp after) (is_past ts_cmp (Some q.tx)) (λ t past. past_behind after q.tx t first.passes (lt_is (ts_cmp q.tx t) past)) c.transactions.pairs q.tx q first.there first.passes (not_past_itself q.tx)
