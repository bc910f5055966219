-- Walking over the open requests of a table, rising.
use Rattle.log_entries.specs.declared.request.Request.{Request}
use Rattle.repo_state.specs.Keeps.{Stands, TableFits}
use Rattle.std.proofs.Common.{Bool, List, None, Option, Some, [], ap, arith, cond, false, get_or, is_some, length, map, refl, slice_get, subst, suc, sym, true, zero, ◌&&◌, ℕ, ◌<◌, ◌∙◌, ◌≡◌, ◌∷◌}
use Rattle.std.proofs.lemmas.Cmp.{nat_cmp_total, tied_itself}
use Rattle.std.specs.BTreeMap.{is_at}
use Rattle.std.specs.List.Sorted.{IsStrictlySortedBy}
use Rattle.std.specs.List.{AllByRecursion, filter, list_all, list_any}
use Rattle.std.specs.Map.{keys_of, lookup, values_of}
use Rattle.std.specs.Option.{option_and_then}
use Rattle.std.specs.Ordering.{is_lt, nat_cmp}
use Rattle.std.specs.Prelude.{◌||◌}
use Rattle.std.specs.declared.cmp.Ordering.TheVariants.{Equal, Greater, Less}
use Rattle.std.specs.declared.cmp.Ordering.{Ordering}
use Rattle.thor_value.proofs.FiniteMap.{IsSorted-keep}
use Rattle.thor_value.proofs.NameOrders.{ts_total}
use Rattle.thor_value.specs.FiniteMap.{get}
use Rattle.thor_value.specs.Names.{same_ts, ts_cmp}
use Rattle.thor_value.specs.declared.names.Ts.{Ts}
use Rattle.two_phase.proofs.Lists.{lookup_those}
use Rattle.two_phase.specs.Contents.{Contents, keeps, request_of}
use Rattle.two_phase.specs.Lists.{decision_of, kept_decisions, those}
use Rattle.two_phase.specs.Walks.{behind, first_kept, first_open, is_past}
use Rattle.two_phase.specs.declared.transaction.Transaction.TheVariants as kept
use Rattle.two_phase.specs.declared.transaction.Transaction.{Transaction}

abbrev Pairs : Type 0
Pairs = List (Ts × Transaction)

-- ---- decisions

any_is : {X : Type 0} (t : Ts) (es : List (Ts × X)) → list_any (same_ts t) (keys_of es) ≡ is_some (lookup (is_at (ts_cmp t)) es)
any_is t [] = refl
any_is {X} t (e ∷ es) = by (is_at (ts_cmp t) e.0) (any_is t es)
  where
    by : (b : Bool) → list_any (same_ts t) (keys_of es) ≡ is_some (lookup (is_at (ts_cmp t)) es) → (b || list_any (same_ts t) (keys_of es)) ≡ is_some (cond b (Some e.1) (lookup (is_at (ts_cmp t)) es))
    by true rest = refl
    by false rest = rest

kept_is : (k : Option Transaction) → is_some (option_and_then decision_of k) ≡ keeps k
kept_is None = refl
kept_is (Some (kept.Open q)) = refl
kept_is (Some kept.Kept) = refl

-- whether a decision is kept is whether it is among those that are
pub keeps_is : (repo : ℕ) (c : Contents) → TableFits repo c → (t : Ts) → keeps (get c.transactions t) ≡ list_any (same_ts t) (kept_decisions c)
keeps_is repo c fits t = sym (any_is t (those decision_of c.transactions.pairs) ∙ (ap is_some (lookup_those decision_of t c.transactions.pairs fits.sorted) ∙ kept_is (get c.transactions t)))

-- ---- what is open

abbrev requests_in : Pairs → List Request
requests_in es = values_of (those request_of es)

-- the open requests behind one
abbrev pub requests_behind : Option Ts → Pairs → List Request
requests_behind after es = requests_in (behind ts_cmp after es)

pub all_behind : (es : Pairs) → requests_behind None es ≡ requests_in es
all_behind es = ap requests_in (whole es)
  where
    whole : (es : Pairs) → behind ts_cmp None es ≡ es
    whole [] = refl
    whole (e ∷ es) = ap (λ fs. e ∷ fs) (whole es)

less_is : (o : Ordering) → is_lt o ≡ true → o ≡ Less
less_is Less e = refl
less_is Equal e = cc
less_is Greater e = cc

past_then : (after : Option Ts) (t k : Ts) → is_past ts_cmp after t ≡ true → is_lt (ts_cmp t k) ≡ true → is_past ts_cmp after k ≡ true
past_then None t k first then = refl
past_then (Some a) t k first then = ap is_lt (ts_total.trans a t k (less_is (ts_cmp a t) first) (less_is (ts_cmp t k) then))

behind_twice : (after : Option Ts) (t : Ts) (es : Pairs) → is_past ts_cmp after t ≡ true → behind ts_cmp (Some t) (behind ts_cmp after es) ≡ behind ts_cmp (Some t) es
behind_twice after t [] past = refl
behind_twice after t (e ∷ es) past = by (is_past ts_cmp after e.0) (is_lt (ts_cmp t e.0)) refl refl (behind_twice after t es past)
  where
    by : (a b : Bool) → is_past ts_cmp after e.0 ≡ a → is_lt (ts_cmp t e.0) ≡ b → behind ts_cmp (Some t) (behind ts_cmp after es) ≡ behind ts_cmp (Some t) es
        → behind ts_cmp (Some t) (cond a (e ∷ behind ts_cmp after es) (behind ts_cmp after es)) ≡ cond b (e ∷ behind ts_cmp (Some t) es) (behind ts_cmp (Some t) es)
    by true true p q rest = ap (λ c. cond c (e ∷ behind ts_cmp (Some t) (behind ts_cmp after es)) (behind ts_cmp (Some t) (behind ts_cmp after es))) q ∙ ap (λ fs. e ∷ fs) rest
    by true false p q rest = ap (λ c. cond c (e ∷ behind ts_cmp (Some t) (behind ts_cmp after es)) (behind ts_cmp (Some t) (behind ts_cmp after es))) q ∙ rest
    by false true p q rest = let z : is_past ts_cmp after e.0 ≡ true = past_then after t e.0 past q in cc
    by false false p q rest = rest

above_all : (k : Ts) (es : Pairs) → AllByRecursion (λ y. ts_cmp k y ≡ Less) (keys_of es) → behind ts_cmp (Some k) es ≡ es
above_all k [] h = refl
above_all k (e ∷ es) h = ap (λ o. cond (is_lt o) (e ∷ behind ts_cmp (Some k) es) (behind ts_cmp (Some k) es)) h.0 ∙ ap (λ fs. e ∷ fs) (above_all k es h.1)

pub walk_none : (es : Pairs) → first_open es ≡ None → requests_in es ≡ []
unfolding first_open
walk_none [] none = refl
walk_none ((k, kept.Open q) ∷ es) none = cc
walk_none ((k, kept.Kept) ∷ es) none = walk_none es none

module _ (repo : ℕ) where
  -- what is found first comes before all others
  walk_some : (es : Pairs) → IsStrictlySortedBy ts_cmp (keys_of es) → AllByRecursion (Stands repo) es → (q : Request) → first_open es ≡ Some q → requests_in es ≡ q ∷ requests_behind (Some q.tx) es
  unfolding first_open IsStrictlySortedBy
  walk_some [] sorted stands q found = cc
  walk_some ((k, kept.Open r) ∷ es) sorted stands q found =
      let same : r ≡ q = cc in
      let key : k ≡ q.tx = sym stands.0.1.0 ∙ ap (λ (s : Request). s.tx) same in
      let gone : behind ts_cmp (Some k) ((k, kept.Open r) ∷ es) ≡ es = ap (λ o. cond (is_lt o) ((k, kept.Open r) ∷ behind ts_cmp (Some k) es) (behind ts_cmp (Some k) es)) (tied_itself ts_total k) ∙ above_all k es sorted.0 in
      ap (λ s. s ∷ requests_in es) same ∙ ap (λ fs. q ∷ requests_in fs) (sym gone ∙ ap (λ t. behind ts_cmp (Some t) ((k, kept.Open r) ∷ es)) key)
  walk_some ((k, kept.Kept) ∷ es) sorted stands q found = by (is_lt (ts_cmp q.tx k)) (walk_some es sorted.1 stands.1 q found)
    where
      by : (b : Bool) → requests_in es ≡ q ∷ requests_behind (Some q.tx) es → requests_in es ≡ q ∷ requests_in (cond b ((k, kept.Kept) ∷ behind ts_cmp (Some q.tx) es) (behind ts_cmp (Some q.tx) es))
      by true rest = rest
      by false rest = rest

  -- and passes the test of what was walked over
  first_passes : (p : Ts → Bool) (es : Pairs) → AllByRecursion (Stands repo) es → (q : Request) → first_open (filter (λ e. p e.0) es) ≡ Some q → p q.tx ≡ true
  unfolding first_open
  first_passes p [] stands q found = cc
  first_passes p ((k, kept.Open r) ∷ es) stands q found = by (p k) refl found (first_passes p es stands.1 q)
    where
      by : (b : Bool) → p k ≡ b → first_open (cond b ((k, kept.Open r) ∷ filter (λ e. p e.0) es) (filter (λ e. p e.0) es)) ≡ Some q → (first_open (filter (λ e. p e.0) es) ≡ Some q → p q.tx ≡ true) → p q.tx ≡ true
      by true e f rest =
          let same : r ≡ q = cc in
          ap p (ap (λ (s : Request). s.tx) (sym same) ∙ stands.0.1.0) ∙ e
      by false e f rest = rest f
  first_passes p ((k, kept.Kept) ∷ es) stands q found = by (p k) found (first_passes p es stands.1 q)
    where
      by : (b : Bool) → first_open (cond b ((k, kept.Kept) ∷ filter (λ e. p e.0) es) (filter (λ e. p e.0) es)) ≡ Some q → (first_open (filter (λ e. p e.0) es) ≡ Some q → p q.tx ≡ true) → p q.tx ≡ true
      by true f rest = rest f
      by false f rest = rest f

  stand_behind : (p : Ts → Bool) (es : Pairs) → AllByRecursion (Stands repo) es → AllByRecursion (Stands repo) (filter (λ e. p e.0) es)
  stand_behind p [] stands = tt
  stand_behind p (e ∷ es) stands = by (p e.0) (stand_behind p es stands.1)
    where
      by : (b : Bool) → AllByRecursion (Stands repo) (filter (λ e. p e.0) es) → AllByRecursion (Stands repo) (cond b (e ∷ filter (λ e. p e.0) es) (filter (λ e. p e.0) es))
      by true rest = (stands.0, rest)
      by false rest = rest

  -- a walk that finds one goes on behind it
  pub walk_on : (c : Contents) → TableFits repo c → (after : Option Ts) (q : Request) → first_open (behind ts_cmp after c.transactions.pairs) ≡ Some q → requests_behind after c.transactions.pairs ≡ q ∷ requests_behind (Some q.tx) c.transactions.pairs
  walk_on c fits after q found =
      let es = c.transactions.pairs in
      let first = walk_some (behind ts_cmp after es) (IsSorted-keep ts_cmp c.transactions (is_past ts_cmp after) fits.sorted) (stand_behind (is_past ts_cmp after) es fits.each) q found in
      first ∙ ap (λ fs. q ∷ requests_in fs) (behind_twice after q.tx es (first_passes (is_past ts_cmp after) es fits.each q found))

-- ---- kept decisions

abbrev kept_in : Pairs → List Ts
kept_in es = keys_of (those decision_of es)

-- the kept decisions behind one
abbrev pub kept_behind : Option Ts → Pairs → List Ts
kept_behind after es = kept_in (behind ts_cmp after es)

behind_none : {X : Type 0} (es : List (Ts × X)) → behind ts_cmp None es ≡ es
behind_none [] = refl
behind_none (e ∷ es) = ap (λ fs. e ∷ fs) (behind_none es)

pub all_kept_behind : (es : Pairs) → kept_behind None es ≡ kept_in es
all_kept_behind es = ap kept_in (behind_none es)

pub walk_none_kept : (es : Pairs) → first_kept es ≡ None → kept_in es ≡ []
unfolding first_kept
walk_none_kept [] none = refl
walk_none_kept ((k, kept.Open q) ∷ es) none = walk_none_kept es none
walk_none_kept ((k, kept.Kept) ∷ es) none = cc

walk_some_kept : (es : Pairs) → IsStrictlySortedBy ts_cmp (keys_of es) → (t : Ts) → first_kept es ≡ Some t → kept_in es ≡ t ∷ kept_behind (Some t) es
unfolding first_kept IsStrictlySortedBy
walk_some_kept [] sorted t found = cc
walk_some_kept ((k, kept.Open q) ∷ es) sorted t found = by (is_lt (ts_cmp t k)) (walk_some_kept es sorted.1 t found)
  where
    by : (b : Bool) → kept_in es ≡ t ∷ kept_behind (Some t) es → kept_in es ≡ t ∷ kept_in (cond b ((k, kept.Open q) ∷ behind ts_cmp (Some t) es) (behind ts_cmp (Some t) es))
    by true rest = rest
    by false rest = rest
walk_some_kept ((k, kept.Kept) ∷ es) sorted t found =
    let same : k ≡ t = cc in
    let gone : behind ts_cmp (Some k) ((k, kept.Kept) ∷ es) ≡ es = ap (λ o. cond (is_lt o) ((k, kept.Kept) ∷ behind ts_cmp (Some k) es) (behind ts_cmp (Some k) es)) (tied_itself ts_total k) ∙ above_all k es sorted.0 in
    ap (λ u. u ∷ kept_in es) same ∙ ap (λ fs. t ∷ kept_in fs) (sym gone ∙ ap (λ u. behind ts_cmp (Some u) ((k, kept.Kept) ∷ es)) same)

first_kept_passes : (p : Ts → Bool) (es : Pairs) (t : Ts) → first_kept (filter (λ e. p e.0) es) ≡ Some t → p t ≡ true
unfolding first_kept
first_kept_passes p [] t found = cc
first_kept_passes p ((k, kept.Open q) ∷ es) t found = by (p k) found (first_kept_passes p es t)
  where
    by : (b : Bool) → first_kept (cond b ((k, kept.Open q) ∷ filter (λ e. p e.0) es) (filter (λ e. p e.0) es)) ≡ Some t → (first_kept (filter (λ e. p e.0) es) ≡ Some t → p t ≡ true) → p t ≡ true
    by true f rest = rest f
    by false f rest = rest f
first_kept_passes p ((k, kept.Kept) ∷ es) t found = by (p k) refl found (first_kept_passes p es t)
  where
    by : (b : Bool) → p k ≡ b → first_kept (cond b ((k, kept.Kept) ∷ filter (λ e. p e.0) es) (filter (λ e. p e.0) es)) ≡ Some t → (first_kept (filter (λ e. p e.0) es) ≡ Some t → p t ≡ true) → p t ≡ true
    by true e f rest = let same : k ≡ t = cc in ap p (sym same) ∙ e
    by false e f rest = rest f

-- a walk that finds a kept decision goes on behind it
pub walk_on_kept : (repo : ℕ) (c : Contents) → TableFits repo c → (after : Option Ts) (t : Ts) → first_kept (behind ts_cmp after c.transactions.pairs) ≡ Some t → kept_behind after c.transactions.pairs ≡ t ∷ kept_behind (Some t) c.transactions.pairs
walk_on_kept repo c fits after t found =
    let es = c.transactions.pairs in
    walk_some_kept (behind ts_cmp after es) (IsSorted-keep ts_cmp c.transactions (is_past ts_cmp after) fits.sorted) t found
    ∙ ap (λ fs. t ∷ kept_in fs) (behind_twice after t es (first_kept_passes (is_past ts_cmp after) es t found))

-- ---- the last transactions of clients

abbrev Alones : Type 0
Alones = List (ℕ × Ts)

pub all_alone_behind : (es : Alones) → behind nat_cmp None es ≡ es
all_alone_behind [] = refl
all_alone_behind (e ∷ es) = ap (λ fs. e ∷ fs) (all_alone_behind es)

past_client : (after : Option ℕ) (t k : ℕ) → is_past nat_cmp after t ≡ true → is_lt (nat_cmp t k) ≡ true → is_past nat_cmp after k ≡ true
past_client None t k first then = refl
past_client (Some a) t k first then = ap is_lt (nat_cmp_total.trans a t k (less_is (nat_cmp a t) first) (less_is (nat_cmp t k) then))

alone_twice : (after : Option ℕ) (t : ℕ) (es : Alones) → is_past nat_cmp after t ≡ true → behind nat_cmp (Some t) (behind nat_cmp after es) ≡ behind nat_cmp (Some t) es
alone_twice after t [] past = refl
alone_twice after t (e ∷ es) past = by (is_past nat_cmp after e.0) (is_lt (nat_cmp t e.0)) refl refl (alone_twice after t es past)
  where
    by : (a b : Bool) → is_past nat_cmp after e.0 ≡ a → is_lt (nat_cmp t e.0) ≡ b → behind nat_cmp (Some t) (behind nat_cmp after es) ≡ behind nat_cmp (Some t) es
        → behind nat_cmp (Some t) (cond a (e ∷ behind nat_cmp after es) (behind nat_cmp after es)) ≡ cond b (e ∷ behind nat_cmp (Some t) es) (behind nat_cmp (Some t) es)
    by true true p q rest = ap (λ c. cond c (e ∷ behind nat_cmp (Some t) (behind nat_cmp after es)) (behind nat_cmp (Some t) (behind nat_cmp after es))) q ∙ ap (λ fs. e ∷ fs) rest
    by true false p q rest = ap (λ c. cond c (e ∷ behind nat_cmp (Some t) (behind nat_cmp after es)) (behind nat_cmp (Some t) (behind nat_cmp after es))) q ∙ rest
    by false true p q rest = let z : is_past nat_cmp after e.0 ≡ true = past_client after t e.0 past q in cc
    by false false p q rest = rest

alone_above : (k : ℕ) (es : Alones) → AllByRecursion (λ y. nat_cmp k y ≡ Less) (keys_of es) → behind nat_cmp (Some k) es ≡ es
alone_above k [] h = refl
alone_above k (e ∷ es) h = ap (λ o. cond (is_lt o) (e ∷ behind nat_cmp (Some k) es) (behind nat_cmp (Some k) es)) h.0 ∙ ap (λ fs. e ∷ fs) (alone_above k es h.1)

pub walk_none_alone : (es : Alones) → slice_get es 0 ≡ None → es ≡ []
walk_none_alone [] none = refl
walk_none_alone (e ∷ es) none = cc

first_alone : (es : Alones) → IsStrictlySortedBy nat_cmp (keys_of es) → (e : ℕ × Ts) → slice_get es 0 ≡ Some e → es ≡ e ∷ behind nat_cmp (Some e.0) es
unfolding IsStrictlySortedBy
first_alone [] sorted e found = cc
first_alone (d ∷ es) sorted e found =
    let same : d ≡ e = cc in
    let gone : behind nat_cmp (Some d.0) (d ∷ es) ≡ es = ap (λ o. cond (is_lt o) (d ∷ behind nat_cmp (Some d.0) es) (behind nat_cmp (Some d.0) es)) (tied_itself nat_cmp_total d.0) ∙ alone_above d.0 es sorted.0 in
    ap (λ x. x ∷ es) same ∙ ap (λ fs. e ∷ fs) (sym gone ∙ ap (λ (x : ℕ × Ts). behind nat_cmp (Some x.0) (d ∷ es)) same)

first_alone_passes : (p : ℕ → Bool) (es : Alones) (e : ℕ × Ts) → slice_get (filter (λ d. p d.0) es) 0 ≡ Some e → p e.0 ≡ true
first_alone_passes p [] e found = cc
first_alone_passes p (d ∷ es) e found = by (p d.0) refl found (first_alone_passes p es e)
  where
    by : (b : Bool) → p d.0 ≡ b → slice_get (cond b (d ∷ filter (λ x. p x.0) es) (filter (λ x. p x.0) es)) 0 ≡ Some e → (slice_get (filter (λ x. p x.0) es) 0 ≡ Some e → p e.0 ≡ true) → p e.0 ≡ true
    by true q f rest = let same : d ≡ e = cc in ap (λ (x : ℕ × Ts). p x.0) (sym same) ∙ q
    by false q f rest = rest f

-- a walk that finds one goes on behind it
pub walk_on_alone : (repo : ℕ) (c : Contents) → TableFits repo c → (after : Option ℕ) (e : ℕ × Ts) → slice_get (behind nat_cmp after c.alone.pairs) 0 ≡ Some e → behind nat_cmp after c.alone.pairs ≡ e ∷ behind nat_cmp (Some e.0) c.alone.pairs
walk_on_alone repo c fits after e found =
    let es = c.alone.pairs in
    first_alone (behind nat_cmp after es) (IsSorted-keep nat_cmp c.alone (is_past nat_cmp after) fits.alone_sorted) e found
    ∙ ap (λ fs. e ∷ fs) (alone_twice after e.0 es (first_alone_passes (is_past nat_cmp after) es e found))

-- ---- a test of all that a walk finds

-- what is left decides: where one more passes, what is left behind it does
pub left_decides : {X : Type 0} (p : X → Bool) (left rest : List X) (x : X) (b : Bool) → left ≡ x ∷ rest → list_all p left ≡ b → p x ≡ true → list_all p rest ≡ b
left_decides p left rest x b next told passes = sym (ap (λ a. a && list_all p rest) passes) ∙ (sym (ap (list_all p) next) ∙ told)

pub left_fails : {X : Type 0} (p : X → Bool) (left rest : List X) (x : X) (b : Bool) → left ≡ x ∷ rest → list_all p left ≡ b → p x ≡ false → false ≡ b
left_fails p left rest x b next told fails = sym (ap (λ a. a && list_all p rest) fails) ∙ (sym (ap (list_all p) next) ∙ told)

pub none_left : {X : Type 0} (p : X → Bool) (left : List X) (b : Bool) → left ≡ [] → list_all p left ≡ b → true ≡ b
none_left p left b none told = sym (ap (list_all p) none) ∙ told

and_false : (b c : Bool) → false ≡ c → false ≡ (b && c)
and_false true c is = is
and_false false c is = refl

-- one that fails the test
pub fails_at : {X Y : Type 0} (f : X → Y) (p : Y → Bool) (xs : List X) (i : ℕ) (x : X) → i < length xs → x ≡ get_or xs i x → p (f x) ≡ false → false ≡ list_all p (map f xs)
fails_at f p [] i x within is fails = absurd (omega (arith, within))
fails_at f p (y ∷ xs) zero x within is fails = let e : p (f y) ≡ false = subst (λ z. p (f z) ≡ false) is fails in sym (ap (λ b. b && list_all p (map f xs)) e)
fails_at f p (y ∷ xs) (suc i) x within is fails = and_false (p (f y)) (list_all p (map f xs)) (fails_at f p xs i x (omega (arith, within)) is fails)
