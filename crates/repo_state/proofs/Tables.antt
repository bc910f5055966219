-- What a checkpoint lists of transactions, behind each change of a table.
use Rattle.std.proofs.Common.{◌≡◌, Bool, List, None, Option, Some, [], ◌∷◌, ap, cond, false, map, nat_eq, not, refl, subst, sym, true, ℕ, ◌∙◌}
use Rattle.std.proofs.lemmas.Cmp.{eq_by_cmp_equiv}
use Rattle.std.proofs.lemmas.Map.Views.{tells_apart}
use Rattle.std.specs.BTreeMap.{insert_entry, is_at}
use Rattle.std.specs.List.{AllByRecursion, filter}
use Rattle.std.specs.List.Sorted.{IsStrictlySortedBy}
use Rattle.std.specs.Map.{keys_of, lookup, remove_entry, values_of}
use Rattle.std.specs.Option.{is_some, option_and_then}
use Rattle.std.specs.Ordering.{eq_by_cmp, is_eq}
use Rattle.std.specs.declared.cmp.Ordering.TheVariants.{Less}
use Rattle.log_entries.specs.declared.request.Request.{Request}
use Rattle.commit_log.specs.Recovered.{kept_with, kept_without, opened_with, opened_without, request_at}
use Rattle.thor_value.proofs.FiniteMap.{IsSorted-insert, IsSorted-remove, get-insert, get-remove, same_map}
use Rattle.thor_value.proofs.NameOrders.{ts_exact, ts_total}
use Rattle.thor_value.specs.FiniteMap.{Map, get, insert, remove}
use Rattle.thor_value.specs.Names.{same_ts, ts_cmp}
use Rattle.thor_value.specs.declared.names.Ts.{Ts}
use Rattle.two_phase.proofs.Lists.{lookup_those, remove_absent, sorted_those, those_covered, those_put, those_removed}
use Rattle.two_phase.specs.Contents.{Contents, finished, keeping, keeps, open_at, request_of, without}
use Rattle.two_phase.specs.Lists.{aborted_of, decision_of, kept_decisions, open_requests, stays_without, those}
use Rattle.two_phase.specs.declared.transaction.Transaction.TheVariants as kept
use Rattle.two_phase.specs.declared.transaction.Transaction.{Transaction}
use Rattle.repo_state.specs.Entering.{CanOpen, kept_in, opened_in, undecided}
use Rattle.repo_state.specs.Keeps.{Stands, TableFits}

-- ---- lists under keys

-- each request stands under its own timestamp
abbrev Keyed : List (Ts × Request) → Type 0
Keyed es = AllByRecursion (λ e. e.1.tx ≡ e.0) es

keyed_open : (repo : ℕ) (es : List (Ts × Transaction)) → AllByRecursion (Stands repo) es → Keyed (those request_of es)
keyed_open repo [] h = tt
keyed_open repo ((t, kept.Open q) ∷ es) h = (h.0.1.0, keyed_open repo es h.1)
keyed_open repo ((t, kept.Kept) ∷ es) h = keyed_open repo es h.1

two : (t u : Ts) (q : Request) (a b : List (Ts × Request)) → t ≡ u → a ≡ b → (t, q) ∷ a ≡ (u, q) ∷ b
two t u q a b same rest = ap (λ (v : Ts). (v, q) ∷ a) same ∙ ap (λ (c : List (Ts × Request)). (u, q) ∷ c) rest

under_keys : (es : List (Ts × Request)) → Keyed es → map (λ q. (q.tx, q)) (values_of es) ≡ es
under_keys [] h = refl
under_keys (e ∷ es) h = two e.1.tx e.0 e.1 (map (λ q. (q.tx, q)) (values_of es)) es h.0 (under_keys es h.1)

under_stamps : (es : List (Ts × Transaction)) → map (λ t. (t, tt {0})) (keys_of (those decision_of es)) ≡ those decision_of es
under_stamps [] = refl
under_stamps ((t, kept.Open q) ∷ es) = under_stamps es
under_stamps ((t, kept.Kept) ∷ es) = ap (λ (rest : List (Ts × Unit {0})). (t, tt {0}) ∷ rest) (under_stamps es)

-- none goes where all are above
all_stay : (t : Ts) (es : List (Ts × Request)) → Keyed es → AllByRecursion (λ y. ts_cmp t y ≡ Less) (keys_of es) → filter (λ q. not (same_ts t q.tx)) (values_of es) ≡ values_of es
all_stay t [] h above = refl
all_stay t (e ∷ es) h above = by (same_ts t e.1.tx) (ap (same_ts t) h.0 ∙ ap is_eq above.0) (all_stay t es h.1 above.1)
  where
    by : (b : Bool) → b ≡ false → filter (λ q. not (same_ts t q.tx)) (values_of es) ≡ values_of es → cond (not b) (e.1 ∷ filter (λ q. not (same_ts t q.tx)) (values_of es)) (filter (λ q. not (same_ts t q.tx)) (values_of es)) ≡ e.1 ∷ values_of es
    by true isnt rest = cc
    by false isnt rest = ap (λ (qs : List Request). e.1 ∷ qs) rest

-- the request of one transaction goes
without_one : (t : Ts) (es : List (Ts × Request)) → Keyed es → IsStrictlySortedBy ts_cmp (keys_of es) → filter (λ q. not (same_ts t q.tx)) (values_of es) ≡ values_of (remove_entry (is_at (ts_cmp t)) es)
unfolding IsStrictlySortedBy
without_one t [] h sorted = refl
without_one t (e ∷ es) h sorted = by (same_ts t e.1.tx) (is_at (ts_cmp t) e.0) refl (ap (same_ts t) h.0) (without_one t es h.1 sorted.1)
  where
    rest_stays : same_ts t e.0 ≡ true → filter (λ q. not (same_ts t q.tx)) (values_of es) ≡ values_of es
    rest_stays here = all_stay t es h.1 (subst (λ k. AllByRecursion (λ y. ts_cmp k y ≡ Less) (keys_of es)) (sym (tells_apart ts_exact t e.0 here)) sorted.0)

    by : (b c : Bool) → same_ts t e.0 ≡ c → b ≡ same_ts t e.0 → filter (λ q. not (same_ts t q.tx)) (values_of es) ≡ values_of (remove_entry (is_at (ts_cmp t)) es) → cond (not b) (e.1 ∷ filter (λ q. not (same_ts t q.tx)) (values_of es)) (filter (λ q. not (same_ts t q.tx)) (values_of es)) ≡ values_of (cond c es (e ∷ remove_entry (is_at (ts_cmp t)) es))
    by true true here same rest = rest_stays here
    by false false here same rest = ap (λ (qs : List Request). e.1 ∷ qs) rest
    by true false here same rest = cc
    by false true here same rest = cc

-- the decisions on other transactions stay
all_kept : (t : Ts) (es : List (Ts × Unit {0})) → AllByRecursion (λ y. ts_cmp t y ≡ Less) (keys_of es) → kept_without (keys_of es) t ≡ keys_of es
all_kept t [] above = refl
all_kept t (e ∷ es) above = by (same_ts t e.0) (ap is_eq above.0) (all_kept t es above.1)
  where
    by : (b : Bool) → b ≡ false → kept_without (keys_of es) t ≡ keys_of es → cond (not b) (e.0 ∷ kept_without (keys_of es) t) (kept_without (keys_of es) t) ≡ e.0 ∷ keys_of es
    by true isnt rest = cc
    by false isnt rest = ap (λ (ts : List Ts). e.0 ∷ ts) rest

-- that on one transaction goes
without_key : (t : Ts) (es : List (Ts × Unit {0})) → IsStrictlySortedBy ts_cmp (keys_of es) → kept_without (keys_of es) t ≡ keys_of (remove_entry (is_at (ts_cmp t)) es)
unfolding IsStrictlySortedBy
without_key t [] sorted = refl
without_key t (e ∷ es) sorted = by (same_ts t e.0) refl (without_key t es sorted.1)
  where
    rest_stays : same_ts t e.0 ≡ true → kept_without (keys_of es) t ≡ keys_of es
    rest_stays here = all_kept t es (subst (λ k. AllByRecursion (λ y. ts_cmp k y ≡ Less) (keys_of es)) (sym (tells_apart ts_exact t e.0 here)) sorted.0)

    by : (b : Bool) → same_ts t e.0 ≡ b → kept_without (keys_of es) t ≡ keys_of (remove_entry (is_at (ts_cmp t)) es) → cond (not b) (e.0 ∷ kept_without (keys_of es) t) (kept_without (keys_of es) t) ≡ keys_of (cond b es (e ∷ remove_entry (is_at (ts_cmp t)) es))
    by true here rest = rest_stays here
    by false here rest = ap (λ (ts : List Ts). e.0 ∷ ts) rest

-- ---- one table

module _ (repo : ℕ) (c : Contents) (h : TableFits repo c) where
  open_keys : List (Ts × Request)
  open_keys = those request_of c.transactions.pairs

  keyed : Keyed (those request_of c.transactions.pairs)
  keyed = keyed_open repo c.transactions.pairs h.each

  rising : IsStrictlySortedBy ts_cmp (keys_of (those request_of c.transactions.pairs))
  rising = sorted_those request_of c.transactions.pairs h.sorted

  under_open : map (λ q. (q.tx, q)) (open_requests c) ≡ those request_of c.transactions.pairs
  under_open = under_keys (those request_of c.transactions.pairs) keyed

  -- the open request of a transaction
  pub request_open : (t : Ts) → request_at (open_requests c) t ≡ open_at c t
  request_open t = ap (lookup (is_at (ts_cmp t))) under_open ∙ lookup_those request_of t c.transactions.pairs h.sorted

  -- without it
  pub without_open : (t : Ts) → opened_without (open_requests c) t ≡ values_of (remove_entry (is_at (ts_cmp t)) (those request_of c.transactions.pairs))
  without_open t = without_one t (those request_of c.transactions.pairs) keyed rising

  none_kept : (t : Ts) (o : Option Transaction) → get c.transactions t ≡ o → keeps o ≡ false → lookup (is_at (ts_cmp t)) (those decision_of c.transactions.pairs) ≡ None
  none_kept t None is isnt = lookup_those decision_of t c.transactions.pairs h.sorted ∙ ap (option_and_then decision_of) is
  none_kept t (Some (kept.Open q)) is isnt = lookup_those decision_of t c.transactions.pairs h.sorted ∙ ap (option_and_then decision_of) is
  none_kept t (Some kept.Kept) is isnt = cc

  -- nothing goes where it isn't open
  pub absent_open : (t : Ts) → open_at c t ≡ None → opened_without (open_requests c) t ≡ open_requests c
  absent_open t none = without_open t ∙ ap (λ (es : List (Ts × Request)). values_of es) (remove_absent t (those request_of c.transactions.pairs) (lookup_those request_of t c.transactions.pairs h.sorted ∙ none))

  -- a decision to commit is kept, whatever was known
  pub keeping_open : (t : Ts) → open_requests (keeping c t) ≡ opened_without (open_requests c) t
  keeping_open t = ap (λ (es : List (Ts × Request)). values_of es) (those_covered request_of c.transactions t kept.Kept h.sorted refl) ∙ sym (without_open t)

  pub keeping_kept : (t : Ts) → kept_decisions (keeping c t) ≡ kept_with (kept_decisions c) t
  keeping_kept t =
      ap (λ (es : List (Ts × Unit {0})). keys_of es) (those_put decision_of c.transactions t kept.Kept (tt {0}) h.sorted refl)
      ∙ ap (λ (es : List (Ts × Unit {0})). keys_of (insert_entry ts_cmp es t (tt {0}))) (sym (under_stamps c.transactions.pairs))

  -- an open one goes
  pub gone_open : (t : Ts) → open_requests (without c t) ≡ opened_without (open_requests c) t
  gone_open t = ap (λ (es : List (Ts × Request)). values_of es) (those_removed request_of c.transactions t h.sorted) ∙ sym (without_open t)

  pub gone_kept : (t : Ts) → keeps (get c.transactions t) ≡ false → kept_decisions (without c t) ≡ kept_decisions c
  gone_kept t isnt =
      ap (λ (es : List (Ts × Unit {0})). keys_of es) (those_removed decision_of c.transactions t h.sorted ∙ remove_absent t (those decision_of c.transactions.pairs) (none_kept t (get c.transactions t) refl isnt))

  -- a request is opened
  pub more_open : (q : Request) → open_requests (opened_in c q) ≡ opened_with (open_requests c) q
  more_open q =
      ap (λ (es : List (Ts × Request)). values_of es) (those_put request_of c.transactions q.tx (kept.Open q) q h.sorted refl)
      ∙ ap (λ (es : List (Ts × Request)). values_of (insert_entry ts_cmp es q.tx q)) (sym under_open)

  pub more_kept : (q : Request) → kept_decisions (opened_in c q) ≡ kept_without (kept_decisions c) q.tx
  more_kept q =
      ap (λ (es : List (Ts × Unit {0})). keys_of es) (those_covered decision_of c.transactions q.tx (kept.Open q) h.sorted refl)
      ∙ sym (without_key q.tx (those decision_of c.transactions.pairs) (sorted_those decision_of c.transactions.pairs h.sorted))

  -- it stands in the place of the one that was open
  same_opened : (q : Request) (o : Option Request) → opened_in (finished c q.tx o) q ≡ opened_in c q
  same_opened q None = refl
  same_opened q (Some p) =
      let m = c.transactions in
      let e = same_map ts_total ts_exact (insert (remove m q.tx) q.tx (kept.Open q)) (insert m q.tx (kept.Open q)) (IsSorted-insert ts_total (remove m q.tx) q.tx (kept.Open q) (IsSorted-remove ts_cmp m q.tx h.sorted)) (IsSorted-insert ts_total m q.tx (kept.Open q) h.sorted) (λ u.
      get-insert ts_total (remove m q.tx) q.tx (kept.Open q) u
      ∙ ap (λ o. cond (eq_by_cmp ts_cmp u q.tx) (Some (kept.Open q)) o) (get-remove ts_total m q.tx u h.sorted ∙ ap (λ b. cond b None (get m u)) (sym ((eq_by_cmp_equiv ts_total).symm u q.tx)))
      ∙ by (eq_by_cmp ts_cmp u q.tx) (get m u) ∙ sym (get-insert ts_total m q.tx (kept.Open q) u)) in
      ap (λ (n : Map ts_cmp Transaction). record c { transactions = n }) e
    where
      by : (b : Bool) (o : Option Transaction) → cond b (Some (kept.Open q)) (cond b None o) ≡ cond b (Some (kept.Open q)) o
      by true o = refl
      by false o = refl

  pub opened_again : (q : Request) → opened_in (finished c q.tx (open_at c q.tx)) q ≡ opened_in c q
  opened_again q = same_opened q (open_at c q.tx)

  -- what isn't open is kept, or already is
  pub kept_is : (t : Ts) → open_at c t ≡ None → kept_in c t ≡ keeping c t
  kept_is t none = by_known (get c.transactions t) refl none
    where
      same : get c.transactions t ≡ Some kept.Kept → c ≡ keeping c t
      same is =
          let m = c.transactions in
          let e = same_map ts_total ts_exact m (insert m t kept.Kept) h.sorted (IsSorted-insert ts_total m t kept.Kept h.sorted) (λ u. by_key u (eq_by_cmp ts_cmp u t) refl is ∙ sym (get-insert ts_total m t kept.Kept u)) in
          ap (λ (n : Map ts_cmp Transaction). record c { transactions = n }) e
        where
          by_key : (u : Ts) (b : Bool) → eq_by_cmp ts_cmp u t ≡ b → get c.transactions t ≡ Some kept.Kept → get c.transactions u ≡ cond b (Some kept.Kept) (get c.transactions u)
          by_key u true at is = ap (get c.transactions) (tells_apart ts_exact u t at) ∙ is
          by_key u false at is = refl

      by_known : (o : Option Transaction) → get c.transactions t ≡ o → option_and_then request_of o ≡ None → cond (is_some o) c (keeping c t) ≡ keeping c t
      by_known None is isnt = refl
      by_known (Some (kept.Open q)) is isnt = cc
      by_known (Some kept.Kept) is isnt = same is

-- what is open isn't kept
pub open_not_kept : (c : Contents) (t : Ts) (q : Request) → open_at c t ≡ Some q → keeps (get c.transactions t) ≡ false
open_not_kept c t q is = by (get c.transactions t) is
  where
    by : (o : Option Transaction) → option_and_then request_of o ≡ Some q → keeps o ≡ false
    by None is = cc
    by (Some (kept.Open p)) is = refl
    by (Some kept.Kept) is = cc

-- a transaction that is prepared is new but for what it had open
pub is_new : (repo : ℕ) (c : Contents) → TableFits repo c → (t : Ts) → keeps (get c.transactions t) ≡ false → get (finished c t (open_at c t)).transactions t ≡ None
is_new repo c h t isnt = by (get c.transactions t) refl isnt
  where
    removed : get (remove c.transactions t) t ≡ None
    removed = get-remove ts_total c.transactions t t h.sorted ∙ ap (λ b. cond b None (get c.transactions t)) ((eq_by_cmp_equiv ts_total).refl t)

    by : (o : Option Transaction) → get c.transactions t ≡ o → keeps o ≡ false → get (finished c t (option_and_then request_of o)).transactions t ≡ None
    by None is isnt = is
    by (Some (kept.Open q)) is isnt = removed
    by (Some kept.Kept) is isnt = cc

-- nothing is known of it once its decision was forgotten and its request is closed
pub can_open : (repo : ℕ) (c : Contents) → TableFits repo c → ((t : Ts) → TableFits repo (without c t)) → (q : Request) → CanOpen c q
can_open repo c h go q = by (keeps (get c.transactions q.tx)) refl
  where
    t : Ts
    t = q.tx

    removed : get (remove c.transactions t) t ≡ None
    removed = get-remove ts_total c.transactions t t h.sorted ∙ ap (λ b. cond b None (get c.transactions t)) ((eq_by_cmp_equiv ts_total).refl t)

    same_as : (d : Contents) → TableFits repo d → opened_in d q ≡ opened_in c q → opened_in (finished d t (open_at d t)) q ≡ opened_in (finished c t (open_at c t)) q
    same_as d fits same = opened_again repo d fits q ∙ (same ∙ sym (opened_again repo c h q))

    opens : (d : Contents) → undecided c t ≡ d → TableFits repo d → keeps (get d.transactions t) ≡ false → opened_in d q ≡ opened_in c q → CanOpen c q
    opens d is fits isnt same = record {
      none = subst (λ (x : Contents). get (finished x t (open_at x t)).transactions t ≡ None) (sym is) (is_new repo d fits t isnt);
      same = subst (λ (x : Contents). opened_in (finished x t (open_at x t)) q ≡ opened_in (finished c t (open_at c t)) q) (sym is) (same_as d fits same);
    }

    by : (b : Bool) → keeps (get c.transactions t) ≡ b → CanOpen c q
    by true is = opens (without c t) (ap (λ (b : Bool). cond b (without c t) c) is) (go t) (ap keeps removed) (same_opened repo c h q (Some q))
    by false is = opens c (ap (λ (b : Bool). cond b (without c t) c) is) h is refl

-- ---- a life begins

aborted_open_in : (own repo : ℕ) (es : List (Ts × Transaction)) → AllByRecursion (Stands own) es → values_of (those request_of (filter (stays_without repo) es)) ≡ filter (λ q. not (nat_eq q.tx.repo repo)) (values_of (those request_of es))
aborted_open_in own repo [] h = refl
aborted_open_in own repo ((t, kept.Open q) ∷ es) h = by (nat_eq t.repo repo) (nat_eq q.tx.repo repo) (ap (λ (u : Ts). nat_eq u.repo repo) (sym h.0.1.0)) (aborted_open_in own repo es h.1)
  where
    by : (a b : Bool) → a ≡ b → values_of (those request_of (filter (stays_without repo) es)) ≡ filter (λ p. not (nat_eq p.tx.repo repo)) (values_of (those request_of es))
        → values_of (those request_of (cond (not a) ((t, kept.Open q) ∷ filter (stays_without repo) es) (filter (stays_without repo) es))) ≡ cond (not b) (q ∷ filter (λ p. not (nat_eq p.tx.repo repo)) (values_of (those request_of es))) (filter (λ p. not (nat_eq p.tx.repo repo)) (values_of (those request_of es)))
    by true true same rest = rest
    by false false same rest = ap (λ (qs : List Request). q ∷ qs) rest
    by true false same rest = cc
    by false true same rest = cc
aborted_open_in own repo ((t, kept.Kept) ∷ es) h = aborted_open_in own repo es h.1

aborted_kept_in : (repo : ℕ) (es : List (Ts × Transaction)) → keys_of (those decision_of (filter (stays_without repo) es)) ≡ keys_of (those decision_of es)
aborted_kept_in repo [] = refl
aborted_kept_in repo ((t, kept.Open q) ∷ es) = by (nat_eq t.repo repo) (aborted_kept_in repo es)
  where
    by : (a : Bool) → keys_of (those decision_of (filter (stays_without repo) es)) ≡ keys_of (those decision_of es) → keys_of (those decision_of (cond (not a) ((t, kept.Open q) ∷ filter (stays_without repo) es) (filter (stays_without repo) es))) ≡ keys_of (those decision_of es)
    by true rest = rest
    by false rest = rest
aborted_kept_in repo ((t, kept.Kept) ∷ es) = ap (λ (ts : List Ts). t ∷ ts) (aborted_kept_in repo es)

pub aborted_open : (own repo : ℕ) (c : Contents) → TableFits own c → open_requests (aborted_of c repo) ≡ filter (λ q. not (nat_eq q.tx.repo repo)) (open_requests c)
aborted_open own repo c h = aborted_open_in own repo c.transactions.pairs h.each

pub aborted_kept : (repo : ℕ) (c : Contents) → kept_decisions (aborted_of c repo) ≡ kept_decisions c
aborted_kept repo c = aborted_kept_in repo c.transactions.pairs
