-- What a table has behind one more entry, and behind a decision that is forgotten.
use Rattle.log_entries.specs.declared.request.Request.{Request}
use Rattle.law_repo_memory.proofs.Maps.{if_stays, key-turned, lookup-stays, then-cond}
use Rattle.std.proofs.Common.{Bool, ap, cond, refl, ◌≡◌, ◌∙◌, ℕ}
use Rattle.std.specs.Option.{option_and_then}
use Rattle.std.specs.Ordering.{eq_by_cmp}
use Rattle.std.specs.Prelude.{None, Option, Some, false, nat_eq, not, true}
use Rattle.thor_value.proofs.FiniteMap.{get-insert, get-remove}
use Rattle.thor_value.proofs.NameOrders.{ts_total}
use Rattle.thor_value.specs.FiniteMap.{IsSorted, get, insert}
use Rattle.thor_value.specs.Names.{ts_cmp}
use Rattle.thor_value.specs.declared.names.Ts.{Ts}
use Rattle.two_phase.specs.Contents.{Contents, is_decision, keeps, open_at, request_of, without}
use Rattle.two_phase.specs.Lists.{aborted_of, stays_without}
use Rattle.two_phase.specs.declared.transaction.Transaction.TheVariants as kept
use Rattle.two_phase.specs.declared.transaction.Transaction.{Transaction}

-- ---- one place of a table

abbrev pub put_in : Contents → Ts → Transaction → Contents
put_in c u v = record c { transactions = insert c.transactions u v }

pub open-in : (c : Contents) (u : Ts) (v : Transaction) (t : Ts) → open_at (put_in c u v) t ≡ cond (eq_by_cmp ts_cmp t u) (request_of v) (open_at c t)
open-in c u v t = ap (option_and_then request_of) (get-insert ts_total c.transactions u v t) ∙ then-cond request_of (eq_by_cmp ts_cmp t u) (Some v) (get c.transactions t)

keeps-cond : (x : Bool) (o p : Option Transaction) → keeps (cond x o p) ≡ cond x (keeps o) (keeps p)
keeps-cond true o p = refl
keeps-cond false o p = refl

pub keeps-in : (c : Contents) (u : Ts) (v : Transaction) (t : Ts) → keeps (get (put_in c u v).transactions t) ≡ cond (eq_by_cmp ts_cmp t u) (is_decision v) (keeps (get c.transactions t))
keeps-in c u v t = ap keeps (get-insert ts_total c.transactions u v t) ∙ keeps-cond (eq_by_cmp ts_cmp t u) (Some v) (get c.transactions t)

get-out : (c : Contents) (u t : Ts) → IsSorted c.transactions → get (without c u).transactions t ≡ cond (eq_by_cmp ts_cmp t u) None (get c.transactions t)
get-out c u t h = get-remove ts_total c.transactions u t h ∙ ap (λ x. cond x None (get c.transactions t)) (key-turned u t)

pub open-out : (c : Contents) (u t : Ts) → IsSorted c.transactions → open_at (without c u) t ≡ cond (eq_by_cmp ts_cmp t u) None (open_at c t)
open-out c u t h = ap (option_and_then request_of) (get-out c u t h) ∙ then-cond request_of (eq_by_cmp ts_cmp t u) None (get c.transactions t)

pub keeps-out : (c : Contents) (u t : Ts) → IsSorted c.transactions → keeps (get (without c u).transactions t) ≡ cond (eq_by_cmp ts_cmp t u) false (keeps (get c.transactions t))
keeps-out c u t h = ap keeps (get-out c u t h) ∙ keeps-cond (eq_by_cmp ts_cmp t u) None (get c.transactions t)

-- ---- a life

get-life : (c : Contents) (repo : ℕ) (t : Ts) → IsSorted c.transactions → get (aborted_of c repo).transactions t ≡ option_and_then (if_stays (stays_without repo) t) (get c.transactions t)
get-life c repo t h = lookup-stays (stays_without repo) t c.transactions.pairs h

pub open-aborted : (c : Contents) (repo : ℕ) (t : Ts) → IsSorted c.transactions → open_at (aborted_of c repo) t ≡ cond (nat_eq t.repo repo) None (open_at c t)
open-aborted c repo t h = ap (option_and_then request_of) (get-life c repo t h) ∙ by (get c.transactions t) (nat_eq t.repo repo) refl
  where
    by : (o : Option Transaction) (x : Bool) → nat_eq t.repo repo ≡ x → option_and_then request_of (option_and_then (if_stays (stays_without repo) t) o) ≡ cond x None (option_and_then request_of o)
    by None true e = refl
    by None false e = refl
    by (Some (kept.Open q)) true e = ap (λ x. option_and_then request_of (cond (not x) (Some (kept.Open q)) None)) e
    by (Some (kept.Open q)) false e = ap (λ x. option_and_then request_of (cond (not x) (Some (kept.Open q)) None)) e
    by (Some kept.Kept) true e = refl
    by (Some kept.Kept) false e = refl

pub keeps-aborted : (c : Contents) (repo : ℕ) (t : Ts) → IsSorted c.transactions → keeps (get (aborted_of c repo).transactions t) ≡ keeps (get c.transactions t)
keeps-aborted c repo t h = ap keeps (get-life c repo t h) ∙ by (get c.transactions t)
  where
    opened : (q : Request) (x : Bool) → keeps (cond x (Some (kept.Open q)) None) ≡ false
    opened q true = refl
    opened q false = refl

    by : (o : Option Transaction) → keeps (option_and_then (if_stays (stays_without repo) t) o) ≡ keeps o
    by None = refl
    by (Some (kept.Open q)) = opened q (not (nat_eq t.repo repo))
    by (Some kept.Kept) = refl
