-- Decisions of earlier lives that go.
use Rattle.repo_state.specs.declared.held.Held.{Held}
use Rattle.repo_core.specs.Restarting.{LetsGo}
use Rattle.std.proofs.Common.{Bool, Option, ap, arith, cond, false, refl, subst, sym, true, ℕ, ◌<◌, ◌∙◌, ◌≡◌, ◌≤◌}
use Rattle.std.specs.Cmp.{Equal-is}
use Rattle.std.specs.Ordering.{eq_by_cmp}
use Rattle.std.specs.Prelude.{None, Some, option_and_then}
use Rattle.thor_value.proofs.FiniteMap.{IsSorted-remove, get-remove}
use Rattle.thor_value.proofs.NameOrders.{ts_exact, ts_total}
use Rattle.thor_value.specs.FiniteMap.{get}
use Rattle.thor_value.specs.Names.{ts_cmp}
use Rattle.thor_value.specs.declared.names.Ts.{Ts}
use Rattle.two_phase.specs.Contents.{Contents, keeps, request_of, without}
use Rattle.two_phase.specs.declared.transaction.Transaction.TheVariants as kept
use Rattle.two_phase.specs.declared.transaction.Transaction.{Transaction}

pub goes_itself : (life : ℕ) (c : Contents) → LetsGo life c c
goes_itself life c = record { sorted = λ s. s; same = λ s t. refl; kept = λ s t l. refl; alone = refl }

pub goes_on : (life : ℕ) (a b c : Contents) → LetsGo life a b → LetsGo life b c → LetsGo life a c
goes_on life a b c f g = record {
  sorted = λ s. g.sorted (f.sorted s);
  same = λ s t. g.same (f.sorted s) t ∙ f.same s t;
  kept = λ s t l. g.kept (f.sorted s) t l ∙ f.kept s t l;
  alone = g.alone ∙ f.alone;
}

no_request : (o : Option Transaction) → keeps o ≡ true → option_and_then request_of o ≡ None
no_request None k = absurd (cc)
no_request (Some (kept.Open q)) k = absurd (cc)
no_request (Some kept.Kept) k = refl

open_without : (o p : Option Transaction) (x : Bool) → (x ≡ true → o ≡ p) → keeps p ≡ true → option_and_then request_of (cond x None o) ≡ option_and_then request_of o
open_without o p true same k = sym (no_request o (subst (λ (q : Option Transaction). keeps q ≡ true) (sym (same refl)) k))
open_without o p false same k = refl

kept_without : (o : Option Transaction) (x : Bool) → (x ≡ true → ⊥) → keeps (cond x None o) ≡ keeps o
kept_without o true never = absurd (never refl)
kept_without o false never = refl

same_stamp : (t u : Ts) → eq_by_cmp ts_cmp t u ≡ true → t ≡ u
same_stamp t u is = ts_exact t u ((Equal-is (ts_cmp t u)).0 is)

-- a decision of a life before this one goes
pub one_goes : (life : ℕ) (c : Contents) (t : Ts) → t.life < life → LetsGo life c (cond (keeps (get c.transactions t)) (without c t) c)
one_goes life c t earlier = by (keeps (get c.transactions t)) refl
  where
    never : (u : Ts) → life ≤ u.life → eq_by_cmp ts_cmp t u ≡ true → ⊥
    never u l is =
        let same : t.life ≡ u.life = ap (λ (s : Ts). s.life) (same_stamp t u is) in
        omega (arith, same, l, earlier)

    by : (k : Bool) → keeps (get c.transactions t) ≡ k → LetsGo life c (cond k (without c t) c)
    by false k = goes_itself life c
    by true k = record {
      sorted = λ s. IsSorted-remove ts_cmp c.transactions t s;
      same = λ s u. ap (option_and_then request_of) (get-remove ts_total c.transactions t u s)
          ∙ open_without (get c.transactions u) (get c.transactions t) (eq_by_cmp ts_cmp t u) (λ is. ap (get c.transactions) (sym (same_stamp t u is))) k;
      kept = λ s u l. ap keeps (get-remove ts_total c.transactions t u s) ∙ kept_without (get c.transactions u) (eq_by_cmp ts_cmp t u) (never u l);
      alone = refl;
    }

abbrev pub table_in : Held → Contents
table_in h = h.table

-- what is held without it
pub one_goes_in : (life : ℕ) (old new : Held) (t : Ts) → new ≡ record old { table = cond (keeps (get old.table.transactions t)) (without old.table t) old.table } → t.life < life → LetsGo life old.table new.table
one_goes_in life old new t is earlier = subst (LetsGo life old.table) (sym (ap table_in is)) (one_goes life old.table t earlier)

pub table_alone : (old new : Held) (t : Ts) → new ≡ record old { table = cond (keeps (get old.table.transactions t)) (without old.table t) old.table } → new ≡ record old { table = new.table }
table_alone old new t is = is ∙ ap (λ (c : Contents). record old { table = c }) (sym (ap table_in is))

pub table_on : (a b c : Held) → b ≡ record a { table = b.table } → c ≡ record b { table = c.table } → c ≡ record a { table = c.table }
table_on a b c p q = q ∙ ap (λ (h : Held). record h { table = c.table }) p
