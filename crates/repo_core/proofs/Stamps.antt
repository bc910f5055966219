-- What is open in a table that fits.
use Rattle.log_entries.specs.RequestForm.{RequestFits}
use Rattle.log_entries.specs.declared.request.Request.{Request}
use Rattle.repo_state.proofs.Kept.{open_fits}
use Rattle.repo_state.specs.Keeps.{Keeps, Stands}
use Rattle.repo_state.specs.declared.held.Held.{Held}
use Rattle.repo_core.specs.Behind.{has_prepared, is_of_session}
use Rattle.std.proofs.Common.{Bool, List, None, Option, Some, [], ◌∷◌, cond, false, is_some, refl, subst, sym, true, ℕ, ◌≡◌}
use Rattle.std.specs.BTreeMap.{is_at}
use Rattle.std.specs.Cmp.{Equal-is}
use Rattle.std.specs.List.{AllByRecursion}
use Rattle.std.specs.Map.{lookup}
use Rattle.std.specs.Prelude.{option_and_then}
use Rattle.thor_value.proofs.NameOrders.{ts_exact}
use Rattle.thor_value.specs.FiniteMap.{get}
use Rattle.thor_value.specs.Names.{ts_cmp}
use Rattle.thor_value.specs.Spelling.{TsFits}
use Rattle.thor_value.specs.declared.names.Ts.{Ts}
use Rattle.two_phase.specs.Contents.{open_at, request_of}
use Rattle.two_phase.specs.declared.transaction.Transaction.{Transaction}

stamp_in : (repo : ℕ) (t : Ts) (es : List (Ts × Transaction)) → AllByRecursion (Stands repo) es → (x : Transaction) → lookup (is_at (ts_cmp t)) es ≡ Some x → TsFits t
stamp_in repo t [] h x is = cc
stamp_in repo t (e ∷ es) h x is = by (is_at (ts_cmp t) e.0) refl is (stamp_in repo t es h.1 x)
  where
    by : (b : Bool) → is_at (ts_cmp t) e.0 ≡ b → cond b (Some e.1) (lookup (is_at (ts_cmp t)) es) ≡ Some x → (lookup (is_at (ts_cmp t)) es ≡ Some x → TsFits t) → TsFits t
    by true at is rest = subst TsFits (sym (ts_exact t e.0 ((Equal-is (ts_cmp t e.0)).0 at))) h.0.0
    by false at is rest = rest is

found : (o : Option Transaction) (q : Request) → option_and_then request_of o ≡ Some q → (x : Transaction) × (o ≡ Some x)
found None q e = absurd (cc)
found (Some x) q e = (x, refl)

-- the timestamp of a request that is open
pub stamp_fits : (h : Held) (t : Ts) (q : Request) → Keeps h → open_at h.table t ≡ Some q → TsFits t
stamp_fits h t q k is = let p = found (get h.table.transactions t) q is in stamp_in h.repo t h.table.transactions.pairs k.table.each p.0 p.1

pub request_fits : (h : Held) (t : Ts) (q : Request) → Keeps h → open_at h.table t ≡ Some q → RequestFits q
request_fits h t q k is = (open_fits h.repo h.table k.table t q is).0

some_from : (o : Option Request) → is_some o ≡ true → (q : Request) × (o ≡ Some q)
some_from None e = absurd (cc)
some_from (Some q) e = (q, refl)

prepared_from : (s : ℕ) (o : Option Request) → is_of_session s o ≡ true → (q : Request) × (o ≡ Some q)
prepared_from s None e = absurd (cc)
prepared_from s (Some q) e = (q, refl)

-- the timestamp of what is open
pub open_stamp : (h : Held) (t : Ts) → Keeps h → is_some (open_at h.table t) ≡ true → TsFits t
open_stamp h t k is = let p = some_from (open_at h.table t) is in stamp_fits h t p.0 k p.1

-- the timestamp of what a session has prepared
pub prepared_stamp : (h : Held) (s : ℕ) (t : Ts) → Keeps h → has_prepared h s t ≡ true → TsFits t
prepared_stamp h s t k is = let p = prepared_from s (open_at h.table t) is in stamp_fits h t p.0 k p.1
