-- What holds of a table stays behind each change of it.
use Rattle.std.proofs.Common.{◌≡◌, Bool, List, Some, [], ◌∷◌, cond, false, nat_eq, refl, subst, true, ℕ}
use Rattle.std.proofs.lemmas.Bool.{eqb-true, and_parts}
use Rattle.std.proofs.lemmas.Map.Lookups.{CmpEqualImpliesEq, exact_unsigned}
use Rattle.std.specs.BTreeMap.{insert_entry, is_at}
use Rattle.std.specs.Cmp.{nat_cmp_total}
use Rattle.std.specs.List.{AllByRecursion, filter}
use Rattle.std.specs.List.Sorted.{IsStrictlySortedBy}
use Rattle.std.specs.Map.{keys_of, lookup, remove_entry}
use Rattle.std.specs.Option.{option_and_then}
use Rattle.std.specs.Ordering.{match_ordering, nat_cmp}
use Rattle.std.specs.Prelude.{IsTrue}
use Rattle.std.specs.declared.cmp.Ordering.{Ordering}
use Rattle.std.specs.declared.cmp.Ordering.TheVariants.{Equal, Greater, Less}
use Rattle.log_entries.specs.RequestForm.{RequestFits, WriteFits}
use Rattle.log_entries.specs.declared.request.Request.{Request}
use Rattle.log_codec.specs.Checkpoint.{StampFits}
use Rattle.mob_buffer.specs.Buffer.{AreOf}
use Rattle.thor_value.proofs.FiniteMap.{IsSorted-insert, IsSorted-remove}
use Rattle.thor_value.proofs.NameOrders.{ts_exact, ts_total}
use Rattle.thor_value.specs.FiniteMap.{insert}
use Rattle.thor_value.specs.Names.{ts_cmp}
use Rattle.thor_value.specs.Spelling.{TsFits}
use Rattle.thor_value.specs.declared.names.Oref.{Oref}
use Rattle.thor_value.specs.declared.names.Ts.{Ts}
use Rattle.thor_value.specs.declared.values.Obj.{Obj}
use Rattle.two_phase.specs.Contents.{Contents, keeping, open_at, request_of, without}
use Rattle.two_phase.specs.Lists.{aborted_of, stays_without}
use Rattle.two_phase.specs.declared.transaction.Transaction.TheVariants as kept
use Rattle.two_phase.specs.declared.transaction.Transaction.{Transaction}
use Rattle.repo_state.specs.Entering.{opened_in}
use Rattle.commit_log.specs.Recovered.{are_of}
use Rattle.repo_state.specs.Keeps.{Stands, TableFits}

-- ---- lists

module _ {K X : Type 0} (R : K → K → Ordering) (exact : CmpEqualImpliesEq R) (P : K × X → Type 0) where
  pub each_put : (es : List (K × X)) (k : K) (v : X) → AllByRecursion P es → P (k, v) → AllByRecursion P (insert_entry R es k v)
  each_put [] k v h new = (new, tt)
  each_put (e ∷ es) k v h new = by (R k e.0) refl (each_put es k v h.1 new)
    where
      by : (o : Ordering) → R k e.0 ≡ o → AllByRecursion P (insert_entry R es k v) → AllByRecursion P (match_ordering o ((k, v) ∷ e ∷ es) ((e.0, v) ∷ es) (e ∷ insert_entry R es k v))
      by Less is rest = (new, h)
      by Equal is rest = (subst (λ (j : K). P (j, v)) (exact k e.0 is) new, h.1)
      by Greater is rest = (h.0, rest)

  pub each_removed : (test : K → Bool) (es : List (K × X)) → AllByRecursion P es → AllByRecursion P (remove_entry test es)
  each_removed test [] h = tt
  each_removed test (e ∷ es) h = by (test e.0) (each_removed test es h.1)
    where
      by : (b : Bool) → AllByRecursion P (remove_entry test es) → AllByRecursion P (cond b es (e ∷ remove_entry test es))
      by true rest = h.1
      by false rest = (h.0, rest)

  pub each_filtered : (p : K × X → Bool) (es : List (K × X)) → AllByRecursion P es → AllByRecursion P (filter p es)
  each_filtered p [] h = tt
  each_filtered p (e ∷ es) h = by (p e) (each_filtered p es h.1)
    where
      by : (b : Bool) → AllByRecursion P (filter p es) → AllByRecursion P (cond b (e ∷ filter p es) (filter p es))
      by true rest = (h.0, rest)
      by false rest = rest

below_filtered : (P : Ts → Type 0) (p : Ts × Transaction → Bool) (es : List (Ts × Transaction)) → AllByRecursion P (keys_of es) → AllByRecursion P (keys_of (filter p es))
below_filtered P p [] h = tt
below_filtered P p (e ∷ es) h = by (p e) (below_filtered P p es h.1)
  where
    by : (b : Bool) → AllByRecursion P (keys_of (filter p es)) → AllByRecursion P (keys_of (cond b (e ∷ filter p es) (filter p es)))
    by true rest = (h.0, rest)
    by false rest = rest

sorted_filtered : (p : Ts × Transaction → Bool) (es : List (Ts × Transaction)) → IsStrictlySortedBy ts_cmp (keys_of es) → IsStrictlySortedBy ts_cmp (keys_of (filter p es))
unfolding IsStrictlySortedBy
sorted_filtered p [] h = tt
sorted_filtered p (e ∷ es) h = by (p e) (sorted_filtered p es h.1)
  where
    by : (b : Bool) → IsStrictlySortedBy ts_cmp (keys_of (filter p es)) → IsStrictlySortedBy ts_cmp (keys_of (cond b (e ∷ filter p es) (filter p es)))
    by true rest = (below_filtered (λ y. ts_cmp e.0 y ≡ Less) p es h.0, rest)
    by false rest = rest

-- ---- one table

module _ (repo : ℕ) (c : Contents) (h : TableFits repo c) where
  pub fits_open : (q : Request) → RequestFits q → AreOf repo q.writes → TableFits repo (opened_in c q)
  fits_open q fit of = record {
    sorted = IsSorted-insert ts_total c.transactions q.tx (kept.Open q) h.sorted;
    each = each_put ts_cmp ts_exact (Stands repo) c.transactions.pairs q.tx (kept.Open q) h.each (fit.tx, (refl, (fit, of)));
    alone_sorted = h.alone_sorted;
    alone = h.alone;
  }

  pub fits_keeping : (t : Ts) → TsFits t → TableFits repo (keeping c t)
  fits_keeping t fit = record {
    sorted = IsSorted-insert ts_total c.transactions t kept.Kept h.sorted;
    each = each_put ts_cmp ts_exact (Stands repo) c.transactions.pairs t kept.Kept h.each (fit, tt);
    alone_sorted = h.alone_sorted;
    alone = h.alone;
  }

  pub fits_without : (t : Ts) → TableFits repo (without c t)
  fits_without t = record {
    sorted = IsSorted-remove ts_cmp c.transactions t h.sorted;
    each = each_removed ts_cmp ts_exact (Stands repo) (is_at (ts_cmp t)) c.transactions.pairs h.each;
    alone_sorted = h.alone_sorted;
    alone = h.alone;
  }

  pub fits_aborted : (own : ℕ) → TableFits repo (aborted_of c own)
  fits_aborted own = record {
    sorted = sorted_filtered (stays_without own) c.transactions.pairs h.sorted;
    each = each_filtered ts_cmp ts_exact (Stands repo) (stays_without own) c.transactions.pairs h.each;
    alone_sorted = h.alone_sorted;
    alone = h.alone;
  }

  pub fits_alone : (client : ℕ) (t : Ts) → TsFits t → TableFits repo (record c { alone = insert c.alone client t })
  fits_alone client t fit = record {
    sorted = h.sorted;
    each = h.each;
    alone_sorted = IsSorted-insert nat_cmp_total c.alone client t h.alone_sorted;
    alone = each_put nat_cmp exact_unsigned StampFits c.alone.pairs client t h.alone fit;
  }

-- what stands open fits
open_fits_in : (repo : ℕ) (t : Ts) (es : List (Ts × Transaction)) → AllByRecursion (Stands repo) es → (q : Request) → option_and_then request_of (lookup (is_at (ts_cmp t)) es) ≡ Some q → RequestFits q × AreOf repo q.writes
open_fits_in repo t [] h q is = cc
open_fits_in repo t ((u, kept.Open p) ∷ es) h q is = by (is_at (ts_cmp t) u) is (open_fits_in repo t es h.1 q)
  where
    by : (b : Bool) → option_and_then request_of (cond b (Some (kept.Open p)) (lookup (is_at (ts_cmp t)) es)) ≡ Some q → (option_and_then request_of (lookup (is_at (ts_cmp t)) es) ≡ Some q → RequestFits q × AreOf repo q.writes) → RequestFits q × AreOf repo q.writes
    by true is rest = let e : p ≡ q = cc in subst (λ (r : Request). RequestFits r × AreOf repo r.writes) e h.0.1.1
    by false is rest = rest is
open_fits_in repo t ((u, kept.Kept) ∷ es) h q is = by (is_at (ts_cmp t) u) is (open_fits_in repo t es h.1 q)
  where
    by : (b : Bool) → option_and_then request_of (cond b (Some kept.Kept) (lookup (is_at (ts_cmp t)) es)) ≡ Some q → (option_and_then request_of (lookup (is_at (ts_cmp t)) es) ≡ Some q → RequestFits q × AreOf repo q.writes) → RequestFits q × AreOf repo q.writes
    by true is rest = cc
    by false is rest = rest is

pub open_fits : (repo : ℕ) (c : Contents) → TableFits repo c → (t : Ts) (q : Request) → open_at c t ≡ Some q → RequestFits q × AreOf repo q.writes
open_fits repo c h t q is = open_fits_in repo t c.transactions.pairs h.each q is

-- ---- writes of one repository

pub of_writes : (repo : ℕ) (writes : List (Oref × Obj)) → IsTrue (are_of repo writes) → AllByRecursion WriteFits writes → AreOf repo writes
of_writes repo [] all fit = tt
of_writes repo (w ∷ ws) all fit = (record { repo_is = eqb-true w.0.repo repo ((and_parts (nat_eq w.0.repo repo) (are_of repo ws) all).0); name = fit.0.0; object = fit.0.1 }, of_writes repo ws ((and_parts (nat_eq w.0.repo repo) (are_of repo ws) all).1) fit.1)
