-- A table made of a checkpoint's lists.
use Rattle.std.proofs.Common.{◌≡◌, List, None, Option, Some, [], ◌∷◌, ◌++◌, ap, append_assoc, arith, cond, false, map, refl, subst, sym, ℕ, ◌<◌, ◌^◌, ◌∙◌}
use Rattle.std.specs.BTreeMap.{insert_entry, is_at}
use Rattle.std.specs.Cmp.{IsTotalOrder, nat_cmp_total}
use Rattle.std.specs.List.{AllByRecursion}
use Rattle.std.specs.List.Sorted.{IsStrictlySortedBy}
use Rattle.std.specs.Map.{keys_of, lookup, values_of}
use Rattle.std.specs.Option.{is_some, option_and_then}
use Rattle.std.specs.Ordering.{is_eq, match_ordering, nat_cmp, ordering_reverse}
use Rattle.std.specs.Prelude.{IsTrue}
use Rattle.std.specs.declared.cmp.Ordering.{Ordering}
use Rattle.std.specs.declared.cmp.Ordering.TheVariants.{Equal, Greater, Less}
use Rattle.log_entries.specs.RequestForm.{RequestFits}
use Rattle.log_entries.specs.declared.request.Request.{Request}
use Rattle.log_codec.specs.Checkpoint.{RootFits, StampFits, StateFits, client_of, tx_of}
use Rattle.log_codec.specs.declared.state.State.{State}
use Rattle.page_format.specs.declared.format.StoreFormat.{StoreFormat}
use Rattle.page_format.specs.declared.format.StoreFormat.TheVariants.{Two}
use Rattle.commit_log.specs.Recovered.{in_format}
use Rattle.mob_buffer.specs.Buffer.{AreOf}
use Rattle.thor_value.proofs.NameOrders.{ts_exact, ts_total}
use Rattle.thor_value.specs.FiniteMap.{Map, get, has, insert}
use Rattle.thor_value.specs.Names.{ts_cmp}
use Rattle.thor_value.specs.Spelling.{TsFits}
use Rattle.thor_value.specs.declared.names.Oref.{Oref}
use Rattle.thor_value.specs.declared.names.Ts.{Ts}
use Rattle.thor_value.specs.declared.values.Obj.{Obj}
use Rattle.two_phase.proofs.Lists.{lookup_those, remove_absent, those_covered, those_put}
use Rattle.two_phase.specs.Contents.{Contents, keeping, nothing, request_of}
use Rattle.two_phase.specs.Lists.{decision_of, those}
use Rattle.two_phase.specs.declared.transaction.Transaction.TheVariants as kept
use Rattle.two_phase.specs.declared.transaction.Transaction.{Transaction}
use Rattle.repo_state.proofs.Kept.{each_put, fits_alone, fits_keeping, of_writes}
use Rattle.repo_state.specs.Entering.{opened_in}
use Rattle.commit_log.specs.Recovered.{are_of}
use Rattle.repo_state.specs.Keeps.{Keeps, Stands}
use Rattle.repo_state.specs.declared.held.Held.{Held}
use Rattle.repo_state.specs.Making.{AlonesTo, IsTableOf, KeepsTo, OpensTo, as_open, stamped}

-- ---- the next key

moved_front : {X : Type 0} (es fs : List X) (x : X) → (es ++ x ∷ []) ++ fs ≡ es ++ x ∷ fs
moved_front es fs x = simp append_assoc

later : {K : Type 0} {R : K → K → Ordering} → IsTotalOrder R → (k j : K) → R j k ≡ Less → R k j ≡ Greater
later o k j is = o.antisymm k j ∙ ap ordering_reverse is

module _ {K X : Type 0} {R : K → K → Ordering} (o : IsTotalOrder R) where
  at_next : (P : K → Type 0) (es rest : List (K × X)) (k : K) (v : X) → AllByRecursion P (keys_of (es ++ (k, v) ∷ rest)) → P k
  at_next P [] rest k v h = h.0
  at_next P (e ∷ es) rest k v h = at_next P es rest k v h.1

  -- it comes behind all
  pub put_next : (es rest : List (K × X)) (k : K) (v : X) → IsStrictlySortedBy R (keys_of (es ++ (k, v) ∷ rest)) → insert_entry R es k v ≡ es ++ (k, v) ∷ []
  unfolding IsStrictlySortedBy
  put_next [] rest k v h = refl
  put_next (e ∷ es) rest k v h = by (R k e.0) (later o k e.0 (at_next (λ y. R e.0 y ≡ Less) es rest k v h.0)) (put_next es rest k v h.1)
    where
      by : (c : Ordering) → c ≡ Greater → insert_entry R es k v ≡ es ++ (k, v) ∷ [] → match_ordering c ((k, v) ∷ e ∷ es) ((e.0, v) ∷ es) (e ∷ insert_entry R es k v) ≡ e ∷ (es ++ (k, v) ∷ [])
      by Less is rest_is = cc
      by Equal is rest_is = cc
      by Greater is rest_is = ap (λ (fs : List (K × X)). e ∷ fs) rest_is

  -- and isn't there yet
  pub none_yet : (es rest : List (K × X)) (k : K) (v : X) → IsStrictlySortedBy R (keys_of (es ++ (k, v) ∷ rest)) → lookup (is_at (R k)) es ≡ None
  unfolding IsStrictlySortedBy
  none_yet [] rest k v h = refl
  none_yet (e ∷ es) rest k v h = by (R k e.0) (later o k e.0 (at_next (λ y. R e.0 y ≡ Less) es rest k v h.0)) (none_yet es rest k v h.1)
    where
      by : (c : Ordering) → c ≡ Greater → lookup (is_at (R k)) es ≡ None → cond (is_eq c) (Some e.1) (lookup (is_at (R k)) es) ≡ None
      by Less is rest_is = cc
      by Equal is rest_is = cc
      by Greater is rest_is = rest_is

  sorted_front : (es fs : List (K × X)) → IsStrictlySortedBy R (keys_of (es ++ fs)) → IsStrictlySortedBy R (keys_of es)
  unfolding IsStrictlySortedBy
  sorted_front [] fs h = tt
  sorted_front (e ∷ es) fs h = (below_front (λ y. R e.0 y ≡ Less) es fs h.0, sorted_front es fs h.1)
    where
      below_front : (P : K → Type 0) (ds gs : List (K × X)) → AllByRecursion P (keys_of (ds ++ gs)) → AllByRecursion P (keys_of ds)
      below_front P [] gs g = tt
      below_front P (d ∷ ds) gs g = (g.0, below_front P ds gs g.1)

nothing_sorted : {K : Type 0} (R : K → K → Ordering) → IsStrictlySortedBy R []
unfolding IsStrictlySortedBy
nothing_sorted R = tt

-- ---- requests

open_keys : (qs : List Request) → keys_of (map as_open qs) ≡ map tx_of qs
open_keys [] = refl
open_keys (q ∷ qs) = ap (λ (ts : List Ts). q.tx ∷ ts) (open_keys qs)

pub opens_sorted : (qs : List Request) → IsStrictlySortedBy ts_cmp (map tx_of qs) → IsStrictlySortedBy ts_cmp (keys_of (map as_open qs))
opens_sorted qs h = subst (IsStrictlySortedBy ts_cmp) (sym (open_keys qs)) h

module _ (repo : ℕ) (prepared : List Request) (rise : IsStrictlySortedBy ts_cmp (map tx_of prepared)) where
  in_order : (c : Contents) (rest : List Request) → OpensTo repo prepared c rest → IsStrictlySortedBy ts_cmp (keys_of (c.transactions.pairs ++ map as_open rest))
  in_order c rest to = subst (λ (es : List (Ts × Transaction)). IsStrictlySortedBy ts_cmp (keys_of es)) (sym to.pairs) (opens_sorted prepared rise)

  pub open_new : (c : Contents) (q : Request) (rest : List Request) → OpensTo repo prepared c (q ∷ rest) → get c.transactions q.tx ≡ None
  open_new c q rest to = none_yet ts_total c.transactions.pairs (map as_open rest) q.tx (kept.Open q) (in_order c (q ∷ rest) to)

  pub open_next : (c : Contents) (q : Request) (rest : List Request) → OpensTo repo prepared c (q ∷ rest) → IsTrue (are_of repo q.writes) → OpensTo repo prepared (opened_in c q) rest
  open_next c q rest to of =
      let put : insert_entry ts_cmp c.transactions.pairs q.tx (kept.Open q) ≡ c.transactions.pairs ++ as_open q ∷ [] = put_next ts_total c.transactions.pairs (map as_open rest) q.tx (kept.Open q) (in_order c (q ∷ rest) to) in
      record {
        pairs = ap (λ (es : List (Ts × Transaction)). es ++ map as_open rest) put ∙ moved_front c.transactions.pairs (map as_open rest) (as_open q) ∙ to.pairs;
        alone = to.alone;
        each = each_put ts_cmp ts_exact (Stands repo) c.transactions.pairs q.tx (kept.Open q) to.each (to.fit.0.tx, (refl, (to.fit.0, of_writes repo q.writes of to.fit.0.writes)));
        fit = to.fit.1;
      }

  opened_values : (qs : List Request) → values_of (those request_of (map as_open qs)) ≡ qs
  opened_values [] = refl
  opened_values (q ∷ qs) = ap (λ (ps : List Request). q ∷ ps) (opened_values qs)

  none_kept : (qs : List Request) → those decision_of (map as_open qs) ≡ []
  none_kept [] = refl
  none_kept (q ∷ qs) = none_kept qs

  pairs_all : (c : Contents) → OpensTo repo prepared c [] → c.transactions.pairs ≡ map as_open prepared
  pairs_all c to = sym (append_nil c.transactions.pairs) ∙ to.pairs
    where
      append_nil : (es : List (Ts × Transaction)) → es ++ [] ≡ es
      append_nil [] = refl
      append_nil (e ∷ es) = ap (λ (fs : List (Ts × Transaction)). e ∷ fs) (append_nil es)

  -- all are open: then decisions are kept
  pub then_keeps : (decisions : List Ts) (c : Contents) → OpensTo repo prepared c [] → AllByRecursion TsFits decisions → KeepsTo repo prepared decisions c decisions
  then_keeps decisions c to fit =
      let is = pairs_all c to in
      record {
        kept = ap (λ (es : List (Ts × Transaction)). those decision_of es ++ map stamped decisions) is ∙ ap (λ (es : List (Ts × Unit {0})). es ++ map stamped decisions) (none_kept prepared);
        opened = ap (λ (es : List (Ts × Transaction)). values_of (those request_of es)) is ∙ opened_values prepared;
        alone = to.alone;
        fits = record {
          sorted = subst (λ (es : List (Ts × Transaction)). IsStrictlySortedBy ts_cmp (keys_of es)) (sym is) (opens_sorted prepared rise);
          each = to.each;
          alone_sorted = subst (λ (a : Map nat_cmp Ts). IsStrictlySortedBy nat_cmp (keys_of a.pairs)) (sym to.alone) (nothing_sorted nat_cmp);
          alone = subst (λ (a : Map nat_cmp Ts). AllByRecursion StampFits a.pairs) (sym to.alone) tt;
        };
        fit = fit;
      }

-- ---- decisions

stamp_keys : (ts : List Ts) → keys_of (map stamped ts) ≡ ts
stamp_keys [] = refl
stamp_keys (t ∷ ts) = ap (λ (us : List Ts). t ∷ us) (stamp_keys ts)

module _ (repo : ℕ) (prepared : List Request) (decisions : List Ts) (rise : IsStrictlySortedBy ts_cmp decisions) where
  pub stamps_in_order : (c : Contents) (rest : List Ts) → KeepsTo repo prepared decisions c rest → IsStrictlySortedBy ts_cmp (keys_of (those decision_of c.transactions.pairs ++ map stamped rest))
  stamps_in_order c rest to = subst (λ (es : List (Ts × Unit {0})). IsStrictlySortedBy ts_cmp (keys_of es)) (sym to.kept) (subst (IsStrictlySortedBy ts_cmp) (sym (stamp_keys decisions)) rise)

  not_there : {X : Type 0} (o : Option X) → is_some o ≡ false → o ≡ None
  not_there None isnt = refl
  not_there (Some x) isnt = cc

  pub keep_new : (c : Contents) (t : Ts) → has c.transactions t ≡ false → get c.transactions t ≡ None
  keep_new c t isnt = not_there (get c.transactions t) isnt

  pub keep_next : (c : Contents) (t : Ts) (rest : List Ts) → has c.transactions t ≡ false → KeepsTo repo prepared decisions c (t ∷ rest) → KeepsTo repo prepared decisions (keeping c t) rest
  keep_next c t rest isnt to =
      let sorted = to.fits.sorted in
      let none = keep_new c t isnt in
      let put = those_put decision_of c.transactions t kept.Kept (tt {0}) sorted refl ∙ put_next ts_total (those decision_of c.transactions.pairs) (map stamped rest) t (tt {0}) (stamps_in_order c (t ∷ rest) to) in
      let stays = those_covered request_of c.transactions t kept.Kept sorted refl ∙ remove_absent t (those request_of c.transactions.pairs) (lookup_those request_of t c.transactions.pairs sorted ∙ ap (option_and_then request_of) none) in
      record {
        kept = ap (λ (es : List (Ts × Unit {0})). es ++ map stamped rest) put ∙ moved_front (those decision_of c.transactions.pairs) (map stamped rest) (stamped t) ∙ to.kept;
        opened = ap (λ (es : List (Ts × Request)). values_of es) stays ∙ to.opened;
        alone = to.alone;
        fits = fits_keeping repo c to.fits t to.fit.0;
        fit = to.fit.1;
      }

  -- all are kept: then come the single commits
  pub then_alone : (singles : List (ℕ × Ts)) (c : Contents) → KeepsTo repo prepared decisions c [] → AllByRecursion StampFits singles → AlonesTo repo prepared decisions singles c singles
  then_alone singles c to fit = record {
    kept = ap (λ (es : List (Ts × Unit {0})). keys_of es) (sym (append_nil (those decision_of c.transactions.pairs)) ∙ to.kept) ∙ stamp_keys decisions;
    opened = to.opened;
    alone = ap (λ (a : Map nat_cmp Ts). a.pairs ++ singles) to.alone;
    fits = to.fits;
    fit = fit;
  }
    where
      append_nil : (es : List (Ts × Unit {0})) → es ++ [] ≡ es
      append_nil [] = refl
      append_nil (e ∷ es) = ap (λ (fs : List (Ts × Unit {0})). e ∷ fs) (append_nil es)

-- ---- single commits

client_keys : (singles : List (ℕ × Ts)) → keys_of singles ≡ map client_of singles
client_keys [] = refl
client_keys (a ∷ singles) = ap (λ (ks : List ℕ). a.0 ∷ ks) (client_keys singles)

pub alone_next : (repo : ℕ) (prepared : List Request) (decisions : List Ts) (singles : List (ℕ × Ts)) → IsStrictlySortedBy nat_cmp (map client_of singles)
    → (c : Contents) (client : ℕ) (t : Ts) (rest : List (ℕ × Ts)) → AlonesTo repo prepared decisions singles c ((client, t) ∷ rest) → AlonesTo repo prepared decisions singles (record c { alone = insert c.alone client t }) rest
alone_next repo prepared decisions singles rise c client t rest to =
    let order = subst (λ (es : List (ℕ × Ts)). IsStrictlySortedBy nat_cmp (keys_of es)) (sym to.alone) (subst (IsStrictlySortedBy nat_cmp) (sym (client_keys singles)) rise) in
    let put = put_next nat_cmp_total c.alone.pairs rest client t order in
    record {
      kept = to.kept;
      opened = to.opened;
      alone = ap (λ (es : List (ℕ × Ts)). es ++ rest) put ∙ moved_front c.alone.pairs rest (client, t) ∙ to.alone;
      fits = fits_alone repo c to.fits client t to.fit.0;
      fit = to.fit.1;
    }

-- ---- the whole

pub opens_all : (repo : ℕ) (prepared : List Request) (c : Contents) → c ≡ nothing → AllByRecursion RequestFits prepared → OpensTo repo prepared c prepared
opens_all repo prepared c is fit = subst (λ (d : Contents). OpensTo repo prepared d prepared) (sym is) (record { pairs = refl; alone = refl; each = tt; fit = fit })

-- what is made of a checkpoint's state keeps what it has to, and says that state
pub keeps_made : (h : Held) (s : State) → StateFits s → h.repo ≡ s.repo → h.life ≡ s.life → h.threshold ≡ s.threshold → h.next_page ≡ s.next_page → h.next_grant ≡ s.next_page → h.roots ≡ s.roots
    → IsTableOf h.repo s.prepared s.kept s.alone h.table → AreOf h.repo h.objects.mob.objects → Keeps h
keeps_made h s fits repo life threshold next grant roots table objects = record {
  table = table.fits;
  objects = objects;
  life = subst (λ (n : ℕ). n < 2 ^ 32) (sym life) fits.life;
  threshold = subst TsFits (sym threshold) fits.threshold;
  next = omega (arith, next, grant);
  pages = omega (arith, grant, fits.next_page);
  roots = subst (AllByRecursion RootFits) (sym roots) fits.roots;
}

pub alone_made : (repo : ℕ) (prepared : List Request) (decisions : List Ts) (singles : List (ℕ × Ts)) (c : Contents) → IsTableOf repo prepared decisions singles c → c.alone.pairs ≡ singles
alone_made repo prepared decisions singles c to = sym (append_nil c.alone.pairs) ∙ to.alone
  where
    append_nil : (es : List (ℕ × Ts)) → es ++ [] ≡ es
    append_nil [] = refl
    append_nil (e ∷ es) = ap (λ (fs : List (ℕ × Ts)). e ∷ fs) (append_nil es)

pub same_made : (s : State) (i : List (ℕ × ℕ)) (m : List (Oref × Obj)) (p : List Request) (k : List Ts) (a : List (ℕ × Ts)) → i ≡ s.installed → m ≡ s.mob → p ≡ s.prepared → k ≡ s.kept → a ≡ s.alone → record s { format = Two; installed = i; mob = m; prepared = p; kept = k; alone = a } ≡ in_format Two s
same_made s i m p k a installed mob prepared kept alone =
    ap (λ (x : List (ℕ × ℕ)). record s { format = Two; installed = x; mob = m; prepared = p; kept = k; alone = a }) installed
    ∙ ap (λ (x : List (Oref × Obj)). record s { format = Two; mob = x; prepared = p; kept = k; alone = a }) mob
    ∙ ap (λ (x : List Request). record s { format = Two; prepared = x; kept = k; alone = a }) prepared
    ∙ ap (λ (x : List Ts). record s { format = Two; kept = x; alone = a }) kept
    ∙ ap (λ (x : List (ℕ × Ts)). record s { format = Two; alone = x }) alone

-- a state of the format that is written is taken as it is
pub own_format : (s : State) → s.format ≡ Two → in_format Two s ≡ s
own_format s is = ap (λ (f : StoreFormat). in_format f s) (sym is)
