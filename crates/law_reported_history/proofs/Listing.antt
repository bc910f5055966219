-- The lines that all traces tell are those of the commits, by rising timestamp.
use Rattle.cluster_core.specs.Committed.{committed_lines, line_by, line_for, take_trace, take_traces}
use Rattle.cluster_core.specs.declared.lines.Coordinated.{Coordinated}
use Rattle.law_atomic_commit.specs.Several.{AreSound, Several, part}
use Rattle.law_global_order.proofs.Listing.{are-the-commits, listed}
use Rattle.law_global_order.proofs.Lists.{In}
use Rattle.law_global_order.specs.Whole.{Commit, commits, whole}
use Rattle.law_lazy_history.specs.Changes.{entries_of, entry_of}
use Rattle.law_reported_history.proofs.Reading.{Lines, Reads, line_as, line_of_part, none-sorted, reads}
use Rattle.law_reported_history.specs.Reported.{history_in, several_of, told_line}
use Rattle.law_serializability.specs.WholeHistory.{change_by, change_of, whole_history}
use Rattle.log_entries.specs.declared.entry.Entry.{Entry}
use Rattle.log_entries.specs.declared.request.Kind.TheVariants.{App, Transform, Upgrade}
use Rattle.log_entries.specs.declared.request.Kind.{Kind}
use Rattle.log_entries.specs.declared.request.Request.{Request}
use Rattle.repo_trace.specs.declared.trace.Trace.{Trace}
use Rattle.serial_model.specs.declared.entries.What.{What}
use Rattle.spec_history.proofs.Prefixes.{fits}
use Rattle.spec_history.specs.History.{Aborted, Base, Committed, Fate, IsCommitted, Known, Open, known_by}
use Rattle.spec_history.specs.Sound.{sound}
use Rattle.std.proofs.Common.{Bool, List, [], ap, arith, false, inl, inr, length, map, refl, subst, suc, sym, true, zero, ℕ, ◌+◌, ◌++◌, ◌<◌, ◌≡◌, ◌≤◌, ◌∙◌, ◌∷◌}
use Rattle.std.proofs.lemmas.Bool.{cases_lt}
use Rattle.std.proofs.lemmas.Map.Views.{tells_apart}
use Rattle.std.specs.BTreeMap.{is_at}
use Rattle.std.specs.List.Sorted.{IsStrictlySortedBy}
use Rattle.std.specs.List.{AllByRecursion, flat_map, slice_get}
use Rattle.std.specs.Map.{keys_of, lookup, values_of}
use Rattle.std.specs.Ordering.{is_eq}
use Rattle.std.specs.Prelude.{None, Option, Some, cond, min}
use Rattle.std.specs.declared.cmp.Ordering.TheVariants.{Less}
use Rattle.thor_value.proofs.FiniteMap.{same_map}
use Rattle.thor_value.proofs.NameOrders.{ts_exact, ts_total}
use Rattle.thor_value.specs.FiniteMap.{IsSorted, empty, get, values}
use Rattle.thor_value.specs.Names.{ts_cmp}
use Rattle.thor_value.specs.declared.names.Ts.{Ts}
use Rattle.thor_value.specs.declared.values.Who.{Who}
use Rattle.top_history_check.specs.declared.assembling.Line.{Line}

-- ---- lists

last-of : {X : Type 0} (xs : List X) (n : ℕ) (x : X) → slice_get xs n ≡ Some x → n < length xs
last-of [] n x e = cc
last-of (y ∷ ys) zero x e = omega arith
last-of (y ∷ ys) (suc n) x e = let l : n < length ys = last-of ys n x e in omega (arith, l)

gap : (n m : ℕ) → n ≤ m → (d : ℕ) × (n + d ≡ m)
gap zero m l = (m, omega arith)
gap (suc n) zero l = absurd (omega (arith, l))
gap (suc n) (suc m) l = let k = gap n m (omega (arith, l)) in (k.0, more n m k.0 k.1)
  where
    more : (n m d : ℕ) → n + d ≡ m → suc n + d ≡ suc m
    more n m d e = omega (arith, e)

-- ---- all traces

abbrev nothing : Coordinated
nothing = record { prepared = empty; committed = empty }

-- Of the repositories below n the lines of what has committed were read, and nothing of the others.
record AreRead (S : Several) (n : ℕ) (s : Coordinated) : Type 0 where
  pub committed : IsSorted s.committed
  pub below : (t : Ts) → t.repo < n → get s.committed t ≡ line_of_part (part S t.repo t)
  pub above : (t : Ts) → n ≤ t.repo → get s.committed t ≡ None

module _ (base : ℕ → Base) (traces : List Trace) (sd : AreSound (several_of base traces)) where
  one-trace : (n : ℕ) (s : Coordinated) (x : Trace) → slice_get traces n ≡ Some x → AreRead (several_of base traces) n s → AreRead (several_of base traces) (n + 1) (take_trace n s x)
  one-trace n s x is a = record { committed = h.committed; below = below; above = above }
    where
      here : history_in (slice_get traces n) ≡ x.history
      here = ap history_in is

      h : Reads n s.committed (known_by (base n) x.history) (take_trace n s x)
      h = reads (base n) n (sd.numbered n (last-of traces n x is)) s.committed (record s { prepared = empty }) refl a.committed refl (λ t at. a.above t (omega (arith, at))) x.history (subst (sound (base n)) here (sd.each n))

      below : (t : Ts) → t.repo < n + 1 → get (take_trace n s x).committed t ≡ line_of_part (part (several_of base traces) t.repo t)
      below t l = elim (cases_lt t.repo n) [
        | inl m ↦ h.others t (λ e. absurd (omega (arith, e, m))) ∙ a.below t m
        | inr m ↦ own t (omega (arith, l, m))
      ]
        where
          own : (t : Ts) → t.repo ≡ n → get (take_trace n s x).committed t ≡ line_of_part (part (several_of base traces) t.repo t)
          own t e = h.own t e ∙ ap (λ (H : List Entry). line_of_part (known_by (base n) H t)) (sym here) ∙ ap (λ (k : ℕ). line_of_part (part (several_of base traces) k t)) (sym e)

      above : (t : Ts) → n + 1 ≤ t.repo → get (take_trace n s x).committed t ≡ None
      above t l = h.others t (λ e. absurd (omega (arith, e, l))) ∙ a.above t (omega (arith, l))

  all-traces : (n : ℕ) (ts : List Trace) (s : Coordinated) → ((k : ℕ) → slice_get traces (n + k) ≡ slice_get ts k) → AreRead (several_of base traces) n s → IsSorted (take_traces n s ts).committed × ((t : Ts) → get (take_traces n s ts).committed t ≡ line_of_part (part (several_of base traces) t.repo t))
  all-traces n [] s rest a = (a.committed, at)
    where
      past : (t : Ts) → n ≤ t.repo → get s.committed t ≡ line_of_part (part (several_of base traces) t.repo t)
      past t l =
          let d = gap n t.repo l in
          let none : slice_get traces t.repo ≡ None = ap (slice_get traces) (sym d.1) ∙ rest d.0 in
          a.above t l ∙ sym (ap (λ (o : Option Trace). line_of_part (known_by (base t.repo) (history_in o) t)) none)

      at : (t : Ts) → get s.committed t ≡ line_of_part (part (several_of base traces) t.repo t)
      at t = elim (cases_lt t.repo n) [
        | inl l ↦ a.below t l
        | inr l ↦ past t l
      ]
  all-traces n (x ∷ ts) s rest a =
      all-traces (n + 1) ts (take_trace n s x) (λ k. ap (slice_get traces) (next n k) ∙ rest (suc k)) (one-trace n s x (ap (slice_get traces) (first n) ∙ rest zero) a)
    where
      next : (n k : ℕ) → n + 1 + k ≡ n + suc k
      next n k = omega arith

      first : (n : ℕ) → n ≡ n + zero
      first n = omega arith

  all : IsSorted (take_traces 0 nothing traces).committed × ((t : Ts) → get (take_traces 0 nothing traces).committed t ≡ line_of_part (part (several_of base traces) t.repo t))
  all = all-traces 0 traces nothing (λ k. ap (slice_get traces) (same k)) (record { committed = none-sorted; below = λ t l. absurd (omega (arith, l)); above = λ t l. refl })
    where
      same : (k : ℕ) → 0 + k ≡ k
      same k = omega arith

-- ---- the commits

-- a line by its name, where there is one
abbrev named_line : Ts → Option Line → List (Ts × Line)
named_line t None = []
named_line t (Some l) = (t, l) ∷ []

abbrev named_lines : List Commit → List (Ts × Line)
named_lines es = flat_map (λ e. named_line e.0 (line_for e.1)) es

above-lines : (P : Ts → Type 0) (es : List Commit) → AllByRecursion P (keys_of es) → AllByRecursion P (keys_of (named_lines es))
above-lines P [] h = tt
above-lines P (e ∷ es) h = by (line_for e.1) (above-lines P es h.1)
  where
    by : (l : Option Line) → AllByRecursion P (keys_of (named_lines es)) → AllByRecursion P (keys_of (named_line e.0 l ++ named_lines es))
    by None more = more
    by (Some l) more = (h.0, more)

sorted-lines : (es : List Commit) → IsStrictlySortedBy ts_cmp (keys_of es) → IsStrictlySortedBy ts_cmp (keys_of (named_lines es))
unfolding IsStrictlySortedBy
sorted-lines [] h = tt
sorted-lines (e ∷ es) h = by (line_for e.1) (sorted-lines es h.1)
  where
    by : (l : Option Line) → IsStrictlySortedBy ts_cmp (keys_of (named_lines es)) → IsStrictlySortedBy ts_cmp (keys_of (named_line e.0 l ++ named_lines es))
    by None more = more
    by (Some l) more = (above-lines (λ y. ts_cmp e.0 y ≡ Less) es h.0, more)

abbrev line_at : Option Request → Option Line
line_at None = None
line_at (Some q) = line_for q

none-behind : (t : Ts) (es : List (Ts × Line)) → AllByRecursion (λ y. ts_cmp t y ≡ Less) (keys_of es) → lookup (is_at (ts_cmp t)) es ≡ None
none-behind t [] h = refl
none-behind t (e ∷ es) h = by (is_at (ts_cmp t) e.0) (ap is_eq h.0) (none-behind t es h.1)
  where
    by : (k : Bool) → k ≡ false → lookup (is_at (ts_cmp t)) es ≡ None → cond k (Some e.1) (lookup (is_at (ts_cmp t)) es) ≡ None
    by true is more = cc
    by false is more = more

found-line : (t : Ts) (es : List Commit) → IsStrictlySortedBy ts_cmp (keys_of es) → lookup (is_at (ts_cmp t)) (named_lines es) ≡ line_at (lookup (is_at (ts_cmp t)) es)
unfolding IsStrictlySortedBy
found-line t [] h = refl
found-line t (e ∷ es) h = by (is_at (ts_cmp t) e.0) refl (line_for e.1) refl (found-line t es h.1)
  where
    behind : t ≡ e.0 → lookup (is_at (ts_cmp t)) (named_lines es) ≡ None
    behind same = none-behind t (named_lines es) (above-lines (λ y. ts_cmp t y ≡ Less) es (subst (λ (u : Ts). AllByRecursion (λ y. ts_cmp u y ≡ Less) (keys_of es)) (sym same) h.0))

    by : (k : Bool) → is_at (ts_cmp t) e.0 ≡ k → (l : Option Line) → line_for e.1 ≡ l → lookup (is_at (ts_cmp t)) (named_lines es) ≡ line_at (lookup (is_at (ts_cmp t)) es) → lookup (is_at (ts_cmp t)) (named_line e.0 l ++ named_lines es) ≡ line_at (cond k (Some e.1) (lookup (is_at (ts_cmp t)) es))
    by true is None line more = behind (tells_apart ts_exact t e.0 is) ∙ sym line
    by true is (Some l) line more = ap (λ (k : Bool). cond k (Some l) (lookup (is_at (ts_cmp t)) (named_lines es))) is ∙ sym line
    by false is None line more = more
    by false is (Some l) line more = ap (λ (k : Bool). cond k (Some l) (lookup (is_at (ts_cmp t)) (named_lines es))) is ∙ more

whole-line : (S : Several) (t : Ts) (q : Request) → line_for (whole S t q) ≡ line_for q
whole-line S t q = by q.kind
  where
    by : (k : Kind) → line_by (whole S t q) k ≡ line_by q k
    by App = refl
    by Transform = refl
    by (Upgrade text) = refl

committed-line : (f : Fate) (q : Request) → IsCommitted f → line_as f q ≡ line_for q
committed-line Open q c = absurd c
committed-line (Committed at) q c = refl
committed-line Aborted q c = absurd c

-- ---- the entries of the commits, as lines

-- each commit is named by its request
abbrev AreNamed : List Commit → Type 0
AreNamed es = (e : Commit) → In e es → e.1.tx ≡ e.0

-- a commit as a line, with this name and number
abbrev line_named : Ts → Commit → ℕ → Line
line_named t e n = record { ts = t; who = e.1.who; number = n; fresh = e.1.fresh; answer = e.1.answer }

module _ (items : Who → What) where
  told-lines : (es : List Commit) → AreNamed es → values_of (named_lines es) ≡ map told_line (entries_of (map (change_of items) es))
  told-lines [] named = refl
  told-lines (e ∷ es) named = by e.1.kind (told-lines es (λ f i. named f (inr i)))
    where
      own : e.1.tx ≡ e.0
      own = named e (inl refl)

      by : (k : Kind) → values_of (named_lines es) ≡ map told_line (entries_of (map (change_of items) es)) → values_of (named_line e.0 (line_by e.1 k) ++ named_lines es) ≡ map told_line (entry_of (change_by items e k) ++ entries_of (map (change_of items) es))
      by App more = ap (λ (t : Ts). line_named t e 0 ∷ values_of (named_lines es)) own ∙ ap (λ (ls : List Line). line_named e.0 e 0 ∷ ls) more
      by Transform more = more
      by (Upgrade text) more = ap (λ (t : Ts). line_named t e (min (e.1.epoch + 1) 4294967295) ∷ values_of (named_lines es)) own ∙ ap (λ (ls : List Line). line_named e.0 e (min (e.1.epoch + 1) 4294967295) ∷ ls) more

-- what a history reads as committed are the commits
module _ (base : ℕ → Base) (traces : List Trace) (sd : AreSound (several_of base traces)) where
  abbrev S : Several
  S = several_of base traces

  named : AreNamed (commits S).pairs
  named e i =
      let w = (listed S sd).stand e i in
      ap (λ (q : Request). q.tx) w.2 ∙ (fits (base e.0.repo) (history_in (slice_get traces e.0.repo)) (sd.each e.0.repo) e.0 w.0 w.1.there).named

  of-part : (t : Ts) (c : Option Request) → get (commits S) t ≡ c → line_of_part (part S t.repo t) ≡ line_at c
  of-part t (Some q) is =
      let w = (are-the-commits S sd).stand t q is in
      ap line_of_part w.1.there ∙ committed-line w.0.fate w.0.request w.1.commits ∙ sym (ap line_for w.2 ∙ whole-line S t w.0.request)
  of-part t None is = by (part S t.repo t) refl
    where
      fate : (o : Known) → part S t.repo t ≡ Some o → (f : Fate) → o.fate ≡ f → line_as f o.request ≡ None
      fate o there Open e = refl
      fate o there (Committed at) e = let k : get (commits S) t ≡ Some (whole S t o.request) = (are-the-commits S sd).all t o (record { there = there; commits = subst IsCommitted (sym e) tt }) in cc
      fate o there Aborted e = refl

      by : (o : Option Known) → part S t.repo t ≡ o → line_of_part o ≡ None
      by None there = refl
      by (Some o) there = fate o there o.fate refl

  abbrev listed_lines : Lines
  listed_lines = record { pairs = named_lines (commits S).pairs }

  same : (take_traces 0 nothing traces).committed ≡ listed_lines
  same = same_map ts_total ts_exact (take_traces 0 nothing traces).committed listed_lines (all base traces sd).0 (sorted-lines (commits S).pairs (are-the-commits S sd).rise)
      (λ t. (all base traces sd).1 t ∙ of-part t (get (commits S) t) refl ∙ sym (found-line t (commits S).pairs (are-the-commits S sd).rise))

pub lines-are : (items : Who → What) (base : ℕ → Base) (traces : List Trace) → AreSound (several_of base traces) → committed_lines traces ≡ map told_line (whole_history items (several_of base traces))
lines-are items base traces sd = ap (λ (m : Lines). values m) (same base traces sd) ∙ told-lines items (commits (several_of base traces)).pairs (named base traces sd)
