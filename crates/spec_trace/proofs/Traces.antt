-- The trace that a history and the kept items beside it stand for grows as they do, and has that history.
use Rattle.log_entries.specs.declared.entry.Entry.{Entry}
use Rattle.spec_history.proofs.Listed.{get_before, get_end}
use Rattle.spec_trace.specs.Trace.{E, Item, IsTrace, M, entries, entry_of, item_at, item_of, items, places}
use Rattle.spec_trace.specs.declared.mark.Mark.{Mark}
use Rattle.spec_trace.specs.declared.kept_item.KeptItem.TheVariants as kept
use Rattle.spec_trace.specs.declared.kept_item.KeptItem.{KeptItem}
use Rattle.std.proofs.Common.{List, [], ap, append_assoc, arith, drop, get_or, length, refl, subst, suc, sym, zero, ℕ, ◌+◌, ◌++◌, ◌<◌, ◌≡◌, ◌≤◌, ◌∙◌, ◌∷◌}
use Rattle.std.proofs.Math.Seq.{drop-cons, drop-length}
use Rattle.std.proofs.Math.Numerals.{suc-eq-add-one}
use Rattle.std.proofs.lemmas.List.{append-nil, length-append}
use Rattle.std.proofs.lemmas.Option.{slice_get-get_or}
use Rattle.std.specs.List.{AllByRecursion, range_with_len, slice_get}
use Rattle.std.specs.Prelude.{Some}

-- ---- one more mark

pub items-end : (H : List Entry) (ms : List KeptItem) (m : KeptItem) → items H (ms ++ m ∷ []) ≡ items H ms ++ item_of H m
items-end H [] m = append-nil (item_of H m)
items-end H (k ∷ ms) m = ap (λ is. item_of H k ++ is) (items-end H ms m) ∙ sym (append_assoc (item_of H k) (items H ms) (item_of H m))

pub items-mark : (H : List Entry) (ms : List KeptItem) (m : Mark) → items H (ms ++ kept.Mark m ∷ []) ≡ items H ms ++ M m ∷ []
items-mark H ms m = items-end H ms (kept.Mark m)

places-mark : (ms : List KeptItem) (m : Mark) → places (ms ++ kept.Mark m ∷ []) ≡ places ms
places-mark [] m = refl
places-mark (kept.Entry p ∷ ms) m = ap (λ ps. p ∷ ps) (places-mark ms m)
places-mark (kept.Mark k ∷ ms) m = places-mark ms m

pub trace-mark : (H : List Entry) (ms : List KeptItem) (m : Mark) → IsTrace H ms → IsTrace H (ms ++ kept.Mark m ∷ [])
trace-mark H ms m h = places-mark ms m ∙ h

-- ---- one more entry

same_item : (H : List Entry) (e : Entry) (p : ℕ) → p < length H → item_of (H ++ e ∷ []) (kept.Entry p) ≡ item_of H (kept.Entry p)
same_item H e p l = ap item_at (get_before H (e ∷ []) p l)

same_items : (H : List Entry) (e : Entry) (ms : List KeptItem) → AllByRecursion (λ p. p < length H) (places ms) → items (H ++ e ∷ []) ms ≡ items H ms
same_items H e [] h = refl
same_items H e (kept.Entry p ∷ ms) h = ap (λ is. is ++ items (H ++ e ∷ []) ms) (same_item H e p h.0) ∙ ap (λ is. item_of H (kept.Entry p) ++ is) (same_items H e ms h.1)
same_items H e (kept.Mark m ∷ ms) h = ap (λ is. M m ∷ is) (same_items H e ms h)

all_below : (a k n : ℕ) → a + k ≤ n → AllByRecursion (λ p. p < n) (range_with_len a k)
all_below a zero n h = tt
all_below a (suc k) n h = (omega arith, all_below (a + 1) k n (omega arith))

range-end : (a n : ℕ) → range_with_len a (n + 1) ≡ range_with_len a n ++ (a + n) ∷ []
range-end a n = ap (range_with_len a) (sym (suc-eq-add-one n)) ∙ from a n
  where
    from : (a n : ℕ) → range_with_len a (suc n) ≡ range_with_len a n ++ (a + n) ∷ []
    from a zero = let e : a ≡ a + 0 = omega arith in ap (λ k. k ∷ []) e
    from a (suc n) = let e : (a + 1) + n ≡ a + suc n = omega arith in ap (λ ks. a ∷ ks) (from (a + 1) n ∙ ap (λ k. range_with_len (a + 1) n ++ k ∷ []) e)

places-end : (ms : List KeptItem) (p : ℕ) → places (ms ++ kept.Entry p ∷ []) ≡ places ms ++ p ∷ []
places-end [] p = refl
places-end (kept.Entry k ∷ ms) p = ap (λ ks. k ∷ ks) (places-end ms p)
places-end (kept.Mark m ∷ ms) p = places-end ms p

-- the entry and its mark are put behind the others
pub trace-end : (H : List Entry) (ms : List KeptItem) (e : Entry) → IsTrace H ms → IsTrace (H ++ e ∷ []) (ms ++ kept.Entry (length H) ∷ [])
trace-end H ms e h =
    places-end ms (length H)
    ∙ ap (λ ks. ks ++ length H ∷ []) h
    ∙ sym (ap (range_with_len 0) (length-append H (e ∷ [])) ∙ range-end 0 (length H) ∙ ap (λ k. range_with_len 0 (length H) ++ k ∷ []) (none_more (length H)))
  where
    none_more : (n : ℕ) → 0 + n ≡ n
    none_more n = omega arith

pub items-entry : (H : List Entry) (ms : List KeptItem) (e : Entry) → IsTrace H ms → items (H ++ e ∷ []) (ms ++ kept.Entry (length H) ∷ []) ≡ items H ms ++ E e ∷ []
items-entry H ms e h =
    let below : AllByRecursion (λ p. p < length H) (places ms) = subst (AllByRecursion (λ p. p < length H)) (sym h) (all_below 0 (length H) (length H) (omega arith)) in
    items-end (H ++ e ∷ []) ms (kept.Entry (length H))
    ∙ ap (λ is. is ++ item_at (slice_get (H ++ e ∷ []) (length H))) (same_items H e ms below)
    ∙ ap (λ o. items H ms ++ item_at o) (get_end H e)

-- ---- the history of a trace

pub entries-append : (is js : List Item) → entries (is ++ js) ≡ entries is ++ entries js
entries-append [] js = refl
entries-append (i ∷ is) js = ap (λ es. entry_of i ++ es) (entries-append is js) ∙ sym (append_assoc (entry_of i) (entries is) (entries js))

head_of : ℕ → List ℕ → ℕ
head_of d [] = d
head_of d (x ∷ xs) = x

tail_of : List ℕ → List ℕ
tail_of [] = []
tail_of (x ∷ xs) = xs

heads : (p k : ℕ) (ps ks : List ℕ) → p ∷ ps ≡ k ∷ ks → (p ≡ k) × (ps ≡ ks)
unfolding head_of tail_of
heads p k ps ks h = (ap (head_of k) h, ap tail_of h)

at_entry : (H : List Entry) (is : List Item) (p k : ℕ) → p ≡ k → k < length H → entries is ≡ drop (k + 1) H → entries (item_at (slice_get H p) ++ is) ≡ drop k H
at_entry [] is p k same l h = absurd (omega arith)
at_entry (d ∷ H) is p k same l h =
    let G : List Entry = d ∷ H in
    let found : slice_get G p ≡ Some (get_or G k d) = ap (slice_get G) same ∙ slice_get-get_or G k d l in
    ap (λ o. entries (item_at o ++ is)) found
    ∙ ap (λ es. get_or G k d ∷ es) (h ∙ ap (λ j. drop j G) (sym (suc-eq-add-one k)))
    ∙ sym (drop-cons G k d l)

history_from : (H : List Entry) (ms : List KeptItem) (k n : ℕ) → places ms ≡ range_with_len k n → k + n ≡ length H → entries (items H ms) ≡ drop k H
history_from H [] k zero h e = let same : k ≡ length H = omega arith in sym (ap (λ j. drop j H) same ∙ drop-length H)
history_from H [] k (suc n) h e = cc
history_from H (kept.Entry p ∷ ms) k zero h e = cc
history_from H (kept.Entry p ∷ ms) k (suc n) h e =
    let both = heads p k (places ms) (range_with_len (k + 1) n) h in
    at_entry H (items H ms) p k both.0 (omega arith) (history_from H ms (k + 1) n both.1 (omega arith))
history_from H (kept.Mark m ∷ ms) k n h e = history_from H ms k n h e

-- the history of a trace
pub entries-items : (H : List Entry) (ms : List KeptItem) → IsTrace H ms → entries (items H ms) ≡ H
entries-items H ms h = history_from H ms 0 (length H) h (omega arith)
