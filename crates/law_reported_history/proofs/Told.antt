-- A history of the lines that traces tell, which answers the items of a script, is their whole history.
use Rattle.cluster_core.specs.Committed.{committed_lines}
use Rattle.law_atomic_commit.specs.Several.{AreSound}
use Rattle.law_global_order.proofs.Lists.{In, of-both, to-in}
use Rattle.law_global_order.specs.Whole.{Commit, commits}
use Rattle.law_lazy_history.specs.Changes.{entries_of, entry_of}
use Rattle.law_reported_history.proofs.Listing.{lines-are}
use Rattle.law_reported_history.specs.Reported.{as_told, performed, several_of, told_line}
use Rattle.law_serializability.specs.WholeHistory.{change_by, change_of, whole_history}
use Rattle.log_entries.specs.declared.request.Kind.TheVariants.{App, Transform, Upgrade}
use Rattle.log_entries.specs.declared.request.Kind.{Kind}
use Rattle.repo_trace.specs.declared.trace.Trace.{Trace}
use Rattle.serial_model.specs.Outcomes.{Answers, AreOfItems, Item, all_items, client_items_from, items_from}
use Rattle.serial_model.specs.declared.entries.Did.{Did}
use Rattle.serial_model.specs.declared.entries.What.TheVariants.{Tx}
use Rattle.serial_model.specs.declared.entries.What.{What}
use Rattle.serial_model.specs.declared.outcomes.Ended.{Ended}
use Rattle.spec_history.specs.History.{Base}
use Rattle.std.proofs.Common.{List, [], ap, arith, inl, inr, map, refl, suc, sym, ℕ, ◌+◌, ◌++◌, ◌≡◌, ◌∙◌, ◌∷◌}
use Rattle.std.specs.List.{AllByRecursion, slice_get}
use Rattle.std.specs.Prelude.{Contains, Option, Some, option_and_then, unwrap_or}
use Rattle.thor_value.specs.declared.values.Who.{Who}
use Rattle.top_history_check.specs.Lines.{item_of, line_of, nth}
use Rattle.top_history_check.specs.declared.assembling.Line.{Line}

-- ---- the items of a script

-- an item of a client stands at its index
of-client : (c n : ℕ) (ws : List What) (i : Item) → In i (items_from c n ws) → (i.who.client ≡ c) × ((k : ℕ) × (i.who.index ≡ n + k) × (slice_get ws k ≡ Some i.what))
of-client c n [] i j = absurd j
of-client c n (w ∷ ws) i (inl e) = (ap (λ (x : Item). x.who.client) (sym e), (0, ap (λ (x : Item). x.who.index) (sym e) ∙ first n, ap (λ (x : Item). Some x.what) e))
  where
    first : (n : ℕ) → n ≡ n + 0
    first n = omega arith
of-client c n (w ∷ ws) i (inr j) = let k = of-client c (n + 1) ws i j in (k.0, (suc k.1.0, k.1.1 ∙ later n k.1.0, k.1.2))
  where
    later : (n k : ℕ) → n + 1 + k ≡ n + suc k
    later n k = omega arith

-- where an item of the clients from n on stands
record StandsAt (n : ℕ) (cs : List (List What)) (i : Item) : Type 0 where
  pub client : ℕ
  pub items : List What
  pub index : ℕ
  pub client_is : i.who.client ≡ n + client
  pub items_are : slice_get cs client ≡ Some items
  pub index_is : i.who.index ≡ 1 + index
  pub what_is : slice_get items index ≡ Some i.what

of-clients : (n : ℕ) (cs : List (List What)) (i : Item) → In i (client_items_from n cs) → StandsAt n cs i
of-clients n [] i j = absurd j
of-clients n (c ∷ cs) i j = elim (of-both (items_from n 1 c) (client_items_from (n + 1) cs) i j) [
  | inl x ↦
      let k = of-client n 1 c i x in
      record { client = 0; items = c; index = k.1.0; client_is = k.0 ∙ first n; items_are = refl; index_is = k.1.1; what_is = k.1.2 }
  | inr x ↦
      let k = of-clients (n + 1) cs i x in
      record { client = suc k.client; items = k.items; index = k.index; client_is = k.client_is ∙ later n k.client; items_are = k.items_are; index_is = k.index_is; what_is = k.what_is }
]
  where
    first : (n : ℕ) → n ≡ n + 0
    first n = omega arith

    later : (n k : ℕ) → n + 1 + k ≡ n + suc k
    later n k = omega arith

-- it is the item of the script that is its owner's
is-item : (clients : List (List What)) (i : Item) → Contains (all_items clients) i → performed clients i.who ≡ i.what
is-item clients i h =
    let k = of-clients 1 clients i (to-in (all_items clients) i h) in
    ap (λ (o : Option What). unwrap_or o (Tx [])) (found k)
  where
    behind : (m n : ℕ) → m ≡ 1 + n → m ≡ suc n
    behind m n e = omega (arith, e)

    found : StandsAt 1 clients i → item_of clients i.who ≡ Some i.what
    found k =
        ap (option_and_then (λ (items : List What). nth items i.who.index)) (ap (nth clients) (behind i.who.client k.client k.client_is) ∙ k.items_are)
        ∙ ap (nth k.items) (behind i.who.index k.index k.index_is)
        ∙ k.what_is

are-items : (clients : List (List What)) (h : List Did) → AreOfItems (all_items clients) h → AllByRecursion (λ d. performed clients d.who ≡ d.what) h
are-items clients [] a = tt
are-items clients (d ∷ ds) a = (is-item clients (record { who = d.who; what = d.what }) a.0, are-items clients ds a.1)

-- ---- lines with their items

abbrev head_of : Line → List Line → Line
head_of l [] = l
head_of l (x ∷ xs) = x

abbrev tail_of : List Line → List Line
tail_of [] = []
tail_of (x ∷ xs) = xs

abbrev with_item : Line → What → Did
with_item l w = record { ts = l.ts; who = l.who; what = w; number = l.number; fresh = l.fresh; answer = l.answer }

module _ (items : Who → What) where
  -- each entry of the whole history performed its item
  perform : (es : List Commit) → AllByRecursion (λ d. d.what ≡ items d.who) (entries_of (map (change_of items) es))
  perform [] = tt
  perform (e ∷ es) = by e.1.kind (perform es)
    where
      by : (k : Kind) → AllByRecursion (λ d. d.what ≡ items d.who) (entries_of (map (change_of items) es)) → AllByRecursion (λ d. d.what ≡ items d.who) (entry_of (change_by items e k) ++ entries_of (map (change_of items) es))
      by App more = (refl, more)
      by Transform more = more
      by (Upgrade text) more = (refl, more)

  same-history : (h w : List Did) → map line_of h ≡ map told_line w → AllByRecursion (λ d. items d.who ≡ d.what) h → AllByRecursion (λ d. d.what ≡ items d.who) w → h ≡ map as_told w
  same-history [] [] e a b = refl
  same-history [] (x ∷ w) e a b = cc
  same-history (d ∷ h) [] e a b = cc
  same-history (d ∷ h) (x ∷ w) e a b =
      let line : line_of d ≡ told_line x = ap (head_of (line_of d)) e in
      let what : d.what ≡ x.what = sym a.0 ∙ ap (λ (l : Line). items l.who) line ∙ sym b.0 in
      let here : d ≡ as_told x = ap (λ (l : Line). with_item l d.what) line ∙ ap (with_item (told_line x)) what in
      ap (λ (y : Did). y ∷ h) here ∙ ap (λ (ys : List Did). as_told x ∷ ys) (same-history h w (ap tail_of e) a.1 b.1)

pub is-whole : (clients : List (List What)) (base : ℕ → Base) (traces : List Trace) (h : List Did) (ended : List Ended) → AreSound (several_of base traces) → Answers h (all_items clients) ended → map line_of h ≡ committed_lines traces → h ≡ map as_told (whole_history (performed clients) (several_of base traces))
is-whole clients base traces h ended sd answers lines =
    same-history (performed clients) h (whole_history (performed clients) (several_of base traces)) (lines ∙ lines-are (performed clients) base traces sd) (are-items clients h answers.of_items) (perform (performed clients) (commits (several_of base traces)).pairs)
