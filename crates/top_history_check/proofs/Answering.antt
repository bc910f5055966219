-- From outcomes that are told to items that are answered.
use Rattle.std.proofs.Common.{◌≡◌, ◌<◌, ◌≤◌, ◌+◌, ℕ, zero, suc, List, [], ◌∷◌, ◌++◌, ◌-◌, length, take, drop, get_or, Option, None, Some, refl, ap, sym, ◌∙◌, subst, arith, inl, inr}
use Rattle.std.proofs.lemmas.List.{length-drop, length-take-le, take_more}
use Rattle.std.proofs.Math.Seq.{take-add}
use Rattle.std.proofs.lemmas.Option.{slice_get-get_or}
use Rattle.std.specs.List.{AllByRecursion}
use Rattle.std.specs.Ordering.{nat_cmp}
use Rattle.std.specs.Prelude.{slice_get, option_and_then, Contains}
use Rattle.std.proofs.lemmas.List.Elements.{Contains-append_left, Contains-append_right}
use Rattle.thor_value.specs.FiniteMap.{Map, get}
use Rattle.thor_value.specs.declared.values.Answer.{Answer}
use Rattle.thor_value.specs.declared.values.Answer.TheVariants as answer
use Rattle.thor_value.specs.declared.values.Who.{Who}
use Rattle.thor_value.specs.declared.names.Ts.{Ts}
use Rattle.serial_model.specs.Outcomes.{Answers, AreAnswered, AreInClientOrder, AreOfItems, HasOne, IsAnswered, Item, all_items, client_items_from, entries_of, entry, items_from}
use Rattle.serial_model.specs.declared.entries.Did.{Did}
use Rattle.serial_model.specs.declared.entries.What.{What}
use Rattle.serial_model.specs.declared.outcomes.Ended.{Ended}
use Rattle.serial_model.specs.declared.outcomes.ItemOutcome.{ItemOutcome}
use Rattle.serial_model.specs.declared.outcomes.ItemOutcome.TheVariants.{Done, Upgraded, Faulted, Refused, Unknown}
use Rattle.top_history_check.specs.Answered.{AreNext, AreTold, IsTold, Tells}
use Rattle.top_history_check.specs.Lines.{ArePerformed, item_of, nth}
use Rattle.top_history_check.specs.Places.{Finds, IsAt, found, key}

all_at : {X : Type 0} (P : X → Type 0) (xs : List X) (n : ℕ) (x : X) → slice_get xs n ≡ Some x → AllByRecursion P xs → P x
all_at P [] n x h all = let bad : None ≡ Some x = h in cc
all_at P (y ∷ ys) zero x h all = let e : y ≡ x = some_is h in subst P e all.0
  where
    some_is : Some y ≡ Some x → y ≡ x
    some_is e = cc
all_at P (y ∷ ys) (suc n) x h all = all_at P ys n x h all.1

-- ---- one item

has_one : (history : List Did) (item : Item) (d : Did) (ts : Ts) (number : ℕ) (a : Answer) → entries_of history item.who ≡ d ∷ [] → d.who ≡ item.who → d.what ≡ item.what → d.ts ≡ ts → d.number ≡ number → d.answer ≡ a → HasOne history item ts number a
has_one history item d ts number a only who what t n e =
    (d.fresh, only ∙ ap (λ x. x ∷ []) (ap (λ z. record d { who = z }) who ∙ ap (λ z. record { ts = d.ts; who = item.who; what = z; number = d.number; fresh = d.fresh; answer = d.answer }) what ∙ ap (λ z. record { ts = z; who = item.who; what = item.what; number = d.number; fresh = d.fresh; answer = d.answer }) t ∙ ap (λ z. entry item ts z d.fresh d.answer) n ∙ ap (entry item ts number d.fresh) e))

answered_by : (history : List Did) (item : Item) (d : Did) (o : ItemOutcome) → entries_of history item.who ≡ d ∷ [] → d.who ≡ item.who → d.what ≡ item.what → Tells (Some d) o → IsAnswered history item o
answered_by history item d (Done ts ints) only who what tells = has_one history item d ts 0 (answer.Ints ints) only who what tells.0 tells.1 tells.2
answered_by history item d (Faulted ts fault) only who what tells = has_one history item d ts 0 (answer.Fault fault) only who what tells.0 tells.1 tells.2
answered_by history item d (Upgraded ts number) only who what tells = has_one history item d ts number (answer.Ints []) only who what tells.0 tells.1 tells.2
answered_by history item d (Refused cause) only who what tells = absurd tells
answered_by history item d (Unknown tx) only who what tells = inr (d.number, d.answer, has_one history item d tx d.number d.answer only who what tells refl refl)

answered_by_none : (history : List Did) (item : Item) (o : ItemOutcome) → entries_of history item.who ≡ [] → Tells None o → IsAnswered history item o
answered_by_none history item (Done ts ints) none tells = absurd tells
answered_by_none history item (Faulted ts fault) none tells = absurd tells
answered_by_none history item (Upgraded ts number) none tells = absurd tells
answered_by_none history item (Refused cause) none tells = none
answered_by_none history item (Unknown tx) none tells = inl none

module _ (clients : List (List What)) (history : List Did) (places : Map nat_cmp ℕ) (performed : ArePerformed clients history) (finds : Finds places history) where
  at_place : (item : Item) (o : ItemOutcome) (place : Option ℕ) → item_of clients item.who ≡ Some item.what → IsAt history item.who place → Tells (option_and_then (slice_get history) place) o → IsAnswered history item o
  at_place item o None is at tells = answered_by_none history item o at tells
  at_place item o (Some place) is at tells =
      let did = at.did in
      let is_performed : item_of clients did.who ≡ Some did.what = all_at (λ d. item_of clients d.who ≡ Some d.what) history place did at.stands performed in
      let same : Some did.what ≡ Some item.what = sym is_performed ∙ ap (item_of clients) at.is_of ∙ is in
      let what : did.what ≡ item.what = cc in
      answered_by history item did o at.only at.is_of what (subst (λ d. Tells d o) at.stands tells)

  answered_one : (item : Item) (e : Ended) → item.who.index < 4294967296 → item_of clients item.who ≡ Some item.what → IsTold places history item.who.client item.who.index e → (e.who ≡ item.who) × IsAnswered history item e.outcome
  answered_one item e low is told = (told.0, at_place item e.outcome (get places (key item.who)) is (finds item.who low) (subst (λ w. Tells (found places history w) e.outcome) told.0 told.1))

  -- ---- the items of a client

  same_rest : (ws : List What) (es : List Ended) → suc (length ws) ≡ suc (length es) → length ws ≡ length es
  same_rest ws es same = omega (arith, same)

  -- these are the client's items from the n-th on
  abbrev pub Are : ℕ → ℕ → List What → Type 0
  Are client n [] = Unit {0}
  Are client n (w ∷ ws) = (item_of clients (record { client = client; index = n }) ≡ Some w) × Are client (n + 1) ws

  pub answered_from : (client n : ℕ) (ws : List What) (es : List Ended) → length ws ≡ length es → n + length ws ≤ 4294967296 → Are client n ws → AreTold places history client n es → AreAnswered history (items_from client n ws) es
  answered_from client n [] [] same low are told = tt
  answered_from client n [] (e ∷ es) same low are told = let bad : 0 ≡ suc (length es) = same in cc
  answered_from client n (w ∷ ws) [] same low are told = let bad : suc (length ws) ≡ 0 = same in cc
  answered_from client n (w ∷ ws) (e ∷ es) same low are told =
      let one = answered_one (record { who = record { client = client; index = n }; what = w }) e (omega (arith, low)) are.0 told.0 in
      (one.0, one.1, answered_from client (n + 1) ws es (same_rest ws es same) (omega (arith, low)) are.1 told.1)

  are_from : (client n : ℕ) (all ws : List What) → nth clients client ≡ Some all → ((k : ℕ) (w : What) → slice_get ws k ≡ Some w → nth all (n + k) ≡ Some w) → Are client n ws
  are_from client n all [] is each = tt
  are_from client n all (w ∷ ws) is each = (
    ap (option_and_then (λ items. nth items n)) is ∙ ap (nth all) (sym plus_zero) ∙ each 0 w refl,
    are_from client (n + 1) all ws is (λ k v h. nth_next k ∙ each (k + 1) v (get_next k v h)),
  )
    where
      plus_zero : n + 0 ≡ n
      plus_zero = omega (arith)

      nth_next : (k : ℕ) → nth all (n + 1 + k) ≡ nth all (n + (k + 1))
      nth_next k = let e : n + 1 + k ≡ n + (k + 1) = omega (arith) in ap (nth all) e

      get_next : (k : ℕ) (v : What) → slice_get ws k ≡ Some v → slice_get (w ∷ ws) (k + 1) ≡ Some v
      get_next k v h = let e : k + 1 ≡ suc k = omega (arith) in ap (slice_get (w ∷ ws)) e ∙ h

  -- the outcomes of a client answer its items
  pub answered_client : (place : ℕ) (ws : List What) (es : List Ended) → slice_get clients place ≡ Some ws → length ws ≡ length es → length ws < 4294967295 → AreTold places history (place + 1) 1 es → AreAnswered history (items_from (place + 1) 1 ws) es
  answered_client place ws es is same low told =
      answered_from (place + 1) 1 ws es same (omega (arith, low)) (are_from (place + 1) 1 ws ws (at_client ∙ is) (λ k w h. at_item k ∙ h)) told
    where
      at_client : nth clients (place + 1) ≡ slice_get clients place
      at_client = let e : place + 1 ≡ suc place = omega (arith) in ap (nth clients) e

      at_item : (k : ℕ) → nth ws (1 + k) ≡ slice_get ws k
      at_item k = let e : 1 + k ≡ suc k = omega (arith) in ap (nth ws) e

-- ---- the items of all clients

pub answered_behind : (history : List Did) (is js : List Item) (es fs : List Ended) → AreAnswered history is es → AreAnswered history js fs → AreAnswered history (is ++ js) (es ++ fs)
answered_behind history [] js [] fs one two = two
answered_behind history [] js (e ∷ es) fs one two = absurd one
answered_behind history (i ∷ is) js [] fs one two = absurd one
answered_behind history (i ∷ is) js (e ∷ es) fs one two = (one.0, one.1, answered_behind history is js es fs one.2 two)

append_nil : {X : Type 0} (xs : List X) → xs ++ [] ≡ xs
append_nil [] = refl
append_nil (x ∷ xs) = ap (λ ys. x ∷ ys) (append_nil xs)

append_assoc : {X : Type 0} (xs ys zs : List X) → (xs ++ ys) ++ zs ≡ xs ++ (ys ++ zs)
append_assoc [] ys zs = refl
append_assoc (x ∷ xs) ys zs = ap (λ ws. x ∷ ws) (append_assoc xs ys zs)

pub items_behind : (n : ℕ) (cs : List (List What)) (c : List What) → client_items_from n (cs ++ c ∷ []) ≡ client_items_from n cs ++ items_from (n + length cs) 1 c
items_behind n [] c = append_nil (items_from n 1 c) ∙ ap (λ m. items_from m 1 c) (omega (arith))
items_behind n (d ∷ ds) c = ap (λ is. items_from n 1 d ++ is) (items_behind (n + 1) ds c ∙ ap (λ m. client_items_from (n + 1) ds ++ items_from m 1 c) (omega (arith))) ∙ sym (append_assoc (items_from n 1 d) (client_items_from (n + 1) ds) (items_from (n + length (d ∷ ds)) 1 c))

-- ---- every entry is of an item

here : {X : Type 0} (x : X) (xs : List X) → Contains (x ∷ xs) x
here x xs = Contains-append_left (x ∷ []) xs x (0, omega (arith), refl)

in_client : (client n : ℕ) (ws : List What) (k : ℕ) (w : What) → slice_get ws k ≡ Some w → Contains (items_from client n ws) (record { who = record { client = client; index = n + k }; what = w })
in_client client n [] k w h = let bad : None ≡ Some w = h in cc
in_client client n (v ∷ vs) zero w h =
    let e : v ≡ w = cc in
    let at : n ≡ n + 0 = omega (arith) in
    let item : ℕ → What → Item = λ m x. record { who = record { client = client; index = m }; what = x } in
    subst (λ m. Contains (items_from client n (v ∷ vs)) (item m w)) at (subst (λ x. Contains (items_from client n (v ∷ vs)) (item n x)) e (here (item n v) (items_from client (n + 1) vs)))
in_client client n (v ∷ vs) (suc k) w h =
    let at : n + 1 + k ≡ n + suc k = omega (arith) in
    let item : ℕ → Item = λ m. record { who = record { client = client; index = m }; what = w } in
    Contains-append_right (record { who = record { client = client; index = n }; what = v } ∷ []) (items_from client (n + 1) vs) (item (n + suc k)) (subst (λ m. Contains (items_from client (n + 1) vs) (item m)) at (in_client client (n + 1) vs k w h))

in_clients : (n : ℕ) (cs : List (List What)) (place k : ℕ) (ws : List What) (w : What) → slice_get cs place ≡ Some ws → slice_get ws k ≡ Some w → Contains (client_items_from n cs) (record { who = record { client = n + place; index = 1 + k }; what = w })
in_clients n [] place k ws w h g = let bad : None ≡ Some ws = h in cc
in_clients n (c ∷ cs) zero k ws w h g =
    let e : c ≡ ws = cc in
    let at : n ≡ n + 0 = omega (arith) in
    let item : ℕ → Item = λ m. record { who = record { client = m; index = 1 + k }; what = w } in
    Contains-append_left (items_from n 1 c) (client_items_from (n + 1) cs) (item (n + 0)) (subst (λ m. Contains (items_from n 1 c) (item m)) at (in_client n 1 c k w (ap (λ xs. slice_get xs k) e ∙ g)))
in_clients n (c ∷ cs) (suc place) k ws w h g =
    let at : n + 1 + place ≡ n + suc place = omega (arith) in
    let item : ℕ → Item = λ m. record { who = record { client = m; index = 1 + k }; what = w } in
    Contains-append_right (items_from n 1 c) (client_items_from (n + 1) cs) (item (n + suc place)) (subst (λ m. Contains (client_items_from (n + 1) cs) (item m)) at (in_clients (n + 1) cs place k ws w h g))

is_item : (clients : List (List What)) (who : Who) (w : What) → item_of clients who ≡ Some w → Contains (all_items clients) (record { who = who; what = w })
is_item clients who w h = by_client who.client refl (nth clients who.client) refl h
  where
    by_index : (place n : ℕ) (ws : List What) → who.client ≡ suc place → who.index ≡ n → slice_get clients place ≡ Some ws → nth ws n ≡ Some w → Contains (all_items clients) (record { who = who; what = w })
    by_index place zero ws c i s e = let bad : None ≡ Some w = e in cc
    by_index place (suc k) ws c i s e =
        let c1 : 1 + place ≡ who.client = omega (arith, c) in
        let i1 : 1 + k ≡ who.index = omega (arith, i) in
        subst (λ x. Contains (all_items clients) (record { who = x; what = w })) (ap (λ m. record { client = m; index = 1 + k }) c1 ∙ ap (λ m. record { client = who.client; index = m }) i1) (in_clients 1 clients place k ws w s e)

    by_items : (place : ℕ) → who.client ≡ suc place → (found_items : Option (List What)) → slice_get clients place ≡ found_items → option_and_then (λ items. nth items who.index) found_items ≡ Some w → Contains (all_items clients) (record { who = who; what = w })
    by_items place c None s e = let bad : None ≡ Some w = e in cc
    by_items place c (Some ws) s e = by_index place who.index ws c refl s e

    by_client : (n : ℕ) → who.client ≡ n → (found_items : Option (List What)) → nth clients n ≡ found_items → option_and_then (λ items. nth items who.index) (nth clients n) ≡ Some w → Contains (all_items clients) (record { who = who; what = w })
    by_client zero c f s e = let bad : None ≡ Some w = e in cc
    by_client (suc place) c f s e = by_items place c (slice_get clients place) refl e

pub of_items : (clients : List (List What)) (history : List Did) → ArePerformed clients history → AreOfItems (all_items clients) history
of_items clients [] performed = tt
of_items clients (d ∷ ds) performed = (is_item clients d.who d.what performed.0, of_items clients ds performed.1)

-- ---- one outcome more

told_behind : (places : Map nat_cmp ℕ) (history : List Did) (client n : ℕ) (es : List Ended) (e : Ended) → AreTold places history client n es → IsTold places history client (n + length es) e → AreTold places history client n (es ++ e ∷ [])
told_behind places history client n [] e told one = (let at : n + 0 ≡ n = omega (arith) in subst (λ m. IsTold places history client m e) at one, tt)
told_behind places history client n (f ∷ fs) e told one =
    (told.0, told_behind places history client (n + 1) fs e told.1 (let at : n + length (f ∷ fs) ≡ n + 1 + length fs = omega (arith) in subst (λ m. IsTold places history client m e) at one))

pub one_told : (places : Map nat_cmp ℕ) (history : List Did) (client : ℕ) (es : List Ended) (i : ℕ) (e : Ended) → i < length es → e ≡ get_or es i e → IsTold places history client (i + 1) e → AreTold places history client 1 (take i es) → AreTold places history client 1 (take (i + 1) es)
one_told places history client es i e within is one told =
    let P : List Ended → Type 0 = λ fs. AreTold places history client 1 fs in
    let at : i + 1 ≡ 1 + length (take i es) = let l : length (take i es) ≡ i = length-take-le i es (omega (arith, within)) in omega (arith, l) in
    subst P (sym (take_more es i e within ∙ ap (λ (f : Ended). take i es ++ f ∷ []) (sym is))) (told_behind places history client 1 (take i es) e told (subst (λ m. IsTold places history client m e) at one))

-- ---- one client more

pub one_client : (clients : List (List What)) (history : List Did) (places : Map nat_cmp ℕ) → ArePerformed clients history → Finds places history → (ends : List Ended) (used i : ℕ) (items : List What) → i < length clients → items ≡ get_or clients i items
    → AreNext places history (i + 1) items ends used → (used ≤ length ends) × AreAnswered history (client_items_from 1 (take i clients)) (take used ends)
    → (used + length items ≤ length ends) × AreAnswered history (client_items_from 1 (take (i + 1) clients)) (take (used + length items) ends)
one_client clients history places performed finds ends used i items within is next so_far = (next.enough, all)
  where
    own : List Ended
    own = take (length items) (drop used ends)

    stands : slice_get clients i ≡ Some items
    stands = slice_get-get_or clients i items within ∙ ap Some (sym is)

    same : length items ≡ length own
    same = let e : length own ≡ length items = length-take-le (length items) (drop used ends) (let d : length (drop used ends) ≡ length ends - used = length-drop used ends in let en : used + length items ≤ length ends = next.enough in omega (arith, d, en)) in sym e

    answered : AreAnswered history (items_from (i + 1) 1 items) own
    answered = answered_client clients history places performed finds i items own stands same next.few next.told

    clients_are : client_items_from 1 (take (i + 1) clients) ≡ client_items_from 1 (take i clients) ++ items_from (i + 1) 1 items
    clients_are =
        let at : 1 + length (take i clients) ≡ i + 1 = let l : length (take i clients) ≡ i = length-take-le i clients (omega (arith, within)) in omega (arith, l) in
        ap (client_items_from 1) (take_more clients i items within ∙ ap (λ (x : List What). take i clients ++ x ∷ []) (sym is)) ∙ items_behind 1 (take i clients) items ∙ ap (λ m. client_items_from 1 (take i clients) ++ items_from m 1 items) at

    all : AreAnswered history (client_items_from 1 (take (i + 1) clients)) (take (used + length items) ends)
    all =
        let P : List Item → Type 0 = λ xs. AreAnswered history xs (take (used + length items) ends) in
        let Q : List Ended → Type 0 = λ es. AreAnswered history (client_items_from 1 (take i clients) ++ items_from (i + 1) 1 items) es in
        subst P (sym clients_are) (subst Q (sym (take-add used (length items) ends)) (answered_behind history (client_items_from 1 (take i clients)) (items_from (i + 1) 1 items) (take used ends) own so_far.1 answered))

-- the same of items that are lent
pub one_client_at : (clients : List (List What)) (history : List Did) (places : Map nat_cmp ℕ) → ArePerformed clients history → Finds places history → (ends : List Ended) (used i : ℕ) (stored items : List What) → i < length clients → stored ≡ get_or clients i stored → items ≡ stored
    → AreNext places history (i + 1) items ends used → (used ≤ length ends) × AreAnswered history (client_items_from 1 (take i clients)) (take used ends)
    → (used + length items ≤ length ends) × AreAnswered history (client_items_from 1 (take (i + 1) clients)) (take (used + length items) ends)
one_client_at clients history places performed finds ends used i stored items within is same next so_far =
    one_client clients history places performed finds ends used i items within (let P : List What → Type 0 = λ xs. xs ≡ get_or clients i xs in subst P (sym same) is) next so_far

-- all together
pub all_answered : (clients : List (List What)) (history : List Did) (ends : List Ended) → ArePerformed clients history → AreAnswered history (all_items clients) ends → AreInClientOrder history → Answers history (all_items clients) ends
all_answered clients history ends performed once in_order = record { once = once; of_items = of_items clients history performed; in_order = in_order }
