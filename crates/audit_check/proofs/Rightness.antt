-- Lines of items that are right, line by line and client by client.
use Rattle.std.proofs.Common.{◌≡◌, ◌<◌, ◌≤◌, ◌+◌, ◌-◌, ℕ, zero, suc, Bool, true, false, List, [], ◌∷◌, ◌++◌, length, take, drop, get_or, Option, None, Some, Err, refl, ap, sym, ◌∙◌, subst, arith, inl, inr}
use Rattle.std.proofs.lemmas.List.{drop_more, length-drop, length-take-le, take-append-drop, take_all, take_more}
use Rattle.std.proofs.lemmas.Option.{slice_get-get_or, slice_get_within, get_or_from_slice_get}
use Rattle.std.proofs.Math.Seq.{take-add}
use Rattle.std.specs.List.{AllByRecursion}
use Rattle.std.specs.Ordering.{nat_cmp}
use Rattle.std.specs.Prelude.{slice_get, option_and_then, unwrap_or, IsTrue}
use Rattle.thor_value.specs.FiniteMap.{Map, get}
use Rattle.thor_value.specs.declared.names.Ts.{Ts}
use Rattle.thor_value.specs.declared.values.Answer.{Answer}
use Rattle.thor_value.specs.declared.values.Answer.TheVariants as answer
use Rattle.thor_value.specs.declared.values.Who.{Who}
use Rattle.serial_model.specs.Outcomes.{HasOne, IsAnswered, Item, all_items, client_items_from, entries_of, entry, items_from}
use Rattle.serial_model.specs.declared.entries.Did.{Did}
use Rattle.serial_model.specs.declared.entries.What.{What}
use Rattle.serial_model.specs.declared.outcomes.Ended.{Ended}
use Rattle.serial_model.specs.declared.outcomes.ItemOutcome.{ItemOutcome}
use Rattle.serial_model.specs.declared.outcomes.ItemOutcome.TheVariants.{Done, Upgraded, Faulted, Refused, Unknown}
use Rattle.top_history_check.proofs.Answering.{items_behind}
use Rattle.top_history_check.specs.Answered.{Tells}
use Rattle.top_history_check.specs.Lines.{ArePerformed, item_of, nth}
use Rattle.top_history_check.specs.Places.{key}
use Rattle.audit_check.specs.Agreement.{HasNumber, IsFirstWrong, IsInOrder, IsRight}
use Rattle.audit_check.specs.Items.{AreRight, AreRightAll, AreRightOr, IsOf, IsRightBy, IsSaid, items_at}
use Rattle.audit_check.specs.Lines.{FaultIs}
use Rattle.audit_check.specs.Standings.{Stand}
use Rattle.audit_check.specs.declared.disagreement.AuditFault.{AuditFault}
use Rattle.audit_check.specs.declared.disagreement.AuditFault.TheVariants.{Disagrees, NoMemory}
use Rattle.audit_check.specs.declared.disagreement.Disagreement.{Disagreement}
use Rattle.audit_check.specs.declared.disagreement.Disagreement.TheVariants as line
use Rattle.audit_check.specs.declared.standing.Standing.{Standing}
use Rattle.audit_check.specs.declared.standing.Standing.TheVariants.{Once, Twice}
use Rattle.audit_check.proofs.Found.{Has, IsOnce, has_at, none_in_order}

all_at : {X : Type 0} (P : X → Type 0) (xs : List X) (n : ℕ) (x : X) → slice_get xs n ≡ Some x → AllByRecursion P xs → P x
all_at P [] n x h all = let bad : None ≡ Some x = h in cc
all_at P (y ∷ ys) zero x h all = let e : y ≡ x = some_is h in subst P e all.0
  where
    some_is : Some y ≡ Some x → y ≡ x
    some_is e = cc
all_at P (y ∷ ys) (suc n) x h all = all_at P ys n x h all.1

one_is : {X : Type 0} (x y : X) → x ∷ [] ≡ y ∷ [] → x ≡ y
one_is x y e = cc

-- ---- one item

has_one : (history : List Did) (item : Item) (d : Did) (ts : Ts) (number : ℕ) (a : Answer) → entries_of history item.who ≡ d ∷ [] → d.who ≡ item.who → d.what ≡ item.what → d.ts ≡ ts → d.number ≡ number → d.answer ≡ a → HasOne history item ts number a
has_one history item d ts number a only who what t n e =
    (d.fresh, only ∙ ap (λ x. x ∷ []) (ap (λ z. record d { who = z }) who ∙ ap (λ z. record { ts = d.ts; who = item.who; what = z; number = d.number; fresh = d.fresh; answer = d.answer }) what ∙ ap (λ z. record { ts = z; who = item.who; what = item.what; number = d.number; fresh = d.fresh; answer = d.answer }) t ∙ ap (λ z. entry item ts z d.fresh d.answer) n ∙ ap (entry item ts number d.fresh) e))

one_has : (history : List Did) (item : Item) (d : Did) (ts : Ts) (number : ℕ) (a : Answer) → entries_of history item.who ≡ d ∷ [] → HasOne history item ts number a → (d.ts ≡ ts) × (d.number ≡ number) × (d.answer ≡ a)
one_has history item d ts number a only one =
    let same : d ≡ entry item ts number one.0 a = one_is d (entry item ts number one.0 a) (sym only ∙ one.1) in
    (ap (λ (x : Did). x.ts) same, ap (λ (x : Did). x.number) same, ap (λ (x : Did). x.answer) same)

none_has : (history : List Did) (item : Item) (ts : Ts) (number : ℕ) (a : Answer) → entries_of history item.who ≡ [] → HasOne history item ts number a → ⊥
none_has history item ts number a none one = let bad : [] ≡ entry item ts number one.0 a ∷ [] = sym none ∙ one.1 in cc

two_have : (history : List Did) (item : Item) (d e : Did) (more : List Did) (ts : Ts) (number : ℕ) (a : Answer) → entries_of history item.who ≡ d ∷ e ∷ more → HasOne history item ts number a → ⊥
two_have history item d e more ts number a two one = let bad : d ∷ e ∷ more ≡ entry item ts number one.0 a ∷ [] = sym two ∙ one.1 in cc

two_none : (history : List Did) (item : Item) (d e : Did) (more : List Did) → entries_of history item.who ≡ d ∷ e ∷ more → entries_of history item.who ≡ [] → ⊥
two_none history item d e more two none = let bad : d ∷ e ∷ more ≡ [] = sym two ∙ none in cc

-- what the line of a right item says besides that it is that item's
pub record IsSaidOf (history : List Did) (item : Item) (o : ItemOutcome) : Type 0 where
  pub answered : IsAnswered history item o
  pub numbered : HasNumber o
  pub in_order : IsInOrder history item.who

none_said : (history : List Did) (item : Item) (o : ItemOutcome) → entries_of history item.who ≡ [] → Tells None o → IsSaidOf history item o
none_said history item (Done ts ints) none tells = absurd tells
none_said history item (Faulted ts fault) none tells = absurd tells
none_said history item (Upgraded ts number) none tells = absurd tells
none_said history item (Refused cause) none tells = record { answered = none; numbered = tt; in_order = none_in_order history item.who none }
none_said history item (Unknown tx) none tells = record { answered = inl none; numbered = tt; in_order = none_in_order history item.who none }

said_none : (history : List Did) (item : Item) (o : ItemOutcome) → entries_of history item.who ≡ [] → IsAnswered history item o → Tells None o
said_none history item (Done ts ints) none is = none_has history item ts 0 (answer.Ints ints) none is
said_none history item (Faulted ts fault) none is = none_has history item ts 0 (answer.Fault fault) none is
said_none history item (Upgraded ts number) none is = none_has history item ts number (answer.Ints []) none is
said_none history item (Refused cause) none is = tt
said_none history item (Unknown tx) none is = tt

once_answered : (history : List Did) (item : Item) (d : Did) (o : ItemOutcome) → entries_of history item.who ≡ d ∷ [] → d.who ≡ item.who → d.what ≡ item.what → Tells (Some d) o → IsAnswered history item o
once_answered history item d (Done ts ints) only who what tells = has_one history item d ts 0 (answer.Ints ints) only who what tells.0 tells.1 tells.2
once_answered history item d (Faulted ts fault) only who what tells = has_one history item d ts 0 (answer.Fault fault) only who what tells.0 tells.1 tells.2
once_answered history item d (Upgraded ts number) only who what tells = has_one history item d ts number (answer.Ints []) only who what tells.0 tells.1 tells.2
once_answered history item d (Refused cause) only who what tells = absurd tells
once_answered history item d (Unknown tx) only who what tells = inr (d.number, d.answer, has_one history item d tx d.number d.answer only who what tells refl refl)

answered_once : (history : List Did) (item : Item) (d : Did) (o : ItemOutcome) → entries_of history item.who ≡ d ∷ [] → IsAnswered history item o → Tells (Some d) o
answered_once history item d (Done ts ints) only is = one_has history item d ts 0 (answer.Ints ints) only is
answered_once history item d (Faulted ts fault) only is = one_has history item d ts 0 (answer.Fault fault) only is
answered_once history item d (Upgraded ts number) only is = one_has history item d ts number (answer.Ints []) only is
answered_once history item d (Refused cause) only is = let bad : d ∷ [] ≡ [] = sym only ∙ is in cc
answered_once history item d (Unknown tx) only (inl none) = let bad : d ∷ [] ≡ [] = sym only ∙ none in cc
answered_once history item d (Unknown tx) only (inr one) = (one_has history item d tx one.0 one.1 only one.2).0

twice_answered : (history : List Did) (item : Item) (d e : Did) (more : List Did) (o : ItemOutcome) → entries_of history item.who ≡ d ∷ e ∷ more → IsAnswered history item o → ⊥
twice_answered history item d e more (Done ts ints) two is = two_have history item d e more ts 0 (answer.Ints ints) two is
twice_answered history item d e more (Faulted ts fault) two is = two_have history item d e more ts 0 (answer.Fault fault) two is
twice_answered history item d e more (Upgraded ts number) two is = two_have history item d e more ts number (answer.Ints []) two is
twice_answered history item d e more (Refused cause) two is = two_none history item d e more two is
twice_answered history item d e more (Unknown tx) two (inl none) = two_none history item d e more two none
twice_answered history item d e more (Unknown tx) two (inr one) = two_have history item d e more tx one.0 one.1 two one.2

module _ (clients : List (List What)) (history : List Did) (performed : ArePerformed clients history) where
  what_of : (item : Item) (place : ℕ) (d : Did) → item_of clients item.who ≡ Some item.what → slice_get history place ≡ Some d → d.who ≡ item.who → d.what ≡ item.what
  what_of item place d is stands who =
      let is_performed : item_of clients d.who ≡ Some d.what = all_at (λ (x : Did). item_of clients x.who ≡ Some x.what) history place d stands performed in
      let same : Some d.what ≡ Some item.what = sym is_performed ∙ ap (item_of clients) who ∙ is in
      cc

  said_by : (item : Item) (o : ItemOutcome) (s : Option Standing) → item_of clients item.who ≡ Some item.what → Has history item.who 0 s → IsSaid history s o → IsSaidOf history item o
  said_by item o None is has said = none_said history item o has said
  said_by item o (Some Twice) is has said = absurd said
  said_by item o (Some (Once place in_order)) is has said =
      let once : IsOnce history item.who has.0 in_order = has.2 in
      let at : place ≡ has.0 = let p : place ≡ 0 + has.0 = has.1 in omega (arith, p) in
      let tells : IsOf (Some once.did) o = subst (λ (x : Option Did). IsOf x o) (ap (slice_get history) at ∙ once.stands) said.1 in
      record {
        answered = once_answered history item once.did o once.only once.is_of (what_of item has.0 once.did is once.stands once.is_of) tells.0;
        numbered = tells.1;
        in_order = once.order said.0;
      }

  by_said : (item : Item) (o : ItemOutcome) (s : Option Standing) → Has history item.who 0 s → IsSaidOf history item o → IsSaid history s o
  by_said item o None has said = said_none history item o has said.answered
  by_said item o (Some Twice) has said = absurd (twice_answered history item has.0 has.1.0 has.1.1.0 o has.1.1.1 said.answered)
  by_said item o (Some (Once place in_order)) has said =
      let once : IsOnce history item.who has.0 in_order = has.2 in
      let at : place ≡ has.0 = let p : place ≡ 0 + has.0 = has.1 in omega (arith, p) in
      (by_order in_order refl once, subst (λ (x : Option Did). IsOf x o) (sym (ap (slice_get history) at ∙ once.stands)) (answered_once history item once.did o once.only said.answered, said.numbered))
    where
      by_order : (b : Bool) → in_order ≡ b → IsOnce history item.who has.0 in_order → IsTrue in_order
      by_order true e once = e
      by_order false e once = absurd (once.no_order e said.in_order)

  module _ (standings : Map nat_cmp Standing) (stand : Stand standings history) where
    pub right_by : (item : Item) (e : Ended) → item.who.index < 4294967296 → item_of clients item.who ≡ Some item.what → IsRightBy standings history item.who e → IsRight history item e
    right_by item e low is right =
        let said : IsSaidOf history item e.outcome = said_by item e.outcome (get standings (key item.who)) is (has_at standings history stand item.who low) right.1 in
        record { of_item = right.0; answered = said.answered; numbered = said.numbered; in_order = said.in_order }

    pub by_right : (item : Item) (e : Ended) → item.who.index < 4294967296 → IsRight history item e → IsRightBy standings history item.who e
    by_right item e low right =
        (right.of_item, by_said item e.outcome (get standings (key item.who)) (has_at standings history stand item.who low) record { answered = right.answered; numbered = right.numbered; in_order = right.in_order })

-- ---- lines behind lines

module _ (history : List Did) where
  pub right_behind : (is js : List Item) (es fs : List Ended) → AreRight history is es → AreRight history js fs → AreRight history (is ++ js) (es ++ fs)
  right_behind [] js [] fs one two = two
  right_behind [] js (e ∷ es) fs one two = absurd one
  right_behind (i ∷ is) js [] fs one two = absurd one
  right_behind (i ∷ is) js (e ∷ es) fs one two = (one.0, right_behind is js es fs one.1 two)

  pub wrong_behind : (is js : List Item) (es fs : List Ended) (k n : ℕ) → n ≡ length es + k → AreRight history is es → IsFirstWrong history js fs k → IsFirstWrong history (is ++ js) (es ++ fs) n
  wrong_behind [] js [] fs k n at one two = let same : k ≡ n = let a : n ≡ 0 + k = at in omega (arith, a) in subst (λ (m : ℕ). IsFirstWrong history js fs m) same two
  wrong_behind [] js (e ∷ es) fs k n at one two = absurd one
  wrong_behind (i ∷ is) js [] fs k n at one two = absurd one
  wrong_behind (i ∷ is) js (e ∷ es) fs k zero at one two = absurd (let a : 0 ≡ suc (length es) + k = at in omega (arith, a))
  wrong_behind (i ∷ is) js (e ∷ es) fs k (suc n) at one two = (one.0, wrong_behind is js es fs k n (let a : suc n ≡ suc (length es) + k = at in omega (arith, a)) one.1 two)

  pub wrong_front : (is js : List Item) (es : List Ended) (k : ℕ) → k < length is → IsFirstWrong history is es k → IsFirstWrong history (is ++ js) es k
  wrong_front [] js [] k low wrong = absurd wrong
  wrong_front [] js (e ∷ es) k low wrong = absurd (let bad : k < 0 = low in omega (arith, bad))
  wrong_front (i ∷ is) js [] k low wrong = wrong
  wrong_front (i ∷ is) js (e ∷ es) zero low wrong = wrong
  wrong_front (i ∷ is) js (e ∷ es) (suc k) low wrong = (wrong.0, wrong_front is js es k (let l : suc k < suc (length is) = low in omega (arith, l)) wrong.1)

  pub right_length : (is : List Item) (es : List Ended) → AreRight history is es → length es ≡ length is
  right_length [] [] right = refl
  right_length [] (e ∷ es) right = absurd right
  right_length (i ∷ is) [] right = absurd right
  right_length (i ∷ is) (e ∷ es) right = ap suc (right_length is es right.1)

  -- one line too many
  pub wrong_more : (is : List Item) (es : List Ended) (used : ℕ) → used < length es → AreRight history is (take used es) → IsFirstWrong history is es used
  wrong_more [] [] zero low right = absurd (let bad : 0 < 0 = low in omega (arith, bad))
  wrong_more [] [] (suc used) low right = absurd (let bad : suc used < 0 = low in omega (arith, bad))
  wrong_more [] (e ∷ es) zero low right = refl
  wrong_more [] (e ∷ es) (suc used) low right = absurd right
  wrong_more (i ∷ is) [] zero low right = absurd right
  wrong_more (i ∷ is) [] (suc used) low right = absurd right
  wrong_more (i ∷ is) (e ∷ es) zero low right = absurd right
  wrong_more (i ∷ is) (e ∷ es) (suc used) low right = (right.0, wrong_more is es used (let l : suc used < suc (length es) = low in omega (arith, l)) right.1)

-- ---- the items of a client

split_items : (client n : ℕ) (front behind : List What) → items_from client n (front ++ behind) ≡ items_from client n front ++ items_from client (n + length front) behind
split_items client n [] behind = ap (λ m. items_from client m behind) (omega (arith))
split_items client n (w ∷ front) behind =
    ap (λ is. record { who = record { client = client; index = n }; what = w } ∷ is) (split_items client (n + 1) front behind ∙ ap (λ m. items_from client (n + 1) front ++ items_from client m behind) (omega (arith)))

length_items : (client n : ℕ) (ws : List What) → length (items_from client n ws) ≡ length ws
length_items client n [] = refl
length_items client n (w ∷ ws) = ap suc (length_items client (n + 1) ws)

module _ (clients : List (List What)) (history : List Did) (standings : Map nat_cmp Standing) (performed : ArePerformed clients history) (stand : Stand standings history) (client : ℕ) where
  abbrev items : List What
  items = items_at clients client

  abbrev who_at : ℕ → Who
  who_at place = record { client = client + 1; index = place + 1 }

  abbrev item_at : ℕ → What → Item
  item_at place w = record { who = who_at place; what = w }

  found : (o : Option (List What)) (place : ℕ) (w : What) → slice_get clients client ≡ o → slice_get (unwrap_or o []) place ≡ Some w → item_of clients (who_at place) ≡ Some w
  found None place w e at = let bad : None ≡ Some w = at in cc
  found (Some ws) place w e at =
      let c : client + 1 ≡ suc client = omega (arith) in
      let p : place + 1 ≡ suc place = omega (arith) in
      ap (λ n. option_and_then (λ is. nth is (place + 1)) (nth clients n)) c ∙ ap (option_and_then (λ is. nth is (place + 1))) e ∙ ap (nth ws) p ∙ at

  is_item : (place : ℕ) (w : What) → place < length items → w ≡ get_or items place w → item_of clients (who_at place) ≡ Some w
  is_item place w low is = found (slice_get clients client) place w refl (slice_get-get_or items place w low ∙ ap Some (sym is))

  ended_is : (ended : List Ended) (place : ℕ) (e : Ended) → slice_get ended place ≡ Some e → take (place + 1) ended ≡ take place ended ++ e ∷ []
  ended_is ended place e at = take_more ended place e (slice_get_within ended place e at) ∙ ap (λ (x : Ended). take place ended ++ x ∷ []) (get_or_from_slice_get ended place e e at)

  items_are : (place : ℕ) (w : What) → place < length items → w ≡ get_or items place w → items_from (client + 1) 1 (take (place + 1) items) ≡ items_from (client + 1) 1 (take place items) ++ item_at place w ∷ []
  items_are place w low is =
      let at : 1 + length (take place items) ≡ place + 1 = let l : length (take place items) ≡ place = length-take-le place items (omega (arith, low)) in omega (arith, l) in
      ap (items_from (client + 1) 1) (take_more items place w low ∙ ap (λ (x : What). take place items ++ x ∷ []) (sym is)) ∙ split_items (client + 1) 1 (take place items) (w ∷ []) ∙ ap (λ m. items_from (client + 1) 1 (take place items) ++ items_from (client + 1) m (w ∷ [])) at

  -- the items are those before a place, the one there and those behind it
  items_split : (place : ℕ) (w : What) → place < length items → w ≡ get_or items place w → items_from (client + 1) 1 items ≡ items_from (client + 1) 1 (take place items) ++ item_at place w ∷ items_from (client + 1) (place + 1 + 1) (drop (place + 1) items)
  items_split place w low is =
      let at : 1 + length (take place items) ≡ place + 1 = let l : length (take place items) ≡ place = length-take-le place items (omega (arith, low)) in omega (arith, l) in
      let rest : drop place items ≡ w ∷ drop (place + 1) items = drop_more items place w low ∙ ap (λ (x : What). x ∷ drop (place + 1) items) (sym is) in
      ap (items_from (client + 1) 1) (sym (take-append-drop place items) ∙ ap (λ ws. take place items ++ ws) rest) ∙ split_items (client + 1) 1 (take place items) (w ∷ drop (place + 1) items)
      ∙ ap (λ m. items_from (client + 1) 1 (take place items) ++ items_from (client + 1) m (w ∷ drop (place + 1) items)) at

  get_or_same : {X : Type 0} (xs : List X) (n : ℕ) → n < length xs → (x : X) × (x ≡ get_or xs n x)
  get_or_same [] n low = absurd (let bad : n < 0 = low in omega (arith, bad))
  get_or_same (x ∷ xs) zero low = (x, refl)
  get_or_same (x ∷ xs) (suc n) low = get_or_same xs n (let l : suc n < suc (length xs) = low in omega (arith, l))

  -- one line more that is right
  pub one_right : (ended : List Ended) (place : ℕ) (e : Ended) → place < length items → place < 4294967295 → slice_get ended place ≡ Some e → IsRightBy standings history (who_at place) e
      → AreRight history (items_from (client + 1) 1 (take place items)) (take place ended) → AreRight history (items_from (client + 1) 1 (take (place + 1) items)) (take (place + 1) ended)
  one_right ended place e within low at right so_far =
      let known = get_or_same items place within in
      let w : What = known.0 in
      let one : IsRight history (item_at place w) e = right_by clients history performed standings stand (item_at place w) e (omega (arith, low)) (is_item place w within known.1) right in
      let P : List Item → Type 0 = λ is. AreRight history is (take (place + 1) ended) in
      let Q : List Ended → Type 0 = λ es. AreRight history (items_from (client + 1) 1 (take place items) ++ item_at place w ∷ []) es in
      subst P (sym (items_are place w within known.1)) (subst Q (sym (ended_is ended place e at)) (right_behind history (items_from (client + 1) 1 (take place items)) (item_at place w ∷ []) (take place ended) (e ∷ []) so_far (one, tt)))

  ended_split : (ended : List Ended) (place : ℕ) (e : Ended) → slice_get ended place ≡ Some e → ended ≡ take place ended ++ e ∷ drop (place + 1) ended
  ended_split ended place e at =
      sym (take-append-drop place ended) ∙ ap (λ es. take place ended ++ es) (drop_more ended place e (slice_get_within ended place e at) ∙ ap (λ (x : Ended). x ∷ drop (place + 1) ended) (get_or_from_slice_get ended place e e at))

  -- a line that isn't right, behind those that are
  pub wrong_here : (ended : List Ended) (place : ℕ) (e : Ended) → place < length items → place < 4294967295 → slice_get ended place ≡ Some e → ¬ IsRightBy standings history (who_at place) e
      → AreRight history (items_from (client + 1) 1 (take place items)) (take place ended) → AreRightOr history (items_from (client + 1) 1 items) ended (Some place)
  wrong_here ended place e within low at wrong so_far =
      let known = get_or_same items place within in
      let w : What = known.0 in
      let not_right : ¬ IsRight history (item_at place w) e = λ h. wrong (by_right clients history performed standings stand (item_at place w) e (omega (arith, low)) h) in
      let front : List Item = items_from (client + 1) 1 (take place items) in
      let rest : List Item = item_at place w ∷ items_from (client + 1) (place + 1 + 1) (drop (place + 1) items) in
      let count : length (take place ended) ≡ place = length-take-le place ended (let l : place < length ended = slice_get_within ended place e at in omega (arith, l)) in
      let spot : place ≡ length (take place ended) + 0 = omega (arith, count) in
      let here : IsFirstWrong history (front ++ rest) (take place ended ++ e ∷ drop (place + 1) ended) place = wrong_behind history front rest (take place ended) (e ∷ drop (place + 1) ended) 0 place spot so_far not_right in
      let P : List Item → Type 0 = λ is. IsFirstWrong history is ended place in
      let Q : List Ended → Type 0 = λ es. IsFirstWrong history (front ++ rest) es place in (
        (let l : length (items_from (client + 1) 1 items) ≡ length items = length_items (client + 1) 1 items in omega (arith, l, within)),
        subst P (sym (items_split place w within known.1)) (subst Q (sym (ended_split ended place e at)) here),
      )

  -- no line where an item is left
  pub wrong_end : (ended : List Ended) (place : ℕ) → place < length items → slice_get ended place ≡ None → AreRight history (items_from (client + 1) 1 (take place items)) (take place ended) → AreRightOr history (items_from (client + 1) 1 items) ended (Some place)
  wrong_end ended place within at so_far =
      let known = get_or_same items place within in
      let w : What = known.0 in
      let front : List Item = items_from (client + 1) 1 (take place items) in
      let rest : List Item = item_at place w ∷ items_from (client + 1) (place + 1 + 1) (drop (place + 1) items) in
      let past : length ended ≤ place = none_past ended place at in
      let all : take place ended ≡ ended = take_all place ended past in
      let count : length ended ≡ place =
      let l : length (take place items) ≡ place = length-take-le place items (omega (arith, within)) in
      let m : length front ≡ length (take place items) = length_items (client + 1) 1 (take place items) in
      let k : length (take place ended) ≡ length front = right_length history front (take place ended) so_far in
      let j : length (take place ended) ≡ length ended = ap length all in
      omega (arith, l, m, k, j) in
      let spot : place ≡ length (take place ended) + 0 = let j : length (take place ended) ≡ length ended = ap length all in omega (arith, count, j) in
      let here : IsFirstWrong history (front ++ rest) (take place ended ++ []) place = wrong_behind history front rest (take place ended) [] 0 place spot so_far refl in
      let whole : take place ended ++ [] ≡ ended = append_nothing (take place ended) ∙ all in
      let P : List Item → Type 0 = λ is. IsFirstWrong history is ended place in
      let Q : List Ended → Type 0 = λ es. IsFirstWrong history (front ++ rest) es place in (
        (let l : length (items_from (client + 1) 1 items) ≡ length items = length_items (client + 1) 1 items in omega (arith, l, within)),
        subst P (sym (items_split place w within known.1)) (subst Q whole here),
      )
    where
      none_past : (es : List Ended) (n : ℕ) → slice_get es n ≡ None → length es ≤ n
      none_past [] n e = omega (arith)
      none_past (x ∷ es) zero e = let bad : Some x ≡ None = e in cc
      none_past (x ∷ es) (suc n) e = let l : length es ≤ n = none_past es n e in omega (arith, l)

      append_nothing : (es : List Ended) → es ++ [] ≡ es
      append_nothing [] = refl
      append_nothing (x ∷ es) = ap (λ ys. x ∷ ys) (append_nothing es)

  -- all lines of the client's items
  pub right_items : (ended : List Ended) (place : ℕ) → length items ≤ place → place ≤ length items → AreRight history (items_from (client + 1) 1 (take place items)) (take place ended) → AreRightOr history (items_from (client + 1) 1 items) ended None
  right_items ended place past within right =
      let all : take place items ≡ items = take_all place items past in
      let count : length (items_from (client + 1) 1 items) ≡ length items = length_items (client + 1) 1 items in
      let same : place ≡ length (items_from (client + 1) 1 items) = omega (arith, past, within, count) in
      let P : List What → Type 0 = λ ws. AreRight history (items_from (client + 1) 1 ws) (take place ended) in
      subst (λ (n : ℕ). AreRight history (items_from (client + 1) 1 items) (take n ended)) same (subst P all right)

-- ---- the items of all clients

clients_split : (n : ℕ) (front behind : List (List What)) → client_items_from n (front ++ behind) ≡ client_items_from n front ++ client_items_from (n + length front) behind
clients_split n [] behind = ap (λ m. client_items_from m behind) (omega (arith))
clients_split n (c ∷ front) behind =
    ap (λ is. items_from n 1 c ++ is) (clients_split (n + 1) front behind ∙ ap (λ m. client_items_from (n + 1) front ++ client_items_from m behind) (omega (arith)))
    ∙ sym (assoc (items_from n 1 c) (client_items_from (n + 1) front) (client_items_from (n + length (c ∷ front)) behind))
  where
    assoc : (xs ys zs : List Item) → (xs ++ ys) ++ zs ≡ xs ++ (ys ++ zs)
    assoc [] ys zs = refl
    assoc (x ∷ xs) ys zs = ap (λ ws. x ∷ ws) (assoc xs ys zs)

module _ (clients : List (List What)) (history : List Did) (ended : List Ended) (client used : ℕ) (within : client < length clients) where
  abbrev theirs : List What
  theirs = items_at clients client

  is_at : theirs ≡ get_or clients client theirs
  is_at = by_option (slice_get clients client) refl
    where
      by_option : (o : Option (List What)) → slice_get clients client ≡ o → unwrap_or (slice_get clients client) [] ≡ get_or clients client theirs
      by_option None e = let s : slice_get clients client ≡ Some (get_or clients client theirs) = slice_get-get_or clients client theirs within in let bad : None ≡ Some (get_or clients client theirs) = sym e ∙ s in cc
      by_option (Some ws) e = ap (λ (o : Option (List What)). unwrap_or o []) e ∙ sym (get_or_from_slice_get clients client ws theirs e)

  number : 1 + length (take client clients) ≡ client + 1
  number = let l : length (take client clients) ≡ client = length-take-le client clients (omega (arith, within)) in omega (arith, l)

  clients_are : client_items_from 1 (take (client + 1) clients) ≡ client_items_from 1 (take client clients) ++ items_from (client + 1) 1 theirs
  clients_are =
      ap (client_items_from 1) (take_more clients client theirs within ∙ ap (λ (x : List What). take client clients ++ x ∷ []) (sym is_at)) ∙ items_behind 1 (take client clients) theirs
      ∙ ap (λ m. client_items_from 1 (take client clients) ++ items_from m 1 theirs) number

  all_split : all_items clients ≡ client_items_from 1 (take client clients) ++ (items_from (client + 1) 1 theirs ++ client_items_from (client + 1 + 1) (drop (client + 1) clients))
  all_split =
      let rest : drop client clients ≡ theirs ∷ drop (client + 1) clients = drop_more clients client theirs within ∙ ap (λ (x : List What). x ∷ drop (client + 1) clients) (sym is_at) in
      ap (client_items_from 1) (sym (take-append-drop client clients) ∙ ap (λ cs. take client clients ++ cs) rest) ∙ clients_split 1 (take client clients) (theirs ∷ drop (client + 1) clients)
      ∙ ap (λ m. client_items_from 1 (take client clients) ++ client_items_from m (theirs ∷ drop (client + 1) clients)) number

  -- one client more
  pub one_client : (used ≤ length ended) × AreRight history (client_items_from 1 (take client clients)) (take used ended) → AreRightOr history (items_from (client + 1) 1 theirs) (drop used ended) None
      → (used + length theirs ≤ length ended) × AreRight history (client_items_from 1 (take (client + 1) clients)) (take (used + length theirs) ended)
  one_client so_far right =
      let own : List Ended = take (length theirs) (drop used ended) in
      let mine : AreRight history (items_from (client + 1) 1 theirs) own = subst (λ (n : ℕ). AreRight history (items_from (client + 1) 1 theirs) (take n (drop used ended))) (length_items (client + 1) 1 theirs) right in
      let count : length own ≡ length theirs = right_length history (items_from (client + 1) 1 theirs) own mine ∙ length_items (client + 1) 1 theirs in
      let left : length (drop used ended) ≡ length ended - used = length-drop used ended in
      let some : length own ≤ length (drop used ended) = short (length theirs) (drop used ended) in
      let P : List Item → Type 0 = λ is. AreRight history is (take (used + length theirs) ended) in
      let Q : List Ended → Type 0 = λ es. AreRight history (client_items_from 1 (take client clients) ++ items_from (client + 1) 1 theirs) es in
      let low : used ≤ length ended = so_far.0 in (
        omega (arith, count, left, some, low),
        subst P (sym clients_are) (subst Q (sym (take-add used (length theirs) ended)) (right_behind history (client_items_from 1 (take client clients)) (items_from (client + 1) 1 theirs) (take used ended) own so_far.1 mine)),
      )
    where
      short : (n : ℕ) (es : List Ended) → length (take n es) ≤ length es
      short zero es = omega (arith)
      short (suc n) [] = omega (arith)
      short (suc n) (e ∷ es) = let l : length (take n es) ≤ length es = short n es in omega (arith, l)

  -- the first wrong line is one of this client
  pub wrong_client : (wrong : ℕ) → (used ≤ length ended) × AreRight history (client_items_from 1 (take client clients)) (take used ended) → AreRightOr history (items_from (client + 1) 1 theirs) (drop used ended) (Some wrong)
      → IsFirstWrong history (all_items clients) ended (used + wrong)
  wrong_client wrong so_far first =
      let own : List Item = items_from (client + 1) 1 theirs in
      let behind : List Item = client_items_from (client + 1 + 1) (drop (client + 1) clients) in
      let front : List Item = client_items_from 1 (take client clients) in
      let here : IsFirstWrong history (own ++ behind) (drop used ended) wrong = wrong_front history own behind (drop used ended) wrong first.0 first.1 in
      let count : length (take used ended) ≡ used = length-take-le used ended so_far.0 in
      let there : IsFirstWrong history (front ++ (own ++ behind)) (take used ended ++ drop used ended) (used + wrong) = wrong_behind history front (own ++ behind) (take used ended) (drop used ended) wrong (used + wrong) (omega (arith, count)) so_far.1 here in
      let P : List Item → Type 0 = λ is. IsFirstWrong history is ended (used + wrong) in
      let Q : List Ended → Type 0 = λ es. IsFirstWrong history (front ++ (own ++ behind)) es (used + wrong) in
      subst P (sym all_split) (subst Q (take-append-drop used ended) there)

-- the lines end with those of the last client
pub all_right : (clients : List (List What)) (history : List Did) (ended : List Ended) (client used : ℕ) → length clients ≤ client → (used ≤ length ended) × AreRight history (client_items_from 1 (take client clients)) (take used ended) → length ended ≤ used
    → AreRight history (all_items clients) ended
all_right clients history ended client used past so_far no_more =
    let P : List (List What) → Type 0 = λ cs. AreRight history (client_items_from 1 cs) (take used ended) in
    subst (λ (es : List Ended). AreRight history (all_items clients) es) (take_all used ended no_more) (subst P (take_all client clients past) so_far.1)

-- one line more than items
pub more_wrong : (clients : List (List What)) (history : List Did) (ended : List Ended) (client used : ℕ) → length clients ≤ client → (used ≤ length ended) × AreRight history (client_items_from 1 (take client clients)) (take used ended) → used < length ended
    → IsFirstWrong history (all_items clients) ended used
more_wrong clients history ended client used past so_far more =
    let P : List (List What) → Type 0 = λ cs. AreRight history (client_items_from 1 cs) (take used ended) in
    wrong_more history (all_items clients) ended used more (subst P (take_all client clients past) so_far.1)

-- ---- the fault that tells it

pub item_fault : (history : List Did) (all : List Item) (ended : List Ended) (place at : ℕ) (fault : AuditFault) → FaultIs (line.Item (at + 1)) fault → at ≡ place → IsFirstWrong history all ended place → AreRightAll history all ended (Err fault)
item_fault history all ended place at (Disagrees d) is same wrong = subst (λ (x : Disagreement). AreRightAll history all ended (Err (Disagrees x))) (sym is) (place, ap (λ (n : ℕ). n + 1) same, wrong)
item_fault history all ended place at NoMemory is same wrong = tt
