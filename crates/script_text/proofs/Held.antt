-- What was read of some tokens: they are a script, up to what is open.
use Rattle.std.proofs.Common.{◌≡◌, ℕ, zero, suc, ◌+◌, ◌≤◌, Bool, true, false, List, [], ◌∷◌, ◌++◌, length, Option, Some, None, refl, sym, ap, ◌∙◌, subst, arith, append_assoc, append-nil}
use Rattle.std.specs.Prelude.{◌||◌, nat_eq, cond, map, fold}
use Rattle.std.specs.List.{flat_map, list_all}
use Rattle.std.proofs.lemmas.Bool.{false≢true, eqb-true, and_from}
use Rattle.std.proofs.lemmas.Grind.{flat_map-append}
use Rattle.std.proofs.lemmas.List.{map-append, length-map}
use Rattle.std.proofs.lemmas.List.Folds.{list_all-append, list_any-append}
use Rattle.std.proofs.lemmas.List.Sums.{sum_by-append}
use Rattle.script_text.specs.declared.token.Token.{Token}
use Rattle.script_text.specs.declared.mark.Mark.{Mark}
use Rattle.script_text.specs.declared.mark.Mark.TheVariants as marks
use Rattle.script_text.specs.declared.reader.Found.{Found}
use Rattle.script_text.specs.declared.reader.Current.{Current}
use Rattle.script_text.specs.declared.reader.Reader.{Reader}
use Rattle.script_text.specs.declared.reader.Reader.TheVariants.{Start, Setup, Number, Client, Word, Item, Schedule, Stopped}
use Rattle.script_text.specs.Marks.{mark_of, number_in}
use Rattle.script_text.specs.Sections.{nothing, with_setup, with_client, new_client, with_item, with_upgrade, sections_of, so_far, stop, stop_setup, start_step, setup_step, number_step, upgrade_step, client_step, word_step, item_step, step, fault_at_end}
use Rattle.script_text.specs.Script.{are_none, closes_by, closes, ends_by, ends, is_open, is_upgrade_word, is_item_word, is_item, is_upgrade, has_upgrade, Opening, NoSetup, WithSetup, NoSchedule, WithSchedule, Written, opening_tokens, client_tokens, setup_in, IsOpening, IsClient, AreClients, upgraders, ArePartsOf}

abbrev bit : Bool → ℕ
bit b = cond b 1 0

-- a setup and whole clients
pub record Front (f : Found) (ts : List Token) : Type 0 where
  pub opening : Opening
  pub clients : List Written
  pub is_opening : IsOpening opening
  pub are : AreClients 1 clients
  pub whole : opening_tokens opening ++ flat_map client_tokens clients ≡ ts
  pub setup : f.setup ≡ setup_in opening
  pub clients_are : f.clients ≡ map (λ client. client.items) clients
  pub upgraded : upgraders clients ≡ bit f.upgraded

-- an open setup
pub record InSetup (part : List Token) (depth : ℕ) (closed : Bool) (ts : List Token) : Type 0 where
  pub word : Token
  pub word_is : mark_of word ≡ marks.Setup
  pub whole : word ∷ part ≡ ts
  pub so : (more : List Token) → ends 0 true (part ++ more) ≡ ends depth closed more

-- whole clients and the word of the next one
pub record AtNumber (f : Found) (ts : List Token) : Type 0 where
  pub front : List Token
  pub before : Front f front
  pub word : Token
  pub word_is : mark_of word ≡ marks.Client
  pub whole : front ++ word ∷ [] ≡ ts

-- whole clients and items of the next one; whether an item that follows is an upgrade
pub record InClient (cur : Current) (next : Bool) (ts : List Token) : Type 0 where
  pub front : List Token
  pub before : Front cur.found front
  pub word : Token
  pub number : Token
  pub word_is : mark_of word ≡ marks.Client
  pub number_is : number_in number ≡ Some (length cur.found.clients + 1)
  pub items : list_all is_item cur.items ≡ true
  pub whole : front ++ (word ∷ number ∷ flat_map (λ item. item) cur.items) ≡ ts
  pub upgrading : cur.upgrading ≡ (has_upgrade cur.items || next)
  pub alone : cur.upgrading ≡ true → cur.found.upgraded ≡ false

-- and the word of the next item
pub record AtWord (cur : Current) (part : List Token) (ts : List Token) : Type 0 where
  pub first : Token
  pub part_is : part ≡ first ∷ []
  pub front : List Token
  pub client : InClient cur (is_upgrade_word (mark_of first)) front
  pub is : is_item_word (mark_of first) ≡ true
  pub whole : front ++ part ≡ ts

-- and an open item
pub record InItem (cur : Current) (part : List Token) (depth : ℕ) (ts : List Token) : Type 0 where
  pub first : Token
  pub brace : Token
  pub rest : List Token
  pub part_is : part ≡ first ∷ brace ∷ rest
  pub front : List Token
  pub client : InClient cur (is_upgrade_word (mark_of first)) front
  pub is : is_item_word (mark_of first) ≡ true
  pub open_is : is_open (mark_of brace) ≡ true
  pub so : (more : List Token) → closes 0 (rest ++ more) ≡ closes depth more
  pub whole : front ++ part ≡ ts

-- whole clients, and the schedule
pub record InSchedule (f : Found) (tokens : List Token) (ts : List Token) : Type 0 where
  pub front : List Token
  pub before : Front f front
  pub word : Token
  pub word_is : mark_of word ≡ marks.Schedule
  pub whole : front ++ word ∷ tokens ≡ ts

-- what was read is the tokens
abbrev pub Holds : Reader → List Token → Type 0
Holds Start ts = ts ≡ []
Holds (Setup part depth closed) ts = InSetup part depth closed ts
Holds (Number f) ts = AtNumber f ts
Holds (Client cur) ts = InClient cur false ts
Holds (Word cur part) ts = AtWord cur part ts
Holds (Item cur part depth) ts = InItem cur part depth ts
Holds (Schedule f tokens) ts = InSchedule f tokens ts
Holds (Stopped sections fault) ts = Unit {0}

-- fronts

front_none : Front nothing []
front_none = record { opening = NoSetup; clients = []; is_opening = tt; are = tt; whole = refl; setup = refl; clients_are = refl; upgraded = refl }

front_setup : (part : List Token) (depth : ℕ) (ts : List Token) → InSetup part depth true ts → Front (with_setup part) ts
front_setup part depth ts h =
    record {
      opening = WithSetup h.word part;
      clients = [];
      is_opening = (h.word_is, ap (ends 0 true) (sym (append-nil part)) ∙ h.so []);
      are = tt;
      whole = append-nil (h.word ∷ part) ∙ h.whole;
      setup = refl;
      clients_are = refl;
      upgraded = refl;
    }

clients_snoc : (n : ℕ) (cs : List Written) (c : Written) → AreClients n cs → IsClient (length cs + n) c → AreClients n (cs ++ c ∷ [])
clients_snoc n [] c are is = let m : 0 + n ≡ n = omega arith in (subst (λ k. IsClient k c) m is, tt)
clients_snoc n (d ∷ cs) c are is =
    let m : length (d ∷ cs) + n ≡ length cs + (n + 1) = omega arith in
    (are.0, clients_snoc (n + 1) cs c are.1 (subst (λ k. IsClient k c) m is))

more_upgraders : (u g h : Bool) (n k : ℕ) → n ≡ bit u → g ≡ (h || false) → (g ≡ true → u ≡ false) → k ≡ bit h → n + k ≡ bit (u || g)
more_upgraders false false false n k a b first c = omega (arith, a, c)
more_upgraders false true true n k a b first c = omega (arith, a, c)
more_upgraders true false false n k a b first c = omega (arith, a, c)
more_upgraders true true h n k a b first c = absurd (false≢true (sym (first refl)))
more_upgraders u false true n k a b first c = absurd (false≢true b)
more_upgraders u true false n k a b first c = absurd (false≢true (sym b))

front_client : (cur : Current) (ts : List Token) → InClient cur false ts → Front (with_client cur) ts
front_client cur ts h =
    let b = h.before in
    let c : Written = record { word = h.word; number = h.number; items = cur.items } in
    let count : length cur.found.clients ≡ length b.clients = ap length b.clients_are ∙ length-map b.clients (λ client. client.items) in
    let number : length cur.found.clients + 1 ≡ length b.clients + 1 = omega (arith, count) in
    let upgrades : ℕ = bit (has_upgrade cur.items) in
    record {
      opening = b.opening;
      clients = b.clients ++ c ∷ [];
      is_opening = b.is_opening;
      are = clients_snoc 1 b.clients c b.are (record { word = h.word_is; number = h.number_is ∙ ap Some number; items = h.items });
      whole = ap (λ l. opening_tokens b.opening ++ l) (flat_map-append client_tokens b.clients (c ∷ []) ∙ ap (λ l. flat_map client_tokens b.clients ++ l) (append-nil (client_tokens c)))
          ∙ sym (append_assoc (opening_tokens b.opening) (flat_map client_tokens b.clients) (client_tokens c))
          ∙ ap (λ l. l ++ client_tokens c) b.whole ∙ h.whole;
      setup = b.setup;
      clients_are = ap (λ l. l ++ cur.items ∷ []) b.clients_are ∙ sym (map-append (λ client. client.items) b.clients (c ∷ []));
      upgraded = sum_by-append (λ client. bit (has_upgrade client.items)) b.clients (c ∷ [])
          ∙ more_upgraders cur.found.upgraded cur.upgrading (has_upgrade cur.items) (upgraders b.clients) (0 + upgrades) b.upgraded h.upgrading h.alone (omega arith);
    }

-- steps

start_holds : (m : Mark) (t : Token) (ts : List Token) → mark_of t ≡ m → ts ≡ [] → Holds (start_step m t) (ts ++ t ∷ [])
start_holds marks.Setup t ts e h = record { word = t; word_is = e; whole = ap (λ l. l ++ t ∷ []) (sym h); so = λ more. refl }
start_holds marks.Client t ts e h = record { front = ts; before = subst (Front nothing) (sym h) front_none; word = t; word_is = e; whole = refl }
start_holds marks.Schedule t ts e h = record { front = ts; before = subst (Front nothing) (sym h) front_none; word = t; word_is = e; whole = refl }
start_holds marks.Tx t ts e h = tt
start_holds marks.Upgrade t ts e h = tt
start_holds marks.Open t ts e h = tt
start_holds marks.Close t ts e h = tt
start_holds marks.End t ts e h = tt
start_holds marks.Other t ts e h = tt

setup_grows : (t : Token) (part : List Token) (d : ℕ) (c : Bool) (ts : List Token) → InSetup part d c ts → (k : ℕ) (b : Bool)
    → ((more : List Token) → ends d c (t ∷ more) ≡ ends k b more) → InSetup (part ++ t ∷ []) k b (ts ++ t ∷ [])
setup_grows t part d c ts h k b grows =
    record {
      word = h.word;
      word_is = h.word_is;
      whole = ap (λ l. l ++ t ∷ []) h.whole;
      so = λ more. ap (ends 0 true) (append_assoc part (t ∷ []) more) ∙ h.so (t ∷ more) ∙ grows more;
    }

stop_setup_holds : (part : List Token) (d : ℕ) (c : Bool) (t : Token) (ts : List Token) → Holds (stop_setup part d c t) ts
stop_setup_holds part d true t ts = tt
stop_setup_holds part d false t ts = tt

setup_holds : (m : Mark) (t : Token) (part : List Token) (d : ℕ) (c : Bool) (ts : List Token) → mark_of t ≡ m → InSetup part d c ts
    → Holds (setup_step m part d c t) (ts ++ t ∷ [])
setup_holds marks.Open t part d c ts e h = setup_grows t part d c ts h (d + 1) false (λ more. ap (λ m. ends_by m d (λ k b. ends k b more)) e)
setup_holds marks.Close t part (suc d) c ts e h = setup_grows t part (suc d) c ts h d (nat_eq d 0) (λ more. ap (λ m. ends_by m (suc d) (λ k b. ends k b more)) e)
setup_holds marks.End t part d c ts e h = setup_grows t part d c ts h d (nat_eq d 0) (λ more. ap (λ m. ends_by m d (λ k b. ends k b more)) e)
setup_holds marks.Other t part d c ts e h = setup_grows t part d c ts h d false (λ more. ap (λ m. ends_by m d (λ k b. ends k b more)) e)
setup_holds marks.Client t part d true ts e h = record { front = ts; before = front_setup part d ts h; word = t; word_is = e; whole = refl }
setup_holds marks.Schedule t part d true ts e h = record { front = ts; before = front_setup part d ts h; word = t; word_is = e; whole = refl }
setup_holds marks.Client t part d false ts e h = tt
setup_holds marks.Schedule t part d false ts e h = tt
setup_holds marks.Close t part zero c ts e h = stop_setup_holds part zero c t (ts ++ t ∷ [])
setup_holds marks.Setup t part d c ts e h = stop_setup_holds part d c t (ts ++ t ∷ [])
setup_holds marks.Tx t part d c ts e h = stop_setup_holds part d c t (ts ++ t ∷ [])
setup_holds marks.Upgrade t part d c ts e h = stop_setup_holds part d c t (ts ++ t ∷ [])

number_test : (b : Bool) (n : ℕ) (f : Found) (t : Token) (ts : List Token) → number_in t ≡ Some n → nat_eq n (length f.clients + 1) ≡ b → AtNumber f ts
    → Holds (cond b (Client (new_client f)) (stop (Number f) t)) (ts ++ t ∷ [])
number_test true n f t ts e is h =
    record {
      front = h.front;
      before = h.before;
      word = h.word;
      number = t;
      word_is = h.word_is;
      number_is = e ∙ ap Some (eqb-true n (length f.clients + 1) is);
      items = refl;
      whole = sym (append_assoc h.front (h.word ∷ []) (t ∷ [])) ∙ ap (λ l. l ++ t ∷ []) h.whole;
      upgrading = refl;
      alone = λ never. absurd (false≢true never);
    }
number_test false n f t ts e is h = tt

number_holds : (o : Option ℕ) (f : Found) (t : Token) (ts : List Token) → number_in t ≡ o → AtNumber f ts → Holds (number_step o f t) (ts ++ t ∷ [])
number_holds None f t ts e h = tt
number_holds (Some n) f t ts e h = number_test (nat_eq n (length f.clients + 1)) n f t ts e refl h

or_true : (b : Bool) → true ≡ (b || true)
or_true true = refl
or_true false = refl

upgrade_holds : (b : Bool) (cur : Current) (t : Token) (ts : List Token) → mark_of t ≡ marks.Upgrade → cur.found.upgraded ≡ b → InClient cur false ts
    → Holds (upgrade_step b cur t) (ts ++ t ∷ [])
upgrade_holds true cur t ts e is h = tt
upgrade_holds false cur t ts e is h =
    let upgrade : true ≡ is_upgrade_word (mark_of t) = ap is_upgrade_word (sym e) in
    let here : InClient (with_upgrade cur) true ts =
    record {
      front = h.front;
      before = h.before;
      word = h.word;
      number = h.number;
      word_is = h.word_is;
      number_is = h.number_is;
      items = h.items;
      whole = h.whole;
      upgrading = or_true (has_upgrade cur.items);
      alone = λ so. is;
    } in
    record {
      first = t;
      part_is = refl;
      front = ts;
      client = subst (λ b. InClient (with_upgrade cur) b ts) upgrade here;
      is = ap is_item_word e;
      whole = refl;
    }

client_holds : (m : Mark) (t : Token) (cur : Current) (ts : List Token) → mark_of t ≡ m → InClient cur false ts → Holds (client_step m cur t) (ts ++ t ∷ [])
client_holds marks.Tx t cur ts e h =
    record {
      first = t;
      part_is = refl;
      front = ts;
      client = subst (λ b. InClient cur b ts) (ap is_upgrade_word (sym e)) h;
      is = ap is_item_word e;
      whole = refl;
    }
client_holds marks.Upgrade t cur ts e h = upgrade_holds cur.found.upgraded cur t ts e refl h
client_holds marks.Client t cur ts e h = record { front = ts; before = front_client cur ts h; word = t; word_is = e; whole = refl }
client_holds marks.Schedule t cur ts e h = record { front = ts; before = front_client cur ts h; word = t; word_is = e; whole = refl }
client_holds marks.Setup t cur ts e h = tt
client_holds marks.Open t cur ts e h = tt
client_holds marks.Close t cur ts e h = tt
client_holds marks.End t cur ts e h = tt
client_holds marks.Other t cur ts e h = tt

word_holds : (m : Mark) (t : Token) (cur : Current) (part ts : List Token) → mark_of t ≡ m → AtWord cur part ts → Holds (word_step m cur part t) (ts ++ t ∷ [])
word_holds marks.Open t cur part ts e h =
    record {
      first = h.first;
      brace = t;
      rest = [];
      part_is = ap (λ l. l ++ t ∷ []) h.part_is;
      front = h.front;
      client = h.client;
      is = h.is;
      open_is = ap is_open e;
      so = λ more. refl;
      whole = sym (append_assoc h.front part (t ∷ [])) ∙ ap (λ l. l ++ t ∷ []) h.whole;
    }
word_holds marks.Setup t cur part ts e h = tt
word_holds marks.Client t cur part ts e h = tt
word_holds marks.Tx t cur part ts e h = tt
word_holds marks.Upgrade t cur part ts e h = tt
word_holds marks.Schedule t cur part ts e h = tt
word_holds marks.Close t cur part ts e h = tt
word_holds marks.End t cur part ts e h = tt
word_holds marks.Other t cur part ts e h = tt

item_grows : (t : Token) (cur : Current) (part : List Token) (d : ℕ) (ts : List Token) → InItem cur part d ts → (k : ℕ)
    → ((more : List Token) → closes d (t ∷ more) ≡ closes k more) → InItem cur (part ++ t ∷ []) k (ts ++ t ∷ [])
item_grows t cur part d ts h k grows =
    record {
      first = h.first;
      brace = h.brace;
      rest = h.rest ++ t ∷ [];
      part_is = ap (λ l. l ++ t ∷ []) h.part_is;
      front = h.front;
      client = h.client;
      is = h.is;
      open_is = h.open_is;
      so = λ more. ap (closes 0) (append_assoc h.rest (t ∷ []) more) ∙ h.so (t ∷ more) ∙ grows more;
      whole = sym (append_assoc h.front part (t ∷ [])) ∙ ap (λ l. l ++ t ∷ []) h.whole;
    }

or_same : (a b : Bool) → (a || b) ≡ ((a || (b || false)) || false)
or_same true b = refl
or_same false true = refl
or_same false false = refl

-- a whole item joins the client's
item_joins : (cur : Current) (item front : List Token) (next : Bool) → InClient cur next front → is_item item ≡ true → is_upgrade item ≡ next
    → InClient (with_item cur item) false (front ++ item)
item_joins cur item front next h is upgrade =
    let words : List Token = h.word ∷ h.number ∷ flat_map (λ i. i) cur.items in
    record {
      front = h.front;
      before = h.before;
      word = h.word;
      number = h.number;
      word_is = h.word_is;
      number_is = h.number_is;
      items = list_all-append is_item cur.items (item ∷ []) ∙ and_from _ _ h.items (and_from (is_item item) true is refl);
      whole = ap (λ l. h.front ++ (h.word ∷ h.number ∷ l)) (flat_map-append (λ i. i) cur.items (item ∷ []) ∙ ap (λ l. flat_map (λ i. i) cur.items ++ l) (append-nil item))
          ∙ sym (append_assoc h.front words item) ∙ ap (λ l. l ++ item) h.whole;
      upgrading = h.upgrading ∙ ap (λ b. has_upgrade cur.items || b) (sym upgrade) ∙ or_same (has_upgrade cur.items) (is_upgrade item)
          ∙ ap (λ b. b || false) (sym (list_any-append is_upgrade cur.items (item ∷ [])));
      alone = h.alone;
    }

item_ends : (t : Token) (cur : Current) (part ts : List Token) → mark_of t ≡ marks.Close → InItem cur part 0 ts → InClient (with_item cur (part ++ t ∷ [])) false (ts ++ t ∷ [])
item_ends t cur part ts e h =
    let item : List Token = h.first ∷ h.brace ∷ (h.rest ++ t ∷ []) in
    let these : item ≡ part ++ t ∷ [] = ap (λ l. l ++ t ∷ []) (sym h.part_is) in
    let closed : closes 0 (h.rest ++ t ∷ []) ≡ true = h.so (t ∷ []) ∙ ap (λ m. closes_by m 0 true (λ k. closes k [])) e in
    let is : is_item item ≡ true = and_from _ _ h.is (and_from _ _ h.open_is closed) in
    let joined : InClient (with_item cur item) false (h.front ++ item) = item_joins cur item h.front (is_upgrade_word (mark_of h.first)) h.client is refl in
    let all : h.front ++ (part ++ t ∷ []) ≡ ts ++ t ∷ [] = sym (append_assoc h.front part (t ∷ [])) ∙ ap (λ l. l ++ t ∷ []) h.whole in
    subst (λ l. InClient (with_item cur (part ++ t ∷ [])) false l) all (subst (λ l. InClient (with_item cur l) false (h.front ++ l)) these joined)

item_holds : (m : Mark) (t : Token) (cur : Current) (part : List Token) (d : ℕ) (ts : List Token) → mark_of t ≡ m → InItem cur part d ts
    → Holds (item_step m cur part d t) (ts ++ t ∷ [])
item_holds marks.Open t cur part d ts e h = item_grows t cur part d ts h (d + 1) (λ more. ap (λ m. closes_by m d (are_none more) (λ k. closes k more)) e)
item_holds marks.Close t cur part zero ts e h = item_ends t cur part ts e h
item_holds marks.Close t cur part (suc d) ts e h = item_grows t cur part (suc d) ts h d (λ more. ap (λ m. closes_by m (suc d) (are_none more) (λ k. closes k more)) e)
item_holds marks.End t cur part d ts e h = item_grows t cur part d ts h d (λ more. ap (λ m. closes_by m d (are_none more) (λ k. closes k more)) e)
item_holds marks.Other t cur part d ts e h = item_grows t cur part d ts h d (λ more. ap (λ m. closes_by m d (are_none more) (λ k. closes k more)) e)
item_holds marks.Setup t cur part d ts e h = tt
item_holds marks.Client t cur part d ts e h = tt
item_holds marks.Tx t cur part d ts e h = tt
item_holds marks.Upgrade t cur part d ts e h = tt
item_holds marks.Schedule t cur part d ts e h = tt

step_holds : (r : Reader) (t : Token) (ts : List Token) → Holds r ts → Holds (step r t) (ts ++ t ∷ [])
unfolding step
step_holds Start t ts h = start_holds (mark_of t) t ts refl h
step_holds (Setup part d c) t ts h = setup_holds (mark_of t) t part d c ts refl h
step_holds (Number f) t ts h = number_holds (number_in t) f t ts refl h
step_holds (Client cur) t ts h = client_holds (mark_of t) t cur ts refl h
step_holds (Word cur part) t ts h = word_holds (mark_of t) t cur part ts refl h
step_holds (Item cur part d) t ts h = item_holds (mark_of t) t cur part d ts refl h
step_holds (Schedule f tokens) t ts h =
    record {
      front = h.front;
      before = h.before;
      word = h.word;
      word_is = h.word_is;
      whole = sym (append_assoc h.front (h.word ∷ tokens) (t ∷ [])) ∙ ap (λ l. l ++ t ∷ []) h.whole;
    }
step_holds (Stopped sections fault) t ts h = tt

fold_holds : (ts front : List Token) (r : Reader) → Holds r front → Holds (fold step r ts) (front ++ ts)
fold_holds [] front r h = subst (Holds r) (sym (append-nil front)) h
fold_holds (t ∷ ts) front r h = subst (Holds (fold step (step r t) ts)) (append_assoc front (t ∷ []) ts) (fold_holds ts (front ++ t ∷ []) (step r t) (step_holds r t front h))

-- what was read of tokens is those tokens
pub read_holds : (ts : List Token) → Holds (fold step Start ts) ts
read_holds ts = fold_holds ts [] Start refl

-- a script without a schedule
front_parts : (f : Found) (ts : List Token) → Front f ts → ArePartsOf ts (sections_of f [])
front_parts f ts h =
    let few : upgraders h.clients ≤ 1 = elim f.upgraded as (λ b. upgraders h.clients ≡ bit b → upgraders h.clients ≤ 1) [ true ↦ λ e. omega (arith, e) | false ↦ λ e. omega (arith, e) ] h.upgraded in
    record {
      script = record { opening = h.opening; clients = h.clients; ending = NoSchedule };
      is = record { opening = h.is_opening; clients = h.are; ending = tt; upgrades = few };
      whole = ap (λ l. opening_tokens h.opening ++ l) (append-nil (flat_map client_tokens h.clients)) ∙ h.whole;
      parts_are = ap (λ s. record { setup = s; clients = f.clients; schedule = [] }) h.setup ∙ ap (λ l. record { setup = setup_in h.opening; clients = l; schedule = [] }) h.clients_are;
    }

schedule_parts : (f : Found) (tokens ts : List Token) → InSchedule f tokens ts → ArePartsOf ts (sections_of f tokens)
schedule_parts f tokens ts h =
    let b = h.before in
    let few : upgraders b.clients ≤ 1 = elim f.upgraded as (λ u. upgraders b.clients ≡ bit u → upgraders b.clients ≤ 1) [ true ↦ λ e. omega (arith, e) | false ↦ λ e. omega (arith, e) ] b.upgraded in
    record {
      script = record { opening = b.opening; clients = b.clients; ending = WithSchedule h.word tokens };
      is = record { opening = b.is_opening; clients = b.are; ending = h.word_is; upgrades = few };
      whole = sym (append_assoc (opening_tokens b.opening) (flat_map client_tokens b.clients) (h.word ∷ tokens)) ∙ ap (λ l. l ++ h.word ∷ tokens) b.whole ∙ h.whole;
      parts_are = ap (λ s. record { setup = s; clients = f.clients; schedule = tokens }) b.setup ∙ ap (λ l. record { setup = setup_in b.opening; clients = l; schedule = tokens }) b.clients_are;
    }

some_none : {A : Type 0} (x : A) → Some x ≡ None → ⊥
some_none x e = cc

-- where nothing is missing, they are a script, with the parts that were read
pub parts_held : (r : Reader) (ts : List Token) (line : ℕ) → Holds r ts → fault_at_end r line ≡ None → ArePartsOf ts (so_far r)
parts_held Start ts line h e = front_parts nothing ts (subst (Front nothing) (sym h) front_none)
parts_held (Setup part d true) ts line h e = front_parts (with_setup part) ts (front_setup part d ts h)
parts_held (Setup part d false) ts line h e = absurd (some_none _ e)
parts_held (Number f) ts line h e = absurd (some_none _ e)
parts_held (Client cur) ts line h e = front_parts (with_client cur) ts (front_client cur ts h)
parts_held (Word cur part) ts line h e = absurd (some_none _ e)
parts_held (Item cur part d) ts line h e = absurd (some_none _ e)
parts_held (Schedule f tokens) ts line h e = schedule_parts f tokens ts h
parts_held (Stopped sections fault) ts line h e = absurd (some_none _ e)
