-- A script, read from left to right, gives its parts.
use Rattle.std.proofs.Common.{◌≡◌, ℕ, zero, suc, ◌+◌, ◌≤◌, Bool, true, false, List, [], ◌∷◌, ◌++◌, length, Some, None, refl, sym, ap, ◌∙◌, subst, arith, append_assoc, append-nil, length-append}
use Rattle.std.specs.Prelude.{◌||◌, nat_eq, cond, map, fold}
use Rattle.std.specs.List.{flat_map, list_all}
use Rattle.std.proofs.lemmas.Bool.{false≢true, and_parts, eq-eqb, or_left, or_right}
use Rattle.std.proofs.lemmas.List.Sums.{fold-append, sum_by-cons}
use Rattle.script_text.specs.declared.token.Token.{Token}
use Rattle.script_text.specs.declared.mark.Mark.{Mark}
use Rattle.script_text.specs.declared.mark.Mark.TheVariants as marks
use Rattle.script_text.specs.declared.sections.Sections.{Sections}
use Rattle.script_text.specs.declared.reader.Found.{Found}
use Rattle.script_text.specs.declared.reader.Current.{Current}
use Rattle.script_text.specs.declared.reader.Reader.{Reader}
use Rattle.script_text.specs.declared.reader.Reader.TheVariants.{Start, Setup, Number, Client, Item, Schedule}
use Rattle.script_text.specs.Marks.{mark_of, number_in}
use Rattle.script_text.specs.Sections.{nothing, with_setup, with_client, new_client, with_item, with_upgrade, sections_of, so_far, stop, start_step, setup_step, number_step, upgrade_step, client_step, word_step, item_step, step, fault_at_end, last_line, read, split_of}
use Rattle.script_text.specs.Script.{are_none, closes_by, closes, ends_by, ends, is_open, is_upgrade_word, is_item_word, is_item, is_upgrade, has_upgrade, Opening, NoSetup, WithSetup, Ending, NoSchedule, WithSchedule, Written, Script, opening_tokens, client_tokens, ending_tokens, tokens_of_script, setup_in, schedule_in, parts_of, IsOpening, IsEnding, IsClient, AreClients, upgraders, IsScript, ArePartsOf}

-- a setup was read, and may end
record AfterSetup (part : List Token) (r : Reader) : Type 0 where
  depth : ℕ
  is : r ≡ Setup part depth true

setup_by : (m : Mark) (t : Token) (ts p : List Token) (d : ℕ) (c : Bool)
    → ((q : List Token) (k : ℕ) (b : Bool) → ends k b ts ≡ true → AfterSetup (q ++ ts) (fold step (Setup q k b) ts))
    → ends_by m d (λ k b. ends k b ts) ≡ true → AfterSetup (p ++ t ∷ ts) (fold step (setup_step m p d c t) ts)
setup_by marks.Open t ts p d c behind e = subst (λ l. AfterSetup l (fold step (setup_step marks.Open p d c t) ts)) (append_assoc p (t ∷ []) ts) (behind (p ++ t ∷ []) (d + 1) false e)
setup_by marks.Close t ts p zero c behind e = absurd (false≢true e)
setup_by marks.Close t ts p (suc d) c behind e = subst (λ l. AfterSetup l (fold step (setup_step marks.Close p (suc d) c t) ts)) (append_assoc p (t ∷ []) ts) (behind (p ++ t ∷ []) d (nat_eq d 0) e)
setup_by marks.End t ts p d c behind e = subst (λ l. AfterSetup l (fold step (setup_step marks.End p d c t) ts)) (append_assoc p (t ∷ []) ts) (behind (p ++ t ∷ []) d (nat_eq d 0) e)
setup_by marks.Other t ts p d c behind e = subst (λ l. AfterSetup l (fold step (setup_step marks.Other p d c t) ts)) (append_assoc p (t ∷ []) ts) (behind (p ++ t ∷ []) d false e)
setup_by marks.Setup t ts p d c behind e = absurd (false≢true e)
setup_by marks.Client t ts p d c behind e = absurd (false≢true e)
setup_by marks.Tx t ts p d c behind e = absurd (false≢true e)
setup_by marks.Upgrade t ts p d c behind e = absurd (false≢true e)
setup_by marks.Schedule t ts p d c behind e = absurd (false≢true e)

setup_read : (ts p : List Token) (d : ℕ) (c : Bool) → ends d c ts ≡ true → AfterSetup (p ++ ts) (fold step (Setup p d c) ts)
unfolding step
setup_read [] p d true e = record { depth = d; is = ap (λ l. Setup l d true) (sym (append-nil p)) }
setup_read [] p d false e = absurd (false≢true e)
setup_read (t ∷ ts) p d c e = setup_by (mark_of t) t ts p d c (λ q k b. setup_read ts q k b) e

-- the rest of an item
item_by : (m : Mark) (t : Token) (ts : List Token) (cur : Current) (p : List Token) (d : ℕ)
    → ((q : List Token) (k : ℕ) → closes k ts ≡ true → fold step (Item cur q k) ts ≡ Client (with_item cur (q ++ ts)))
    → closes_by m d (are_none ts) (λ k. closes k ts) ≡ true → fold step (item_step m cur p d t) ts ≡ Client (with_item cur (p ++ t ∷ ts))
item_by marks.Open t ts cur p d behind e = behind (p ++ t ∷ []) (d + 1) e ∙ ap (λ l. Client (with_item cur l)) (append_assoc p (t ∷ []) ts)
item_by marks.Close t [] cur p zero behind e = refl
item_by marks.Close t (x ∷ xs) cur p zero behind e = absurd (false≢true e)
item_by marks.Close t ts cur p (suc d) behind e = behind (p ++ t ∷ []) d e ∙ ap (λ l. Client (with_item cur l)) (append_assoc p (t ∷ []) ts)
item_by marks.End t ts cur p d behind e = behind (p ++ t ∷ []) d e ∙ ap (λ l. Client (with_item cur l)) (append_assoc p (t ∷ []) ts)
item_by marks.Other t ts cur p d behind e = behind (p ++ t ∷ []) d e ∙ ap (λ l. Client (with_item cur l)) (append_assoc p (t ∷ []) ts)
item_by marks.Setup t ts cur p d behind e = absurd (false≢true e)
item_by marks.Client t ts cur p d behind e = absurd (false≢true e)
item_by marks.Tx t ts cur p d behind e = absurd (false≢true e)
item_by marks.Upgrade t ts cur p d behind e = absurd (false≢true e)
item_by marks.Schedule t ts cur p d behind e = absurd (false≢true e)

rest_read : (ts : List Token) (cur : Current) (p : List Token) (d : ℕ) → closes d ts ≡ true → fold step (Item cur p d) ts ≡ Client (with_item cur (p ++ ts))
unfolding step
rest_read [] cur p d e = absurd (false≢true e)
rest_read (t ∷ ts) cur p d e = item_by (mark_of t) t ts cur p d (λ q k. rest_read ts cur q k) e

-- from its brace on
brace_by : (m : Mark) (cur : Current) (part : List Token) (brace : Token) (rest : List Token) → is_open m ≡ true → closes 0 rest ≡ true
    → fold step (word_step m cur part brace) rest ≡ Client (with_item cur (part ++ brace ∷ rest))
brace_by marks.Open cur part brace rest o e = rest_read rest cur (part ++ brace ∷ []) 0 e ∙ ap (λ l. Client (with_item cur l)) (append_assoc part (brace ∷ []) rest)
brace_by marks.Setup cur part brace rest o e = absurd (false≢true o)
brace_by marks.Client cur part brace rest o e = absurd (false≢true o)
brace_by marks.Tx cur part brace rest o e = absurd (false≢true o)
brace_by marks.Upgrade cur part brace rest o e = absurd (false≢true o)
brace_by marks.Schedule cur part brace rest o e = absurd (false≢true o)
brace_by marks.Close cur part brace rest o e = absurd (false≢true o)
brace_by marks.End cur part brace rest o e = absurd (false≢true o)
brace_by marks.Other cur part brace rest o e = absurd (false≢true o)

-- the client with one more item
abbrev read_item : Current → List Token → Bool → Current
read_item cur item upgrade = record { found = cur.found; items = cur.items ++ item ∷ []; upgrading = upgrade || cur.upgrading }

-- from its word on
word_by : (m : Mark) (word brace : Token) (rest : List Token) (cur : Current) → is_item_word m ≡ true → (is_upgrade_word m ≡ true → cur.found.upgraded ≡ false)
    → is_open (mark_of brace) ≡ true → closes 0 rest ≡ true
    → fold step (client_step m cur word) (brace ∷ rest) ≡ Client (read_item cur (word ∷ brace ∷ rest) (is_upgrade_word m))
unfolding step
word_by marks.Tx word brace rest cur w first o e = brace_by (mark_of brace) cur (word ∷ []) brace rest o e
word_by marks.Upgrade word brace rest cur w first o e =
    ap (λ b. fold step (upgrade_step b cur word) (brace ∷ rest)) (first refl) ∙ brace_by (mark_of brace) (with_upgrade cur) (word ∷ []) brace rest o e
word_by marks.Setup word brace rest cur w first o e = absurd (false≢true w)
word_by marks.Client word brace rest cur w first o e = absurd (false≢true w)
word_by marks.Schedule word brace rest cur w first o e = absurd (false≢true w)
word_by marks.Open word brace rest cur w first o e = absurd (false≢true w)
word_by marks.Close word brace rest cur w first o e = absurd (false≢true w)
word_by marks.End word brace rest cur w first o e = absurd (false≢true w)
word_by marks.Other word brace rest cur w first o e = absurd (false≢true w)

item_read : (item : List Token) (cur : Current) → is_item item ≡ true → (is_upgrade item ≡ true → cur.found.upgraded ≡ false)
    → fold step (Client cur) item ≡ Client (read_item cur item (is_upgrade item))
unfolding step
item_read [] cur is first = absurd (false≢true is)
item_read (word ∷ []) cur is first = absurd (false≢true is)
item_read (word ∷ brace ∷ rest) cur is first =
    let outer = and_parts _ _ is in
    let inner = and_parts _ _ outer.1 in
    word_by (mark_of word) word brace rest cur outer.0 first inner.0 inner.1

or_moves : (a b c : Bool) → (b || (a || c)) ≡ ((a || b) || c)
or_moves true true c = refl
or_moves true false c = refl
or_moves false true c = refl
or_moves false false c = refl

abbrev read_items : Current → List (List Token) → Current
read_items cur items = record { found = cur.found; items = cur.items ++ items; upgrading = has_upgrade items || cur.upgrading }

items_read : (items : List (List Token)) (cur : Current) → list_all is_item items ≡ true → (has_upgrade items ≡ true → cur.found.upgraded ≡ false)
    → fold step (Client cur) (flat_map (λ item. item) items) ≡ Client (read_items cur items)
items_read [] cur are first = ap (λ l. Client (record cur { items = l })) (sym (append-nil cur.items))
items_read (item ∷ items) cur are first =
    let each = and_parts _ _ are in
    let more : List Token = flat_map (λ i. i) items in
    let next : Current = read_item cur item (is_upgrade item) in
    let one : fold step (Client cur) item ≡ Client next = item_read item cur each.0 (λ e. first (or_left (is_upgrade item) (has_upgrade items) e)) in
    let others : fold step (Client next) more ≡ Client (read_items next items) = items_read items next each.1 (λ e. first (or_right (is_upgrade item) (has_upgrade items) e)) in
    fold-append step (Client cur) item more ∙ ap (λ r. fold step r more) one ∙ others
    ∙ ap (λ l. Client (record { found = cur.found; items = l; upgrading = has_upgrade items || (is_upgrade item || cur.upgrading) })) (append_assoc cur.items (item ∷ []) items)
    ∙ ap (λ u. Client (record { found = cur.found; items = cur.items ++ item ∷ items; upgrading = u })) (or_moves (is_upgrade item) (has_upgrade items) cur.upgrading)

-- A client or the schedule may stand next, and so may the end.
record Ready (f : Found) (r : Reader) : Type 0 where
  client : (t : Token) → mark_of t ≡ marks.Client → step r t ≡ Number f
  schedule : (t : Token) → mark_of t ≡ marks.Schedule → step r t ≡ Schedule f []
  parts : so_far r ≡ sections_of f []
  ends : (line : ℕ) → fault_at_end r line ≡ None

ready_start : Ready nothing Start
unfolding step
ready_start = record { client = λ t e. ap (λ m. start_step m t) e; schedule = λ t e. ap (λ m. start_step m t) e; parts = refl; ends = λ line. refl }

ready_setup : (part : List Token) (depth : ℕ) → Ready (with_setup part) (Setup part depth true)
unfolding step
ready_setup part depth = record { client = λ t e. ap (λ m. setup_step m part depth true t) e; schedule = λ t e. ap (λ m. setup_step m part depth true t) e; parts = refl; ends = λ line. refl }

ready_client : (cur : Current) → Ready (with_client cur) (Client cur)
unfolding step
ready_client cur = record { client = λ t e. ap (λ m. client_step m cur t) e; schedule = λ t e. ap (λ m. client_step m cur t) e; parts = refl; ends = λ line. refl }

-- the number of the next client
number_read : (f : Found) (number : Token) → number_in number ≡ Some (length f.clients + 1) → step (Number f) number ≡ Client (new_client f)
unfolding step
number_read f number e =
    let n : ℕ = length f.clients + 1 in
    ap (λ o. number_step o f number) e ∙ ap (λ b. cond b (Client (new_client f)) (stop (Number f) number)) (eq-eqb n n refl)

client_read : (c : Written) (f : Found) (r : Reader) → Ready f r → IsClient (length f.clients + 1) c → (has_upgrade c.items ≡ true → f.upgraded ≡ false)
    → fold step r (client_tokens c) ≡ Client (read_items (new_client f) c.items)
client_read c f r ready is first =
    let items : List Token = flat_map (λ item. item) c.items in
    ap (λ s. fold step (step s c.number) items) (ready.client c.word is.word)
    ∙ ap (λ s. fold step s items) (number_read f c.number is.number)
    ∙ items_read c.items (new_client f) is.items first

abbrev bit : Bool → ℕ
bit b = cond b 1 0

-- one client alone has upgrades
alone : (u h : Bool) (n : ℕ) → (bit h + n) + bit u ≤ 1 → h ≡ true → u ≡ false
alone false h n few e = refl
alone true true n few e = absurd (omega arith)
alone true false n few e = absurd (false≢true e)

others_alone : (u h : Bool) (n : ℕ) → (bit h + n) + bit u ≤ 1 → n + bit (u || (h || false)) ≤ 1
others_alone false false n few = omega arith
others_alone false true n few = omega arith
others_alone true h n few = omega arith

-- the clients were read
record AfterClients (f : Found) (clients : List Written) (r : Reader) : Type 0 where
  found : Found
  ready : Ready found r
  setup : found.setup ≡ f.setup
  clients_are : found.clients ≡ f.clients ++ map (λ client. client.items) clients

clients_read : (clients : List Written) (f : Found) (r : Reader) → Ready f r → AreClients (length f.clients + 1) clients → upgraders clients + bit f.upgraded ≤ 1
    → AfterClients f clients (fold step r (flat_map client_tokens clients))
clients_read [] f r ready are few = record { found = f; ready = ready; setup = refl; clients_are = sym (append-nil f.clients) }
clients_read (c ∷ cs) f r ready are few =
    let h : Bool = has_upgrade c.items in
    let count : upgraders (c ∷ cs) ≡ bit h + upgraders cs = sum_by-cons (λ client. bit (has_upgrade client.items)) c cs in
    let both : (bit h + upgraders cs) + bit f.upgraded ≤ 1 = omega (arith, few, count) in
    let cur : Current = read_items (new_client f) c.items in
    let next : Found = with_client cur in
    let more : List Token = flat_map client_tokens cs in
    let one : fold step r (client_tokens c) ≡ Client cur = client_read c f r ready are.0 (alone f.upgraded h (upgraders cs) both) in
    let numbers : length f.clients + 1 + 1 ≡ length next.clients + 1 = omega (arith, length-append f.clients (c.items ∷ [])) in
    let others : AfterClients next cs (fold step (Client cur) more) =
    clients_read cs next (Client cur) (ready_client cur) (subst (λ n. AreClients n cs) numbers are.1) (others_alone f.upgraded h (upgraders cs) both) in
    let all : fold step (Client cur) more ≡ fold step r (client_tokens c ++ more) = sym (fold-append step r (client_tokens c) more ∙ ap (λ s. fold step s more) one) in
    record {
      found = others.found;
      ready = subst (Ready others.found) all others.ready;
      setup = others.setup;
      clients_are = others.clients_are ∙ append_assoc f.clients (c.items ∷ []) (map (λ client. client.items) cs);
    }

-- the setup was read
record AfterOpening (o : Opening) (r : Reader) : Type 0 where
  found : Found
  ready : Ready found r
  setup : found.setup ≡ setup_in o
  clients : found.clients ≡ []
  upgraded : found.upgraded ≡ false

opening_read : (o : Opening) → IsOpening o → AfterOpening o (fold step Start (opening_tokens o))
unfolding step
opening_read NoSetup is = record { found = nothing; ready = ready_start; setup = refl; clients = refl; upgraded = refl }
opening_read (WithSetup word part) is =
    let after : AfterSetup part (fold step (Setup [] 0 true) part) = setup_read part [] 0 true is.1 in
    let all : Setup part after.depth true ≡ fold step Start (word ∷ part) = sym (ap (λ m. fold step (start_step m word) part) is.0 ∙ after.is) in
    record { found = with_setup part; ready = subst (Ready (with_setup part)) all (ready_setup part after.depth); setup = refl; clients = refl; upgraded = refl }

-- the parts were read, and nothing is missing
record Done (parts : Sections) (r : Reader) : Type 0 where
  parts_are : so_far r ≡ parts
  ends : (line : ℕ) → fault_at_end r line ≡ None

schedule_read : (ts : List Token) (f : Found) (p : List Token) → fold step (Schedule f p) ts ≡ Schedule f (p ++ ts)
unfolding step
schedule_read [] f p = ap (Schedule f) (sym (append-nil p))
schedule_read (t ∷ ts) f p = schedule_read ts f (p ++ t ∷ []) ∙ ap (Schedule f) (append_assoc p (t ∷ []) ts)

ending_read : (e : Ending) (f : Found) (r : Reader) → IsEnding e → Ready f r → Done (sections_of f (schedule_in e)) (fold step r (ending_tokens e))
ending_read NoSchedule f r is ready = record { parts_are = ready.parts; ends = ready.ends }
ending_read (WithSchedule word part) f r is ready =
    let all : Schedule f part ≡ fold step r (word ∷ part) = sym (ap (λ s. fold step s part) (ready.schedule word is) ∙ schedule_read part f []) in
    subst (Done (sections_of f part)) all (record { parts_are = refl; ends = λ line. refl })

-- what is read of a script
script_done : (script : Script) → IsScript script → Done (parts_of script) (fold step Start (tokens_of_script script))
script_done script is =
    let opening : List Token = opening_tokens script.opening in
    let clients : List Token = flat_map client_tokens script.clients in
    let ending : List Token = ending_tokens script.ending in
    let first = opening_read script.opening is.opening in
    let numbers : 1 ≡ length first.found.clients + 1 = omega (arith, ap length first.clients) in
    let few : upgraders script.clients + bit first.found.upgraded ≤ 1 = omega (arith, is.upgrades, ap bit first.upgraded) in
    let second = clients_read script.clients first.found (fold step Start opening) first.ready (subst (λ n. AreClients n script.clients) numbers is.clients) few in
    let third : Done (sections_of second.found (schedule_in script.ending)) (fold step (fold step (fold step Start opening) clients) ending) =
    ending_read script.ending second.found (fold step (fold step Start opening) clients) is.ending second.ready in
    let setup : second.found.setup ≡ setup_in script.opening = second.setup ∙ first.setup in
    let these : second.found.clients ≡ map (λ client. client.items) script.clients =
    second.clients_are ∙ ap (λ l. l ++ map (λ client. client.items) script.clients) first.clients in
    let all : fold step (fold step (fold step Start opening) clients) ending ≡ fold step Start (opening ++ (clients ++ ending)) =
    sym (fold-append step Start opening (clients ++ ending) ∙ fold-append step (fold step Start opening) clients ending) in
    let there : Done (sections_of second.found (schedule_in script.ending)) (fold step Start (opening ++ (clients ++ ending))) =
    subst (Done (sections_of second.found (schedule_in script.ending))) all third in
    record {
      parts_are = there.parts_are
          ∙ ap (λ s. record { setup = s; clients = second.found.clients; schedule = schedule_in script.ending }) setup
          ∙ ap (λ l. record { setup = setup_in script.opening; clients = l; schedule = schedule_in script.ending }) these;
      ends = there.ends;
    }

-- tokens with these parts are read as them
pub parts_read : (tokens : List Token) (parts : Sections) → ArePartsOf tokens parts → split_of tokens ≡ record { sections = parts; fault = None }
unfolding split_of read
parts_read tokens parts are =
    let done = script_done are.script are.is in
    let R : Reader = fold step Start tokens in
    let same : Done (parts_of are.script) R = subst (λ l. Done (parts_of are.script) (fold step Start l)) are.whole done in
    ap (λ s. record { sections = s; fault = fault_at_end R (last_line tokens) }) (same.parts_are ∙ sym are.parts_are)
    ∙ ap (λ f. record { sections = parts; fault = f }) (same.ends (last_line tokens))
