-- Where a script can go on with what was read, one does.
use Rattle.std.proofs.Common.{◌≡◌, ◌⊎◌, ◌≤◌, ℕ, zero, suc, ◌+◌, Bool, true, false, cond, Option, Some, None, List, [], ◌∷◌, ◌++◌, length, map, refl, sym, ap, ◌∙◌, subst, inl, inr, append_assoc, append-nil, length-append, arith}
use Rattle.std.specs.Prelude.{◌&&◌, codes, fold, nat_eq}
use Rattle.std.specs.List.{flat_map}
use Rattle.std.specs.Str.{bytes_eq}
use Rattle.std.proofs.lemmas.Bool.{false≢true, and_parts}
use Rattle.std.proofs.lemmas.List.{length-map}
use Rattle.std.proofs.lemmas.List.Sums.{fold-append}
use Rattle.std.proofs.lemmas.Slice.Eq.{bytes_eq-Decides}
use Rattle.class_defs.specs.Spelling.{block_words, setup_words}
use Rattle.class_defs.specs.declared.statements.Stmt.{Stmt}
use Rattle.class_defs.specs.declared.upgrades.Upgrade.{Upgrade}
use Rattle.method_parse.specs.Matching.{is, is_fixed_kind}
use Rattle.method_parse.specs.Texts.{Begins, SpellsBlock, SpellsSetup}
use Rattle.schedule.specs.Written.{AreEventsOf}
use Rattle.script_text.specs.Marks.{mark_by, mark_of, number_in, max_number}
use Rattle.script_text.specs.Script.{are_none, closes_by, closes, is_item_word, is_item, NoSchedule, WithSetup, Written, opening_tokens, client_tokens, ArePartsOf}
use Rattle.script_text.specs.Sections.{new_client, with_client, with_item, sections_of, so_far, stop, number_step, item_step, step, fault_at_end}
use Rattle.script_text.specs.declared.mark.Mark.{Mark}
use Rattle.script_text.specs.declared.mark.Mark.TheVariants as marks
use Rattle.script_text.specs.declared.reader.Current.{Current}
use Rattle.script_text.specs.declared.reader.Found.{Found}
use Rattle.script_text.specs.declared.reader.Reader.{Reader}
use Rattle.script_text.specs.declared.reader.Reader.TheVariants.{Start, Setup, Number, Client, Word, Item, Schedule, Stopped}
use Rattle.script_text.specs.declared.sections.Sections.{Sections}
use Rattle.script_text.specs.declared.syntax.Syntax.{Syntax}
use Rattle.script_text.specs.declared.token.Token.{Token}
use Rattle.script_text.specs.declared.token.TokenKind.{TokenKind}
use Rattle.script_text.specs.declared.token.TokenKind.TheVariants as kinds
use Rattle.script_text.proofs.Completions.{completes}
use Rattle.script_text.proofs.Held.{AtNumber, AtWord, InItem, InSetup, Holds, read_holds, parts_held}
use Rattle.serial_model.specs.declared.entries.What.{What}
use Rattle.serial_model.specs.declared.entries.What.TheVariants.{Tx, Upgrade as UpgradeItem}
use Rattle.upgrade_defs.specs.Spelling.{upgrade_words}
use Rattle.upgrade_defs.specs.Texts.{SpellsUpgrade}
use Rattle.script_parse.specs.Script.{AreItems, AreRefusedItems, HasParts, HasTokens, IsItem, IsRefusedItem}
use Rattle.script_parse.specs.declared.script.Script.{Script}
use Rattle.script_parse.proofs.GoingOn.{CanGoOn, IsCurrent, IsFound}
use Rattle.script_parse.proofs.PartsEnd.{AreProper, block_ends, both_proper, made_proper, now_proper, made_proper_words, rest_proper, upgrade_ends}
use Rattle.script_parse.proofs.ReadingParts.{each_more}
use Rattle.script_parse.proofs.SetupEnds.{setup_ends}

-- ---- the parts of a script

pub no_events : AreEventsOf [] []
no_events = record { written = []; each = tt; whole = refl; events_are = refl }

pub found_parts : (f : Found) (h : IsFound f) → HasParts (sections_of f []) (record { setup = h.0.0; clients = h.1.0; events = [] })
found_parts f h = record { setup = h.0.1; clients = h.1.1; events = no_events }

pub current_found : (cur : Current) → IsCurrent cur → IsFound (with_client cur)
current_found cur h = (h.0.0, (h.0.1.0 ++ h.1.0 ∷ [], each_more AreItems AreRefusedItems cur.found.clients h.0.1.0 (h.0.1.0 ++ h.1.0 ∷ []) cur.items h.1.0 refl h.0.1.1 h.1.1))

pub item_current : (cur : Current) (item : List Token) (what : What) → IsCurrent cur → IsItem item what → IsCurrent (with_item cur item)
item_current cur item what h is = (h.0, (h.1.0 ++ what ∷ [], each_more IsItem IsRefusedItem cur.items h.1.0 (h.1.0 ++ what ∷ []) item what refl h.1.1 is))

-- the tokens with more are a script
finish : (ts more : List Token) (r s : Reader) (script : Script) → fold step Start ts ≡ r → fold step r more ≡ s → fault_at_end s 0 ≡ None → HasParts (so_far s) script → Begins HasTokens ts
finish ts more r s script read is none has =
    let all : fold step Start (ts ++ more) ≡ s = fold-append step Start ts more ∙ ap (λ (x : Reader). fold step x more) read ∙ is in
    let held : Holds s (ts ++ more) = subst (λ (x : Reader). Holds x (ts ++ more)) all (read_holds (ts ++ more)) in
    (more, script, (so_far s, (parts_held s (ts ++ more) 0 held none, has)))

finish_client : (ts more : List Token) (r : Reader) (cur : Current) → fold step Start ts ≡ r → fold step r more ≡ Client cur → IsCurrent cur → Begins HasTokens ts
finish_client ts more r cur read is h =
    let f = current_found cur h in
    finish ts more r (Client cur) (record { setup = f.0.0; clients = f.1.0; events = [] }) read is refl (found_parts (with_client cur) f)

-- ---- an open setup

setup_completed : (part : List Token) (d : ℕ) (c : Bool) (ts : List Token) → InSetup part d c ts → AreProper ts → Begins SpellsSetup part → Begins HasTokens ts
setup_completed part d c ts h proper b =
    let more : List Token = map made_proper b.0 in
    let spells : SpellsSetup (part ++ more) b.1 = (made_proper_words part b.0 (setup_words b.1) b.2.0, b.2.1) in
    let front : AreProper (h.word ∷ part) = subst (λ (l : List Token). AreProper l) (sym h.whole) proper in
    let ended = setup_ends (part ++ more) b.1 spells (both_proper part more front.1 (now_proper b.0)) in
    let parts : Sections = record { setup = Some (part ++ more); clients = []; schedule = [] } in
    let are : ArePartsOf (ts ++ more) parts =
    record {
      script = record { opening = WithSetup h.word (part ++ more); clients = []; ending = NoSchedule };
      is = record { opening = (h.word_is, ended); clients = tt; ending = tt; upgrades = omega arith };
      whole = append-nil (h.word ∷ (part ++ more)) ∙ ap (λ (l : List Token). l ++ more) h.whole;
      parts_are = refl;
    } in
    (more, record { setup = Some b.1; clients = []; events = [] }, (parts, (are, record { setup = spells; clients = tt; events = no_events })))

-- ---- a client without its number

pub stays : (ts : List Token) (s : Sections) (f : Syntax) → fold step (Stopped s f) ts ≡ Stopped s f
unfolding step
stays [] s f = refl
stays (t ∷ ts) s f = stays ts s f

some_none : {A : Type 0} (x : A) → Some x ≡ None → ⊥
some_none x e = cc

not_stopped : (more : List Token) (s : Sections) (f : Syntax) → fault_at_end (fold step (Stopped s f) more) 0 ≡ None → ⊥
not_stopped more s f none = some_none f (sym (ap (λ (r : Reader). fault_at_end r 0) (stays more s f)) ∙ none)

number_bool : (b : Bool) (n : Token) (more : List Token) (f : Found) → fault_at_end (fold step (cond b (Client (new_client f)) (stop (Number f) n)) more) 0 ≡ None
    → cond b (Client (new_client f)) (stop (Number f) n) ≡ Client (new_client f)
number_bool true n more f none = refl
number_bool false n more f none = absurd (not_stopped more (so_far (Number f)) (record { line = n.line }) none)

number_by : (o : Option ℕ) (n : Token) (more : List Token) (f : Found) → fault_at_end (fold step (number_step o f n) more) 0 ≡ None → number_step o f n ≡ Client (new_client f)
number_by None n more f none = absurd (not_stopped more (so_far (Number f)) (record { line = n.line }) none)
number_by (Some k) n more f none = number_bool (nat_eq k (length f.clients + 1)) n more f none

number_found : (more : List Token) (f : Found) → fault_at_end (fold step (Number f) more) 0 ≡ None → (n : Token) × (step (Number f) n ≡ Client (new_client f))
unfolding step
number_found [] f none = absurd (some_none _ none)
number_found (n ∷ more) f none = (n, number_by (number_in n) n more f none)

clients_within : (cs : List Written) → length cs ≤ length (flat_map client_tokens cs)
clients_within [] = omega arith
clients_within (c ∷ cs) = omega (arith, clients_within cs, length-append (client_tokens c) (flat_map client_tokens cs))

countable : (f : Found) (ts : List Token) → length ts ≤ max_number → AtNumber f ts → length f.clients + 1 ≤ max_number
countable f ts short h =
    let b = h.before in
    let count : length f.clients ≡ length b.clients = ap length b.clients_are ∙ length-map b.clients (λ client. client.items) in
    let front : length (opening_tokens b.opening ++ flat_map client_tokens b.clients) ≡ length h.front = ap length b.whole in
    let all : length (h.front ++ h.word ∷ []) ≡ length ts = ap length h.whole in
    omega (arith, count, front, all, clients_within b.clients, length-append (opening_tokens b.opening) (flat_map client_tokens b.clients), length-append h.front (h.word ∷ []), short)

number_completed : (f : Found) (ts : List Token) → fold step Start ts ≡ Number f → AtNumber f ts → length ts ≤ max_number → IsFound f → Begins HasTokens ts
number_completed f ts read h short found =
    let more = completes (Number f) (countable f ts short h) in
    let n = number_found more.more f (more.ends 0) in
    finish_client ts (n.0 ∷ []) (Number f) (new_client f) read n.1 (found, ([], tt))

-- ---- the word of an item

chain : (a b c d e : Bool) → is_item_word (cond a marks.Setup (cond b marks.Client (cond c marks.Tx (cond d marks.Upgrade (cond e marks.Schedule marks.Other))))) ≡ true → (c ≡ true) ⊎ (d ≡ true)
chain true b c d e is = absurd (false≢true is)
chain false true c d e is = absurd (false≢true is)
chain false false true d e is = inl refl
chain false false false true e is = inr refl
chain false false false false true is = absurd (false≢true is)
chain false false false false false is = absurd (false≢true is)

no_symbol : (a b c : Bool) → is_item_word (cond a marks.Open (cond b marks.Close (cond c marks.End marks.Other))) ≡ true → ⊥
no_symbol true b c is = false≢true is
no_symbol false true c is = false≢true is
no_symbol false false true is = false≢true is
no_symbol false false false is = false≢true is

abbrev ItemWord : TokenKind → List ℕ → Type 0
ItemWord kind text = ((is_fixed_kind kind && bytes_eq text (codes "tx")) ≡ true) ⊎ ((is_fixed_kind kind ≡ true) × (text ≡ codes "upgrade"))

item_word : (kind : TokenKind) (text : List ℕ) → is_item_word (mark_by kind text) ≡ true → ItemWord kind text
item_word kinds.Name text is = absurd (false≢true is)
item_word kinds.Number text is = absurd (false≢true is)
item_word kinds.Quoted text is = absurd (false≢true is)
item_word kinds.Symbol text is = absurd (no_symbol (bytes_eq text (codes "{")) (bytes_eq text (codes "}")) (bytes_eq text (codes ";")) is)
item_word kinds.Keyword text is =
    by (chain (bytes_eq text (codes "setup")) (bytes_eq text (codes "client")) (bytes_eq text (codes "tx")) (bytes_eq text (codes "upgrade")) (bytes_eq text (codes "schedule")) is)
  where
    by : (bytes_eq text (codes "tx") ≡ true) ⊎ (bytes_eq text (codes "upgrade") ≡ true) → ItemWord kinds.Keyword text
    by (inl e) = inl e
    by (inr e) = inr (refl, (bytes_eq-Decides text (codes "upgrade")).0 e)

pub item_word_of : (token : Token) → is_item_word (mark_of token) ≡ true → ItemWord token.kind token.text
unfolding mark_of
item_word_of token is = item_word token.kind token.text is

abbrev token_as : TokenKind → List ℕ → Token
token_as kind text = record { kind = kind; text = text; line = 0; from = 0; to = 0 }

abbrev pub open_brace : Token
open_brace = token_as kinds.Symbol (codes "{")

abbrev pub block_more : List Token
block_more = open_brace ∷ token_as kinds.Symbol (codes "}") ∷ []

abbrev pub upgrade_more : List Token
upgrade_more =
    open_brace ∷ token_as kinds.Keyword (codes "class") ∷ token_as kinds.Name (codes "C") ∷ token_as kinds.Symbol (codes "{")
    ∷ token_as kinds.Symbol (codes "}") ∷ token_as kinds.Symbol (codes "}") ∷ []

abbrev no_stmts : List Stmt
no_stmts = []

empty_block : SpellsBlock block_more no_stmts
empty_block = (((refl, refl), ((refl, refl), tt)), record { depth = omega arith; nesting = omega arith; proper = refl })

abbrev small_upgrade : ℕ → Upgrade
small_upgrade line = record { line = line; classes = record { name = record { text = codes "C"; line = 0 }; fields = []; methods = [] } ∷ [] }

upgrade_spelled : (first : Token) → is_fixed_kind first.kind ≡ true → first.text ≡ codes "upgrade" → SpellsUpgrade (first ∷ upgrade_more) (small_upgrade first.line)
upgrade_spelled first kind text = (
  ((kind, text, refl), ((refl, refl), ((refl, refl), ((refl, refl, refl), ((refl, refl), ((refl, refl), ((refl, refl), tt))))))),
  record { some = omega arith; each = (record { fields = omega arith; each_field = tt; methods = omega arith; each_method = tt }, tt) },
)

-- with it, some item begins
pub record WordGoesOn (first : Token) : Type 0 where
  pub more : List Token
  pub what : What
  pub is : IsItem (first ∷ open_brace ∷ more) what
  pub read : (cur : Current) → fold step (Word cur (first ∷ [])) (open_brace ∷ more) ≡ Client (with_item cur (first ∷ open_brace ∷ more))

tx_read : (first : Token) (cur : Current) → fold step (Word cur (first ∷ [])) block_more ≡ Client (with_item cur (first ∷ block_more))
unfolding step mark_of
tx_read first cur = refl

upgrade_read : (first : Token) (cur : Current) → fold step (Word cur (first ∷ [])) upgrade_more ≡ Client (with_item cur (first ∷ upgrade_more))
unfolding step mark_of
upgrade_read first cur = refl

pub word_goes_on : (first : Token) → is_item_word (mark_of first) ≡ true → WordGoesOn first
word_goes_on first word = by (item_word_of first word)
  where
    by : ItemWord first.kind first.text → WordGoesOn first
    by (inl tx) = record { more = token_as kinds.Symbol (codes "}") ∷ []; what = Tx no_stmts; is = (tx, empty_block); read = tx_read first }
    by (inr up) = record {
      more = token_as kinds.Keyword (codes "class") ∷ token_as kinds.Name (codes "C") ∷ token_as kinds.Symbol (codes "{") ∷ token_as kinds.Symbol (codes "}") ∷ token_as kinds.Symbol (codes "}") ∷ [];
      what = UpgradeItem (small_upgrade first.line);
      is = upgrade_spelled first up.0 up.1;
      read = upgrade_read first;
    }

word_completed : (cur : Current) (part ts : List Token) → fold step Start ts ≡ Word cur part → AtWord cur part ts → IsCurrent cur → Begins HasTokens ts
word_completed cur part ts read h current =
    let w = word_goes_on h.first h.is in
    let item : List Token = h.first ∷ open_brace ∷ w.more in
    finish_client ts (open_brace ∷ w.more) (Word cur (h.first ∷ [])) (with_item cur item) (read ∙ ap (Word cur) h.part_is) (w.read cur) (item_current cur item w.what current w.is)

-- ---- an open item

item_ends : (word : Token) (tokens : List Token) (what : What) → is_item_word (mark_of word) ≡ true → IsItem (word ∷ tokens) what → AreProper (word ∷ tokens) → is_item (word ∷ tokens) ≡ true
item_ends word tokens (Tx block) word_is is proper = block_ends word tokens block word_is is.1 proper.1
item_ends word tokens (UpgradeItem upgrade) word_is is proper = upgrade_ends (word ∷ tokens) upgrade is proper

-- an item that goes on with more tokens closes behind them
pub item_closes : (cur : Current) (part : List Token) (d : ℕ) (ts xs : List Token) (what : What) → InItem cur part d ts → IsItem (part ++ xs) what → AreProper (part ++ xs) → closes d xs ≡ true
item_closes cur part d ts xs what h is proper =
    let whole : part ++ xs ≡ h.first ∷ h.brace ∷ (h.rest ++ xs) = ap (λ (l : List Token). l ++ xs) h.part_is in
    let item = item_ends h.first (h.brace ∷ (h.rest ++ xs)) what h.is (subst (λ (l : List Token). IsItem l what) whole is) (subst (λ (l : List Token). AreProper l) whole proper) in
    sym (h.so xs) ∙ (and_parts _ _ (and_parts _ _ item).1).1

made_proper_by : (word : Token) (front more : List Token) (what : What) → IsItem (word ∷ (front ++ more)) what → IsItem (word ∷ (front ++ map made_proper more)) what
made_proper_by word front more (Tx block) is = (is.0, (made_proper_words front more (block_words block) is.1.0, is.1.1))
made_proper_by word front more (UpgradeItem upgrade) is = (made_proper_words (word ∷ front) more (upgrade_words upgrade) is.0, is.1)

pub made_proper_item : (part front more : List Token) (word : Token) (what : What) → part ≡ word ∷ front → IsItem (part ++ more) what → IsItem (part ++ map made_proper more) what
made_proper_item part front more word what e is =
    subst (λ (l : List Token). IsItem (l ++ map made_proper more) what) (sym e) (made_proper_by word front more what (subst (λ (l : List Token). IsItem (l ++ more) what) e is))

rest_by : (m : Mark) (t : Token) (ts : List Token) (cur : Current) (p : List Token) (d : ℕ)
    → ((q : List Token) (k : ℕ) → closes k ts ≡ true → fold step (Item cur q k) ts ≡ Client (with_item cur (q ++ ts)))
    → closes_by m d (are_none ts) (λ k. closes k ts) ≡ true → fold step (item_step m cur p d t) ts ≡ Client (with_item cur (p ++ t ∷ ts))
rest_by marks.Open t ts cur p d behind e = behind (p ++ t ∷ []) (d + 1) e ∙ ap (λ l. Client (with_item cur l)) (append_assoc p (t ∷ []) ts)
rest_by marks.Close t [] cur p zero behind e = refl
rest_by marks.Close t (x ∷ xs) cur p zero behind e = absurd (false≢true e)
rest_by marks.Close t ts cur p (suc d) behind e = behind (p ++ t ∷ []) d e ∙ ap (λ l. Client (with_item cur l)) (append_assoc p (t ∷ []) ts)
rest_by marks.End t ts cur p d behind e = behind (p ++ t ∷ []) d e ∙ ap (λ l. Client (with_item cur l)) (append_assoc p (t ∷ []) ts)
rest_by marks.Other t ts cur p d behind e = behind (p ++ t ∷ []) d e ∙ ap (λ l. Client (with_item cur l)) (append_assoc p (t ∷ []) ts)
rest_by marks.Setup t ts cur p d behind e = absurd (false≢true e)
rest_by marks.Client t ts cur p d behind e = absurd (false≢true e)
rest_by marks.Tx t ts cur p d behind e = absurd (false≢true e)
rest_by marks.Upgrade t ts cur p d behind e = absurd (false≢true e)
rest_by marks.Schedule t ts cur p d behind e = absurd (false≢true e)

rest_read : (ts : List Token) (cur : Current) (p : List Token) (d : ℕ) → closes d ts ≡ true → fold step (Item cur p d) ts ≡ Client (with_item cur (p ++ ts))
unfolding step
rest_read [] cur p d e = absurd (false≢true e)
rest_read (t ∷ ts) cur p d e = rest_by (mark_of t) t ts cur p d (λ q k. rest_read ts cur q k) e

item_completed : (cur : Current) (part : List Token) (d : ℕ) (ts : List Token) → fold step Start ts ≡ Item cur part d → InItem cur part d ts → AreProper ts → IsCurrent cur → Begins IsItem part
    → Begins HasTokens ts
item_completed cur part d ts read h proper current b =
    let more : List Token = map made_proper b.0 in
    let item : IsItem (part ++ more) b.1 = made_proper_item part (h.brace ∷ h.rest) b.0 h.first b.1 h.part_is b.2 in
    let own : AreProper part = rest_proper h.front part (subst (λ (l : List Token). AreProper l) (sym h.whole) proper) in
    let closed = item_closes cur part d ts more b.1 h item (both_proper part more own (now_proper b.0)) in
    finish_client ts more (Item cur part d) (with_item cur (part ++ more)) read (rest_read more cur part d closed) (item_current cur (part ++ more) b.1 current item)

-- ---- the schedule

schedule_read : (ts : List Token) (f : Found) (p : List Token) → fold step (Schedule f p) ts ≡ Schedule f (p ++ ts)
unfolding step
schedule_read [] f p = ap (Schedule f) (sym (append-nil p))
schedule_read (t ∷ ts) f p = schedule_read ts f (p ++ t ∷ []) ∙ ap (Schedule f) (append_assoc p (t ∷ []) ts)

schedule_completed : (f : Found) (tokens ts : List Token) → fold step Start ts ≡ Schedule f tokens → IsFound f → Begins AreEventsOf tokens → Begins HasTokens ts
schedule_completed f tokens ts read found b =
    finish ts b.0 (Schedule f tokens) (Schedule f (tokens ++ b.0)) (record { setup = found.0.0; clients = found.1.0; events = b.1 }) read (schedule_read b.0 f tokens) refl
    (record { setup = found.0.1; clients = found.1.1; events = b.2 })

-- ---- what was read

completed_by : (r : Reader) (ts : List Token) → fold step Start ts ≡ r → Holds r ts → AreProper ts → length ts ≤ max_number → CanGoOn r → Begins HasTokens ts
completed_by Start ts read h proper short can =
    finish ts [] Start Start (record { setup = None; clients = []; events = [] }) read refl refl (record { setup = tt; clients = tt; events = no_events })
completed_by (Setup part d c) ts read h proper short can = setup_completed part d c ts h proper can
completed_by (Number f) ts read h proper short can = number_completed f ts read h short can
completed_by (Client cur) ts read h proper short can = finish_client ts [] (Client cur) cur read refl can
completed_by (Word cur part) ts read h proper short can = word_completed cur part ts read h can
completed_by (Item cur part d) ts read h proper short can = item_completed cur part d ts read h proper can.0 can.1
completed_by (Schedule f tokens) ts read h proper short can = schedule_completed f tokens ts read can.0 can.1
completed_by (Stopped s f) ts read h proper short can = absurd can

-- a script begins with tokens that are read so
pub completed : (ts : List Token) → AreProper ts → length ts ≤ max_number → CanGoOn (fold step Start ts) → Begins HasTokens ts
completed ts proper short can = completed_by (fold step Start ts) ts refl (read_holds ts) proper short can
