-- Of parts that were read so far: one that can't go on, which is refused then however the text goes on.
use Rattle.std.proofs.Common.{◌≡◌, ◌⊎◌, ◌≤◌, ℕ, zero, suc, ◌+◌, Bool, true, false, cond, Option, Some, None, List, [], ◌∷◌, ◌++◌, length, ap, ◌∙◌, subst, inl, inr, append_assoc, length-append, arith}
use Rattle.std.specs.Prelude.{fold, nat_eq}
use Rattle.class_defs.specs.declared.declarations.Declarations.{Declarations}
use Rattle.method_parse.specs.Texts.{IsFirstFault, SpellsSetup}
use Rattle.schedule.specs.Written.{AreEventsOf, IsFirstFault as IsEventFault}
use Rattle.schedule.specs.declared.events.Event.{Event}
use Rattle.script_text.specs.Marks.{mark_of, number_in}
use Rattle.script_text.specs.Sections.{nothing, new_client, with_client, with_item, with_setup, sections_of, so_far, stop, stop_setup, setup_step, number_step, upgrade_step, client_step, word_step, item_step, step}
use Rattle.script_text.specs.declared.mark.Mark.{Mark}
use Rattle.script_text.specs.declared.mark.Mark.TheVariants as marks
use Rattle.script_text.specs.declared.reader.Current.{Current}
use Rattle.script_text.specs.declared.reader.Found.{Found}
use Rattle.script_text.specs.declared.reader.Reader.{Reader}
use Rattle.script_text.specs.declared.reader.Reader.TheVariants.{Start, Setup, Number, Client, Word, Item, Schedule, Stopped}
use Rattle.script_text.specs.declared.sections.Sections.{Sections}
use Rattle.script_text.specs.declared.sections.Split.{Split}
use Rattle.script_text.specs.declared.syntax.Syntax.{Syntax}
use Rattle.script_text.specs.declared.token.Token.{Token}
use Rattle.serial_model.specs.declared.entries.What.{What}
use Rattle.script_parse.specs.Reads.{Each, FirstRefused}
use Rattle.script_parse.specs.Script.{AreItems, AreRefusedItems, IsItem, IsRefusedItem, IsRefusedSchedule, IsRefusedSetup, IsRefusedSplit, IsSetupPart}
use Rattle.script_parse.specs.declared.refusal.Refusal.{Refusal}
use Rattle.script_parse.specs.declared.refusal.Refusal.TheVariants as refusal
use Rattle.script_parse.proofs.Decided.{events_fault, events_or_fault, item_fault, item_or_refused}
use Rattle.script_parse.proofs.OneFault.{no_fault, one_line}
use Rattle.script_parse.proofs.OneScript.{AreClients, BehindSetup, syntax_same}

-- a text of the grammar doesn't begin with the tokens, whatever stands behind
abbrev pub Faulty : {X : Type 0} → (List Token → X → Type 0) → List Token → Refusal → Type 0
Faulty Spells tokens q = (line : ℕ) × ((q ≡ refusal.Syntax line) × IsFirstFault Spells tokens line)

faulty_more : {X : Type 0} (Spells : List Token → X → Type 0) (tokens more : List Token) (q : Refusal) → Faulty Spells tokens q → Faulty Spells (tokens ++ more) q
faulty_more Spells tokens more q b =
    let f = b.1.1 in (
      b.0,
      (
        b.1.0,
        record {
          before = f.before;
          token = f.token;
          behind = f.behind ++ more;
          parts = ap (λ (l : List Token). l ++ more) f.parts ∙ append_assoc f.before (f.token ∷ f.behind) more;
          begins = f.begins;
          ends = f.ends;
          on_line = f.on_line;
        },
      ),
    )

none_cons : (before : List Token) (token : Token) (behind : List Token) → [] ≡ before ++ token ∷ behind → ⊥
none_cons [] token behind e = cc
none_cons (b ∷ before) token behind e = cc

faulty_none : {X : Type 0} (Spells : List Token → X → Type 0) (q : Refusal) → Faulty Spells [] q → ⊥
faulty_none Spells q b = none_cons b.1.1.before b.1.1.token b.1.1.behind b.1.1.parts

abbrev pub FaultyItem : List Token → Refusal → Type 0
FaultyItem tokens q = (2 ≤ length tokens) × Faulty IsItem tokens q

abbrev pub FaultyItems : List (List Token) → Refusal → Type 0
FaultyItems items q = FirstRefused IsItem FaultyItem items q

abbrev pub FaultyClients : List (List (List Token)) → Refusal → Type 0
FaultyClients clients q = FirstRefused AreItems FaultyItems clients q

abbrev pub FaultySetup : Option (List Token) → Refusal → Type 0
FaultySetup None q = ⊥
FaultySetup (Some tokens) q = Faulty SpellsSetup tokens q

module _ {A T : Type 0} (Is : A → T → Type 0) (IsFaulty : A → Refusal → Type 0) where
  pub first_more : (xs more : List A) (q : Refusal) → FirstRefused Is IsFaulty xs q → FirstRefused Is IsFaulty (xs ++ more) q
  first_more [] more q f = absurd f
  first_more (x ∷ xs) more q (inl f) = inl f
  first_more (x ∷ xs) more q (inr f) = inr (f.0, (f.1.0, first_more xs more q f.1.1))

  pub first_last : (xs : List A) (x y : A) (q : Refusal) → (IsFaulty x q → IsFaulty y q) → FirstRefused Is IsFaulty (xs ++ x ∷ []) q → FirstRefused Is IsFaulty (xs ++ y ∷ []) q
  first_last [] x y q grows (inl f) = inl (grows f)
  first_last [] x y q grows (inr f) = absurd f.1.1
  first_last (z ∷ xs) x y q grows (inl f) = inl f
  first_last (z ∷ xs) x y q grows (inr f) = inr (f.0, (f.1.0, first_last xs x y q grows f.1.1))

  -- it is the last one, behind ones that are none
  pub first_behind : (xs : List A) (ts : List T) (x : A) (q : Refusal) → Each Is xs ts → IsFaulty x q → FirstRefused Is IsFaulty (xs ++ x ∷ []) q
  first_behind [] ts x q each faulty = inl faulty
  first_behind (y ∷ xs) [] x q each faulty = absurd each
  first_behind (y ∷ xs) (t ∷ ts) x q each faulty = inr (t, (each.0, first_behind xs ts x q each.1 faulty))

  pub first_as : (IsRefused : A → Refusal → Type 0) → ((x : A) (q : Refusal) → IsFaulty x q → IsRefused x q) → (xs : List A) (q : Refusal) → FirstRefused Is IsFaulty xs q → FirstRefused Is IsRefused xs q
  first_as IsRefused refused [] q f = absurd f
  first_as IsRefused refused (x ∷ xs) q (inl f) = inl (refused x q f)
  first_as IsRefused refused (x ∷ xs) q (inr f) = inr (f.0, (f.1.0, first_as IsRefused refused xs q f.1.1))

item_more : (item more : List Token) (q : Refusal) → FaultyItem item q → FaultyItem (item ++ more) q
item_more item more q b = (omega (arith, b.0, length-append item more), faulty_more IsItem item more q b.1)

-- behind the setup
abbrev pub ClientsStayRefused : List (List (List Token)) → List Token → Refusal → Type 0
ClientsStayRefused clients schedule q = FaultyClients clients q ⊎ (((whats : List (List What)) × AreClients clients whats) × Faulty AreEventsOf schedule q)

abbrev pub StaysRefused : Sections → Refusal → Type 0
StaysRefused s q = FaultySetup s.setup q ⊎ (((setup : Option Declarations) × IsSetupPart s.setup setup) × ClientsStayRefused s.clients s.schedule q)

-- ---- one more token

no_clients : (q : Refusal) → ClientsStayRefused [] [] q → ⊥
no_clients q (inl f) = f
no_clients q (inr f) = faulty_none AreEventsOf q f.1

stays_nothing : (q : Refusal) → StaysRefused (sections_of nothing []) q → ⊥
stays_nothing q (inl b) = b
stays_nothing q (inr b) = no_clients q b.1

setup_stays : (part : List Token) (q : Refusal) → StaysRefused (sections_of (with_setup part) []) q → Faulty SpellsSetup part q
setup_stays part q (inl b) = b
setup_stays part q (inr b) = absurd (no_clients q b.1)

stop_stays : (part : List Token) (d : ℕ) (c : Bool) (t : Token) (q : Refusal) → Faulty SpellsSetup part q → StaysRefused (so_far (stop_setup part d c t)) q
stop_stays part d true t q b = inl b
stop_stays part d false t q b = inl (faulty_more SpellsSetup part (t ∷ []) q b)

setup_step_stays : (m : Mark) (part : List Token) (d : ℕ) (c : Bool) (t : Token) (q : Refusal) → Faulty SpellsSetup part q → StaysRefused (so_far (setup_step m part d c t)) q
setup_step_stays marks.Open part d c t q b = inl (faulty_more SpellsSetup part (t ∷ []) q b)
setup_step_stays marks.Close part (suc d) c t q b = inl (faulty_more SpellsSetup part (t ∷ []) q b)
setup_step_stays marks.Close part zero c t q b = stop_stays part zero c t q b
setup_step_stays marks.End part d c t q b = inl (faulty_more SpellsSetup part (t ∷ []) q b)
setup_step_stays marks.Other part d c t q b = inl (faulty_more SpellsSetup part (t ∷ []) q b)
setup_step_stays marks.Client part d true t q b = inl b
setup_step_stays marks.Client part d false t q b = stop_stays part d false t q b
setup_step_stays marks.Schedule part d true t q b = inl b
setup_step_stays marks.Schedule part d false t q b = stop_stays part d false t q b
setup_step_stays marks.Setup part d c t q b = stop_stays part d c t q b
setup_step_stays marks.Tx part d c t q b = stop_stays part d c t q b
setup_step_stays marks.Upgrade part d c t q b = stop_stays part d c t q b

-- where the clients grow
stays_grown : (s : Option (List Token)) (clients more : List (List (List Token))) (q : Refusal) → (FaultyClients clients q → FaultyClients more q)
    → StaysRefused (record { setup = s; clients = clients; schedule = [] }) q → StaysRefused (record { setup = s; clients = more; schedule = [] }) q
stays_grown s clients more q grows (inl b) = inl b
stays_grown s clients more q grows (inr b) = inr (b.0, by b.1)
  where
    by : ClientsStayRefused clients [] q → ClientsStayRefused more [] q
    by (inl f) = inl (grows f)
    by (inr f) = absurd (faulty_none AreEventsOf q f.1)

number_stays : (o : Option ℕ) (f : Found) (t : Token) (q : Refusal) → StaysRefused (sections_of f []) q → StaysRefused (so_far (number_step o f t)) q
number_stays None f t q b = b
number_stays (Some n) f t q b = by (nat_eq n (length f.clients + 1))
  where
    by : (x : Bool) → StaysRefused (so_far (cond x (Client (new_client f)) (stop (Number f) t))) q
    by true = stays_grown f.setup f.clients (f.clients ++ [] ∷ []) q (first_more AreItems FaultyItems f.clients ([] ∷ []) q) b
    by false = b

upgrade_stays : (x : Bool) (cur : Current) (t : Token) (q : Refusal) → StaysRefused (sections_of (with_client cur) []) q → StaysRefused (so_far (upgrade_step x cur t)) q
upgrade_stays true cur t q b = b
upgrade_stays false cur t q b = b

client_stays : (m : Mark) (cur : Current) (t : Token) (q : Refusal) → StaysRefused (sections_of (with_client cur) []) q → StaysRefused (so_far (client_step m cur t)) q
client_stays marks.Tx cur t q b = b
client_stays marks.Upgrade cur t q b = upgrade_stays cur.found.upgraded cur t q b
client_stays marks.Client cur t q b = b
client_stays marks.Schedule cur t q b = b
client_stays marks.Setup cur t q b = b
client_stays marks.Open cur t q b = b
client_stays marks.Close cur t q b = b
client_stays marks.End cur t q b = b
client_stays marks.Other cur t q b = b

word_stays : (m : Mark) (cur : Current) (part : List Token) (t : Token) (q : Refusal) → StaysRefused (sections_of (with_client cur) []) q → StaysRefused (so_far (word_step m cur part t)) q
word_stays marks.Open cur part t q b =
    stays_grown cur.found.setup (cur.found.clients ++ cur.items ∷ []) (cur.found.clients ++ (cur.items ++ (part ++ t ∷ []) ∷ []) ∷ []) q
    (first_last AreItems FaultyItems cur.found.clients cur.items (cur.items ++ (part ++ t ∷ []) ∷ []) q (first_more IsItem FaultyItem cur.items ((part ++ t ∷ []) ∷ []) q)) b
word_stays marks.Setup cur part t q b = b
word_stays marks.Client cur part t q b = b
word_stays marks.Tx cur part t q b = b
word_stays marks.Upgrade cur part t q b = b
word_stays marks.Schedule cur part t q b = b
word_stays marks.Close cur part t q b = b
word_stays marks.End cur part t q b = b
word_stays marks.Other cur part t q b = b

item_grows : (cur : Current) (part : List Token) (t : Token) (q : Refusal) → StaysRefused (sections_of (with_client (with_item cur part)) []) q → StaysRefused (sections_of (with_client (with_item cur (part ++ t ∷ []))) []) q
item_grows cur part t q b =
    stays_grown cur.found.setup (cur.found.clients ++ (cur.items ++ part ∷ []) ∷ []) (cur.found.clients ++ (cur.items ++ (part ++ t ∷ []) ∷ []) ∷ []) q
    (first_last AreItems FaultyItems cur.found.clients (cur.items ++ part ∷ []) (cur.items ++ (part ++ t ∷ []) ∷ []) q
    (first_last IsItem FaultyItem cur.items part (part ++ t ∷ []) q (item_more part (t ∷ []) q))) b

item_stays : (m : Mark) (cur : Current) (part : List Token) (d : ℕ) (t : Token) (q : Refusal) → StaysRefused (sections_of (with_client (with_item cur part)) []) q → StaysRefused (so_far (item_step m cur part d t)) q
item_stays marks.Open cur part d t q b = item_grows cur part t q b
item_stays marks.Close cur part zero t q b = item_grows cur part t q b
item_stays marks.Close cur part (suc d) t q b = item_grows cur part t q b
item_stays marks.End cur part d t q b = item_grows cur part t q b
item_stays marks.Other cur part d t q b = item_grows cur part t q b
item_stays marks.Setup cur part d t q b = item_grows cur part t q b
item_stays marks.Client cur part d t q b = item_grows cur part t q b
item_stays marks.Tx cur part d t q b = item_grows cur part t q b
item_stays marks.Upgrade cur part d t q b = item_grows cur part t q b
item_stays marks.Schedule cur part d t q b = item_grows cur part t q b

schedule_stays : (f : Found) (tokens : List Token) (t : Token) (q : Refusal) → StaysRefused (sections_of f tokens) q → StaysRefused (sections_of f (tokens ++ t ∷ [])) q
schedule_stays f tokens t q (inl b) = inl b
schedule_stays f tokens t q (inr b) = inr (b.0, by b.1)
  where
    by : ClientsStayRefused f.clients tokens q → ClientsStayRefused f.clients (tokens ++ t ∷ []) q
    by (inl c) = inl c
    by (inr c) = inr (c.0, faulty_more AreEventsOf tokens (t ∷ []) q c.1)

step_stays : (r : Reader) (t : Token) (q : Refusal) → StaysRefused (so_far r) q → StaysRefused (so_far (step r t)) q
unfolding step
step_stays Start t q b = absurd (stays_nothing q b)
step_stays (Setup part d c) t q b = setup_step_stays (mark_of t) part d c t q (setup_stays part q b)
step_stays (Number f) t q b = number_stays (number_in t) f t q b
step_stays (Client cur) t q b = client_stays (mark_of t) cur t q b
step_stays (Word cur part) t q b = word_stays (mark_of t) cur part t q b
step_stays (Item cur part d) t q b = item_stays (mark_of t) cur part d t q b
step_stays (Schedule f tokens) t q b = schedule_stays f tokens t q b
step_stays (Stopped s f) t q b = b

pub fold_stays : (ts : List Token) (r : Reader) (q : Refusal) → StaysRefused (so_far r) q → StaysRefused (so_far (fold step r ts)) q
fold_stays [] r q b = b
fold_stays (t ∷ ts) r q b = fold_stays ts (step r t) q (step_stays r t q b)

-- ---- it is refused

faulty_schedule : (tokens : List Token) (q : Refusal) → Faulty AreEventsOf tokens q → IsRefusedSchedule tokens q
faulty_schedule tokens q b = by (events_or_fault tokens)
  where
    by : ((events : List Event) × AreEventsOf tokens events) ⊎ ((fault : Syntax) × IsEventFault tokens fault) → IsRefusedSchedule tokens q
    by (inl k) = absurd (no_fault AreEventsOf tokens k.0 b.0 k.1 (inl b.1.1))
    by (inr k) = (k.0, (b.1.0 ∙ ap (λ (n : ℕ). refusal.Syntax n) (one_line AreEventsOf tokens b.0 k.0.line (inl b.1.1) (events_fault tokens k.0 k.1)), k.1))

faulty_item : (tokens : List Token) (q : Refusal) → FaultyItem tokens q → IsRefusedItem tokens q
faulty_item tokens q b = by (item_or_refused tokens)
  where
    by : ((what : What) × IsItem tokens what) ⊎ ((r : Refusal) × IsRefusedItem tokens r) → IsRefusedItem tokens q
    by (inl k) = absurd (no_fault IsItem tokens k.0 b.1.0 k.1 (inl b.1.1.1))
    by (inr k) =
        let same : k.0 ≡ q = syntax_same IsItem tokens k.0 q (item_fault tokens k.0 b.0 k.1) (b.1.0, (b.1.1.0, inl b.1.1.1)) in
        subst (λ (r : Refusal). IsRefusedItem tokens r) same k.1

faulty_items : (items : List (List Token)) (q : Refusal) → FaultyItems items q → AreRefusedItems items q
faulty_items items q b = first_as IsItem FaultyItem IsRefusedItem faulty_item items q b

setup_refused : (part : Option (List Token)) (q : Refusal) → FaultySetup part q → IsRefusedSetup part q
setup_refused None q b = b
setup_refused (Some tokens) q b = (b.0, (b.1.0, inl b.1.1))

behind_refused : (clients : List (List (List Token))) (schedule : List Token) (fault : Option Syntax) (q : Refusal) → ClientsStayRefused clients schedule q → BehindSetup clients schedule fault q
behind_refused clients schedule fault q (inl b) = inl (first_as AreItems FaultyItems AreRefusedItems faulty_items clients q b)
behind_refused clients schedule fault q (inr b) = inr (b.0.0, (b.0.1, inl (faulty_schedule schedule q b.1)))

pub stays_refused : (split : Split) (q : Refusal) → StaysRefused split.sections q → IsRefusedSplit split q
stays_refused split q (inl b) = inl (setup_refused split.sections.setup q b)
stays_refused split q (inr b) = inr (b.0.0, (b.0.1, behind_refused split.sections.clients split.sections.schedule split.fault q b.1))
