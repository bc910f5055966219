-- A token more: a script goes on with it, or it is the fault that is told.
use Rattle.std.proofs.Common.{◌≡◌, ◌⊎◌, ◌≤◌, ℕ, zero, suc, ◌+◌, Bool, true, false, cond, Option, Some, None, List, [], ◌∷◌, ◌++◌, length, map, refl, sym, ap, ◌∙◌, subst, inl, inr, append_assoc, append-nil, length-append, arith}
use Rattle.std.specs.Prelude.{codes, fold, nat_eq}
use Rattle.std.specs.Str.{bytes_eq}
use Rattle.std.proofs.lemmas.Slice.Eq.{bytes_eq-Decides}
use Rattle.std.proofs.lemmas.Bool.{false≢true}
use Rattle.class_defs.specs.Spelling.{setup_words}
use Rattle.class_defs.specs.Words.{Fixed}
use Rattle.method_parse.specs.Matching.{IsWord, is_fixed_kind}
use Rattle.method_parse.specs.Texts.{Begins, SpellsSetup}
use Rattle.schedule.specs.Written.{AreEventsOf}
use Rattle.script_text.specs.Marks.{mark_by, mark_of, number_in}
use Rattle.script_text.specs.Script.{are_none, closes_by, closes, ends_by, ends}
use Rattle.script_text.specs.Sections.{nothing, new_client, with_client, with_item, with_setup, sections_of, so_far, stop, stop_setup, start_step, setup_step, number_step, upgrade_step, client_step, word_step, item_step, step, split_at_end}
use Rattle.script_text.specs.declared.mark.Mark.{Mark}
use Rattle.script_text.specs.declared.mark.Mark.TheVariants as marks
use Rattle.script_text.specs.declared.reader.Current.{Current}
use Rattle.script_text.specs.declared.reader.Found.{Found}
use Rattle.script_text.specs.declared.reader.Reader.{Reader}
use Rattle.script_text.specs.declared.reader.Reader.TheVariants.{Start, Setup, Number, Client, Word, Item, Schedule, Stopped}
use Rattle.script_text.specs.declared.sections.Sections.{Sections}
use Rattle.script_text.specs.declared.syntax.Syntax.{Syntax}
use Rattle.script_text.specs.declared.token.Token.{Token}
use Rattle.script_text.specs.declared.token.TokenKind.{TokenKind}
use Rattle.script_text.specs.declared.token.TokenKind.TheVariants as kinds
use Rattle.script_text.proofs.Held.{AtWord, InItem, InSetup, Holds}
use Rattle.serial_model.specs.declared.entries.What.{What}
use Rattle.serial_model.specs.declared.entries.What.TheVariants.{Tx, Upgrade as UpgradeItem}
use Rattle.script_parse.specs.Script.{AreItems, HasParts, IsItem, IsRefusedSplit}
use Rattle.script_parse.specs.declared.refusal.Refusal.{Refusal}
use Rattle.script_parse.specs.declared.refusal.Refusal.TheVariants as refusal
use Rattle.script_parse.specs.declared.script.Script.{Script}
use Rattle.script_parse.proofs.GoingOn.{CanGoOn, IsCurrent, IsFound, item_last}
use Rattle.script_parse.proofs.Completed.{current_found, found_parts, item_closes, item_current, made_proper_item, no_events, open_brace, stays, word_goes_on}
use Rattle.script_parse.proofs.Decided.{Decided, decided_events, decided_item, decided_setup}
use Rattle.script_parse.proofs.StayingRefused.{Faulty, FaultyItem, FaultyItems, StaysRefused, stays_refused, first_behind, fold_stays}
use Rattle.script_parse.proofs.OneFault.{begins_at, spelled_begins}
use Rattle.script_parse.proofs.OneScript.{past_parts, split_same}
use Rattle.script_parse.proofs.PartsEnd.{AreProper, both_proper, front_proper, made_proper, now_proper, made_proper_words, rest_proper}
use Rattle.script_parse.proofs.SetupEnds.{setup_cut, setup_ends}

-- no script goes on with what was read, and the line is told, whatever stands behind
pub record IsFault (r : Reader) (line : ℕ) : Type 0 where
  pub never : CanGoOn r → ⊥
  pub told : (more : List Token) (end : ℕ) (q : Refusal) → IsRefusedSplit (split_at_end (fold step r more) end) q → q ≡ refusal.Syntax line

abbrev pub Next : Reader → ℕ → Type 0
Next r line = CanGoOn r ⊎ IsFault r line

fault_stays : (r : Reader) (line : ℕ) → (CanGoOn r → ⊥) → StaysRefused (so_far r) (refusal.Syntax line) → IsFault r line
fault_stays r line never stays = record {
  never = never;
  told = λ more end q refused. split_same (split_at_end (fold step r more) end) q (refusal.Syntax line) refused
      (stays_refused (split_at_end (fold step r more) end) (refusal.Syntax line) (fold_stays more r (refusal.Syntax line) stays));
}

abbrev fault_at : ℕ → Syntax
fault_at line = record { line = line }

fault_stops : (s : Sections) (line : ℕ) (script : Script) → HasParts s script → IsFault (Stopped s (fault_at line)) line
fault_stops s line script has = record {
  never = λ a. a;
  told = λ more end q refused. past_parts (record { sections = s; fault = Some (fault_at line) }) script q has
      (subst (λ (x : Reader). IsRefusedSplit (split_at_end x end) q) (stays more s (fault_at line)) refused);
}

-- all that was read before the token are whole parts
fault_found : (f : Found) (line : ℕ) → IsFound f → IsFault (Stopped (sections_of f []) (fault_at line)) line
fault_found f line found = fault_stops (sections_of f []) line (record { setup = found.0.0; clients = found.1.0; events = [] }) (found_parts f found)

module _ {X : Type 0} (Spells : List Token → X → Type 0) where
  pub begins_or_not : (part : List Token) (t : Token) → Decided Spells (part ++ t ∷ []) → Begins Spells (part ++ t ∷ []) ⊎ (Begins Spells (part ++ t ∷ []) → ⊥)
  begins_or_not part t (inl k) = inl (spelled_begins Spells (part ++ t ∷ []) k.0 k.1)
  begins_or_not part t (inr (line, inl f)) = inr (λ b. f.ends (begins_at Spells (part ++ t ∷ []) f.before f.token f.behind f.parts b))
  begins_or_not part t (inr (line, inr c)) = inl c.begins

  pub faulty_at : (part : List Token) (t : Token) → Begins Spells part → (Begins Spells (part ++ t ∷ []) → ⊥) → Faulty Spells (part ++ t ∷ []) (refusal.Syntax t.line)
  faulty_at part t begins never = (t.line, (refl, record { before = part; token = t; behind = []; parts = refl; begins = begins; ends = never; on_line = refl }))

no_schedule : Begins AreEventsOf []
no_schedule = ([], [], no_events)

-- ---- the beginning

pub empty_setup : SpellsSetup [] (record { classes = []; roots = [] })
empty_setup = (tt, record { classes = omega arith; roots = omega arith; each = tt })

setup_starts : Begins SpellsSetup []
setup_starts = ([], record { classes = []; roots = [] }, empty_setup)

nothing_found : IsFound nothing
nothing_found = ((None, tt), ([], tt))

start_next : (m : Mark) (t : Token) → Next (start_step m t) t.line
start_next marks.Setup t = inl setup_starts
start_next marks.Client t = inl nothing_found
start_next marks.Schedule t = inl (nothing_found, no_schedule)
start_next marks.Tx t = inr (fault_found nothing t.line nothing_found)
start_next marks.Upgrade t = inr (fault_found nothing t.line nothing_found)
start_next marks.Open t = inr (fault_found nothing t.line nothing_found)
start_next marks.Close t = inr (fault_found nothing t.line nothing_found)
start_next marks.End t = inr (fault_found nothing t.line nothing_found)
start_next marks.Other t = inr (fault_found nothing t.line nothing_found)

-- ---- the setup

module _ (part : List Token) (d : ℕ) (t : Token) (ts : List Token) (proper : AreProper (ts ++ t ∷ [])) (begins : Begins SpellsSetup part) where
  part_proper : (c : Bool) → InSetup part d c ts → AreProper (part ++ t ∷ [])
  part_proper c h = let all : AreProper ((h.word ∷ part) ++ t ∷ []) = subst (λ (l : List Token). AreProper (l ++ t ∷ [])) (sym h.whole) proper in all.1

  -- a setup that may end there is whole
  setup_found : InSetup part d true ts → IsFound (with_setup part)
  setup_found h =
      let more : List Token = map made_proper begins.0 in
      let own : AreProper part = front_proper part (t ∷ []) (part_proper true h) in
      let spells : SpellsSetup (part ++ more) begins.1 = (made_proper_words part begins.0 (setup_words begins.1) begins.2.0, begins.2.1) in
      let cut = setup_cut part more begins.1 spells (both_proper part more own (now_proper begins.0)) (ap (ends 0 true) (sym (append-nil part)) ∙ h.so []) in
      ((Some cut.0, cut.1), ([], tt))

  setup_never : (c : Bool) → InSetup part d c ts → ((b : ℕ → Bool → Bool) → ends_by (mark_of t) d b ≡ false) → Begins SpellsSetup (part ++ t ∷ []) → ⊥
  setup_never c h fails b =
      let more : List Token = map made_proper b.0 in
      let front : List Token = part ++ t ∷ [] in
      let spells : SpellsSetup (front ++ more) b.1 = (made_proper_words front b.0 (setup_words b.1) b.2.0, b.2.1) in
      let ended : ends 0 true (front ++ more) ≡ true = setup_ends (front ++ more) b.1 spells (both_proper front more (part_proper c h) (now_proper b.0)) in
      false≢true (sym (fails (λ k e. ends k e more)) ∙ sym (h.so (t ∷ more)) ∙ sym (ap (ends 0 true) (append_assoc part (t ∷ []) more)) ∙ ended)

  setup_grows : (k : ℕ) (b : Bool) → Next (Setup (part ++ t ∷ []) k b) t.line
  setup_grows k b = by (begins_or_not SpellsSetup part t (decided_setup (part ++ t ∷ [])))
    where
      by : Begins SpellsSetup (part ++ t ∷ []) ⊎ (Begins SpellsSetup (part ++ t ∷ []) → ⊥) → Next (Setup (part ++ t ∷ []) k b) t.line
      by (inl on) = inl on
      by (inr never) = inr (fault_stays (Setup (part ++ t ∷ []) k b) t.line never (inl (faulty_at SpellsSetup part t begins never)))

  setup_stops : (c : Bool) → InSetup part d c ts → ((b : ℕ → Bool → Bool) → ends_by (mark_of t) d b ≡ false) → Next (stop_setup part d c t) t.line
  setup_stops true h fails = inr (fault_found (with_setup part) t.line (setup_found h))
  setup_stops false h fails = inr (fault_stays (stop (Setup (part ++ t ∷ []) d false) t) t.line (λ a. a) (inl (faulty_at SpellsSetup part t begins (setup_never false h fails))))

setup_next : (m : Mark) (part : List Token) (d : ℕ) (c : Bool) (t : Token) (ts : List Token) → mark_of t ≡ m → InSetup part d c ts → AreProper (ts ++ t ∷ []) → Begins SpellsSetup part
    → Next (setup_step m part d c t) t.line
setup_next marks.Open part d c t ts e h proper b = setup_grows part d t ts proper b (d + 1) false
setup_next marks.Close part (suc d) c t ts e h proper b = setup_grows part d t ts proper b d (nat_eq d 0)
setup_next marks.End part d c t ts e h proper b = setup_grows part d t ts proper b d (nat_eq d 0)
setup_next marks.Other part d c t ts e h proper b = setup_grows part d t ts proper b d false
setup_next marks.Client part d true t ts e h proper b = inl (setup_found part d t ts proper b h)
setup_next marks.Client part d false t ts e h proper b = setup_stops part d t ts proper b false h (λ f. ap (λ m. ends_by m d f) e)
setup_next marks.Schedule part d true t ts e h proper b = inl (setup_found part d t ts proper b h, no_schedule)
setup_next marks.Schedule part d false t ts e h proper b = setup_stops part d t ts proper b false h (λ f. ap (λ m. ends_by m d f) e)
setup_next marks.Close part zero c t ts e h proper b = setup_stops part zero t ts proper b c h (λ f. ap (λ m. ends_by m zero f) e)
setup_next marks.Setup part d c t ts e h proper b = setup_stops part d t ts proper b c h (λ f. ap (λ m. ends_by m d f) e)
setup_next marks.Tx part d c t ts e h proper b = setup_stops part d t ts proper b c h (λ f. ap (λ m. ends_by m d f) e)
setup_next marks.Upgrade part d c t ts e h proper b = setup_stops part d t ts proper b c h (λ f. ap (λ m. ends_by m d f) e)

-- ---- clients

number_next : (o : Option ℕ) (f : Found) (t : Token) → IsFound f → Next (number_step o f t) t.line
number_next None f t found = inr (fault_found f t.line found)
number_next (Some n) f t found = by (nat_eq n (length f.clients + 1))
  where
    by : (b : Bool) → Next (cond b (Client (new_client f)) (stop (Number f) t)) t.line
    by true = inl (found, ([], tt))
    by false = inr (fault_found f t.line found)

client_stops : (cur : Current) (line : ℕ) → IsCurrent cur → IsFault (Stopped (sections_of (with_client cur) []) (fault_at line)) line
client_stops cur line h = fault_found (with_client cur) line (current_found cur h)

upgrade_next : (b : Bool) (cur : Current) (t : Token) → IsCurrent cur → Next (upgrade_step b cur t) t.line
upgrade_next true cur t h = inr (client_stops cur t.line h)
upgrade_next false cur t h = inl h

client_next : (m : Mark) (cur : Current) (t : Token) → IsCurrent cur → Next (client_step m cur t) t.line
client_next marks.Tx cur t h = inl h
client_next marks.Upgrade cur t h = upgrade_next cur.found.upgraded cur t h
client_next marks.Client cur t h = inl (current_found cur h)
client_next marks.Schedule cur t h = inl (current_found cur h, no_schedule)
client_next marks.Setup cur t h = inr (client_stops cur t.line h)
client_next marks.Open cur t h = inr (client_stops cur t.line h)
client_next marks.Close cur t h = inr (client_stops cur t.line h)
client_next marks.End cur t h = inr (client_stops cur t.line h)
client_next marks.Other cur t h = inr (client_stops cur t.line h)

-- ---- items

keyword_open : (a b c d e : Bool) → cond a marks.Setup (cond b marks.Client (cond c marks.Tx (cond d marks.Upgrade (cond e marks.Schedule marks.Other)))) ≡ marks.Open → ⊥
keyword_open true b c d e is = cc
keyword_open false true c d e is = cc
keyword_open false false true d e is = cc
keyword_open false false false true e is = cc
keyword_open false false false false true is = cc
keyword_open false false false false false is = cc

symbol_open : (a b c : Bool) → cond a marks.Open (cond b marks.Close (cond c marks.End marks.Other)) ≡ marks.Open → a ≡ true
symbol_open true b c is = refl
symbol_open false true c is = absurd cc
symbol_open false false true is = absurd cc
symbol_open false false false is = absurd cc

open_by : (kind : TokenKind) (text : List ℕ) → mark_by kind text ≡ marks.Open → (is_fixed_kind kind ≡ true) × (text ≡ codes "{")
open_by kinds.Name text is = absurd cc
open_by kinds.Number text is = absurd cc
open_by kinds.Quoted text is = absurd cc
open_by kinds.Keyword text is =
    absurd (keyword_open (bytes_eq text (codes "setup")) (bytes_eq text (codes "client")) (bytes_eq text (codes "tx")) (bytes_eq text (codes "upgrade")) (bytes_eq text (codes "schedule")) is)
open_by kinds.Symbol text is =
    (refl, (bytes_eq-Decides text (codes "{")).0 (symbol_open (bytes_eq text (codes "{")) (bytes_eq text (codes "}")) (bytes_eq text (codes ";")) is))

open_word : (t : Token) → mark_of t ≡ marks.Open → IsWord t (Fixed (codes "{"))
unfolding mark_of
open_word t is = open_by t.kind t.text is

other_brace : (first brace t : Token) (more : List Token) (what : What) → IsWord t (Fixed (codes "{")) → IsItem (first ∷ brace ∷ more) what → IsItem (first ∷ t ∷ more) what
other_brace first brace t more (Tx block) word is = (is.0, ((word, is.1.0.1), is.1.1))
other_brace first brace t more (UpgradeItem upgrade) word is = ((is.0.0, (word, is.0.1.1)), is.1)

word_begins : (cur : Current) (part : List Token) (t : Token) (ts : List Token) → mark_of t ≡ marks.Open → AtWord cur part ts → Begins IsItem (part ++ t ∷ [])
word_begins cur part t ts e h =
    let w = word_goes_on h.first h.is in
    (w.more, w.what, subst (λ (l : List Token). IsItem ((l ++ t ∷ []) ++ w.more) w.what) (sym h.part_is) (other_brace h.first open_brace t w.more w.what (open_word t e) w.is))

word_next : (m : Mark) (cur : Current) (part : List Token) (t : Token) (ts : List Token) → mark_of t ≡ m → AtWord cur part ts → IsCurrent cur → Next (word_step m cur part t) t.line
word_next marks.Open cur part t ts e h current = inl (current, word_begins cur part t ts e h)
word_next marks.Setup cur part t ts e h current = inr (client_stops cur t.line current)
word_next marks.Client cur part t ts e h current = inr (client_stops cur t.line current)
word_next marks.Tx cur part t ts e h current = inr (client_stops cur t.line current)
word_next marks.Upgrade cur part t ts e h current = inr (client_stops cur t.line current)
word_next marks.Schedule cur part t ts e h current = inr (client_stops cur t.line current)
word_next marks.Close cur part t ts e h current = inr (client_stops cur t.line current)
word_next marks.End cur part t ts e h current = inr (client_stops cur t.line current)
word_next marks.Other cur part t ts e h current = inr (client_stops cur t.line current)

module _ (cur : Current) (part : List Token) (d : ℕ) (t : Token) (ts : List Token) (h : InItem cur part d ts) (proper : AreProper (ts ++ t ∷ [])) (current : IsCurrent cur) (begins : Begins IsItem part) where
  two : 2 ≤ length (part ++ t ∷ [])
  two = omega (arith, ap length h.part_is, length-append part (t ∷ []))

  own : AreProper (part ++ t ∷ [])
  own =
      let same : (h.front ++ part) ++ t ∷ [] ≡ h.front ++ (part ++ t ∷ []) = append_assoc h.front part (t ∷ []) in
      let all : AreProper ((h.front ++ part) ++ t ∷ []) = subst (λ (l : List Token). AreProper (l ++ t ∷ [])) (sym h.whole) proper in
      rest_proper h.front (part ++ t ∷ []) (subst (λ (l : List Token). AreProper l) same all)

  -- with the token the item goes on to its end
  item_on : (b : Begins IsItem (part ++ t ∷ [])) → closes d (t ∷ map made_proper b.0) ≡ true
  item_on b =
      let more : List Token = map made_proper b.0 in
      let front : List Token = part ++ t ∷ [] in
      let shape : front ≡ h.first ∷ (h.brace ∷ (h.rest ++ t ∷ [])) = ap (λ (l : List Token). l ++ t ∷ []) h.part_is in
      let same : front ++ more ≡ part ++ (t ∷ more) = append_assoc part (t ∷ []) more in
      let item : IsItem (front ++ more) b.1 = made_proper_item front (h.brace ∷ (h.rest ++ t ∷ [])) b.0 h.first b.1 shape b.2 in
      item_closes cur part d ts (t ∷ more) b.1 h (subst (λ (l : List Token). IsItem l b.1) same item)
      (subst (λ (l : List Token). AreProper l) same (both_proper front more own (now_proper b.0)))

  item_stays : (Begins IsItem (part ++ t ∷ []) → ⊥) → StaysRefused (sections_of (with_client (with_item cur (part ++ t ∷ []))) []) (refusal.Syntax t.line)
  item_stays never =
      let q : Refusal = refusal.Syntax t.line in
      inr (
        current.0.0,
        inl (first_behind AreItems FaultyItems cur.found.clients current.0.1.0 (cur.items ++ (part ++ t ∷ []) ∷ []) q current.0.1.1
            (first_behind IsItem FaultyItem cur.items current.1.0 (part ++ t ∷ []) q current.1.1 (two, faulty_at IsItem part t begins never))),
      )

  item_grows : (k : ℕ) → Next (Item cur (part ++ t ∷ []) k) t.line
  item_grows k = by (begins_or_not IsItem part t (decided_item (part ++ t ∷ []) two))
    where
      by : Begins IsItem (part ++ t ∷ []) ⊎ (Begins IsItem (part ++ t ∷ []) → ⊥) → Next (Item cur (part ++ t ∷ []) k) t.line
      by (inl on) = inl (current, on)
      by (inr never) = inr (fault_stays (Item cur (part ++ t ∷ []) k) t.line (λ a. never a.1) (item_stays never))

  item_stops : ((last : Bool) (b : ℕ → Bool) → closes_by (mark_of t) d last b ≡ false) → Next (stop (Item cur (part ++ t ∷ []) d) t) t.line
  item_stops fails =
      inr (fault_stays (stop (Item cur (part ++ t ∷ []) d) t) t.line (λ a. a)
      (item_stays (λ b. false≢true (sym (fails (are_none (map made_proper b.0)) (λ k. closes k (map made_proper b.0))) ∙ item_on b))))

none_made_proper : (more : List Token) → are_none (map made_proper more) ≡ true → more ≡ []
none_made_proper [] e = refl
none_made_proper (t ∷ more) e = absurd cc

item_ended : (cur : Current) (part : List Token) (t : Token) (ts : List Token) → mark_of t ≡ marks.Close → InItem cur part 0 ts → AreProper (ts ++ t ∷ []) → IsCurrent cur → Begins IsItem part
    → Next (Client (with_item cur (part ++ t ∷ []))) t.line
item_ended cur part t ts e h proper current begins = by (decided_item (part ++ t ∷ []) (two cur part 0 t ts h proper current begins))
  where
    on : (b : Begins IsItem (part ++ t ∷ [])) → IsItem (part ++ t ∷ []) b.1
    on b =
        let closed : are_none (map made_proper b.0) ≡ true = sym (ap (λ m. closes_by m 0 (are_none (map made_proper b.0)) (λ k. closes k (map made_proper b.0))) e) ∙ item_on cur part 0 t ts h proper current begins b in
        let none : b.0 ≡ [] = none_made_proper b.0 closed in
        subst (λ (l : List Token). IsItem l b.1) (ap (λ (l : List Token). (part ++ t ∷ []) ++ l) none ∙ append-nil (part ++ t ∷ [])) b.2

    fault : (Begins IsItem (part ++ t ∷ []) → ⊥) → Next (Client (with_item cur (part ++ t ∷ []))) t.line
    fault never = inr (fault_stays (Client (with_item cur (part ++ t ∷ []))) t.line
        (λ a. (let last = item_last cur (part ++ t ∷ []) a in never (spelled_begins IsItem (part ++ t ∷ []) last.1.0 last.1.1)))
        (item_stays cur part 0 t ts h proper current begins never))

    by : Decided IsItem (part ++ t ∷ []) → Next (Client (with_item cur (part ++ t ∷ []))) t.line
    by (inl k) = inl (item_current cur (part ++ t ∷ []) k.0 current k.1)
    by (inr (line, inl f)) = fault (λ b. f.ends (begins_at IsItem (part ++ t ∷ []) f.before f.token f.behind f.parts b))
    by (inr (line, inr c)) = inl (item_current cur (part ++ t ∷ []) c.begins.1 current (on c.begins))

item_next : (m : Mark) (cur : Current) (part : List Token) (d : ℕ) (t : Token) (ts : List Token) → mark_of t ≡ m → InItem cur part d ts → AreProper (ts ++ t ∷ []) → IsCurrent cur → Begins IsItem part
    → Next (item_step m cur part d t) t.line
item_next marks.Open cur part d t ts e h proper current b = item_grows cur part d t ts h proper current b (d + 1)
item_next marks.Close cur part zero t ts e h proper current b = item_ended cur part t ts e h proper current b
item_next marks.Close cur part (suc d) t ts e h proper current b = item_grows cur part (suc d) t ts h proper current b d
item_next marks.End cur part d t ts e h proper current b = item_grows cur part d t ts h proper current b d
item_next marks.Other cur part d t ts e h proper current b = item_grows cur part d t ts h proper current b d
item_next marks.Setup cur part d t ts e h proper current b = item_stops cur part d t ts h proper current b (λ last f. ap (λ m. closes_by m d last f) e)
item_next marks.Client cur part d t ts e h proper current b = item_stops cur part d t ts h proper current b (λ last f. ap (λ m. closes_by m d last f) e)
item_next marks.Tx cur part d t ts e h proper current b = item_stops cur part d t ts h proper current b (λ last f. ap (λ m. closes_by m d last f) e)
item_next marks.Upgrade cur part d t ts e h proper current b = item_stops cur part d t ts h proper current b (λ last f. ap (λ m. closes_by m d last f) e)
item_next marks.Schedule cur part d t ts e h proper current b = item_stops cur part d t ts h proper current b (λ last f. ap (λ m. closes_by m d last f) e)

-- ---- the schedule

schedule_next : (f : Found) (tokens : List Token) (t : Token) → IsFound f → Begins AreEventsOf tokens → Next (Schedule f (tokens ++ t ∷ [])) t.line
schedule_next f tokens t found begins = by (begins_or_not AreEventsOf tokens t (decided_events (tokens ++ t ∷ [])))
  where
    by : Begins AreEventsOf (tokens ++ t ∷ []) ⊎ (Begins AreEventsOf (tokens ++ t ∷ []) → ⊥) → Next (Schedule f (tokens ++ t ∷ [])) t.line
    by (inl on) = inl (found, on)
    by (inr never) = inr (fault_stays (Schedule f (tokens ++ t ∷ [])) t.line (λ a. never a.1) (inr (found.0, inr (found.1, faulty_at AreEventsOf tokens t begins never))))

-- ---- each token

pub next_token : (r : Reader) (t : Token) (ts : List Token) → Holds r ts → AreProper (ts ++ t ∷ []) → CanGoOn r → Next (step r t) t.line
unfolding step
next_token Start t ts h proper can = start_next (mark_of t) t
next_token (Setup part d c) t ts h proper can = setup_next (mark_of t) part d c t ts refl h proper can
next_token (Number f) t ts h proper can = number_next (number_in t) f t can
next_token (Client cur) t ts h proper can = client_next (mark_of t) cur t can
next_token (Word cur part) t ts h proper can = word_next (mark_of t) cur part t ts refl h can
next_token (Item cur part d) t ts h proper can = item_next (mark_of t) cur part d t ts refl h proper can.0 can.1
next_token (Schedule f tokens) t ts h proper can = schedule_next f tokens t can.0 can.1
next_token (Stopped s f) t ts h proper can = absurd can
