-- Of what was read: whether some script goes on with it.
use Rattle.std.proofs.Common.{◌≡◌, ℕ, zero, suc, ◌+◌, Bool, true, false, cond, Option, Some, None, List, [], ◌∷◌, ◌++◌, length, sym, ap, subst}
use Rattle.std.specs.Prelude.{fold, nat_eq}
use Rattle.std.proofs.lemmas.List.Sums.{fold-append}
use Rattle.class_defs.specs.declared.declarations.Declarations.{Declarations}
use Rattle.method_parse.specs.Texts.{Begins, SpellsSetup}
use Rattle.schedule.specs.Written.{AreEventsOf}
use Rattle.script_text.specs.Marks.{mark_of, number_in}
use Rattle.script_text.specs.Sections.{new_client, with_client, with_item, so_far, stop, stop_setup, start_step, setup_step, number_step, upgrade_step, client_step, word_step, item_step, step, fault_at_end, last_line, read, split_of}
use Rattle.script_text.specs.declared.mark.Mark.{Mark}
use Rattle.script_text.specs.declared.mark.Mark.TheVariants as marks
use Rattle.script_text.specs.declared.reader.Current.{Current}
use Rattle.script_text.specs.declared.reader.Found.{Found}
use Rattle.script_text.specs.declared.reader.Reader.{Reader}
use Rattle.script_text.specs.declared.reader.Reader.TheVariants.{Start, Setup, Number, Client, Word, Item, Schedule, Stopped}
use Rattle.script_text.specs.declared.sections.Sections.{Sections}
use Rattle.script_text.specs.declared.token.Token.{Token}
use Rattle.script_text.proofs.Scripts.{parts_read}
use Rattle.serial_model.specs.declared.entries.What.{What}
use Rattle.script_parse.specs.Reads.{Each}
use Rattle.script_parse.specs.Script.{AreItems, HasParts, HasTokens, IsItem, IsSetupPart}
use Rattle.script_parse.specs.declared.script.Script.{Script}
use Rattle.script_parse.proofs.OneFault.{begins_less, spelled_begins}
use Rattle.script_parse.proofs.OneScript.{AreClients}

-- the setup and the whole clients are those of some script
abbrev pub IsFound : Found → Type 0
IsFound f = ((setup : Option Declarations) × IsSetupPart f.setup setup) × ((whats : List (List What)) × AreClients f.clients whats)

-- so are the items of the client that is read
abbrev pub IsCurrent : Current → Type 0
IsCurrent cur = IsFound cur.found × ((whats : List What) × AreItems cur.items whats)

abbrev pub CanGoOn : Reader → Type 0
CanGoOn Start = Unit {0}
CanGoOn (Setup part depth closed) = Begins SpellsSetup part
CanGoOn (Number f) = IsFound f
CanGoOn (Client cur) = IsCurrent cur
CanGoOn (Word cur part) = IsCurrent cur
CanGoOn (Item cur part depth) = IsCurrent cur × Begins IsItem part
CanGoOn (Schedule f tokens) = IsFound f × Begins AreEventsOf tokens
CanGoOn (Stopped sections fault) = ⊥

module _ {A T : Type 0} (Is : A → T → Type 0) where
  pub each_cut : (xs ys : List A) (ts : List T) → Each Is (xs ++ ys) ts → ((us : List T) × Each Is xs us) × ((vs : List T) × Each Is ys vs)
  each_cut [] ys ts each = (([], tt), (ts, each))
  each_cut (x ∷ xs) ys [] each = absurd each
  each_cut (x ∷ xs) ys (t ∷ ts) each = let c = each_cut xs ys ts each.1 in ((t ∷ c.0.0, (each.0, c.0.1)), c.1)

  one_of : (x : A) (vs : List T) → Each Is (x ∷ []) vs → (v : T) × Is x v
  one_of x [] each = absurd each
  one_of x (v ∷ vs) each = (v, each.0)

  -- the last one is one, and so are those before it
  pub each_last : (xs : List A) (x : A) (ts : List T) → Each Is (xs ++ x ∷ []) ts → ((us : List T) × Each Is xs us) × ((v : T) × Is x v)
  each_last xs x ts each = let c = each_cut xs (x ∷ []) ts each in (c.0, one_of x c.1.0 c.1.1)

found_current : (cur : Current) → IsFound (with_client cur) → IsCurrent cur
found_current cur h =
    let c = each_last AreItems cur.found.clients cur.items h.1.0 h.1.1 in
    ((h.0, c.0), c.1)

part_begins : (part : List Token) (setup : Option Declarations) → IsSetupPart (Some part) setup → Begins SpellsSetup part
part_begins part None is = absurd is
part_begins part (Some setup) is = spelled_begins SpellsSetup part setup is

-- ---- backwards

start_back : (m : Mark) (t : Token) → CanGoOn (start_step m t) → CanGoOn Start
start_back m t h = tt

stop_back : (part : List Token) (d : ℕ) (c : Bool) (t : Token) → CanGoOn (stop_setup part d c t) → ⊥
stop_back part d true t h = h
stop_back part d false t h = h

setup_back : (m : Mark) (part : List Token) (d : ℕ) (c : Bool) (t : Token) → CanGoOn (setup_step m part d c t) → Begins SpellsSetup part
setup_back marks.Open part d c t h = begins_less SpellsSetup part (t ∷ []) h
setup_back marks.Close part (suc d) c t h = begins_less SpellsSetup part (t ∷ []) h
setup_back marks.Close part zero c t h = absurd (stop_back part zero c t h)
setup_back marks.End part d c t h = begins_less SpellsSetup part (t ∷ []) h
setup_back marks.Other part d c t h = begins_less SpellsSetup part (t ∷ []) h
setup_back marks.Client part d true t h = part_begins part h.0.0 h.0.1
setup_back marks.Client part d false t h = absurd h
setup_back marks.Schedule part d true t h = part_begins part h.0.0.0 h.0.0.1
setup_back marks.Schedule part d false t h = absurd h
setup_back marks.Setup part d c t h = absurd (stop_back part d c t h)
setup_back marks.Tx part d c t h = absurd (stop_back part d c t h)
setup_back marks.Upgrade part d c t h = absurd (stop_back part d c t h)

number_back : (o : Option ℕ) (f : Found) (t : Token) → CanGoOn (number_step o f t) → IsFound f
number_back None f t h = absurd h
number_back (Some n) f t h = by (nat_eq n (length f.clients + 1)) h
  where
    by : (b : Bool) → CanGoOn (cond b (Client (new_client f)) (stop (Number f) t)) → IsFound f
    by true h = h.0
    by false h = absurd h

upgrade_back : (b : Bool) (cur : Current) (t : Token) → CanGoOn (upgrade_step b cur t) → IsCurrent cur
upgrade_back true cur t h = absurd h
upgrade_back false cur t h = h

client_back : (m : Mark) (cur : Current) (t : Token) → CanGoOn (client_step m cur t) → IsCurrent cur
client_back marks.Tx cur t h = h
client_back marks.Upgrade cur t h = upgrade_back cur.found.upgraded cur t h
client_back marks.Client cur t h = found_current cur h
client_back marks.Schedule cur t h = found_current cur h.0
client_back marks.Setup cur t h = absurd h
client_back marks.Open cur t h = absurd h
client_back marks.Close cur t h = absurd h
client_back marks.End cur t h = absurd h
client_back marks.Other cur t h = absurd h

word_back : (m : Mark) (cur : Current) (part : List Token) (t : Token) → CanGoOn (word_step m cur part t) → IsCurrent cur
word_back marks.Open cur part t h = h.0
word_back marks.Setup cur part t h = absurd h
word_back marks.Client cur part t h = absurd h
word_back marks.Tx cur part t h = absurd h
word_back marks.Upgrade cur part t h = absurd h
word_back marks.Schedule cur part t h = absurd h
word_back marks.Close cur part t h = absurd h
word_back marks.End cur part t h = absurd h
word_back marks.Other cur part t h = absurd h

-- a whole item is the client's last one
pub item_last : (cur : Current) (item : List Token) → IsCurrent (with_item cur item) → IsCurrent cur × ((what : What) × IsItem item what)
item_last cur item h = let c = each_last IsItem cur.items item h.1.0 h.1.1 in ((h.0, c.0), c.1)

item_joined : (cur : Current) (part : List Token) (t : Token) → IsCurrent (with_item cur (part ++ t ∷ [])) → IsCurrent cur × Begins IsItem part
item_joined cur part t h =
    let c = item_last cur (part ++ t ∷ []) h in
    (c.0, begins_less IsItem part (t ∷ []) (spelled_begins IsItem (part ++ t ∷ []) c.1.0 c.1.1))

item_back : (m : Mark) (cur : Current) (part : List Token) (d : ℕ) (t : Token) → CanGoOn (item_step m cur part d t) → IsCurrent cur × Begins IsItem part
item_back marks.Open cur part d t h = (h.0, begins_less IsItem part (t ∷ []) h.1)
item_back marks.Close cur part zero t h = item_joined cur part t h
item_back marks.Close cur part (suc d) t h = (h.0, begins_less IsItem part (t ∷ []) h.1)
item_back marks.End cur part d t h = (h.0, begins_less IsItem part (t ∷ []) h.1)
item_back marks.Other cur part d t h = (h.0, begins_less IsItem part (t ∷ []) h.1)
item_back marks.Setup cur part d t h = absurd h
item_back marks.Client cur part d t h = absurd h
item_back marks.Tx cur part d t h = absurd h
item_back marks.Upgrade cur part d t h = absurd h
item_back marks.Schedule cur part d t h = absurd h

step_back : (r : Reader) (t : Token) → CanGoOn (step r t) → CanGoOn r
unfolding step
step_back Start t h = tt
step_back (Setup part d c) t h = setup_back (mark_of t) part d c t h
step_back (Number f) t h = number_back (number_in t) f t h
step_back (Client cur) t h = client_back (mark_of t) cur t h
step_back (Word cur part) t h = word_back (mark_of t) cur part t h
step_back (Item cur part d) t h = item_back (mark_of t) cur part d t h
step_back (Schedule f tokens) t h = (h.0, begins_less AreEventsOf tokens (t ∷ []) h.1)
step_back (Stopped s f) t h = absurd h

fold_back : (ts : List Token) (r : Reader) → CanGoOn (fold step r ts) → CanGoOn r
fold_back [] r h = h
fold_back (t ∷ ts) r h = step_back r t (fold_back ts (step r t) h)

some_none : {A : Type 0} (x : A) → Some x ≡ None → ⊥
some_none x e = cc

-- where a script ends it goes on
whole_can : (r : Reader) (line : ℕ) (script : Script) → fault_at_end r line ≡ None → HasParts (so_far r) script → CanGoOn r
whole_can Start line script none has = tt
whole_can (Setup part d true) line script none has = part_begins part script.setup has.setup
whole_can (Setup part d false) line script none has = absurd (some_none _ none)
whole_can (Number f) line script none has = absurd (some_none _ none)
whole_can (Client cur) line script none has = found_current cur ((script.setup, has.setup), (script.clients, has.clients))
whole_can (Word cur part) line script none has = absurd (some_none _ none)
whole_can (Item cur part d) line script none has = absurd (some_none _ none)
whole_can (Schedule f tokens) line script none has = (((script.setup, has.setup), (script.clients, has.clients)), spelled_begins AreEventsOf tokens script.events has.events)
whole_can (Stopped s f) line script none has = absurd (some_none _ none)

-- what a script has was read
tokens_can : (tokens : List Token) (script : Script) → HasTokens tokens script → CanGoOn (fold step Start tokens)
unfolding split_of read
tokens_can tokens script has =
    let same = parts_read tokens has.0 has.1.0 in
    whole_can (fold step Start tokens) (last_line tokens) script (ap (λ s. s.fault) same)
    (subst (λ (p : Sections). HasParts p script) (sym (ap (λ s. s.sections) same)) has.1.1)

-- where a script goes on with the tokens, it can go on with what was read
pub begins_can : (tokens : List Token) → Begins HasTokens tokens → CanGoOn (fold step Start tokens)
begins_can tokens b =
    fold_back b.0 (fold step Start tokens) (subst (λ (r : Reader). CanGoOn r) (fold-append step Start tokens b.0) (tokens_can (tokens ++ b.0) b.1 b.2))
