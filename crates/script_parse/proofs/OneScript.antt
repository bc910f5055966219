-- A text is one script, or it is refused in one way.
use Rattle.std.proofs.Common.{◌≡◌, ◌⊎◌, ℕ, Bool, true, false, Option, Some, None, List, [], ◌∷◌, Result, Ok, Err, refl, sym, ap, ◌∙◌, subst, inl, inr, drop}
use Rattle.std.proofs.lemmas.Bool.{true≢false}
use Rattle.std.specs.Prelude.{◌&&◌, codes}
use Rattle.std.specs.Str.{bytes_eq}
use Rattle.class_defs.specs.declared.declarations.Declarations.{Declarations}
use Rattle.class_defs.specs.declared.statements.Stmt.{Stmt}
use Rattle.class_defs.specs.declared.upgrades.Upgrade.{Upgrade}
use Rattle.method_parse.specs.Matching.{is, is_fixed_kind}
use Rattle.method_parse.specs.Texts.{SpellsBlock, SpellsSetup}
use Rattle.method_parse.proofs.Only.{one_block, one_setup}
use Rattle.schedule.specs.Written.{AreEventsOf}
use Rattle.schedule.specs.declared.events.Event.{Event}
use Rattle.schedule.proofs.Schedules.{events_read}
use Rattle.schedule.proofs.Faults.{only_first_fault}
use Rattle.script_text.specs.Grammar.{AreTokensOf, StopsAt}
use Rattle.script_text.specs.Sections.{split_of}
use Rattle.script_text.specs.declared.sections.Sections.{Sections}
use Rattle.script_text.specs.declared.sections.Split.{Split}
use Rattle.script_text.specs.declared.syntax.Syntax.{Syntax}
use Rattle.script_text.specs.declared.token.Token.{Token}
use Rattle.script_text.proofs.OneReading.{one_reading, one_stop}
use Rattle.script_text.proofs.Scripts.{parts_read}
use Rattle.serial_model.specs.declared.entries.What.{What}
use Rattle.serial_model.specs.declared.entries.What.TheVariants.{Tx, Upgrade as UpgradeItem}
use Rattle.upgrade_defs.specs.Texts.{SpellsUpgrade}
use Rattle.upgrade_defs.proofs.Only.{one_upgrade}
use Rattle.script_parse.specs.Reads.{Each, FirstRefused}
use Rattle.script_parse.specs.Script.{IsItem, AreItems, IsSetupPart, HasParts, HasTokens, IsWritten, IsSyntaxOf, IsRefusedAs, begins_with_tx, IsRefusedItem, AreRefusedItems, IsRefusedSetup, IsRefusedSchedule, IsRefusedEnd, IsRefusedSplit, IsRefusedText}
use Rattle.script_parse.specs.declared.refusal.Refusal.{Refusal}
use Rattle.script_parse.specs.declared.refusal.Refusal.TheVariants as refusal
use Rattle.script_parse.specs.declared.script.Script.{Script}
use Rattle.script_parse.proofs.OneFault.{no_fault, one_line}

-- ---- faults of the grammar

module _ {X : Type 0} (Spells : List Token → X → Type 0) where
  pub syntax_apart : (tokens : List Token) (tree : X) (r : Refusal) → Spells tokens tree → IsSyntaxOf Spells tokens r → ⊥
  syntax_apart tokens tree r spells refused = no_fault Spells tokens tree refused.0 spells refused.1.1

  pub syntax_same : (tokens : List Token) (r q : Refusal) → IsSyntaxOf Spells tokens r → IsSyntaxOf Spells tokens q → r ≡ q
  syntax_same tokens r q p s = p.1.0 ∙ ap (λ (n : ℕ). refusal.Syntax n) (one_line Spells tokens p.0 s.0 p.1.1 s.1.1) ∙ sym s.1.0

-- ---- several texts

module _ {A T : Type 0} (Is : A → T → Type 0) (IsRefused : A → Refusal → Type 0)
    (one : (a : A) (t u : T) → Is a t → Is a u → t ≡ u)
    (apart : (a : A) (t : T) (r : Refusal) → Is a t → IsRefused a r → ⊥)
    (same : (a : A) (r q : Refusal) → IsRefused a r → IsRefused a q → r ≡ q) where
  pub each_one : (xs : List A) (ts us : List T) → Each Is xs ts → Each Is xs us → ts ≡ us
  each_one [] [] [] p q = refl
  each_one [] [] (u ∷ us) p q = absurd q
  each_one [] (t ∷ ts) us p q = absurd p
  each_one (a ∷ xs) [] us p q = absurd p
  each_one (a ∷ xs) (t ∷ ts) [] p q = absurd q
  each_one (a ∷ xs) (t ∷ ts) (u ∷ us) p q = ap (λ (x : T). x ∷ ts) (one a t u p.0 q.0) ∙ ap (λ (xs : List T). u ∷ xs) (each_one xs ts us p.1 q.1)

  pub each_apart : (xs : List A) (ts : List T) (r : Refusal) → Each Is xs ts → FirstRefused Is IsRefused xs r → ⊥
  each_apart [] ts r p f = f
  each_apart (a ∷ xs) [] r p f = p
  each_apart (a ∷ xs) (t ∷ ts) r p (inl f) = apart a t r p.0 f
  each_apart (a ∷ xs) (t ∷ ts) r p (inr f) = each_apart xs ts r p.1 f.1.1

  pub first_same : (xs : List A) (r q : Refusal) → FirstRefused Is IsRefused xs r → FirstRefused Is IsRefused xs q → r ≡ q
  first_same [] r q f g = absurd f
  first_same (a ∷ xs) r q (inl f) (inl g) = same a r q f g
  first_same (a ∷ xs) r q (inl f) (inr g) = absurd (apart a g.0 r g.1.0 f)
  first_same (a ∷ xs) r q (inr f) (inl g) = absurd (apart a f.0 q f.1.0 g)
  first_same (a ∷ xs) r q (inr f) (inr g) = first_same xs r q f.1.1 g.1.1

-- ---- items

and_false : (b : Bool) → (b && false) ≡ false
and_false true = refl
and_false false = refl

-- an upgrade doesn't begin with `tx`
pub upgrade_no_tx : (tokens : List Token) (upgrade : Upgrade) → SpellsUpgrade tokens upgrade → begins_with_tx tokens ≡ false
upgrade_no_tx [] upgrade spells = refl
upgrade_no_tx (token ∷ tokens) upgrade spells =
    ap (λ (text : List ℕ). is_fixed_kind token.kind && bytes_eq text (codes "tx")) spells.0.0.1 ∙ and_false (is_fixed_kind token.kind)

tx_or_upgrade : (tokens : List Token) (block : List Stmt) (upgrade : Upgrade) → IsItem tokens (Tx block) → SpellsUpgrade tokens upgrade → ⊥
tx_or_upgrade [] block upgrade p q = p
tx_or_upgrade (token ∷ tokens) block upgrade p q = true≢false (sym p.0 ∙ upgrade_no_tx (token ∷ tokens) upgrade q)

one_item : (tokens : List Token) (a b : What) → IsItem tokens a → IsItem tokens b → a ≡ b
one_item [] (Tx a) b p q = absurd p
one_item [] (UpgradeItem a) (Tx b) p q = absurd q
one_item [] (UpgradeItem a) (UpgradeItem b) p q = ap (λ (u : Upgrade). UpgradeItem u) (one_upgrade [] a b p q)
one_item (token ∷ tokens) (Tx a) (Tx b) p q = ap (λ (x : List Stmt). Tx x) (one_block tokens a b p.1 q.1)
one_item (token ∷ tokens) (Tx a) (UpgradeItem b) p q = absurd (tx_or_upgrade (token ∷ tokens) a b p q)
one_item (token ∷ tokens) (UpgradeItem a) (Tx b) p q = absurd (tx_or_upgrade (token ∷ tokens) b a q p)
one_item (token ∷ tokens) (UpgradeItem a) (UpgradeItem b) p q = ap (λ (u : Upgrade). UpgradeItem u) (one_upgrade (token ∷ tokens) a b p q)

pub item_apart : (tokens : List Token) (what : What) (r : Refusal) → IsItem tokens what → IsRefusedItem tokens r → ⊥
item_apart [] (Tx block) r is refused = is
item_apart (token ∷ tokens) (Tx block) r is refused =
    syntax_apart SpellsBlock tokens block r is.1 (subst (λ (b : Bool). IsRefusedAs b (token ∷ tokens) tokens r) is.0 refused)
item_apart tokens (UpgradeItem upgrade) r is refused =
    syntax_apart SpellsUpgrade tokens upgrade r is (subst (λ (b : Bool). IsRefusedAs b tokens (drop 1 tokens) r) (upgrade_no_tx tokens upgrade is) refused)

as_same : (b : Bool) (tokens behind : List Token) (r q : Refusal) → IsRefusedAs b tokens behind r → IsRefusedAs b tokens behind q → r ≡ q
as_same true tokens behind r q p s = syntax_same SpellsBlock behind r q p s
as_same false tokens behind r q p s = syntax_same SpellsUpgrade tokens r q p s

pub item_same : (tokens : List Token) (r q : Refusal) → IsRefusedItem tokens r → IsRefusedItem tokens q → r ≡ q
item_same tokens r q p s = as_same (begins_with_tx tokens) tokens (drop 1 tokens) r q p s

one_items : (items : List (List Token)) (a b : List What) → AreItems items a → AreItems items b → a ≡ b
one_items items a b p q = each_one IsItem IsRefusedItem one_item item_apart item_same items a b p q

pub items_apart : (items : List (List Token)) (whats : List What) (r : Refusal) → AreItems items whats → AreRefusedItems items r → ⊥
items_apart items whats r are refused = each_apart IsItem IsRefusedItem one_item item_apart item_same items whats r are refused

items_same : (items : List (List Token)) (r q : Refusal) → AreRefusedItems items r → AreRefusedItems items q → r ≡ q
items_same items r q p s = first_same IsItem IsRefusedItem one_item item_apart item_same items r q p s

abbrev pub AreClients : List (List (List Token)) → List (List What) → Type 0
AreClients clients whats = Each AreItems clients whats

abbrev pub AreRefusedClients : List (List (List Token)) → Refusal → Type 0
AreRefusedClients clients r = FirstRefused AreItems AreRefusedItems clients r

one_clients : (clients : List (List (List Token))) (a b : List (List What)) → AreClients clients a → AreClients clients b → a ≡ b
one_clients clients a b p q = each_one AreItems AreRefusedItems one_items items_apart items_same clients a b p q

pub clients_apart : (clients : List (List (List Token))) (whats : List (List What)) (r : Refusal) → AreClients clients whats → AreRefusedClients clients r → ⊥
clients_apart clients whats r are refused = each_apart AreItems AreRefusedItems one_items items_apart items_same clients whats r are refused

clients_same : (clients : List (List (List Token))) (r q : Refusal) → AreRefusedClients clients r → AreRefusedClients clients q → r ≡ q
clients_same clients r q p s = first_same AreItems AreRefusedItems one_items items_apart items_same clients r q p s

-- ---- the setup and the schedule

one_setup_part : (part : Option (List Token)) (a b : Option Declarations) → IsSetupPart part a → IsSetupPart part b → a ≡ b
one_setup_part None None None p q = refl
one_setup_part None None (Some b) p q = absurd q
one_setup_part None (Some a) b p q = absurd p
one_setup_part (Some tokens) None b p q = absurd p
one_setup_part (Some tokens) (Some a) None p q = absurd q
one_setup_part (Some tokens) (Some a) (Some b) p q = ap (λ (x : Declarations). Some x) (one_setup tokens a b p q)

pub setup_apart : (part : Option (List Token)) (setup : Option Declarations) (r : Refusal) → IsSetupPart part setup → IsRefusedSetup part r → ⊥
setup_apart None setup r is refused = refused
setup_apart (Some tokens) None r is refused = is
setup_apart (Some tokens) (Some setup) r is refused = syntax_apart SpellsSetup tokens setup r is refused

setup_same : (part : Option (List Token)) (r q : Refusal) → IsRefusedSetup part r → IsRefusedSetup part q → r ≡ q
setup_same None r q p s = absurd p
setup_same (Some tokens) r q p s = syntax_same SpellsSetup tokens r q p s

abbrev read : List Event → Result (List Event) Syntax
read events = Ok events

abbrev failed : Syntax → Result (List Event) Syntax
failed fault = Err fault

read_one : (a b : List Event) → read a ≡ read b → a ≡ b
read_one a b e = cc

failed_one : (f g : Syntax) → failed f ≡ failed g → f ≡ g
failed_one f g e = cc

read_failed : (a : List Event) (f : Syntax) → read a ≡ failed f → ⊥
read_failed a f e = cc

one_schedule : (tokens : List Token) (a b : List Event) → AreEventsOf tokens a → AreEventsOf tokens b → a ≡ b
one_schedule tokens a b p q = read_one a b (sym (events_read tokens a p) ∙ events_read tokens b q)

pub schedule_apart : (tokens : List Token) (events : List Event) (r : Refusal) → AreEventsOf tokens events → IsRefusedSchedule tokens r → ⊥
schedule_apart tokens events r are refused = read_failed events refused.0 (sym (events_read tokens events are) ∙ only_first_fault tokens refused.0 refused.1.1)

pub schedule_same : (tokens : List Token) (r q : Refusal) → IsRefusedSchedule tokens r → IsRefusedSchedule tokens q → r ≡ q
schedule_same tokens r q p s =
    let same : p.0 ≡ s.0 = failed_one p.0 s.0 (sym (only_first_fault tokens p.0 p.1.1) ∙ only_first_fault tokens s.0 s.1.1) in
    p.1.0 ∙ ap (λ (f : Syntax). refusal.Syntax f.line) same ∙ sym s.1.0

-- ---- all parts

-- refused behind the items
abbrev pub BehindClients : List Token → Option Syntax → Refusal → Type 0
BehindClients schedule fault r = IsRefusedSchedule schedule r ⊎ ((events : List Event) × (AreEventsOf schedule events × IsRefusedEnd fault r))

-- refused behind the setup
abbrev pub BehindSetup : List (List (List Token)) → List Token → Option Syntax → Refusal → Type 0
BehindSetup clients schedule fault r = AreRefusedClients clients r ⊎ ((whats : List (List What)) × (AreClients clients whats × BehindClients schedule fault r))

-- where a part is none that is refused, the next ones decide
pub past_setup : (split : Split) (setup : Option Declarations) (r : Refusal) → IsSetupPart split.sections.setup setup → IsRefusedSplit split r
    → BehindSetup split.sections.clients split.sections.schedule split.fault r
past_setup split setup r is (inl refused) = absurd (setup_apart split.sections.setup setup r is refused)
past_setup split setup r is (inr later) = later.1.1

pub past_clients : (clients : List (List (List Token))) (schedule : List Token) (fault : Option Syntax) (whats : List (List What)) (r : Refusal)
    → AreClients clients whats → BehindSetup clients schedule fault r → BehindClients schedule fault r
past_clients clients schedule fault whats r are (inl refused) = absurd (clients_apart clients whats r are refused)
past_clients clients schedule fault whats r are (inr later) = later.1.1

pub past_schedule : (schedule : List Token) (fault : Option Syntax) (events : List Event) (r : Refusal) → AreEventsOf schedule events → BehindClients schedule fault r
    → IsRefusedEnd fault r
past_schedule schedule fault events r are (inl refused) = absurd (schedule_apart schedule events r are refused)
past_schedule schedule fault events r are (inr later) = later.1.1

pub past_parts : (split : Split) (script : Script) (r : Refusal) → HasParts split.sections script → IsRefusedSplit split r → IsRefusedEnd split.fault r
past_parts split script r has refused =
    past_schedule split.sections.schedule split.fault script.events r has.events
    (past_clients split.sections.clients split.sections.schedule split.fault script.clients r has.clients (past_setup split script.setup r has.setup refused))

end_same : (fault : Option Syntax) (r q : Refusal) → IsRefusedEnd fault r → IsRefusedEnd fault q → r ≡ q
end_same None r q p s = absurd p
end_same (Some fault) r q p s = p ∙ sym s

behind_clients_same : (schedule : List Token) (fault : Option Syntax) (r q : Refusal) → BehindClients schedule fault r → BehindClients schedule fault q → r ≡ q
behind_clients_same schedule fault r q (inl p) (inl s) = schedule_same schedule r q p s
behind_clients_same schedule fault r q (inl p) (inr s) = absurd (schedule_apart schedule s.0 r s.1.0 p)
behind_clients_same schedule fault r q (inr p) (inl s) = absurd (schedule_apart schedule p.0 q p.1.0 s)
behind_clients_same schedule fault r q (inr p) (inr s) = end_same fault r q p.1.1 s.1.1

behind_setup_same : (clients : List (List (List Token))) (schedule : List Token) (fault : Option Syntax) (r q : Refusal)
    → BehindSetup clients schedule fault r → BehindSetup clients schedule fault q → r ≡ q
behind_setup_same clients schedule fault r q (inl p) (inl s) = clients_same clients r q p s
behind_setup_same clients schedule fault r q (inl p) (inr s) = absurd (clients_apart clients s.0 r s.1.0 p)
behind_setup_same clients schedule fault r q (inr p) (inl s) = absurd (clients_apart clients p.0 q p.1.0 s)
behind_setup_same clients schedule fault r q (inr p) (inr s) = behind_clients_same schedule fault r q p.1.1 s.1.1

pub split_same : (split : Split) (r q : Refusal) → IsRefusedSplit split r → IsRefusedSplit split q → r ≡ q
split_same split r q (inl p) (inl s) = setup_same split.sections.setup r q p s
split_same split r q (inl p) (inr s) = absurd (setup_apart split.sections.setup s.0 r s.1.0 p)
split_same split r q (inr p) (inl s) = absurd (setup_apart split.sections.setup p.0 q p.1.0 s)
split_same split r q (inr p) (inr s) = behind_setup_same split.sections.clients split.sections.schedule split.fault r q p.1.1 s.1.1

-- ---- tokens

-- the parts of a script are those that its tokens fall into
pub split_whole : (tokens : List Token) (script : Script) → HasTokens tokens script → HasParts (split_of tokens).sections script
split_whole tokens script has = subst (λ (s : Split). HasParts s.sections script) (sym (parts_read tokens has.0 has.1.0)) has.1.1

pub tokens_apart : (tokens : List Token) (script : Script) (r : Refusal) → HasTokens tokens script → IsRefusedSplit (split_of tokens) r → ⊥
tokens_apart tokens script r has refused =
    subst (λ (s : Split). IsRefusedEnd s.fault r) (parts_read tokens has.0 has.1.0) (past_parts (split_of tokens) script r (split_whole tokens script has) refused)

one_parts : (parts : Sections) (a b : Script) → HasParts parts a → HasParts parts b → a ≡ b
one_parts parts a b p q =
    ap (λ (x : Option Declarations). record { setup = x; clients = a.clients; events = a.events }) (one_setup_part parts.setup a.setup b.setup p.setup q.setup)
    ∙ ap (λ (x : List (List What)). record { setup = b.setup; clients = x; events = a.events }) (one_clients parts.clients a.clients b.clients p.clients q.clients)
    ∙ ap (λ (x : List Event). record { setup = b.setup; clients = b.clients; events = x }) (one_schedule parts.schedule a.events b.events p.events q.events)

pub one_of_tokens : (tokens : List Token) (a b : Script) → HasTokens tokens a → HasTokens tokens b → a ≡ b
one_of_tokens tokens a b p q = one_parts (split_of tokens).sections a b (split_whole tokens a p) (split_whole tokens b q)

-- ---- bytes

abbrev scanned : List Token → Result (List Token) Syntax
scanned tokens = Ok tokens

abbrev stopped : Syntax → Result (List Token) Syntax
stopped fault = Err fault

scanned_one : (a b : List Token) → scanned a ≡ scanned b → a ≡ b
scanned_one a b e = cc

stopped_one : (f g : Syntax) → stopped f ≡ stopped g → f ≡ g
stopped_one f g e = cc

scanned_stopped : (a : List Token) (f : Syntax) → scanned a ≡ stopped f → ⊥
scanned_stopped a f e = cc

pub one_tokens : (bytes : List ℕ) (a b : List Token) → AreTokensOf bytes a → AreTokensOf bytes b → a ≡ b
one_tokens bytes a b p q = scanned_one a b (sym (one_reading bytes a p) ∙ one_reading bytes b q)

pub tokens_or_stop : (bytes : List ℕ) (tokens : List Token) (fault : Syntax) → AreTokensOf bytes tokens → StopsAt bytes fault → ⊥
tokens_or_stop bytes tokens fault are stops = scanned_stopped tokens fault (sym (one_reading bytes tokens are) ∙ one_stop bytes fault stops)

same_stop : (bytes : List ℕ) (f g : Syntax) → StopsAt bytes f → StopsAt bytes g → f ≡ g
same_stop bytes f g p q = stopped_one f g (sym (one_stop bytes f p) ∙ one_stop bytes g q)

pub one_script : (bytes : List ℕ) (script other : Script) → IsWritten bytes script → IsWritten bytes other → script ≡ other
one_script bytes script other p q =
    let tokens : p.0 ≡ q.0 = one_tokens bytes p.0 q.0 p.1.0 q.1.0 in
    one_of_tokens q.0 script other (subst (λ (ts : List Token). HasTokens ts script) tokens p.1.1) q.1.1

pub none_refused : (bytes : List ℕ) (script : Script) (r : Refusal) → IsWritten bytes script → IsRefusedText bytes r → ⊥
none_refused bytes script r p (inl stop) = tokens_or_stop bytes p.0 stop.0 p.1.0 stop.1.0
none_refused bytes script r p (inr s) =
    let tokens : p.0 ≡ s.0 = one_tokens bytes p.0 s.0 p.1.0 s.1.0 in
    tokens_apart s.0 script r (subst (λ (ts : List Token). HasTokens ts script) tokens p.1.1) s.1.1

pub one_refusal : (bytes : List ℕ) (r q : Refusal) → IsRefusedText bytes r → IsRefusedText bytes q → r ≡ q
one_refusal bytes r q (inl p) (inl s) = p.1.1 ∙ ap (λ (f : Syntax). refusal.Syntax f.line) (same_stop bytes p.0 s.0 p.1.0 s.1.0) ∙ sym s.1.1
one_refusal bytes r q (inl p) (inr s) = absurd (tokens_or_stop bytes s.0 p.0 s.1.0 p.1.0)
one_refusal bytes r q (inr p) (inl s) = absurd (tokens_or_stop bytes p.0 s.0 p.1.0 s.1.0)
one_refusal bytes r q (inr p) (inr s) =
    let tokens : p.0 ≡ s.0 = one_tokens bytes p.0 s.0 p.1.0 s.1.0 in
    split_same (split_of s.0) r q (subst (λ (ts : List Token). IsRefusedSplit (split_of ts) r) tokens p.1.1) s.1.1
