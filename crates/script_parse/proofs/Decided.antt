-- Tokens are a part of a script, or they can't go on at one place.
use Rattle.std.proofs.Common.{◌≡◌, ◌⊎◌, ◌≤◌, ℕ, Bool, true, false, List, [], ◌∷◌, ◌++◌, length, drop, Result, Ok, Err, refl, sym, ap, ◌∙◌, subst, inl, inr, append_assoc, arith}
use Rattle.std.proofs.lemmas.Bool.{true≢false}
use Rattle.std.specs.Prelude.{codes}
use Rattle.class_defs.specs.declared.declarations.Declarations.{Declarations}
use Rattle.class_defs.specs.declared.statements.Stmt.{Stmt}
use Rattle.class_defs.specs.declared.upgrades.Upgrade.{Upgrade}
use Rattle.method_parse.specs.Matching.{is}
use Rattle.method_parse.specs.Setups.{block_of, setup_of}
use Rattle.method_parse.specs.Texts.{Begins, IsFaultAt, SpellsBlock, SpellsSetup, fault_line}
use Rattle.method_parse.proofs.Ends.{block_found, setup_found}
use Rattle.method_parse.proofs.Faults.{block_fault, setup_fault}
use Rattle.schedule.specs.Schedule.{events_of}
use Rattle.schedule.specs.Written.{AreEventsOf, IsFirstFault as IsEventFault}
use Rattle.schedule.specs.declared.events.Event.{Event}
use Rattle.schedule.proofs.Faults.{first_fault}
use Rattle.schedule.proofs.Schedules.{are_events}
use Rattle.script_text.specs.declared.syntax.Syntax.{Syntax}
use Rattle.script_text.specs.declared.syntax.SyntaxError.TheVariants.{Fault}
use Rattle.script_text.specs.declared.token.Token.{Token}
use Rattle.serial_model.specs.declared.entries.What.{What}
use Rattle.serial_model.specs.declared.entries.What.TheVariants.{Tx, Upgrade as UpgradeItem}
use Rattle.upgrade_defs.specs.Texts.{SpellsUpgrade}
use Rattle.upgrade_defs.specs.Upgrades.{upgrade_of}
use Rattle.upgrade_defs.proofs.Ends.{upgrade_found}
use Rattle.upgrade_defs.proofs.Faults.{upgrade_fault}
use Rattle.script_parse.specs.Script.{IsItem, IsRefusedAs, IsRefusedItem, IsSyntaxOf, begins_with_tx}
use Rattle.script_parse.specs.declared.refusal.Refusal.{Refusal}
use Rattle.script_parse.specs.declared.refusal.Refusal.TheVariants as refusal
use Rattle.script_parse.proofs.OneScript.{upgrade_no_tx}

abbrev pub Decided : {X : Type 0} → (List Token → X → Type 0) → List Token → Type 0
Decided {X = X} Spells tokens = ((tree : X) × Spells tokens tree) ⊎ ((line : ℕ) × IsFaultAt Spells tokens line)

abbrev on_line : ℕ → Syntax
on_line line = record { line = line }

block_by : (tokens : List Token) (r : Result (List Stmt) ℕ) → block_of tokens ≡ r → Decided SpellsBlock tokens
block_by tokens (Ok x) e = inl (x, block_found tokens (Ok x) e)
block_by tokens (Err left) e = inr (fault_line tokens left, block_fault tokens (Err (Fault (on_line (fault_line tokens left)))) (left, e, refl))

pub decided_block : (tokens : List Token) → Decided SpellsBlock tokens
decided_block tokens = block_by tokens (block_of tokens) refl

setup_by : (tokens : List Token) (r : Result Declarations ℕ) → setup_of tokens ≡ r → Decided SpellsSetup tokens
setup_by tokens (Ok x) e = inl (x, setup_found tokens (Ok x) e)
setup_by tokens (Err left) e = inr (fault_line tokens left, setup_fault tokens (Err (Fault (on_line (fault_line tokens left)))) (left, e, refl))

pub decided_setup : (tokens : List Token) → Decided SpellsSetup tokens
decided_setup tokens = setup_by tokens (setup_of tokens) refl

upgrade_by : (tokens : List Token) (r : Result Upgrade ℕ) → upgrade_of tokens ≡ r → Decided SpellsUpgrade tokens
upgrade_by tokens (Ok x) e = inl (x, upgrade_found tokens (Ok x) e)
upgrade_by tokens (Err left) e = inr (fault_line tokens left, upgrade_fault tokens (Err (Fault (on_line (fault_line tokens left)))) (left, e, refl))

decided_upgrade : (tokens : List Token) → Decided SpellsUpgrade tokens
decided_upgrade tokens = upgrade_by tokens (upgrade_of tokens) refl

-- ---- schedules

pub events_fault : (tokens : List Token) (fault : Syntax) → IsEventFault tokens fault → IsFaultAt AreEventsOf tokens fault.line
events_fault tokens fault (inl s) = inl (record {
  before = s.front;
  token = s.token;
  behind = s.behind;
  parts = sym s.whole;
  begins = (s.begin.more, s.begin.events, s.begin.is);
  ends = λ b. s.none b.0 b.1 (subst (λ (l : List Token). AreEventsOf l b.1) (append_assoc s.front (s.token ∷ []) b.0) b.2);
  on_line = s.line;
})
events_fault tokens fault (inr s) = inr (record { begins = (s.begin.more, s.begin.events, s.begin.is); none = s.none; on_line = s.line })

pub events_or_fault : (tokens : List Token) → ((events : List Event) × AreEventsOf tokens events) ⊎ ((fault : Syntax) × IsEventFault tokens fault)
events_or_fault tokens = by (events_of tokens) refl
  where
    by : (r : Result (List Event) Syntax) → events_of tokens ≡ r → ((events : List Event) × AreEventsOf tokens events) ⊎ ((fault : Syntax) × IsEventFault tokens fault)
    by (Ok events) e = inl (events, are_events tokens events e)
    by (Err fault) e = inr (fault, first_fault tokens fault e)

pub decided_events : (tokens : List Token) → Decided AreEventsOf tokens
decided_events tokens = by (events_or_fault tokens)
  where
    by : ((events : List Event) × AreEventsOf tokens events) ⊎ ((fault : Syntax) × IsEventFault tokens fault) → Decided AreEventsOf tokens
    by (inl k) = inl k
    by (inr k) = inr (k.0.line, events_fault tokens k.0 k.1)

-- ---- items

-- behind `tx` an item is a block
tx_spells : (token : Token) (tokens : List Token) (what : What) → is (codes "tx") token ≡ true → IsItem (token ∷ tokens) what → (block : List Stmt) × SpellsBlock tokens block
tx_spells token tokens (Tx block) tx is = (block, is.1)
tx_spells token tokens (UpgradeItem upgrade) tx is = absurd (true≢false (sym tx ∙ upgrade_no_tx (token ∷ tokens) upgrade is))

tx_begins : (token : Token) (front : List Token) → is (codes "tx") token ≡ true → Begins IsItem (token ∷ front) → Begins SpellsBlock front
tx_begins token front tx b = let s = tx_spells token (front ++ b.0) b.1 tx b.2 in (b.0, s.0, s.1)

tx_fault : (token next : Token) (tokens : List Token) (line : ℕ) → is (codes "tx") token ≡ true → IsFaultAt SpellsBlock (next ∷ tokens) line → IsFaultAt IsItem (token ∷ next ∷ tokens) line
tx_fault token next tokens line tx (inl f) = inl (record {
  before = token ∷ f.before;
  token = f.token;
  behind = f.behind;
  parts = ap (λ (l : List Token). token ∷ l) f.parts;
  begins = (f.begins.0, Tx f.begins.1, (tx, f.begins.2));
  ends = λ b. f.ends (tx_begins token (f.before ++ f.token ∷ []) tx b);
  on_line = f.on_line;
})
tx_fault token next tokens line tx (inr c) = inr (record {
  begins = (c.begins.0, Tx c.begins.1, (tx, c.begins.2));
  none = λ what is. (let s = tx_spells token (next ∷ tokens) what tx is in c.none s.0 s.1);
  on_line = c.on_line;
})

-- any other one is an upgrade
other_spells : (token : Token) (tokens : List Token) (what : What) → is (codes "tx") token ≡ false → IsItem (token ∷ tokens) what → (upgrade : Upgrade) × SpellsUpgrade (token ∷ tokens) upgrade
other_spells token tokens (Tx block) tx is = absurd (true≢false (sym is.0 ∙ tx))
other_spells token tokens (UpgradeItem upgrade) tx is = (upgrade, is)

other_begins : (before : List Token) (token : Token) → begins_with_tx (before ++ token ∷ []) ≡ false → Begins IsItem (before ++ token ∷ []) → Begins SpellsUpgrade (before ++ token ∷ [])
other_begins [] token tx b = let s = other_spells token b.0 b.1 tx b.2 in (b.0, s.0, s.1)
other_begins (first ∷ before) token tx b = let s = other_spells first ((before ++ token ∷ []) ++ b.0) b.1 tx b.2 in (b.0, s.0, s.1)

same_start : (before : List Token) (token : Token) (xs ys : List Token) → begins_with_tx (before ++ token ∷ xs) ≡ begins_with_tx (before ++ token ∷ ys)
same_start [] token xs ys = refl
same_start (first ∷ before) token xs ys = refl

no_item : (tokens : List Token) (what : What) → begins_with_tx tokens ≡ false → ((upgrade : Upgrade) → SpellsUpgrade tokens upgrade → ⊥) → IsItem tokens what → ⊥
no_item [] (Tx block) tx none is = is
no_item (token ∷ tokens) (Tx block) tx none is = true≢false (sym is.0 ∙ tx)
no_item tokens (UpgradeItem upgrade) tx none is = none upgrade is

other_fault : (tokens : List Token) (line : ℕ) → begins_with_tx tokens ≡ false → IsFaultAt SpellsUpgrade tokens line → IsFaultAt IsItem tokens line
other_fault tokens line tx (inl f) =
    let first : begins_with_tx (f.before ++ f.token ∷ []) ≡ false = same_start f.before f.token [] f.behind ∙ sym (ap begins_with_tx f.parts) ∙ tx in
    inl (record {
      before = f.before;
      token = f.token;
      behind = f.behind;
      parts = f.parts;
      begins = (f.begins.0, UpgradeItem f.begins.1, f.begins.2);
      ends = λ b. f.ends (other_begins f.before f.token first b);
      on_line = f.on_line;
    })
other_fault tokens line tx (inr c) = inr (record {
  begins = (c.begins.0, UpgradeItem c.begins.1, c.begins.2);
  none = λ what is. no_item tokens what tx c.none is;
  on_line = c.on_line;
})

-- an item has two tokens or more: its word and its brace
item_fault_as : (b : Bool) (tokens : List Token) (r : Refusal) → begins_with_tx tokens ≡ b → 2 ≤ length tokens → IsRefusedAs b tokens (drop 1 tokens) r → IsSyntaxOf IsItem tokens r
item_fault_as true [] r tx two refused = absurd (omega arith)
item_fault_as true (token ∷ []) r tx two refused = absurd (omega arith)
item_fault_as true (token ∷ next ∷ tokens) r tx two refused = (refused.0, (refused.1.0, tx_fault token next tokens refused.0 tx refused.1.1))
item_fault_as false tokens r tx two refused = (refused.0, (refused.1.0, other_fault tokens refused.0 tx refused.1.1))

pub item_fault : (tokens : List Token) (r : Refusal) → 2 ≤ length tokens → IsRefusedItem tokens r → IsSyntaxOf IsItem tokens r
item_fault tokens r two refused = item_fault_as (begins_with_tx tokens) tokens r refl two refused

abbrev ItemOrRefused : List Token → Type 0
ItemOrRefused tokens = ((what : What) × IsItem tokens what) ⊎ ((r : Refusal) × IsRefusedItem tokens r)

tx_or_refused : (token : Token) (tokens : List Token) → is (codes "tx") token ≡ true → Decided SpellsBlock tokens → ItemOrRefused (token ∷ tokens)
tx_or_refused token tokens tx (inl k) = inl (Tx k.0, (tx, k.1))
tx_or_refused token tokens tx (inr k) = inr (refusal.Syntax k.0, subst (λ (b : Bool). IsRefusedAs b (token ∷ tokens) tokens (refusal.Syntax k.0)) (sym tx) (k.0, (refl, k.1)))

other_or_refused : (tokens : List Token) → begins_with_tx tokens ≡ false → Decided SpellsUpgrade tokens → ItemOrRefused tokens
other_or_refused tokens tx (inl k) = inl (UpgradeItem k.0, k.1)
other_or_refused tokens tx (inr k) = inr (refusal.Syntax k.0, subst (λ (b : Bool). IsRefusedAs b tokens (drop 1 tokens) (refusal.Syntax k.0)) (sym tx) (k.0, (refl, k.1)))

item_by : (b : Bool) (tokens : List Token) → begins_with_tx tokens ≡ b → ItemOrRefused tokens
item_by true [] tx = absurd (true≢false (sym tx))
item_by true (token ∷ tokens) tx = tx_or_refused token tokens tx (decided_block tokens)
item_by false tokens tx = other_or_refused tokens tx (decided_upgrade tokens)

pub item_or_refused : (tokens : List Token) → ((what : What) × IsItem tokens what) ⊎ ((r : Refusal) × IsRefusedItem tokens r)
item_or_refused tokens = item_by (begins_with_tx tokens) tokens refl

pub decided_item : (tokens : List Token) → 2 ≤ length tokens → Decided IsItem tokens
decided_item tokens two = by (item_or_refused tokens)
  where
    by : ((what : What) × IsItem tokens what) ⊎ ((r : Refusal) × IsRefusedItem tokens r) → Decided IsItem tokens
    by (inl k) = inl k
    by (inr k) = let f = item_fault tokens k.0 two k.1 in inr (f.0, f.1.1)
