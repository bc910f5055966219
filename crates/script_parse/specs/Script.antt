-- Which bytes are a script, and why others are refused before any rule is looked at (this project's).
use Rattle.std.specs.Prelude.{◌≡◌, ◌⊎◌, ℕ, Bool, true, false, List, [], ◌∷◌, length, drop, ◌≤◌, Option, Some, None, codes}
use Rattle.class_defs.specs.declared.declarations.Declarations.{Declarations}
use Rattle.class_defs.specs.declared.statements.Stmt.{Stmt}
use Rattle.method_parse.specs.Matching.{is}
use Rattle.method_parse.specs.Texts.{IsFaultAt, SpellsBlock, SpellsSetup}
use Rattle.schedule.specs.Written.{AreEventsOf, IsFirstFault as IsEventFault}
use Rattle.schedule.specs.declared.events.Event.{Event}
use Rattle.script_text.specs.Grammar.{AreTokensOf, StopsAt}
use Rattle.script_text.specs.Script.{ArePartsOf}
use Rattle.script_text.specs.Sections.{split_of}
use Rattle.script_text.specs.declared.sections.Sections.{Sections}
use Rattle.script_text.specs.declared.sections.Split.{Split}
use Rattle.script_text.specs.declared.syntax.Syntax.{Syntax}
use Rattle.script_text.specs.declared.token.Token.{Token}
use Rattle.serial_model.specs.declared.entries.What.{What}
use Rattle.serial_model.specs.declared.entries.What.TheVariants.{Tx, Upgrade as UpgradeItem}
use Rattle.upgrade_defs.specs.Texts.{SpellsUpgrade}
use Rattle.script_parse.specs.Reads.{Each, FirstRefused}
use Rattle.script_parse.specs.declared.refusal.Refusal.{Refusal}
use Rattle.script_parse.specs.declared.refusal.Refusal.TheVariants as refusal
use Rattle.script_parse.specs.declared.script.Script.{Script}

-- ---- what is read

-- the tokens are a transaction: the word `tx` and a block
abbrev pub IsTransaction : List Token → List Stmt → Type 0
IsTransaction [] block = ⊥
IsTransaction (token ∷ tokens) block = (is (codes "tx") token ≡ true) × SpellsBlock tokens block

-- the tokens are an item: a transaction, or an upgrade with its word
abbrev pub IsItem : List Token → What → Type 0
IsItem tokens (Tx block) = IsTransaction tokens block
IsItem tokens (UpgradeItem upgrade) = SpellsUpgrade tokens upgrade

-- the items of a client
abbrev pub AreItems : List (List Token) → List What → Type 0
AreItems items whats = Each IsItem items whats

-- the setup, where the script has it
abbrev pub IsSetupPart : Option (List Token) → Option Declarations → Type 0
IsSetupPart None None = Unit {0}
IsSetupPart (Some tokens) (Some setup) = SpellsSetup tokens setup
IsSetupPart None (Some setup) = ⊥
IsSetupPart (Some tokens) None = ⊥

-- the parts of the script
pub record HasParts (parts : Sections) (script : Script) : Type 0 where
  pub setup : IsSetupPart parts.setup script.setup
  pub clients : Each AreItems parts.clients script.clients
  pub events : AreEventsOf parts.schedule script.events

-- the tokens of the script
abbrev pub HasTokens : List Token → Script → Type 0
HasTokens tokens script = (parts : Sections) × (ArePartsOf tokens parts × HasParts parts script)

-- the bytes are the script, by the grammar
abbrev pub IsWritten : List ℕ → Script → Type 0
IsWritten bytes script = (tokens : List Token) × (AreTokensOf bytes tokens × HasTokens tokens script)

-- a setup has at most 256 classes and roots
abbrev pub HasFew : Option Declarations → Type 0
HasFew None = Unit {0}
HasFew (Some setup) = (length setup.classes ≤ 256) × (length setup.roots ≤ 256)

-- ---- what is refused

-- it is a fault of the grammar, on the line of the first token that can't go on
abbrev pub IsSyntaxOf : {X : Type 0} → (List Token → X → Type 0) → List Token → Refusal → Type 0
IsSyntaxOf Spells tokens r = (line : ℕ) × ((r ≡ refusal.Syntax line) × IsFaultAt Spells tokens line)

-- an item that doesn't begin with `tx` is an upgrade
abbrev pub IsRefusedAs : Bool → List Token → List Token → Refusal → Type 0
IsRefusedAs true tokens behind r = IsSyntaxOf SpellsBlock behind r
IsRefusedAs false tokens behind r = IsSyntaxOf SpellsUpgrade tokens r

abbrev pub begins_with_tx : List Token → Bool
begins_with_tx [] = false
begins_with_tx (token ∷ tokens) = is (codes "tx") token

abbrev pub IsRefusedItem : List Token → Refusal → Type 0
IsRefusedItem tokens r = IsRefusedAs (begins_with_tx tokens) tokens (drop 1 tokens) r

abbrev pub AreRefusedItems : List (List Token) → Refusal → Type 0
AreRefusedItems items r = FirstRefused IsItem IsRefusedItem items r

abbrev pub IsRefusedSetup : Option (List Token) → Refusal → Type 0
IsRefusedSetup None r = ⊥
IsRefusedSetup (Some tokens) r = IsSyntaxOf SpellsSetup tokens r

abbrev pub IsRefusedSchedule : List Token → Refusal → Type 0
IsRefusedSchedule tokens r = (fault : Syntax) × ((r ≡ refusal.Syntax fault.line) × IsEventFault tokens fault)

abbrev pub IsRefusedEnd : Option Syntax → Refusal → Type 0
IsRefusedEnd None r = ⊥
IsRefusedEnd (Some fault) r = r ≡ refusal.Syntax fault.line

-- The parts are read in the order of the text: the first one that is refused decides, and behind them all what no script
-- goes on with.
abbrev pub IsRefusedSplit : Split → Refusal → Type 0
IsRefusedSplit split r =
    IsRefusedSetup split.sections.setup r
    ⊎ ((setup : Option Declarations) × (IsSetupPart split.sections.setup setup
    × (FirstRefused AreItems AreRefusedItems split.sections.clients r
    ⊎ ((clients : List (List What)) × (Each AreItems split.sections.clients clients
    × (IsRefusedSchedule split.sections.schedule r
    ⊎ ((events : List Event) × (AreEventsOf split.sections.schedule events
    × IsRefusedEnd split.fault r))))))))

-- the bytes are no script
abbrev pub IsRefusedText : List ℕ → Refusal → Type 0
IsRefusedText bytes r =
    ((fault : Syntax) × (StopsAt bytes fault × (r ≡ refusal.Syntax fault.line)))
    ⊎ ((tokens : List Token) × (AreTokensOf bytes tokens × IsRefusedSplit (split_of tokens) r))
