-- Which tokens are a text of the grammar, with which tree, and where tokens can't go on. This project's.
use Rattle.std.specs.Prelude.{◌≡◌, ◌-◌, ℕ, List, [], ◌∷◌, ◌++◌, length, drop, ◌⊎◌, Result, Ok, Err}
use Rattle.class_defs.specs.declared.classes.Class.{Class}
use Rattle.class_defs.specs.declared.statements.Stmt.{Stmt}
use Rattle.class_defs.specs.declared.declarations.Declarations.{Declarations}
use Rattle.class_defs.specs.declared.places.Place.TheVariants.{Item}
use Rattle.class_defs.specs.Spelling.{block_words, class_words, setup_words}
use Rattle.class_defs.specs.Grammar.{IsBlock, IsClass, IsSetup}
use Rattle.script_text.specs.declared.token.Token.{Token}
use Rattle.script_text.specs.Sections.{last_line}
use Rattle.script_text.specs.declared.syntax.SyntaxError.{SyntaxError}
use Rattle.script_text.specs.declared.syntax.SyntaxError.TheVariants.{Fault, NoMemory}
use Rattle.method_parse.specs.declared.error.ParseError.{ParseError}
use Rattle.method_parse.specs.declared.error.ParseError.TheVariants as errors
use Rattle.method_parse.specs.Matching.{AreWords}

-- the tokens are an item's block
abbrev pub SpellsBlock : List Token → List Stmt → Type 0
SpellsBlock tokens block = AreWords tokens (block_words block) × IsBlock Item block

-- the tokens are what stands behind `setup`
abbrev pub SpellsSetup : List Token → Declarations → Type 0
SpellsSetup tokens setup = AreWords tokens (setup_words setup) × IsSetup setup

-- the tokens are a class
abbrev pub SpellsClass : List Token → Class → Type 0
SpellsClass tokens class = AreWords tokens (class_words class) × IsClass class

-- some text of the grammar begins so
abbrev pub Begins : {X : Type 0} → (List Token → X → Type 0) → List Token → Type 0
Begins {X = X} Spells tokens = (more : List Token) × (tree : X) × Spells (tokens ++ more) tree

-- the first token that can't go on: those before it begin some text, and with it they begin none
pub record IsFirstFault {X : Type 0} (Spells : List Token → X → Type 0) (tokens : List Token) (line : ℕ) : Type 0 where
  pub before : List Token
  pub token : Token
  pub behind : List Token
  pub parts : tokens ≡ before ++ token ∷ behind
  pub begins : Begins Spells before
  pub ends : Begins Spells (before ++ token ∷ []) → ⊥
  pub on_line : line ≡ token.line

-- the tokens begin some text, and are none
pub record IsCutOff {X : Type 0} (Spells : List Token → X → Type 0) (tokens : List Token) (line : ℕ) : Type 0 where
  pub begins : Begins Spells tokens
  pub none : (tree : X) → Spells tokens tree → ⊥
  pub on_line : line ≡ last_line tokens

-- where tokens can't go on
abbrev pub IsFaultAt : {X : Type 0} → (List Token → X → Type 0) → List Token → ℕ → Type 0
IsFaultAt Spells tokens line = IsFirstFault Spells tokens line ⊎ IsCutOff Spells tokens line

-- the line of the first of the tokens that are left, or of the last token
abbrev pub line_at : List Token → List Token → ℕ
line_at tokens [] = last_line tokens
line_at tokens (token ∷ left) = token.line

-- the tokens before the line's token begin some text
pub record GoesUpTo {X : Type 0} (Spells : List Token → X → Type 0) (tokens : List Token) (line : ℕ) : Type 0 where
  pub before : List Token
  pub behind : List Token
  pub parts : tokens ≡ before ++ behind
  pub begins : Begins Spells before
  pub on_line : line ≡ line_at tokens behind

-- the line of a fault with so many tokens left
abbrev pub fault_line : List Token → ℕ → ℕ
fault_line tokens left = line_at tokens (drop (length tokens - left) tokens)

-- what an error says of the tokens
abbrev pub IsUpTo : {X : Type 0} → (List Token → X → Type 0) → List Token → SyntaxError → Type 0
IsUpTo Spells tokens (Fault fault) = GoesUpTo Spells tokens fault.line
IsUpTo Spells tokens NoMemory = Unit {0}

-- what an error says of the tokens, in full
abbrev pub IsFaultOf : {X : Type 0} → (List Token → X → Type 0) → List Token → SyntaxError → Type 0
IsFaultOf Spells tokens (Fault fault) = IsFaultAt Spells tokens fault.line
IsFaultOf Spells tokens NoMemory = Unit {0}

-- what a call that reads all tokens answers, by what reading gives
abbrev pub IsErrorOf : {X : Type 0} → List Token → Result X ℕ → SyntaxError → Type 0
IsErrorOf tokens read (Fault fault) = (left : ℕ) × (read ≡ Err left) × (fault.line ≡ fault_line tokens left)
IsErrorOf tokens read NoMemory = Unit {0}

abbrev pub Answers : {X : Type 0} → List Token → Result X SyntaxError → Result X ℕ → Type 0
Answers tokens (Ok x) read = read ≡ Ok x
Answers tokens (Err error) read = IsErrorOf tokens read error

-- the error of all tokens, where a part of them could not be read
abbrev pub IsErrorFor : List Token → ParseError → SyntaxError → Type 0
IsErrorFor tokens errors.NoMemory error = error ≡ NoMemory
IsErrorFor tokens (errors.Stuck left) error = error ≡ Fault (record { line = fault_line tokens left })
