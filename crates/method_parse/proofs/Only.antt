-- What all tokens spell is what is read of them.
use Rattle.std.proofs.Common.{◌≡◌, ℕ, List, [], Result, Ok, Err, sym, ap, ◌∙◌, arith}
use Rattle.std.proofs.lemmas.List.{append-nil}
use Rattle.script_text.specs.declared.token.Token.{Token}
use Rattle.script_text.specs.declared.syntax.SyntaxError.{SyntaxError}
use Rattle.script_text.specs.declared.syntax.SyntaxError.TheVariants.{Fault, NoMemory}
use Rattle.script_text.specs.Reading.{Gives}
use Rattle.class_defs.specs.declared.statements.Stmt.{Stmt}
use Rattle.class_defs.specs.declared.declarations.Declarations.{Declarations}
use Rattle.class_defs.specs.declared.places.Place.TheVariants.{Item}
use Rattle.class_defs.specs.Grammar.{max_nesting}
use Rattle.method_parse.specs.Setups.{whole, block_of, setup_of, setup}
use Rattle.method_parse.specs.Statements.{block_in}
use Rattle.method_parse.specs.Texts.{SpellsBlock, SpellsSetup, Answers}
use Rattle.method_parse.proofs.StatementOnly.{block_reads}
use Rattle.method_parse.proofs.SetupOnly.{setup_reads}

pub block_is_read : (tokens : List Token) (block : List Stmt) → SpellsBlock tokens block → block_in Item max_nesting tokens ≡ Ok (block, [])
block_is_read tokens block spells =
    ap (block_in Item max_nesting) (sym (append-nil tokens))
    ∙ block_reads Item max_nesting (omega arith) block tokens [] spells.0 (record { deep = spells.1.depth; nested = spells.1.nesting; proper = spells.1.proper })

pub setup_is_read : (tokens : List Token) (x : Declarations) → SpellsSetup tokens x → setup tokens ≡ Ok (x, [])
setup_is_read tokens x spells = ap setup (sym (append-nil tokens)) ∙ setup_reads x tokens spells.0 spells.1

pub block_of_is : (tokens : List Token) (block : List Stmt) → SpellsBlock tokens block → block_of tokens ≡ Ok block
unfolding block_of
block_of_is tokens block spells = ap whole (block_is_read tokens block spells)

pub setup_of_is : (tokens : List Token) (x : Declarations) → SpellsSetup tokens x → setup_of tokens ≡ Ok x
unfolding setup_of
setup_of_is tokens x spells = ap whole (setup_is_read tokens x spells)

abbrev read : {X : Type 0} → X → Result X ℕ
read x = Ok x

pub same_read : {X : Type 0} (r : Result X ℕ) (x y : X) → r ≡ Ok x → r ≡ Ok y → x ≡ y
same_read r x y p q = let same : read x ≡ read y = sym p ∙ q in cc

apart : {X : Type 0} (r : Result X ℕ) (x : X) (n : ℕ) → r ≡ Ok x → r ≡ Err n → ⊥
apart r x n p q = cc

pub only : {X : Type 0} (tokens : List Token) (r : Result X ℕ) (result : Result X SyntaxError) (x : X) → Answers tokens result r → r ≡ Ok x → Gives result (Ok x)
only tokens r (Ok y) x answers is = let same : x ≡ y = same_read r x y is answers in ap (λ z. Ok z) same
only tokens r (Err (Fault f)) x answers is = absurd (apart r x answers.0 is answers.1)
only tokens r (Err NoMemory) x answers is = tt

pub block_only : (tokens : List Token) (result : Result (List Stmt) SyntaxError) → Answers tokens result (block_of tokens) → (block : List Stmt) → SpellsBlock tokens block → Gives result (Ok block)
block_only tokens result answers block spells = only tokens (block_of tokens) result block answers (block_of_is tokens block spells)

pub setup_only : (tokens : List Token) (result : Result Declarations SyntaxError) → Answers tokens result (setup_of tokens) → (x : Declarations) → SpellsSetup tokens x → Gives result (Ok x)
setup_only tokens result answers x spells = only tokens (setup_of tokens) result x answers (setup_of_is tokens x spells)

-- no tokens spell two trees
pub one_block : (tokens : List Token) (a b : List Stmt) → SpellsBlock tokens a → SpellsBlock tokens b → a ≡ b
one_block tokens a b p q = same_read (block_of tokens) a b (block_of_is tokens a p) (block_of_is tokens b q)

pub one_setup : (tokens : List Token) (a b : Declarations) → SpellsSetup tokens a → SpellsSetup tokens b → a ≡ b
one_setup tokens a b p q = same_read (setup_of tokens) a b (setup_of_is tokens a p) (setup_of_is tokens b q)
