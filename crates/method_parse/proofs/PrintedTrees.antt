-- What was printed is read as the tree that was printed, on line 1.
use Rattle.std.proofs.Common.{◌≡◌, List, sym, ap, ◌∙◌, subst}
use Rattle.class_defs.specs.declared.classes.Class.{Class}
use Rattle.class_defs.specs.declared.statements.Stmt.{Stmt}
use Rattle.class_defs.specs.declared.places.Place.TheVariants.{Item}
use Rattle.class_defs.specs.Spelling.{block_words, class_words}
use Rattle.class_defs.specs.Printed.{with_spaces, printed_block, printed_class}
use Rattle.script_text.specs.declared.token.Token.{Token}
use Rattle.script_text.specs.Grammar.{AreTokensOf}
use Rattle.script_text.specs.Laws.{AreSpelled}
use Rattle.method_parse.specs.Matching.{AreWords}
use Rattle.method_parse.specs.Texts.{SpellsBlock, SpellsClass}
use Rattle.class_defs.specs.LinesAside.{block_on_line_1, class_on_line_1}
use Rattle.method_parse.proofs.PrintedTokens.{words_printed, printed_lined}
use Rattle.method_parse.proofs.StatementsAside.{block_aside, block_stays, class_aside, class_stays}

pub block_read : (tokens : List Token) (block : List Stmt) → AreSpelled tokens → SpellsBlock tokens block
    → (printed : List Token) × AreTokensOf (printed_block block) printed × SpellsBlock printed (block_on_line_1 block)
block_read tokens block spelled spells =
    let p = words_printed tokens (block_words block) spelled spells.0 in
    (p.tokens, p.are, (subst (AreWords p.tokens) (sym (block_aside block)) p.spell, block_stays Item block spells.1))

pub class_read : (tokens : List Token) (class : Class) → AreSpelled tokens → SpellsClass tokens class
    → (printed : List Token) × AreTokensOf (printed_class class) printed × SpellsClass printed (class_on_line_1 class)
class_read tokens class spelled spells =
    let p = words_printed tokens (class_words class) spelled spells.0 in
    (p.tokens, p.are, (subst (AreWords p.tokens) (sym (class_aside class)) p.spell, class_stays class spells.1))

pub block_again : (block : List Stmt) → printed_block (block_on_line_1 block) ≡ printed_block block
block_again block = ap with_spaces (block_aside block) ∙ printed_lined (block_words block)

pub class_again : (class : Class) → printed_class (class_on_line_1 class) ≡ printed_class class
class_again class = ap with_spaces (class_aside class) ∙ printed_lined (class_words class)
