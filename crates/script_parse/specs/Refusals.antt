-- Why a script is refused, and the text of a refusal (this project's).
use Rattle.std.specs.Prelude.{ℕ, List, [], ◌∷◌, ◌++◌, codes}
use Rattle.std.specs.Fmt.{decimal}
use Rattle.class_defs.specs.Rules.{rule_word}
use Rattle.script_parse.specs.declared.refusal.Refusal.{Refusal}
use Rattle.script_parse.specs.declared.refusal.Refusal.TheVariants as refusal

-- the line that is told; of what has none, 1
abbrev pub line_of : Refusal → ℕ
line_of (refusal.Syntax line) = line
line_of refusal.Setup = 1
line_of (refusal.Rule fault) = fault.line

abbrev pub word_of : Refusal → List ℕ
word_of (refusal.Syntax line) = codes "Syntax"
word_of refusal.Setup = codes "Setup"
word_of (refusal.Rule fault) = rule_word fault.rule

-- one line: `script`, the line of the script and the word
abbrev pub refusal_text : Refusal → List ℕ
refusal_text r = codes "script " ++ (decimal (line_of r) ++ (32 ∷ (word_of r ++ 10 ∷ [])))
