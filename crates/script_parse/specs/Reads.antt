-- What the readers answer.
use Rattle.std.specs.Prelude.{◌⊎◌, List, [], ◌∷◌, Result, Ok, Err}
use Rattle.script_text.specs.declared.syntax.SyntaxError.{SyntaxError}
use Rattle.script_text.specs.declared.syntax.SyntaxError.TheVariants.{Fault, NoMemory}
use Rattle.script_parse.specs.declared.error.ReadError.{ReadError}
use Rattle.script_parse.specs.declared.error.ReadError.TheVariants as errors
use Rattle.script_parse.specs.declared.refusal.Refusal.{Refusal}
use Rattle.script_parse.specs.declared.refusal.Refusal.TheVariants.{Syntax}

-- the refusal of a text with a fault
abbrev pub refused_by : SyntaxError → ReadError
refused_by (Fault fault) = errors.Refused (Syntax fault.line)
refused_by NoMemory = errors.NoMemory

-- What is read is of the text, and the text is refused for what it is, unless memory runs out.
abbrev pub Reads : {T : Type 0} → (T → Type 0) → (Refusal → Type 0) → Result T ReadError → Type 0
Reads Is IsRefused (Ok tree) = Is tree
Reads Is IsRefused (Err (errors.Refused r)) = IsRefused r
Reads Is IsRefused (Err errors.NoMemory) = Unit {0}

-- each of some texts is the tree at its place
abbrev pub Each : {A T : Type 0} → (A → T → Type 0) → List A → List T → Type 0
Each Is [] [] = Unit {0}
Each Is (a ∷ rest) (t ∷ trees) = Is a t × Each Is rest trees
Each Is [] (t ∷ trees) = ⊥
Each Is (a ∷ rest) [] = ⊥

-- the first of some texts that is refused, behind ones that are trees
abbrev pub FirstRefused : {A T : Type 0} → (A → T → Type 0) → (A → Refusal → Type 0) → List A → Refusal → Type 0
FirstRefused Is IsRefused [] r = ⊥
FirstRefused {T = T} Is IsRefused (a ∷ rest) r = IsRefused a r ⊎ ((tree : T) × (Is a tree × FirstRefused Is IsRefused rest r))
