-- What a call that reads a text, or its tokens, says of its answer. This project's.
use Rattle.std.specs.Prelude.{◌≡◌, Result, Ok, Err}
use Rattle.script_text.specs.declared.syntax.Syntax.{Syntax}
use Rattle.script_text.specs.declared.syntax.SyntaxError.{SyntaxError}
use Rattle.script_text.specs.declared.syntax.SyntaxError.TheVariants.{Fault, NoMemory}

-- the error is the fault that reading gives; want of memory says nothing
abbrev pub IsFaultOf : {X : Type 0} → Result X Syntax → SyntaxError → Type 0
IsFaultOf read (Fault fault) = read ≡ Err fault
IsFaultOf read NoMemory = Unit {0}

-- the answer is what reading gives, unless memory ran out
abbrev pub Gives : {X : Type 0} → Result X SyntaxError → Result X Syntax → Type 0
Gives (Ok x) read = read ≡ Ok x
Gives (Err error) read = IsFaultOf read error
