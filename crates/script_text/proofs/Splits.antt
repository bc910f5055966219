-- What follows of an answer from what it is by the definition.
use Rattle.std.proofs.Common.{◌≡◌, ◌≤◌, List, length, ap, Result, Ok, Err, Option, Some, None, sym, ◌∙◌, subst}
use Rattle.std.specs.Prelude.{IfOk, IfSome, fold}
use Rattle.script_text.specs.declared.token.Token.{Token}
use Rattle.script_text.specs.declared.sections.Sections.{Sections}
use Rattle.script_text.specs.declared.sections.Split.{Split}
use Rattle.script_text.specs.declared.reader.Reader.TheVariants.{Start}
use Rattle.script_text.specs.Sections.{step, split_of, read, last_line}
use Rattle.script_text.specs.declared.syntax.Syntax.{Syntax}
use Rattle.script_text.specs.Marks.{max_number}
use Rattle.script_text.specs.Script.{ArePartsOf, IsFirstFault}
use Rattle.script_text.proofs.Stops.{first_fault, only_first_fault}
use Rattle.script_text.proofs.Scripts.{parts_read}
use Rattle.script_text.proofs.Held.{read_holds, parts_held}

pub only_parts : {E : Type 0} (tokens : List Token) (r : Result Split E) → IfOk r (λ split. split ≡ split_of tokens)
    → (parts : Sections) → ArePartsOf tokens parts → IfOk r (λ split. split ≡ record { sections = parts; fault = None })
only_parts tokens (Ok split) is parts are = is ∙ parts_read tokens parts are
only_parts tokens (Err error) is parts are = tt

-- without a fault they are the parts of a script
pub parts_are : {E : Type 0} (tokens : List Token) (r : Result Split E) → IfOk r (λ split. split ≡ split_of tokens)
    → IfOk r (λ split. split.fault ≡ None → ArePartsOf tokens split.sections)
unfolding split_of read
parts_are tokens (Ok split) is =
    subst (λ s. s.fault ≡ None → ArePartsOf tokens s.sections) (sym is) (λ none. parts_held (fold step Start tokens) tokens (last_line tokens) (read_holds tokens) none)
parts_are tokens (Err error) is = tt

by_fault : (o : Option Syntax) (tokens : List Token) → length tokens ≤ max_number → (split_of tokens).fault ≡ o → IfSome o (IsFirstFault tokens)
by_fault None tokens short is = tt
by_fault (Some f) tokens short is = first_fault tokens f short is

pub first_fault_is : {E : Type 0} (tokens : List Token) (r : Result Split E) → length tokens ≤ max_number → IfOk r (λ split. split ≡ split_of tokens)
    → IfOk r (λ split. IfSome split.fault (IsFirstFault tokens))
first_fault_is tokens (Ok split) short is = by_fault split.fault tokens short (sym (ap (λ s. s.fault) is))
first_fault_is tokens (Err error) short is = tt

pub only_fault : {E : Type 0} (tokens : List Token) (r : Result Split E) → length tokens ≤ max_number → IfOk r (λ split. split ≡ split_of tokens)
    → (fault : Syntax) → IsFirstFault tokens fault → IfOk r (λ split. split.fault ≡ Some fault)
only_fault tokens (Ok split) short is fault first = ap (λ s. s.fault) is ∙ only_first_fault tokens fault short first
only_fault tokens (Err error) short is fault first = tt
