-- What follows of an answer from what it is by the definition.
use Rattle.std.proofs.Common.{◌≡◌, ℕ, List, length, Result, Ok, Err, sym, ◌∙◌, subst}
use Rattle.std.specs.Prelude.{IfOk, IfErr}
use Rattle.script_text.specs.declared.token.Token.{Token}
use Rattle.script_text.specs.declared.syntax.Syntax.{Syntax}
use Rattle.script_text.specs.declared.syntax.SyntaxError.{SyntaxError}
use Rattle.script_text.specs.declared.syntax.SyntaxError.TheVariants.{Fault, NoMemory}
use Rattle.script_text.specs.Tokens.{tokens_of}
use Rattle.script_text.specs.Reading.{IsFaultOf, Gives}
use Rattle.script_text.specs.Grammar.{AreTokensOf, StopsAt, IsStopOf}
use Rattle.script_text.specs.Laws.{SpansRise, AreSlices, AreSpelled}
use Rattle.script_text.proofs.Readings.{is_reading, is_stop}
use Rattle.script_text.proofs.OneReading.{one_reading, one_stop}
use Rattle.script_text.proofs.Spans.{spans_rise, are_slices, are_spelled}

pub read : (text : List ℕ) (r : Result (List Token) SyntaxError) → IfOk r (λ tokens. tokens_of text ≡ Ok tokens) → IfOk r (AreTokensOf text)
read text (Ok tokens) is = is_reading text tokens is
read text (Err error) is = tt

pub stopped : (text : List ℕ) (r : Result (List Token) SyntaxError) → IfErr r (IsFaultOf (tokens_of text)) → IfErr r (IsStopOf text)
stopped text (Ok tokens) is = tt
stopped text (Err (Fault fault)) is = is_stop text fault is
stopped text (Err NoMemory) is = tt

-- the answer is what the definition gives, so it is what else is known to be
gives : (text : List ℕ) (r : Result (List Token) SyntaxError) (known : Result (List Token) Syntax) → IfOk r (λ tokens. tokens_of text ≡ Ok tokens)
    → IfErr r (IsFaultOf (tokens_of text)) → tokens_of text ≡ known → Gives r known
gives text (Ok tokens) known ok err is = sym is ∙ ok
gives text (Err error) known ok err is = subst (λ read. IsFaultOf read error) is err

pub only_tokens : (text : List ℕ) (r : Result (List Token) SyntaxError) → IfOk r (λ tokens. tokens_of text ≡ Ok tokens) → IfErr r (IsFaultOf (tokens_of text))
    → (tokens : List Token) → AreTokensOf text tokens → Gives r (Ok tokens)
only_tokens text r ok err tokens are = gives text r (Ok tokens) ok err (one_reading text tokens are)

pub only_fault : (text : List ℕ) (r : Result (List Token) SyntaxError) → IfOk r (λ tokens. tokens_of text ≡ Ok tokens) → IfErr r (IsFaultOf (tokens_of text))
    → (fault : Syntax) → StopsAt text fault → Gives r (Err fault)
only_fault text r ok err fault stops = gives text r (Err fault) ok err (one_stop text fault stops)

pub spans : (text : List ℕ) (r : Result (List Token) SyntaxError) → IfOk r (λ tokens. tokens_of text ≡ Ok tokens) → IfOk r (λ tokens. SpansRise 0 tokens (length text))
spans text (Ok tokens) is = spans_rise text tokens is
spans text (Err error) is = tt

pub slices : (text : List ℕ) (r : Result (List Token) SyntaxError) → IfOk r (λ tokens. tokens_of text ≡ Ok tokens) → IfOk r (AreSlices text)
slices text (Ok tokens) is = are_slices text tokens is
slices text (Err error) is = tt

pub spelled : (text : List ℕ) (r : Result (List Token) SyntaxError) → IfOk r (λ tokens. tokens_of text ≡ Ok tokens) → IfOk r AreSpelled
spelled text (Ok tokens) is = are_spelled text tokens (is_reading text tokens is)
spelled text (Err error) is = tt
