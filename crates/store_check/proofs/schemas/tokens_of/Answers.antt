use Rattle.script_text.specs.Grammar.{AreTokensOf}
use Rattle.script_text.specs.declared.syntax.SyntaxError.TheVariants.{Fault}
use Rattle.std.proofs.Common.{Err, List, None, Some, subst, ℕ, ◌≡◌}
use Rattle.store_check.proofs.Spelling.{none_read, only_read}
use Rattle.store_check.specs.Spelled.{FindsOnly}
use Rattle.store_check.proofs.schemas.tokens_of.Goals as goal

pub returns-in-Ok : goal.returns-in-Ok
returns-in-Ok c =
    subst (λ (b : List ℕ). FindsOnly (AreTokensOf b) (Some c.in-Ok.tokens)) c.as_slice.ensures
    (only_read (AreTokensOf c.as_slice.result.now) c.in-Ok.tokens c.in-Ok.ensures.read c.in-Ok.ensures.only_tokens)

pub returns-in-Err-Fault : goal.returns-in-Err-Fault
returns-in-Err-Fault c =
    let first = c.in-Err-Fault.is in
    let second = c.in-Err-Fault.field-0-is in
    let is : c.scan.result ≡ Err (Fault c.in-Err-Fault.field-0-0) = cc in
    subst (λ (b : List ℕ). FindsOnly (AreTokensOf b) None) c.as_slice.ensures
    (none_read (AreTokensOf c.as_slice.result.now) c.scan.result c.in-Err-Fault.field-0-0 is c.scan.ensures.only_tokens)
