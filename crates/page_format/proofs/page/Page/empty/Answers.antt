use Rattle.std.proofs.Common.{[], ◌∙◌, List, ℕ, ap}
use Rattle.std.proofs.Common.{arith}
use Rattle.page_format.specs.Walking.{pairs_of}
use Rattle.page_format.proofs.Entries.{stored}
use Rattle.page_format.proofs.Walks.{pairs_zero}
use Rattle.page_format.proofs.Pages.{made}
use Rattle.page_format.proofs.page.Page.empty.Goals as goal

pub invariant_of-result : goal.invariant_of-result
invariant_of-result c = rw c.new.ensures.items (stored [] (record { rising = tt; each = tt; count = omega arith; room = omega arith }))

pub returns-clause-made : goal.returns-clause-made
returns-clause-made c = ap (λ (pairs : List (ℕ × List ℕ)). made c.args.page pairs) (ap (pairs_of 0) c.new.ensures.items ∙ pairs_zero [])
