use Rattle.client_state.proofs.Carrying.{drawn_there}
use Rattle.client_state.proofs.transaction.Transaction.is_drawn_at.Goals as goal
use Rattle.client_state.specs.Participants.{first_in}
use Rattle.client_state.specs.Writing.{is_of}
use Rattle.std.proofs.Common.{rules, sym, true, ◌∙◌, ◌≡◌}
use Rattle.std.specs.Prelude.{slice_get}

pub returns : goal.returns
returns c = λ each.
    let coordinator : first_in c.args.self.now.participants ≡ c.args.ts.repo = search rules in
    let first : is_of c.args.ts.repo (slice_get c.args.self.now.shares.items 0) ≡ true = search rules in
    drawn_there c.args.ts c.args.self.now coordinator first (sym c.goes_to_participants.ensures ∙ each)
