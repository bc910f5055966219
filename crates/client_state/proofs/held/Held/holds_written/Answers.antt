use Rattle.client_state.proofs.Copied.{all_held, holds_each}
use Rattle.client_state.proofs.held.Held.holds_written.Goals as goal
use Rattle.std.proofs.Common.{sym, ◌∙◌}

pub returns : goal.returns
returns c = (λ t. holds_each c.args.request.now c.args.self.now.cache.cache (sym c.holds_each.ensures ∙ t), λ h. c.holds_each.ensures ∙ all_held c.args.request.now c.args.self.now.cache.cache h)
