use Rattle.std.proofs.Common.{ap, take, ℕ, ◌∙◌}
use Rattle.page_format.proofs.Zeros.{zeros_taken}
use Rattle.page_format.proofs.splice.zeros.Goals as goal

pub returns : goal.returns
returns c = c.split_at.ensures.front ∙ ap (take {A = ℕ} c.args.count) c.requires.all ∙ zeros_taken c.args.count c.requires.count
