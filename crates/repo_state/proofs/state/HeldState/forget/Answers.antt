use Rattle.std.proofs.Common.{subst, sym}
use Rattle.repo_state.proofs.Entries.{keeps_forgotten}
use Rattle.repo_state.specs.Keeps.{Keeps}
use Rattle.repo_state.proofs.state.HeldState.forget.Goals as goal

pub returns-clause-keeps : goal.returns-clause-keeps
returns-clause-keeps c = λ keeps. keeps_forgotten c.self.inside.held c.args.tx _ c.forget.new.self c.forget.ensures (subst Keeps (sym c.self.view_is) keeps)
