use Rattle.client_state.proofs.held.Held.undo.Goals as goal
use Rattle.std.proofs.Common.{inl, refl}

pub returns-clause-less : goal.returns-clause-less
returns-clause-less c = (refl, refl, λ x. inl (c.undo.ensures.kept x))
