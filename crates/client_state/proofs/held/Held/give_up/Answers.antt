use Rattle.client_state.proofs.Moving.{fewer_among}
use Rattle.client_state.proofs.held.Held.give_up.Goals as goal

pub returns-clause-less : goal.returns-clause-less
returns-clause-less c = (c.undo.ensures.less.0, c.undo.ensures.less.1, fewer_among _ _ _ c.undo.ensures.less.2 c.evict.ensures.kept)
