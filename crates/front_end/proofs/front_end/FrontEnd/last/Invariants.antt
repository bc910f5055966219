use Rattle.client_state.specs.Learning.{Rises}
use Rattle.front_end.proofs.front_end.FrontEnd.last.Given as goal
use Rattle.front_end.specs.Moving.{Keeps, held_of, left_of}
use Rattle.front_end.specs.Stepping.{AsksEach}

-- what is left stays as it was, or has fallen; what it was told isn't forgotten; so far it has asked one call behind the other
abbrev pub invariant-loop-repo : goal.invariant-loop-repo
invariant-loop-repo g l = Keeps (left_of l.fn.self) (left_of l.self) × Rises (held_of l.fn.self) (held_of l.self) × AsksEach g.Q.Port.shows l.fn.opened.repos (g.Q.Port.view l.fn.port) (g.Q.Port.view l.port) l.fn.self l.self
