use Rattle.law_atomic_commit.proofs.Staying.{alike-first, atomic-first, sound-first}
use Rattle.law_atomic_commit.proofs.laws.several_begin.Goals as goal

pub returns : goal.returns
returns c = record { sound = sound-first; atomic = atomic-first; alike = alike-first }
