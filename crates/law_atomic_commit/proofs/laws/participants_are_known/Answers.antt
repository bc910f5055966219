use Rattle.law_atomic_commit.proofs.Parts.{coordinators_are_least, upgrades_are_everywhere}
use Rattle.law_atomic_commit.proofs.laws.participants_are_known.Goals as goal

pub returns : goal.returns
returns c = record { least = coordinators_are_least; upgrades = upgrades_are_everywhere }
