use Rattle.law_atomic_commit.proofs.Grown.{alike-grown, atomic-grown, sound-grown}
use Rattle.law_atomic_commit.proofs.laws.atomic_stays.Goals as goal

pub returns : goal.returns
returns c = record { sound = sound-grown; atomic = λ S r e sd at go. atomic-grown S r e sd go at; alike = λ S r e sd at al go. alike-grown S r e sd go at al }
