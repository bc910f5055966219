use Rattle.law_cache_coherence.proofs.falling.owed_calls.Goals as goal
use Rattle.client_state.specs.Owing.{calls_of_all, count_of}
use Rattle.std.proofs.Common.{refl}

pub returns : goal.returns
unfolding calls_of_all count_of
returns c = record { finish = λ v forgets. refl; both = λ v t forgets. refl }
