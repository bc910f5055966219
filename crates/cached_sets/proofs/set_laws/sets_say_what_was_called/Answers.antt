use Rattle.cached_sets.proofs.Meaning.{cached, is_open, touched}
use Rattle.cached_sets.proofs.Ordering.{acknowledged, dropped}
use Rattle.cached_sets.proofs.set_laws.sets_say_what_was_called.Goals as goal
use Rattle.std.proofs.Common.{refl}

pub returns : goal.returns
returns c = record {
  begins = λ s x. refl;
  empty = λ s p. refl;
  touched = touched;
  cached = cached;
  opened = λ S n p. is_open S.invalid n;
  acknowledged = acknowledged;
  dropped = dropped;
}
