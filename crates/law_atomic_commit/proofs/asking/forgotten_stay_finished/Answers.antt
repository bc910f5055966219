use Rattle.law_atomic_commit.proofs.Forgetting.{finished-entry, finished-mark}
use Rattle.law_atomic_commit.proofs.asking.forgotten_stay_finished.Goals as goal

pub returns : goal.returns
returns c = record { entry = λ R r e sd go old. finished-entry R r e sd go old; mark = λ R r m may old. finished-mark R r m may old }
