use Rattle.log_entries.specs.declared.entry.Entry.TheVariants.{Life}
use Rattle.law_repo_sessions.proofs.Begun.{beginning_agrees, begun_agrees, life_agrees}
use Rattle.law_repo_sessions.proofs.laws.beginnings_keep_agreement.Goals as goal
use Rattle.std.proofs.Common.{refl}

pub returns : goal.returns
returns c = record {
  beginning = beginning_agrees;
  life = λ b T K n a. life_agrees b T (Life n) K refl a;
  connected = λ b T K d s new a. begun_agrees b T K d s new a;
}
