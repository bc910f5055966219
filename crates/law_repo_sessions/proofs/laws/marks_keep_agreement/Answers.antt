use Rattle.law_repo_sessions.proofs.Marked.{fetched_agrees, granted_agrees, none_taken, noted, taken_agrees}
use Rattle.law_repo_sessions.proofs.laws.marks_keep_agreement.Goals as goal
use Rattle.spec_trace.specs.declared.mark.Mark.TheVariants as the

pub returns : goal.returns
returns c = record {
  fetched = fetched_agrees;
  granted = granted_agrees;
  taken = taken_agrees;
  none_taken = none_taken;
  drawn = λ b T K s t a. noted b T K (the.Drew s t) tt a;
  forgotten = λ b T K t a. noted b T K (the.Forgot t) tt a;
  refused = λ b T K s q r a. noted b T K (the.Refused s q r) tt a;
}
