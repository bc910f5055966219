-- What is kept of the sessions says what verdicts look at, where it agrees with the trace.
use Rattle.repo_sessions.specs.Sessions.{Kept}
use Rattle.spec_history.specs.History.{Base}
use Rattle.law_repo_memory.specs.Judging.{SessionsAnswer}
use Rattle.law_repo_sessions.proofs.Answering.{unended_answer}
use Rattle.law_repo_sessions.specs.Agreeing.{SessionsAgree, client_of, invalid_place}
use Rattle.spec_trace.specs.Notices.{lives}
use Rattle.spec_trace.specs.Session.{Session, session, session_lives}
use Rattle.spec_trace.specs.Trace.{Item, entries}
use Rattle.std.proofs.Common.{Bool, List, ap, cond, refl, ◌≡◌, ◌∙◌}
use Rattle.std.specs.Prelude.{None, Option, Some, false, is_some, true}

has_client : (o : Option Session) → is_some (client_of o) ≡ lives o
has_client None = refl
has_client (Some v) = by (session_lives v)
  where
    by : (x : Bool) → is_some (cond x (Some v.client) None) ≡ x
    by true = refl
    by false = refl

pub session-answers : (b : Base) (T : List Item) (K : Kept) → SessionsAgree b T K → SessionsAnswer b T K
session-answers b T K a = record {
  live = λ s. ap is_some (a.each s).client ∙ has_client (session b T s);
  unended = λ s. unended_answer b T K s a;
  invalid = λ s v x is live. (a.each s).invalid x ∙ ap (λ o. invalid_place b (entries T) s o x) is;
}
