-- That a repository in order refuses a call for what its trace shows.
use Rattle.spec_history.specs.History.{Base, writers}
use Rattle.client_port.specs.Views.{View}
use Rattle.base_reasons.specs.declared.reason.Reason.TheVariants as reasons
use Rattle.base_reasons.specs.declared.reason.Reason.{Reason}
use Rattle.log_entries.specs.declared.request.Request.{Request}
use Rattle.spec_trace.specs.Exact.{IsGoneIn, RefusalIsExact}
use Rattle.spec_trace.specs.Session.{session}
use Rattle.spec_trace.specs.Trace.{Item, M, entries}
use Rattle.spec_trace.specs.declared.mark.Mark.TheVariants as the
use Rattle.std.specs.Prelude.{Contains, List, Option, [], false, nat_eq, ℕ, ◌++◌, ◌∷◌, ◌≡◌}
use Rattle.thor_value.specs.declared.names.Oref.{Oref}
use Rattle.repo_refusals.specs.declared.refusal.Refusal.TheVariants as refused

-- The reason holds of the trace T, and `after` stands behind the call: the call's session is gone, and no mark tells it; or the reason is
-- what a request's verdict, or the rule of a draw or of a grant, gives there, and the last mark tells it.
pub data IsReasonAt (b : Base) (T after : List Item) (r : Reason) : Type 0 where
  Lost : (s : ℕ) → r ≡ reasons.Gone s → IsGoneIn (session b T s) → after ≡ T → IsReasonAt b T after r
  Judged : (s : ℕ) (q : Option Request) → RefusalIsExact b T s q (refused.Reason r) → after ≡ T ++ M (the.Refused s q (refused.Reason r)) ∷ [] → IsReasonAt b T after r

-- The reason holds of the trace at the call, which is what is seen behind it but for the mark.
pub record IsReasonSeen (old new : View) (r : ℕ) (reason : Reason) : Type 0 where
  pub at : List Item
  pub holds : IsReasonAt (old.opened.base r) at (new.seen r) reason

-- at the place k a commit of another session than s wrote x
pub record OthersWrote (b : Base) (T : List Item) (s : ℕ) (x : Oref) (k : ℕ) : Type 0 where
  pub commit : ℕ × Request
  pub there : Contains (writers b (entries T) x) commit
  pub place : commit.0 ≡ k
  pub other : nat_eq commit.1.session s ≡ false

-- The client has taken the message of a place from the repository r, by a session of which others have written x there.
pub record IsWriteSeen (old new : View) (r : ℕ) (x : Oref) (k : ℕ) : Type 0 where
  pub session_is : ℕ
  pub at : List Item
  pub taken : new.seen r ≡ at ++ M (the.Took session_is k) ∷ []
  pub wrote : OthersWrote (old.opened.base r) at session_is x k
