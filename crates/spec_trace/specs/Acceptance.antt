-- What is known of a request that the verdict accepted.
use Rattle.log_entries.specs.declared.request.Request.{Request}
use Rattle.spec_history.specs.History.{Base, Open, Known, known_by}
use Rattle.spec_history.specs.Requests.{has_read, reads_of}
use Rattle.spec_trace.specs.Session.{Session, invalid, session, session_lives}
use Rattle.spec_trace.specs.Trace.{Item, entries}
use Rattle.repo_refusals.specs.Refusals.{bytes_of}
use Rattle.repo_refusals.specs.Window.{first_decided, window}
use Rattle.std.specs.Option.{IfSome, IsSome}
use Rattle.std.specs.Prelude.{List, Some, false, true, ℕ, ◌<◌, ◌≡◌, ◌≤◌, ◌⊎◌}
use Rattle.thor_value.specs.FiniteMap.{len}
use Rattle.thor_value.specs.declared.names.Oref.{Oref}
use Rattle.thor_value.specs.declared.names.Ts.{Ts}
use Rattle.validation_queue.specs.Contents.{room_for}

-- The request q of the session s, which stands as v, was accepted.
pub record WasAccepted (b : Base) (T : List Item) (s : ℕ) (q : Request) (v : Session) : Type 0 where
  pub there : session b T s ≡ Some v
  pub live : session_lives v ≡ true
  -- its client had taken the messages of all that is in the invalid set of what it read
  pub known : (x : Oref) → has_read q x ≡ true → IfSome (invalid b (entries T) s v x) (λ k. k < q.upto)
  -- no undecided transaction wrote what it read
  pub settled : (t : Ts) (o : Known) → known_by b (entries T) t ≡ Some o → o.fate ≡ Open → reads_of q o.request ≡ false
  -- the window has room for it, or a member that may leave
  pub room : (len (window b (entries T)).members < room_for) ⊎ IsSome (first_decided (window b (entries T)).members.pairs)
  -- the buffer can hold what it wrote
  pub fits : bytes_of q ≤ b.limit
