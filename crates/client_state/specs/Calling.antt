-- What a client's call on a port makes of its links and its copies, by what the port answered (this project's).
use Rattle.client_cache.specs.Copies.{Contents, kept}
use Rattle.client_state.specs.Learning.{is_session, without_session}
use Rattle.client_state.specs.Links.{CountsUnsettled, at_repo, upto_of, waiting}
use Rattle.client_state.specs.declared.calls.Drew.TheVariants as drew
use Rattle.client_state.specs.declared.calls.Drew.{Drew}
use Rattle.client_state.specs.declared.link.Link.{Link}
use Rattle.client_state.specs.declared.link.Link.TheVariants.{Joined}
use Rattle.client_state.specs.declared.link.Waits.TheVariants.{Idle, Reply}
use Rattle.session_outbox.specs.declared.answers.At.{At}
use Rattle.session_outbox.specs.declared.answers.Welcome.{Welcome}
use Rattle.client_port.specs.Views.{View}
use Rattle.client_port.specs.Works.{ConnectWork, Does, DrawWork, FetchWork, GrantWork}
use Rattle.base_reasons.specs.declared.reason.Reason.TheVariants as reasons
use Rattle.std.specs.Prelude.{Bool, Err, IfOk, List, None, Ok, Option, Result, Some, cond, false, nat_eq, slice_get, true, ℕ, ◌&&◌, ◌≡◌, ◌≤◌}
use Rattle.thor_value.specs.declared.names.Oref.{Oref}
use Rattle.thor_value.specs.declared.names.Ts.{Ts}
use Rattle.thor_value.specs.declared.memory.NoMemory.{NoMemory}
use Rattle.repo_refusals.specs.declared.refusal.Refusal.TheVariants as refused
use Rattle.repo_refusals.specs.declared.refusal.Refusal.{Refusal}

-- ---- links and copies

-- how far the messages of the repository with this link were taken; 0 where it has none
abbrev pub upto_in : Option Link → ℕ
upto_in None = 0
upto_in (Some link) = upto_of link

-- whether the session of this number is the one of the link
abbrev pub is_session_of : ℕ → Option Link → Bool
is_session_of n None = false
is_session_of n (Some link) = is_session n link

-- the copies are these
abbrev pub CopiesStay : Contents → Contents → Type 0
CopiesStay old new = (x : Oref) → kept new x ≡ kept old x

-- a session of a repository is gone: where it is the one of its link, the repository's copies go, and no others
abbrev pub CopiesLost : ℕ → ℕ → List Link → Contents → Contents → Type 0
CopiesLost session repo links old new = (x : Oref) → kept new x ≡ cond (is_session_of session (slice_get links repo) && nat_eq x.repo repo) None (kept old x)

-- ---- refusals of calls that send nothing of a transaction

-- a session that is gone is no more
abbrev pub links_refused : Refusal → ℕ → List Link → List Link
links_refused (refused.Reason (reasons.Gone session)) repo links = at_repo links repo (without_session session)
links_refused r repo links = links

abbrev pub CopiesRefused : Refusal → ℕ → List Link → Contents → Contents → Type 0
CopiesRefused (refused.Reason (reasons.Gone session)) repo links old new = CopiesLost session repo links old new
CopiesRefused r repo links old new = CopiesStay old new

abbrev pub CopiesBehind : {X : Type 0} → Result X Refusal → ℕ → List Link → Contents → Contents → Type 0
CopiesBehind (Ok x) repo links old new = CopiesStay old new
CopiesBehind (Err r) repo links old new = CopiesRefused r repo links old new

-- ---- calls

-- a client that has connected is in the session that it was told, and has taken the messages below the place
abbrev pub links_joined : Result Welcome Refusal → ℕ → List Link → List Link
links_joined (Ok w) repo links = at_repo links repo (λ link. Joined w.session w.place Idle)
links_joined (Err r) repo links = links

-- one that has asked for a page, or for a page of names, waits for it
abbrev pub links_asked : Result (Unit {0}) Refusal → ℕ → List Link → List Link
links_asked (Ok done) repo links = at_repo links repo (waiting Reply)
links_asked (Err r) repo links = links_refused r repo links

-- drawing changes no link but where the session is gone
abbrev pub links_drawn : Result Ts Refusal → ℕ → List Link → List Link
links_drawn (Ok t) repo links = links
links_drawn (Err r) repo links = links_refused r repo links

-- The client has called `connect` on the repository: what the port answered, what that did, and what the links became.
pub record Connects (shows : Bool) (old new : View) (repo client : ℕ) (before after : List Link) : Type 0 where
  pub result : Result Welcome Refusal
  pub call : shows ≡ true → Does old new repo result (ConnectWork client result)
  pub links : after ≡ links_joined result repo before

-- the same of `fetch`, with what the copies became
pub record Fetches (shows : Bool) (old new : View) (at : At) (page upto : ℕ) (before after : List Link) (copies left : Contents) : Type 0 where
  pub result : Result (Unit {0}) Refusal
  pub call : shows ≡ true → Does old new at.repo result (FetchWork at.session page upto result)
  pub links : after ≡ links_asked result at.repo before
  pub kept_so : CopiesBehind result at.repo before copies left

-- of `grant`
pub record Grants (shows : Bool) (old new : View) (at : At) (before after : List Link) (copies left : Contents) : Type 0 where
  pub result : Result (Unit {0}) Refusal
  pub call : shows ≡ true → Does old new at.repo result (GrantWork at.session result)
  pub links : after ≡ links_asked result at.repo before
  pub kept_so : CopiesBehind result at.repo before copies left

-- a client that drew a timestamp was answered so
abbrev pub IsDrawnSo : Drew → Result Ts Refusal → Type 0
IsDrawnSo (drew.Ts t) (Ok u) = u ≡ t
IsDrawnSo (drew.Ts t) (Err r) = ⊥
IsDrawnSo (drew.Refused came) (Ok u) = ⊥
IsDrawnSo (drew.Refused came) (Err r) = Unit {0}

-- of `draw`, with what the client was told
pub record Draws (shows : Bool) (old new : View) (at : At) (answer : Result Drew NoMemory) (before after : List Link) (copies left : Contents) : Type 0 where
  pub floor : ℕ
  pub result : Result Ts Refusal
  pub call : shows ≡ true → Does old new at.repo result (DrawWork at.session floor result)
  pub told : IfOk answer (λ d. IsDrawnSo d result)
  pub links : after ≡ links_drawn result at.repo before
  pub kept_so : CopiesBehind result at.repo before copies left

-- What is drawn is above the least that a client with these links has to draw above, and above each transaction whose verdict
-- it has still to learn. The client was told what the port answered to that.
pub record DrawsAbove (shows : Bool) (old new : View) (at : At) (least : ℕ) (links : List Link) (answer : Result Drew NoMemory) : Type 0 where
  pub floor : ℕ
  pub above : least ≤ floor
  pub counts : CountsUnsettled links floor
  pub result : Result Ts Refusal
  pub call : shows ≡ true → Does old new at.repo result (DrawWork at.session floor result)
  pub told : IfOk answer (λ d. IsDrawnSo d result)
