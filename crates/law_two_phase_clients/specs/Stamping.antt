-- Which timestamps were drawn, and what goes out under them (this project's).
use Rattle.client_cache.specs.Copies.{Contents}
use Rattle.client_items.specs.declared.news.News.{News}
use Rattle.client_port.specs.Views.{View}
use Rattle.client_state.specs.Moving.{Aborted, AskedInVain, AskedOwn, CommitRefused, Committed, DecideRefused, Decided, Finished, Forgot, Moves, PrepareRefused, Prepared, ReceiveRefused, ReceiveStopped, Received, ReceivedNone, Transformed, Unsent}
use Rattle.client_state.specs.Pending.{Pending}
use Rattle.client_state.specs.Stepping.{PreparesFirst, PreparesInVain, PreparesNext, PreparesSo, Present, RefusesFirst, RefusesNext, TriesSo}
use Rattle.client_state.specs.declared.held.Held.{Held}
use Rattle.client_state.specs.declared.link.Link.{Link}
use Rattle.client_state.specs.declared.requests.Sending.{Sending}
use Rattle.spec_history.specs.Sound.{sound}
use Rattle.spec_trace.specs.Exact.{exact}
use Rattle.spec_trace.specs.Trace.{Item, M, entries}
use Rattle.spec_trace.specs.declared.mark.Mark.TheVariants as the
use Rattle.std.specs.Prelude.{List, Option, Some, [], slice_get, ℕ, ◌++◌, ◌<◌, ◌≡◌, ◌≤◌}
use Rattle.thor_value.specs.declared.names.Ts.{Ts}

-- The timestamp was drawn: that stands in what the client has seen of its repository.
pub record WasDrawn (view : View) (t : Ts) : Type 0 where
  pub place : ℕ
  pub session : ℕ
  pub there : slice_get (view.seen t.repo) place ≡ Some (M (the.Drew session t))

-- What a client has seen of each repository is sound and exact, and it has seen nothing of others.
pub record AreSeen (view : View) : Type 0 where
  pub sound_each : (r : ℕ) → sound (view.opened.base r) (entries (view.seen r))
  pub exact_each : (r : ℕ) → exact (view.opened.base r) (view.seen r)
  pub numbered : (r : ℕ) → r < view.opened.repos → (view.opened.base r).repo ≡ r
  pub outside : (r : ℕ) → view.opened.repos ≤ r → view.seen r ≡ []

-- It has seen more.
abbrev pub SeesMore : View → View → Type 0
SeesMore old new = (r : ℕ) → (gap : List Item) × (new.seen r ≡ old.seen r ++ gap)

-- What is drawn in the phase was drawn.
abbrev pub DrawnStands : View → Option Ts → Type 0
DrawnStands view drawn = (t : Ts) → drawn ≡ Some t → WasDrawn view t

-- ---- what goes out

abbrev pub PreparesFirstOf : (item : Present) (links : List Link) (c : Contents) (s : Sending) (a z : Pending) → PreparesSo item links c s a z → Ts → Type 0
PreparesFirstOf item links c s a z (PreparesFirst left drawn holds is) t = s.request.tx ≡ t
PreparesFirstOf item links c s a z (PreparesNext at rs left more holds is) t = ⊥

abbrev pub RefusesFirstOf : (item : Present) (links : List Link) (c : Contents) (s : Sending) (a : Pending) → PreparesInVain item links c s a → Ts → Type 0
RefusesFirstOf item links c s a (RefusesFirst left drawn) t = s.request.tx ≡ t
RefusesFirstOf item links c s a (RefusesNext at rs left more) t = ⊥

-- By the step the first request of a transaction goes out under the timestamp.
abbrev pub GoesOut : (item : Present) (old new : View) (before after : Held) (n : Moves old new before after) (a z : Pending) (came : News) → TriesSo item old new before after n a z came → Ts → Type 0
GoesOut item old new before after (Unsent sends) a z came tries t = ⊥
GoesOut item old new before after (Received at m does there takes same) a z came tries t = ⊥
GoesOut item old new before after (ReceivedNone at does there waits same fewer) a z came tries t = ⊥
GoesOut item old new before after (ReceiveRefused at k does there loses same) a z came tries t = ⊥
GoesOut item old new before after (ReceiveStopped at k does there outage stops same fewer) a z came tries t = ⊥
GoesOut item old new before after (Prepared s place does of less) a z came tries t = PreparesFirstOf item before.links.items before.cache.cache s a z tries.0 t
GoesOut item old new before after (PrepareRefused s k does of idle learns same) a z came tries t = RefusesFirstOf item before.links.items before.cache.cache s a tries.0 t
GoesOut item old new before after (Committed s place does of session wrote held idle keeps) a z came tries t = s.request.tx ≡ t
GoesOut item old new before after (Transformed s place oref made does of session writes here held idle keeps) a z came tries t = s.request.tx ≡ t
GoesOut item old new before after (CommitRefused s k does of idle learns same) a z came tries t = s.request.tx ≡ t
GoesOut item old new before after (Decided at u v does idle ends) a z came tries t = ⊥
GoesOut item old new before after (Aborted at u v does less) a z came tries t = ⊥
GoesOut item old new before after (DecideRefused at u commit k does loses same) a z came tries t = ⊥
GoesOut item old new before after (Finished r u commit result does less) a z came tries t = ⊥
GoesOut item old new before after (Forgot r u result does less) a z came tries t = ⊥
GoesOut item old new before after (AskedOwn r u v does ends) a z came tries t = ⊥
GoesOut item old new before after (AskedInVain r u result does leaves same fewer) a z came tries t = ⊥
