-- Which timestamp is drawn in a phase of the try and sent to nobody, and what becomes of it by a step (this project's).
use Rattle.client_cache.specs.Copies.{Contents}
use Rattle.client_items.specs.declared.news.News.{News}
use Rattle.client_port.specs.Views.{View}
use Rattle.client_port.specs.Works.{Does, DrawWork}
use Rattle.client_state.specs.Moving.{Aborted, AskedInVain, AskedOwn, CommitRefused, Committed, DecideRefused, Decided, Finished, Forgot, Moves, PrepareRefused, Prepared, ReceiveRefused, ReceiveStopped, Received, ReceivedNone, Transformed, Unsent}
use Rattle.client_state.specs.Pending.{Pending}
use Rattle.client_state.specs.Sending.{AreApart}
use Rattle.client_state.specs.Stepping.{PreparesFirst, PreparesInVain, PreparesNext, PreparesSo, Present, RefusesFirst, RefusesNext, TriesSo}
use Rattle.client_state.specs.declared.held.Held.{Held}
use Rattle.client_state.specs.declared.link.Link.{Link}
use Rattle.client_state.specs.declared.phase.Phase.TheVariants as phase
use Rattle.client_state.specs.declared.phase.Phase.{Phase}
use Rattle.client_state.specs.declared.requests.Sending.{Sending}
use Rattle.client_state.specs.declared.transform.Stage.TheVariants as stage
use Rattle.client_state.specs.declared.transform.Stage.{Stage}
use Rattle.std.specs.Prelude.{List, None, Ok, Option, Some, ℕ, ◌≡◌, ◌⊎◌}
use Rattle.thor_value.specs.declared.names.Ts.{Ts}

-- the timestamp that is drawn for a transform
abbrev pub drawn_by : Stage → Option Ts
drawn_by (stage.Collecting awaited) = None
drawn_by (stage.Drawn t becomes) = Some t

-- the timestamp that is drawn in a phase of the try, and under which nothing is sent yet
abbrev pub drawn_in : Phase → Option Ts
drawn_in phase.Between = None
drawn_in phase.Beginning = None
drawn_in (phase.Evaluating run awaited) = None
drawn_in (phase.Transforming run transform) = drawn_by transform.stage
drawn_in (phase.Evaluated transaction) = None
drawn_in (phase.Drawn t transaction) = Some t
drawn_in (phase.Preparing t transaction coordinator prepared) = None
drawn_in (phase.Asking sent answers) = None

-- Nothing is drawn any more, or what was drawn before.
abbrev pub StaysDrawn : Option Ts → Option Ts → Type 0
StaysDrawn before after = (after ≡ None) ⊎ (after ≡ before)

-- The step's call has drawn it.
pub record DrawsNow (old new : View) (drawn : Option Ts) : Type 0 where
  pub t : Ts
  pub now : drawn ≡ Some t
  pub repo : ℕ
  pub session : ℕ
  pub floor : ℕ
  pub call : Does {X = Ts} old new repo (Ok t) (DrawWork session floor (Ok t))

-- What is drawn behind a step was drawn before, or by the step's call.
abbrev pub MayDraw : View → View → Option Ts → Option Ts → Type 0
MayDraw old new before after = StaysDrawn before after ⊎ DrawsNow old new after

-- What is sent goes out under the timestamp that was drawn, and nothing is drawn any more: so it goes out under it once.
abbrev pub SendsOut : Sending → Option Ts → Option Ts → Type 0
SendsOut s before after = (before ≡ Some s.request.tx) × (after ≡ None)

-- The same of the first share of a transaction. No two of its shares are of one repository.
abbrev pub PreparesOut : (item : Present) (links : List Link) (c : Contents) (s : Sending) (a z : Pending) → PreparesSo item links c s a z → Option Ts → Option Ts → Type 0
PreparesOut item links c s a z (PreparesFirst left drawn holds is) before after = SendsOut s before after × AreApart drawn.drawn.shares.items
PreparesOut item links c s a z (PreparesNext at rs left more holds is) before after = StaysDrawn before after

abbrev pub RefusesOut : (item : Present) (links : List Link) (c : Contents) (s : Sending) (a : Pending) → PreparesInVain item links c s a → Option Ts → Option Ts → Type 0
RefusesOut item links c s a (RefusesFirst left drawn) before after = SendsOut s before after × AreApart drawn.drawn.shares.items
RefusesOut item links c s a (RefusesNext at rs left more) before after = StaysDrawn before after

-- What a step makes of the timestamp that is drawn.
abbrev pub DrawsSo : (item : Present) (old new : View) (before after : Held) (n : Moves old new before after) (a z : Pending) (came : News) → TriesSo item old new before after n a z came → Option Ts → Option Ts → Type 0
DrawsSo item old new before after (Unsent sends) a z came tries drawn left = MayDraw old new drawn left
DrawsSo item old new before after (Received at m does there takes same) a z came tries drawn left = StaysDrawn drawn left
DrawsSo item old new before after (ReceivedNone at does there waits same fewer) a z came tries drawn left = StaysDrawn drawn left
DrawsSo item old new before after (ReceiveRefused at k does there loses same) a z came tries drawn left = StaysDrawn drawn left
DrawsSo item old new before after (ReceiveStopped at k does there outage stops same fewer) a z came tries drawn left = StaysDrawn drawn left
DrawsSo item old new before after (Prepared s place does of less) a z came tries drawn left = PreparesOut item before.links.items before.cache.cache s a z tries.0 drawn left
DrawsSo item old new before after (PrepareRefused s k does of idle learns same) a z came tries drawn left = RefusesOut item before.links.items before.cache.cache s a tries.0 drawn left
DrawsSo item old new before after (Committed s place does of session wrote held idle keeps) a z came tries drawn left = SendsOut s drawn left
DrawsSo item old new before after (Transformed s place oref made does of session writes here held idle keeps) a z came tries drawn left = SendsOut s drawn left
DrawsSo item old new before after (CommitRefused s k does of idle learns same) a z came tries drawn left = SendsOut s drawn left
DrawsSo item old new before after (Decided at t v does idle ends) a z came tries drawn left = StaysDrawn drawn left
DrawsSo item old new before after (Aborted at t v does less) a z came tries drawn left = StaysDrawn drawn left
DrawsSo item old new before after (DecideRefused at t commit k does loses same) a z came tries drawn left = StaysDrawn drawn left
DrawsSo item old new before after (Finished r t commit result does less) a z came tries drawn left = StaysDrawn drawn left
DrawsSo item old new before after (Forgot r t result does less) a z came tries drawn left = StaysDrawn drawn left
DrawsSo item old new before after (AskedOwn r t v does ends) a z came tries drawn left = StaysDrawn drawn left
DrawsSo item old new before after (AskedInVain r t result does leaves same fewer) a z came tries drawn left = StaysDrawn drawn left
