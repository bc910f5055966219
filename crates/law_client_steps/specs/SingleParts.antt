-- A client over several repositories, each of whose transactions commits at one of them (this project's).
use Rattle.law_atomic_commit.specs.Several.{committed}
use Rattle.client_state.specs.Moving.{Aborted, AskedInVain, AskedOwn, CommitRefused, Committed, Decided, DecideRefused, Finished, Forgot, Moves, PrepareRefused, Prepared, ReceiveRefused, ReceiveStopped, Received, ReceivedNone, Transformed, Unsent}
use Rattle.client_state.specs.declared.held.Held.{Held}
use Rattle.law_client_steps.specs.OneRepository.{BringsWhatStood}
use Rattle.law_client_steps.specs.Owed.{ClientFits}
use Rattle.law_client_steps.specs.Positions.{LeadsBy, Position}
use Rattle.law_client_steps.specs.Quiet.{AreQuiet}
use Rattle.law_client_steps.specs.Undecided.{StopsAlone}
use Rattle.client_port.specs.Views.{View}
use Rattle.law_client_views.specs.Conditions.{AreRight, seen_histories}
use Rattle.spec_trace.specs.Trace.{entries}
use Rattle.std.specs.Prelude.{List, [], false, length, ℕ, ◌<◌, ◌^◌, ◌≡◌, ◌≤◌}

-- The port reaches as many repositories as a store may have, and no others. Their traces are right, each and together, and have
-- fewer entries than a place can tell.
pub record HasRepositories (port : View) : Type 0 where
  pub few : port.opened.repos ≤ 8
  pub numbered : (r : ℕ) → r < port.opened.repos → (port.opened.base r).repo ≡ r
  pub outside : (r : ℕ) → port.opened.repos ≤ r → entries (port.seen r) ≡ []
  pub right : AreRight port
  pub short : (r : ℕ) → r < port.opened.repos → length (entries (port.seen r)) < 2 ^ 64

-- The client fits what it has seen, where what has committed is what is seen so at coordinators, its sessions are quiet with nothing
-- running, and what it asks about was sent by a call that stopped.
pub record FitsAll (p : Position) : Type 0 where
  pub there : HasRepositories p.port
  pub fits : ClientFits p.port (committed (seen_histories p.port)) p.held
  pub quiet : AreQuiet p.port p.held.links.items (λ t. false)
  pub stops : StopsAlone p.pending p.port p.held

-- What is asked of a step: the client prepares nothing; the rest is as over one repository.
abbrev pub PartOwed : (old new : View) (before after : Held) → Moves old new before after → Type 0
PartOwed old new before after (Unsent sends) = Unit {0}
PartOwed old new before after (Received at m does there takes same) = BringsWhatStood new at.repo m
PartOwed old new before after (ReceivedNone at does there waits same fewer) = Unit {0}
PartOwed old new before after (ReceiveRefused at k does there loses same) = Unit {0}
PartOwed old new before after (ReceiveStopped at k does there outage stops same fewer) = Unit {0}
PartOwed old new before after (Prepared s place does of less) = ⊥
PartOwed old new before after (PrepareRefused s k does of idle learns same) = ⊥
PartOwed old new before after (Committed s place does of session wrote held idle keeps) = Unit {0}
PartOwed old new before after (Transformed s place oref made does of session writes here held idle keeps) = Unit {0}
PartOwed old new before after (CommitRefused s k does of idle learns same) = Unit {0}
PartOwed old new before after (Decided at t v does idle ends) = Unit {0}
PartOwed old new before after (Aborted at t v does less) = Unit {0}
PartOwed old new before after (DecideRefused at t commit k does loses same) = Unit {0}
PartOwed old new before after (Finished r t commit result does less) = Unit {0}
PartOwed old new before after (Forgot r t result does less) = Unit {0}
PartOwed old new before after (AskedOwn r t v does ends) = Unit {0}
PartOwed old new before after (AskedInVain r t result does leaves same fewer) = Unit {0}

-- One position leads to another by these between.
abbrev pub LeadsSingly : Position → List Position → Position → Type 0
LeadsSingly a between z = LeadsBy HasRepositories PartOwed a between z
