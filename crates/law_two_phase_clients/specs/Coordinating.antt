-- That what a client has sent is decided by the repository that it asks (this project's).
use Rattle.client_state.specs.Participants.{first_in}
use Rattle.client_state.specs.Pending.{IsAsking, IsPreparing, NonePending, Pending}
use Rattle.client_state.specs.declared.link.Link.TheVariants.{Unsettled}
use Rattle.client_state.specs.declared.link.Link.{Link}
use Rattle.client_state.specs.declared.transaction.Sent.{Sent}
use Rattle.std.specs.Prelude.{List, Some, slice_get, ℕ, ◌≡◌}

-- What was sent has its timestamp from the repository, which is the first of its participants: that one decides.
pub record IsDecidedAt (r : ℕ) (sent : Sent) : Type 0 where
  pub tx : sent.ts.repo ≡ r
  pub first : first_in sent.participants ≡ r

-- What is undecided is to be decided where its timestamp is from.
abbrev pub PendsAt : Pending → Type 0
PendsAt NonePending = Unit {0}
PendsAt (IsPreparing at t rs transaction) = t.repo ≡ at.repo
PendsAt (IsAsking sent n) = sent.ts.repo ≡ first_in sent.participants

-- What the link of a repository keeps of an Unknown item is decided there.
abbrev pub LinksAt : List Link → Type 0
LinksAt links = (r : ℕ) (sent : Sent) (index : ℕ) → slice_get links r ≡ Some (Unsettled sent index) → IsDecidedAt r sent

-- So a client asks, of what it has sent, only the repository that decides it.
pub record AsksCoordinators (a : Pending) (links : List Link) : Type 0 where
  pub pending : PendsAt a
  pub kept : LinksAt links
