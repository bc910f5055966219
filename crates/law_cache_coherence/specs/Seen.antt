-- What is known of a repository's trace that a port shows, and that a client's link there fits it.
use Rattle.law_cache_coherence.specs.Fitting.{AgreesStanding, Copies}
use Rattle.law_cache_coherence.specs.Links.{LinkFits}
use Rattle.client_state.specs.declared.link.Link.{Link}
use Rattle.spec_history.specs.Sound.{sound}
use Rattle.client_port.specs.Acting.{Acts, Asked, Committed, Connected, Decided, Drew, Fetched, Finished, Forgot, Granted, Prepared, Received, Rests}
use Rattle.client_port.specs.Views.{View}
use Rattle.spec_trace.specs.Exact.{exact}
use Rattle.spec_trace.specs.Trace.{entries}
use Rattle.std.specs.Prelude.{Bool, None, Option, Some, ℕ, ◌≡◌}
use Rattle.thor_value.specs.declared.names.Ts.{Ts}

-- What is seen of the repository r is right, and agrees with what has committed at coordinators.
pub record IsSeenRight (port : View) (r : ℕ) (committed : Ts → Bool) : Type 0 where
  pub numbered : (port.opened.base r).repo ≡ r
  pub owed : sound (port.opened.base r) (entries (port.seen r))
  pub kept : exact (port.opened.base r) (port.seen r)
  pub agrees : (s : ℕ) → AgreesStanding (port.opened.base r) (port.unsettled r) (port.seen r) s committed

-- The port's client, with this link and these copies, fits what is seen of the repository r.
abbrev pub LinkIn : View → ℕ → (Ts → Bool) → Link → Copies → Type 0
LinkIn port r committed link copies = LinkFits port.opened.client (port.opened.base r) (port.unsettled r) (port.seen r) committed link copies

-- the same of a link, where there is one
abbrev pub LinkAt : View → ℕ → (Ts → Bool) → Option Link → Copies → Type 0
LinkAt port r committed None copies = Unit {0}
LinkAt port r committed (Some link) copies = LinkIn port r committed link copies

-- the repository that was called
abbrev pub called_at : (old new : View) → Acts old new → Option ℕ
called_at old new (Rests same) = None
called_at old new (Connected r c result does) = Some r
called_at old new (Fetched r s page upto result does) = Some r
called_at old new (Granted r s result does) = Some r
called_at old new (Received r s result does) = Some r
called_at old new (Drew r s floor result does) = Some r
called_at old new (Prepared r s q result does) = Some r
called_at old new (Committed r s q result does) = Some r
called_at old new (Decided r s t commit result does) = Some r
called_at old new (Finished r t commit result does) = Some r
called_at old new (Forgot r t result does) = Some r
called_at old new (Asked r t result does) = Some r
