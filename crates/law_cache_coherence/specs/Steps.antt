-- All links of a client, and one call that it makes.
use Rattle.law_cache_coherence.specs.Fitting.{Copies, SameCopies}
use Rattle.law_cache_coherence.specs.Seen.{IsSeenRight, LinkAt}
use Rattle.client_state.specs.declared.link.Link.{Link}
use Rattle.client_port.specs.Views.{View}
use Rattle.std.specs.List.{slice_get}
use Rattle.std.specs.Prelude.{Bool, List, Option, Some, ℕ, ◌<◌, ◌≡◌, ◌≢◌}
use Rattle.thor_value.specs.declared.names.Ts.{Ts}

-- what is seen of each repository is right
pub record AllSeenRight (port : View) (committed : Ts → Bool) : Type 0 where
  pub each : (r : ℕ) → r < port.opened.repos → IsSeenRight port r committed

-- With each of its links, and with these copies, a client fits what its port shows.
pub record LinksFit (port : View) (committed : Ts → Bool) (links : List Link) (copies : Copies) : Type 0 where
  pub each : (r : ℕ) → r < port.opened.repos → LinkAt port r committed (slice_get links r) copies

-- The links stay of the repositories that weren't called, and so do the copies of those that are there.
pub record OthersStay (port : View) (called : Option ℕ) (before after : List Link) (copies left : Copies) : Type 0 where
  pub links : (n : ℕ) → called ≢ Some n → slice_get after n ≡ slice_get before n
  pub copies_stay : (n : ℕ) → n < port.opened.repos → called ≢ Some n → SameCopies (port.opened.base n) left copies
