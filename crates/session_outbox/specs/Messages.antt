-- The messages to a client, and their places.
use Rattle.session_outbox.specs.declared.message.Message.TheVariants.{Grant, Invalid, Page, Upgrade}
use Rattle.session_outbox.specs.declared.message.Message.{Message}
use Rattle.std.specs.Prelude.{List, None, Option, Some, [], ℕ, ◌∷◌, ◌≤◌}

abbrev pub place_of : Message → ℕ
place_of (Page page bytes k) = k
place_of (Grant page k) = k
place_of (Invalid names k) = k
place_of (Upgrade number text k) = k

-- the oldest of some messages
abbrev pub first : List Message → Option Message
first [] = None
first (m ∷ ms) = Some m

-- a place, where there is one, isn't above k
abbrev pub IsUpTo : Option ℕ → ℕ → Type 0
IsUpTo None k = Unit {0}
IsUpTo (Some last) k = last ≤ k

abbrev pub NeverFallFrom : Option ℕ → List ℕ → Type 0
NeverFallFrom last [] = Unit {0}
NeverFallFrom last (k ∷ ks) = IsUpTo last k × NeverFallFrom (Some k) ks

-- none of some places is below the one before it
abbrev pub NeverFall : List ℕ → Type 0
NeverFall ks = NeverFallFrom None ks
