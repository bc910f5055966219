-- The live sessions of a repository, and what its events do to them.
use Rattle.cached_sets.specs.Sets as sets
use Rattle.cached_sets.specs.Sets.{Sets, no_sets}
use Rattle.session_outbox.specs.Outbox as outbox
use Rattle.session_outbox.specs.Outbox.{Waiting}
use Rattle.session_outbox.specs.declared.message.Message.{Message}
use Rattle.std.specs.Ordering.{nat_cmp}
use Rattle.std.specs.Prelude.{Bool, None, Option, Some, ℕ, ◌||◌, ◌≡◌}
use Rattle.thor_value.specs.FiniteMap.{Map, empty, get, has, insert, remove}

-- What a repository keeps of its sessions.
pub record Kept : Type 0 where
  -- the client of each live session
  pub clients : Map nat_cmp ℕ
  -- the session of each client that hasn't ended
  pub live : Map nat_cmp ℕ
  -- the client of each session that was given up, since its client left too much unacknowledged, and hasn't ended
  pub retired : Map nat_cmp ℕ
  -- the number of the session that began last
  pub last : ℕ
  pub sets : Sets
  pub waiting : Waiting

-- no session has begun
abbrev pub no_sessions : Kept
no_sessions = record { clients = empty; live = empty; retired = empty; last = 0; sets = no_sets; waiting = empty }

-- whether a session is live
abbrev pub is_live : Kept → ℕ → Bool
is_live K s = has K.clients s

-- whether a session hasn't ended: it is live, or was given up
abbrev pub has_session : Kept → ℕ → Bool
has_session K s = is_live K s || has K.retired s

-- without a session
abbrev pub without : Kept → Option ℕ → Kept
without K None = K
without K (Some s) = record K { clients = remove K.clients s; retired = remove K.retired s; sets = sets.drop_session K.sets s; waiting = remove K.waiting s }

abbrev pub retired_with : Map nat_cmp ℕ → ℕ → Option ℕ → Map nat_cmp ℕ
retired_with R s None = R
retired_with R s (Some client) = insert R s client

-- a session is given up: nothing is kept of it but that it hasn't ended
abbrev pub retire : Kept → ℕ → Kept
retire K s = record K { clients = remove K.clients s; retired = retired_with K.retired s (get K.clients s); sets = sets.drop_session K.sets s; waiting = remove K.waiting s }

-- a session of a client begins under a number, and its older one ends
abbrev pub begun : Kept → ℕ → ℕ → Kept
begun K client s =
    record (without (record K { clients = insert K.clients s client; live = insert K.live client s }) (get K.live client)) { last = s }

-- all sessions end
abbrev pub ended : Kept → Kept
ended K = record no_sessions { last = K.last }

-- a session's client knows what was written below a place
abbrev pub acknowledged : Kept → ℕ → ℕ → Kept
acknowledged K s upto = record K { sets = sets.acknowledge K.sets s upto }

-- a session is sent a page that its client may have from now on
abbrev pub sent : Kept → ℕ → ℕ → Message → Kept
sent K s page m = record K { sets = sets.cache K.sets s page; waiting = outbox.push K.waiting s m }

-- its oldest message is taken
abbrev pub taken : Kept → ℕ → Kept
taken K s = record K { waiting = outbox.take K.waiting s }

-- The same sessions haven't ended.
pub record KeepsNumbers (before after : Kept) : Type 0 where
  pub live : after.live ≡ before.live
  pub last : after.last ≡ before.last

-- A commit was told: the same sessions are live.
pub record IsTold (before after : Kept) : Type 0 where
  pub clients : after.clients ≡ before.clients
  pub live : after.live ≡ before.live
  pub retired : after.retired ≡ before.retired
  pub last : after.last ≡ before.last
