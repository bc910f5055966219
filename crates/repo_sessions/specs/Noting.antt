-- How the names of written objects are gathered for the sessions that are told of them. No public clause cites
-- this module.
use Rattle.cached_sets.specs.Noted.{Noted, is_silent, with_place}
use Rattle.cached_sets.specs.Sets.{Sets}
use Rattle.link_table.specs.Pairs.{is_linked}
use Rattle.session_outbox.specs.Outbox.{Waiting, push}
use Rattle.session_outbox.specs.declared.message.Message.TheVariants.{Invalid, Upgrade}
use Rattle.std.specs.BTreeMap.{is_at}
use Rattle.std.specs.List.{filter, fold}
use Rattle.std.specs.Map.{set_value}
use Rattle.std.specs.Option.{unwrap_or}
use Rattle.std.specs.Ordering.{nat_cmp}
use Rattle.std.specs.Prelude.{List, None, Option, Some, [], cond, nat_eq, ℕ, ◌++◌, ◌∷◌, ◌≡◌}
use Rattle.thor_value.specs.FiniteMap.{IsSorted, Map, get, insert}
use Rattle.thor_value.specs.declared.names.Oref.{Oref}

-- some names for each of some sessions
abbrev pub Named : Type 0
Named = Map nat_cmp (List Oref)

-- the map that has these pairs
abbrev pub named : List (ℕ × List Oref) → Named
named es = record { pairs = es }

-- those of the session s
abbrev pub names_of : Named → ℕ → List Oref
names_of N s = unwrap_or (get N s) []

abbrev pub noted_behind : Named → ℕ → Oref → Option (List Oref) → Named
noted_behind N s x None = insert N s (x ∷ [])
noted_behind N s x (Some xs) = record { pairs = set_value (is_at (nat_cmp s)) N.pairs (xs ++ x ∷ []) }

-- with a name behind those of the session s
abbrev pub noted : Named → ℕ → Oref → Named
noted N s x = noted_behind N s x (get N s)

-- with a name behind those of a session for each of some sessions and names, in turn
abbrev pub noted_all : Named → List (ℕ × Oref) → Named
noted_all N ts = fold (λ M t. noted M t.0 t.1) N ts

-- with a name behind those of each of some sessions
abbrev pub noted_for : Named → List ℕ → Oref → Named
noted_for N [] x = N
noted_for N (s ∷ ss) x = noted_for (noted N s x) ss x

-- some names, where there are any
abbrev pub if_any : List Oref → Option (List Oref)
if_any [] = None
if_any (x ∷ xs) = Some (x ∷ xs)

-- each session but the writer that has the page of x has x behind its names
pub record IsNoted (cached : List (ℕ × ℕ)) (writer : ℕ) (x : Oref) (before after : Named) : Type 0 where
  pub names : (s : ℕ) → names_of after s ≡ names_of before s ++ cond (nat_eq s writer) [] (cond (is_linked cached s x.page) (x ∷ []) [])
  pub full : ((s : ℕ) → get before s ≡ if_any (names_of before s)) → (s : ℕ) → get after s ≡ if_any (names_of after s)
  pub order : IsSorted before → IsSorted after

-- each session but the writer that has pages of some names has those
pub record IsGathered (cached : List (ℕ × ℕ)) (writer : ℕ) (names : List Oref) (N : Named) : Type 0 where
  pub names_are : (s : ℕ) → names_of N s ≡ cond (nat_eq s writer) [] (filter (λ x. is_linked cached s x.page) names)
  pub full : (s : ℕ) → get N s ≡ if_any (names_of N s)
  pub order : IsSorted N

-- with each session's names sent to it
abbrev pub names_sent : Waiting → List (ℕ × List Oref) → ℕ → Waiting
names_sent W es k = fold (λ V e. push V e.0 (Invalid e.1 k)) W es

-- with an upgrade sent to each of some sessions
abbrev pub upgrade_sent : Waiting → List (ℕ × ℕ) → ℕ → List ℕ → ℕ → Waiting
upgrade_sent W es number text k = fold (λ V e. push V e.0 (Upgrade number text k)) W es

-- with a place noted of each of some sessions
abbrev pub noted_at : Noted → List ℕ → ℕ → Noted
noted_at N ss k = fold (λ M s. with_place M s k) N ss

-- the session s, where it has more places than it may
abbrev pub if_silent : Noted → ℕ → List ℕ
if_silent N s = cond (is_silent N s) (s ∷ []) []

-- those of them that have more places than they may then
abbrev pub silent_at : Noted → List ℕ → ℕ → List ℕ
silent_at N [] k = []
silent_at N (s ∷ ss) k = if_silent (with_place N s k) s ++ silent_at (with_place N s k) ss k

-- A place was noted of some sessions, and these are those of them that are silent then.
pub record AreNoted (before after : Sets) (ss : List ℕ) (k : ℕ) (silent : List ℕ) : Type 0 where
  pub sets : after ≡ record before { noted = noted_at before.noted ss k }
  pub silent_are : silent ≡ silent_at before.noted ss k
