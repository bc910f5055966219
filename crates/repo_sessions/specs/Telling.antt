-- What sessions are told of commits.
use Rattle.cached_sets.specs.Noted.{is_silent, places_of}
use Rattle.cached_sets.specs.Sets as sets
use Rattle.cached_sets.specs.Sets.{Sets}
use Rattle.link_table.specs.Pairs.{is_linked}
use Rattle.repo_sessions.specs.Sessions.{IsTold, Kept, retire}
use Rattle.session_outbox.specs.Messages.{place_of}
use Rattle.session_outbox.specs.Outbox.{waiting}
use Rattle.session_outbox.specs.declared.message.Message.TheVariants.{Invalid, Upgrade}
use Rattle.session_outbox.specs.declared.message.Message.{Message}
use Rattle.std.specs.List.{filter, fold, list_any}
use Rattle.std.specs.Prelude.{List, [], cond, false, map, nat_eq, ℕ, ◌++◌, ◌∷◌, ◌≡◌}
use Rattle.thor_value.specs.FiniteMap.{IsSorted, has}
use Rattle.thor_value.specs.declared.names.Oref.{Oref}

-- the message that some objects were written at a place, where there are any
abbrev pub message_of : List Oref → ℕ → List Message
message_of [] k = []
message_of (x ∷ xs) k = Invalid (x ∷ xs) k ∷ []

-- of some names, those on pages that a session has
abbrev pub names_for : Sets → ℕ → List Oref → List Oref
names_for S s names = filter (λ x. is_linked S.cached s x.page) names

-- what a session is told of the writer's commit of some objects at a place
abbrev pub news_for : Sets → ℕ → List Oref → ℕ → ℕ → List Message
news_for S writer names k s = cond (nat_eq s writer) [] (message_of (names_for S s names) k)

-- The writer's commit of some objects at a place was told: each other session that has a page of them has
-- those in its invalid set, waits for their names, and has the place noted.
pub record WritesTold (before after : Kept) (writer : ℕ) (names : List Oref) (k : ℕ) : Type 0 where
  pub same : IsTold before after
  pub sets : after.sets ≡ record (sets.touch before.sets writer names k) { noted = after.sets.noted }
  pub notes : (s : ℕ) → places_of after.sets.noted s ≡ places_of before.sets.noted s ++ map place_of (news_for before.sets writer names k s)
  pub news : (s : ℕ) → waiting after.waiting s ≡ waiting before.waiting s ++ news_for before.sets writer names k s
  pub order : IsSorted before.waiting → IsSorted after.waiting
  pub notes_order : IsSorted before.sets.noted → IsSorted after.sets.noted

-- An upgrade's commit at a place was told: each live session waits for its number and its text, and has the place noted.
pub record UpgradeTold (before after : Kept) (number : ℕ) (text : List ℕ) (k : ℕ) : Type 0 where
  pub same : IsTold before after
  pub sets : after.sets ≡ record before.sets { noted = after.sets.noted }
  pub notes : (s : ℕ) → places_of after.sets.noted s ≡ places_of before.sets.noted s ++ cond (has before.clients s) (k ∷ []) []
  pub news : (s : ℕ) → waiting after.waiting s ≡ waiting before.waiting s ++ cond (has before.clients s) (Upgrade number text k ∷ []) []
  pub order : IsSorted before.waiting → IsSorted after.waiting
  pub notes_order : IsSorted before.sets.noted → IsSorted after.sets.noted

-- Behind the news the sessions were given up that have more places than they may, where none had before.
pub record Retires (before told after : Kept) : Type 0 where
  pub silent : List ℕ
  pub each : (s : ℕ) → is_silent before.sets.noted s ≡ false → list_any (nat_eq s) silent ≡ is_silent told.sets.noted s
  pub rest : after ≡ fold retire told silent
