-- How a client stands with repositories, and what changes that (this project's).
use Rattle.client_state.specs.declared.link.Link.{Link}
use Rattle.client_state.specs.declared.link.Link.TheVariants.{Apart, Joined, Unsettled}
use Rattle.client_state.specs.declared.link.Waits.{Waits}
use Rattle.client_state.specs.declared.link.Waits.TheVariants.{Epoch, Idle, Past, Reply}
use Rattle.session_outbox.specs.declared.answers.At.{At}
use Rattle.std.specs.Prelude.{Bool, List, None, Option, Some, false, nat_le, nat_lt, slice_get, slice_set, true, ℕ, ◌<◌, ◌≡◌, ◌≤◌}

-- how far the messages of a repository were taken; 0 without a session
abbrev pub upto_of : Link → ℕ
upto_of Apart = 0
upto_of (Joined s upto waits) = upto
upto_of (Unsettled sent index) = 0

-- the time of a transaction whose verdict is to be learnt there; 0 where there is none
abbrev pub unsettled_time : Link → ℕ
unsettled_time Apart = 0
unsettled_time (Joined s upto waits) = 0
unsettled_time (Unsettled sent index) = sent.ts.time

-- The time of each transaction whose verdict is to be learnt is at most this.
abbrev pub CountsUnsettled : List Link → ℕ → Type 0
CountsUnsettled links time = (r : ℕ) (l : Link) → slice_get links r ≡ Some l → unsettled_time l ≤ time

-- the messages below a place were taken
abbrev pub acknowledged : ℕ → Link → Link
acknowledged place Apart = Apart
acknowledged place (Joined s upto waits) = Joined s place waits
acknowledged place (Unsettled sent index) = Unsettled sent index

-- the client waits for this in its session
abbrev pub waiting : Waits → Link → Link
waiting w Apart = Apart
waiting w (Joined s upto waits) = Joined s upto w
waiting w (Unsettled sent index) = Unsettled sent index

-- what is waited for behind a reply
abbrev pub without_reply : Waits → Waits
without_reply Idle = Idle
without_reply Reply = Idle
without_reply (Past place) = Past place
without_reply (Epoch n) = Epoch n

-- the outstanding reply has come
abbrev pub answered : Link → Link
answered Apart = Apart
answered (Joined s upto waits) = Joined s upto (without_reply waits)
answered (Unsettled sent index) = Unsettled sent index

-- what is waited for where no message has to be taken any more
abbrev pub without_messages : Waits → Waits
without_messages Idle = Idle
without_messages Reply = Reply
without_messages (Past place) = Idle
without_messages (Epoch n) = Idle

-- the client waits for a reply alone
abbrev pub stopped : Link → Link
stopped Apart = Apart
stopped (Joined s upto waits) = Joined s upto (without_messages waits)
stopped (Unsettled sent index) = Unsettled sent index

-- whether a reply is outstanding
abbrev pub is_reply : Waits → Bool
is_reply Idle = false
is_reply Reply = true
is_reply (Past place) = false
is_reply (Epoch n) = false

-- the same of a link
abbrev pub awaits_reply : Link → Bool
awaits_reply Apart = false
awaits_reply (Joined s upto waits) = is_reply waits
awaits_reply (Unsettled sent index) = false

-- whether a client of this epoch has still to take messages before what it waits for
abbrev pub is_behind_of : ℕ → ℕ → Waits → Bool
is_behind_of epoch upto Idle = false
is_behind_of epoch upto Reply = false
is_behind_of epoch upto (Past place) = nat_le upto place
is_behind_of epoch upto (Epoch n) = nat_lt epoch n

-- the same of a link, whose session has that `upto`
abbrev pub is_behind : ℕ → Link → Bool
is_behind epoch Apart = false
is_behind epoch (Joined s upto waits) = is_behind_of epoch upto waits
is_behind epoch (Unsettled sent index) = false

-- The session at a repository, as a call names it, where there is one.
abbrev pub session_at : ℕ → Link → Option At
session_at repo Apart = None
session_at repo (Joined s upto waits) = Some (record { repo = repo; session = s })
session_at repo (Unsettled sent index) = None

-- the same of a repository that may have no link
abbrev pub session_in : ℕ → Option Link → Option At
session_in repo None = None
session_in repo (Some link) = session_at repo link

-- Of the repositories below n none has a reply outstanding.
abbrev pub NoneAwaits : ℕ → List Link → Type 0
NoneAwaits n links = (r : ℕ) (l : Link) → r < n → slice_get links r ≡ Some l → awaits_reply l ≡ false

-- A client of this epoch is behind none of the repositories below n.
abbrev pub NoneIsBehind : ℕ → ℕ → List Link → Type 0
NoneIsBehind n epoch links = (r : ℕ) (l : Link) → r < n → slice_get links r ≡ Some l → is_behind epoch l ≡ false

-- how a client stands with a repository, which is apart where there is no link
abbrev pub link_in : Option Link → Link
link_in None = Apart
link_in (Some link) = link

-- the link at a repository that has one becomes another
abbrev pub changed_at : List Link → ℕ → (Link → Link) → Option Link → List Link
changed_at links repo f None = links
changed_at links repo f (Some link) = slice_set links repo (f link)

abbrev pub at_repo : List Link → ℕ → (Link → Link) → List Link
at_repo links repo f = changed_at links repo f (slice_get links repo)
