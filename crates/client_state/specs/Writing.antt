-- What the shares of a transaction write, and that it is what the try has written (this project's).
use Rattle.client_cache.specs.Copies.{Contents, changed, kept}
use Rattle.client_cache.specs.Pages.{same_name}
use Rattle.client_state.specs.declared.calls.Came.TheVariants as came
use Rattle.client_state.specs.declared.calls.Came.{Came}
use Rattle.client_state.specs.declared.calls.Drew.TheVariants as drew
use Rattle.client_state.specs.declared.calls.Drew.{Drew}
use Rattle.client_state.specs.declared.phase.Phase.TheVariants.{Asking, Beginning, Between, Drawn, Evaluated, Evaluating, Preparing, Transforming}
use Rattle.client_state.specs.declared.phase.Phase.{Phase}
use Rattle.client_state.specs.declared.transaction.Share.{Share}
use Rattle.log_entries.specs.declared.request.Request.{Request}
use Rattle.spec_history.specs.Requests.{has_created, has_written}
use Rattle.paused_eval.specs.Copies.{last_of}
use Rattle.std.specs.List.{list_any}
use Rattle.std.specs.Prelude.{Bool, List, None, Option, Some, [], cond, false, is_some, nat_eq, slice_get, slice_set, true, ℕ, ◌++◌, ◌<◌, ◌∷◌, ◌≡◌, ◌||◌}
use Rattle.thor_value.specs.declared.names.Oref.{Oref}
use Rattle.thor_value.specs.declared.values.Obj.{Obj}

-- what the first share of its repository writes of an object
abbrev pub shares_write : List Share → Oref → Option Obj
shares_write [] x = None
shares_write (s ∷ ss) x = cond (nat_eq s.repo x.repo) (last_of s.writes x) (shares_write ss x)

-- whether a share is the repository's
abbrev pub is_of : ℕ → Option Share → Bool
is_of r None = false
is_of r (Some s) = nat_eq s.repo r

-- The share at the place is the first one of the repository.
abbrev pub FirstOf : ℕ → ℕ → List Share → Type 0
FirstOf r place shares = (is_of r (slice_get shares place) ≡ true) × ((n : ℕ) → n < place → is_of r (slice_get shares n) ≡ false)

-- No share is the repository's.
abbrev pub NoneOf : ℕ → List Share → Type 0
NoneOf r shares = (n : ℕ) → is_of r (slice_get shares n) ≡ false

-- a share writes one more object
abbrev pub with_write : Share → Oref → Obj → Share
with_write s x o = record s { writes = s.writes ++ (x, o) ∷ [] }

abbrev pub written_on : List Share → ℕ → Oref → Obj → Option Share → List Share
written_on shares place x o None = shares
written_on shares place x o (Some s) = slice_set shares place (with_write s x o)

-- the share at a place does
abbrev pub written_at : ℕ → Oref → Obj → List Share → List Share
written_at place x o shares = written_on shares place x o (slice_get shares place)

-- a share that reads and writes nothing
abbrev pub new_share : ℕ → Share
new_share r = record { repo = r; session = 0; upto = 0; ros = []; writes = [] }

-- a share reads one more object
abbrev pub with_read : Share → Oref → Share
with_read s x = record s { ros = s.ros ++ x ∷ [] }

abbrev pub read_more_on : List Share → ℕ → Oref → Option Share → List Share
read_more_on shares place x None = shares
read_more_on shares place x (Some s) = slice_set shares place (with_read s x)

-- the share at a place does
abbrev pub read_more_at : ℕ → Oref → List Share → List Share
read_more_at place x shares = read_more_on shares place x (slice_get shares place)

-- ---- what the try has written

-- What the try has written stays.
abbrev pub WritesStay : Contents → Contents → Type 0
WritesStay old new = (x : Oref) → changed new x ≡ changed old x

-- What the try has written is what the shares write.
abbrev pub WritesShares : List Share → Contents → Type 0
WritesShares shares c = (x : Oref) → changed c x ≡ shares_write shares x

-- The try has written what these writes make of the objects of a repository, and nothing elsewhere.
abbrev pub WritesThere : ℕ → List (Oref × Obj) → Contents → Type 0
WritesThere repo writes c = (x : Oref) → changed c x ≡ cond (nat_eq repo x.repo) (last_of writes x) None

-- whether the client has a copy of an object, or a request creates it
abbrev pub is_held_or_created : Request → Contents → Oref → Bool
is_held_or_created q c x = is_some (kept c x) || has_created q x

-- Of what a request writes, and hasn't created, the client has copies.
abbrev pub HoldsWritten : Request → Contents → Type 0
HoldsWritten q c = (x : Oref) → has_written q x ≡ true → has_created q x ≡ false → is_some (kept c x) ≡ true

-- the shares of a transaction that was evaluated and of which nothing is sent yet
abbrev pub unsent : Phase → Option (List Share)
unsent Between = None
unsent Beginning = None
unsent (Evaluating run awaited) = None
unsent (Transforming run transform) = None
unsent (Evaluated transaction) = Some transaction.shares.items
unsent (Drawn t transaction) = Some transaction.shares.items
unsent (Preparing t transaction coordinator prepared) = None
unsent (Asking sent answers) = None

-- Whether a transaction may have been sent to a repository to be committed or prepared, and the client knows no verdict: then others
-- may finish it there. One whose verdict is asked for was sent to all its participants, and has written nothing elsewhere.
abbrev pub has_sent_to : ℕ → Phase → Bool
has_sent_to repo Between = false
has_sent_to repo Beginning = false
has_sent_to repo (Evaluating run awaited) = false
has_sent_to repo (Transforming run transform) = false
has_sent_to repo (Evaluated transaction) = false
has_sent_to repo (Drawn t transaction) = false
has_sent_to repo (Preparing t transaction coordinator prepared) = nat_eq coordinator.repo repo || list_any (λ r. nat_eq r repo) prepared
has_sent_to repo (Asking sent answers) = true

-- The try has written none of these objects.
abbrev pub WritesNone : List Oref → Contents → Type 0
WritesNone names c = (x : Oref) → list_any (λ y. same_name y x) names ≡ true → changed c x ≡ None

-- Where a transaction was evaluated and nothing of it is sent yet, the try has written what it writes.
pub record PhaseWrites (phase : Phase) (c : Contents) : Type 0 where
  pub all : (shares : List Share) → unsent phase ≡ Some shares → WritesShares shares c

-- What the try has written stays, where the try goes on as it is behind a call that came to this.
abbrev pub CameStays : Came → Contents → Contents → Type 0
CameStays came.Well old new = WritesStay old new
CameStays came.Anew old new = Unit {0}
CameStays (came.Refused cause) old new = Unit {0}
CameStays (came.Learnt learnt) old new = WritesStay old new

-- The same behind a draw.
abbrev pub DrewStays : Drew → Contents → Contents → Type 0
DrewStays (drew.Ts t) old new = WritesStay old new
DrewStays (drew.Refused c) old new = CameStays c old new
