-- What is left for a client to do, which falls at each step by which it moves on (this project's).
use Rattle.client_state.specs.Links.{at_repo}
use Rattle.client_state.specs.Owing.{calls_in, owed}
use Rattle.client_state.specs.Pending.{Pending, pending_in}
use Rattle.client_state.specs.declared.held.Held.{Held}
use Rattle.client_state.specs.declared.link.Link.TheVariants.{Apart, Unsettled}
use Rattle.client_state.specs.declared.transaction.Sent.{Sent}
use Rattle.front_end.specs.declared.client.Client.{Client}
use Rattle.front_end.specs.declared.front_end.FrontEnd.{FrontEnd}
use Rattle.client_items.specs.Courses.{Course}
use Rattle.client_items.specs.Falling.{Falls, IsLeft, Left, Standing, left_by, most_calls}
use Rattle.std.specs.Prelude.{None, Some, length, slice_get, ℕ, ◌*◌, ◌+◌, ◌<◌, ◌^◌, ◌≡◌, ◌⊎◌}

-- how many calls a client may still make that aren't counted, where an item has so many tries
abbrev pub uncounted : ℕ → Client → ℕ
uncounted tries c = owed c.duties + calls_in tries c.phase

-- how far it has come in its items
abbrev pub course_of : FrontEnd → Course
course_of f = f.progress

-- what it holds of its repositories
abbrev pub held_of : FrontEnd → Held
held_of f = f.client.held

-- what of its try's transaction is undecided, as far as it knows
abbrev pub pending_of : FrontEnd → Pending
pending_of f = pending_in f.client.phase

abbrev pub standing_of : FrontEnd → Standing
standing_of f = record { course = f.progress; attempts = f.attempts }

-- what is left for it to do
abbrev pub left_of : FrontEnd → Left
left_of f = left_by (standing_of f) (uncounted f.attempts.each f.client)

-- how many tries an item has
abbrev pub tries_of : FrontEnd → ℕ
tries_of f = f.attempts.each

-- What is left as one number, where an item has so many tries, and fewer calls than a bound aren't counted: it falls where
-- what is left falls.
abbrev pub as_number : ℕ → ℕ → Left → ℕ
as_number tries bound l = ((l.items * (tries + 1) + l.tries) * (most_calls + 1) + l.calls) * bound + l.uncounted

-- fewer calls aren't counted, where an item has so many tries
abbrev pub bound_of : ℕ → ℕ
bound_of tries = tries + 2 ^ 130

-- the client takes no more steps than that
abbrev pub steps_left : FrontEnd → ℕ
steps_left f = as_number (tries_of f) (bound_of (tries_of f)) (left_of f)

-- what is left stays as it is, or it falls
abbrev pub Keeps : Left → Left → Type 0
Keeps old new = (new ≡ old) ⊎ Falls old new

-- an item is left, or a verdict is to be handed on
abbrev pub GoesOn : FrontEnd → Type 0
GoesOn f = IsLeft (course_of f) ⊎ (0 < length f.client.duties.verdicts)

-- the same where what is to be aborted comes first
abbrev pub MovesOn : FrontEnd → Type 0
MovesOn f = f.client.duties.abort ≡ None → GoesOn f

-- What was sent of an Unknown item, and its index, were taken out of a link, which is apart then.
pub record TakesUnsettled (repo : ℕ) (sent : Sent) (index : ℕ) (before after : Held) : Type 0 where
  pub there : slice_get before.links.items repo ≡ Some (Unsettled sent index)
  pub links : after.links.items ≡ at_repo before.links.items repo (λ l. Apart)
  pub rest : after ≡ record before { links = after.links }
