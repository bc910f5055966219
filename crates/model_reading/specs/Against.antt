-- What stands against a request, by what was read of a trace.
use Rattle.log_entries.specs.declared.request.Request.{Request}
use Rattle.spec_history.specs.History.{Base, State}
use Rattle.spec_history.specs.Requests.{has_written}
use Rattle.base_reasons.specs.declared.reason.Reason.TheVariants as reasons
use Rattle.spec_trace.specs.Session.{Notice, Session, invalid_in, last_other, session_lives}
use Rattle.spec_trace.specs.Verdict.{stale_from}
use Rattle.std.specs.List.{filter, fold, slice_get}
use Rattle.std.specs.Option.{option_and_then}
use Rattle.std.specs.Prelude.{List, None, Option, Some, cond, nat_eq, ℕ, ◌-◌, ◌||◌}
use Rattle.thor_value.specs.FiniteMap.{get, keys}
use Rattle.thor_value.specs.declared.names.Oref.{Oref}
use Rattle.model_reading.specs.Reading.{Reading}
use Rattle.validation_queue.specs.Clashes.{first_some}
use Rattle.repo_refusals.specs.Refusals.{first_refusal, full, passing, reads_from, set_of, writes_over}
use Rattle.repo_refusals.specs.declared.refusal.Refusal.TheVariants as refused
use Rattle.repo_refusals.specs.declared.refusal.Refusal.{Refusal}

abbrev pub first_read : Request → Request → List Oref → Option Oref
first_read q s names = first_some (passing (reads_from q s)) names

abbrev pub first_meeting : Request → Request → List Oref → Option Oref
first_meeting q s names = first_some (passing (λ x. reads_from q s x || writes_over q s x)) names

-- the place of the last of some commits that isn't by the session s, and `last` where there is none
abbrev pub other_behind : ℕ → Option ℕ → List (ℕ × Request) → Option ℕ
other_behind s last cs = fold (λ last c. cond (nat_eq c.1.session s) last (Some c.0)) last cs

-- where x stands in the invalid set of the session s, by these commits
abbrev pub invalid_by : List (ℕ × Request) → ℕ → Session → Oref → Option ℕ
invalid_by cs s v x = invalid_in v (get v.pages x.page) (last_other s (filter (λ c. has_written c.1 x) cs))

-- the name x of a request that knows the places below upto, where it is stale
abbrev pub stale_at : List (ℕ × Request) → ℕ → Session → ℕ → Oref → Option Refusal
stale_at cs s v upto x = option_and_then (stale_from upto x) (invalid_by cs s v x)

abbrev pub stale_by : List (ℕ × Request) → ℕ → Session → Request → Option Refusal
stale_by cs s v q = first_some (stale_at cs s v q.upto) (keys (set_of q.ros))

-- the first refusal of q that holds, where its session is v
abbrev pub live_refusal : Base → Reading → ℕ → Session → Request → Option Refusal
live_refusal b R s v q = first_refusal R.state R.window (stale_by R.commits s v q) (full b R.window q) q

abbrev pub against_by : Base → Reading → ℕ → Request → Option Session → Option Refusal
against_by b R s q None = Some (refused.Reason (reasons.Gone s))
against_by b R s q (Some v) = cond (session_lives v) (live_refusal b R s v q) (Some (refused.Reason (reasons.Gone s)))

abbrev pub against : Base → Reading → ℕ → Request → Option Refusal
against b R s q = against_by b R s q R.session

-- the message that waits first for a session
abbrev pub first_sent : Session → Option Notice
first_sent v = slice_get v.sent v.taken

-- the text of an upgrade, by its number from 1
abbrev pub text_of_number : State → ℕ → Option (List ℕ)
text_of_number S number = slice_get S.texts (number - 1)
