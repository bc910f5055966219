-- What stands against a request in a state and a window: the first refusal that holds. (Backward
-- validation in timestamp order, with the checks against undecided transactions, after Adya and others,
-- SIGMOD 1995; the fence of upgrades and the order of the checks are this project's.)
use Rattle.log_entries.specs.declared.request.Request.{Request}
use Rattle.object_codec.specs.Spelling.{obj_bytes}
use Rattle.spec_history.specs.History.{Base, State, epoch_of}
use Rattle.spec_history.specs.Requests.{has_read, has_written, is_upgrade, written}
use Rattle.repo_refusals.specs.Window.{Member, Window, first_decided}
use Rattle.base_reasons.specs.declared.reason.Reason.TheVariants as reasons
use Rattle.repo_refusals.specs.declared.refusal.Refusal.TheVariants as refused
use Rattle.repo_refusals.specs.declared.refusal.Refusal.{Refusal}
use Rattle.std.specs.List.{fold, sum_by}
use Rattle.std.specs.Option.{is_none, option_map, option_or}
use Rattle.std.specs.Prelude.{Bool, List, None, Option, Some, cond, length, map, nat_eq, nat_le, nat_lt, not, ℕ, ◌&&◌, ◌++◌, ◌||◌}
use Rattle.thor_value.specs.FiniteMap.{Set, empty, keys, len, overwrite, values}
use Rattle.thor_value.specs.Names.{later_of, oref_cmp}
use Rattle.thor_value.specs.declared.names.Oref.{Oref}
use Rattle.thor_value.specs.declared.names.Ts.{Ts}
use Rattle.validation_queue.specs.Clashes.{first_some, is_before}
use Rattle.validation_queue.specs.Contents.{room_for}

-- some names as a set
abbrev pub set_of : List Oref → Set oref_cmp
set_of names = overwrite empty (map (λ x. (x, tt)) names)

-- the names that q read or wrote
abbrev pub names_of : Request → Set oref_cmp
names_of q = set_of (q.ros ++ keys (written q))

-- x, where the test holds of it
abbrev pub passing : (Oref → Bool) → Oref → Option Oref
passing test x = cond (test x) (Some x) None

-- the least of q's names of which the test holds
abbrev pub least_name : Request → (Oref → Bool) → Option Oref
least_name q test = first_some (passing test) (keys (names_of q))

-- an undecided transaction that q has to wait for, since one of the two is an upgrade
abbrev pub blocks : Request → Ts × Member → Option Refusal
blocks q e = cond (not e.1.decided && (is_upgrade q || is_upgrade e.1.request)) (Some (refused.Reason (reasons.Blocked e.0))) None

-- the timestamp that q has to be above: for an upgrade, that of every member too
abbrev pub bar : Window → Request → Ts
bar W q = cond (is_upgrade q) (fold later_of W.threshold (keys W.members)) W.threshold

-- q isn't above its bar
abbrev pub too_old : Window → Request → Option Refusal
too_old W q = cond (is_before (bar W q) q.tx) None (Some (refused.Reason (reasons.TooOld (bar W q))))

-- whether q read x and s wrote it
abbrev pub reads_from : Request → Request → Oref → Bool
reads_from q s x = has_read q x && has_written s x

-- whether q wrote x and s read it
abbrev pub writes_over : Request → Request → Oref → Bool
writes_over q s x = has_written q x && has_read s x

-- an undecided transaction below q that wrote what q read
abbrev pub comes_earlier : Request → Ts × Member → Option Refusal
comes_earlier q e = cond (not e.1.decided && is_before e.0 q.tx) (option_map (λ x. refused.Reason (reasons.Earlier e.0 x)) (least_name q (reads_from q e.1.request))) None

-- a transaction above q that wrote what q read, or read what q wrote
abbrev pub comes_later : Request → Ts × Member → Option Refusal
comes_later q e = cond (is_before q.tx e.0) (option_map (λ x. refused.Reason (reasons.Later e.0 x)) (least_name q (λ x. reads_from q e.1.request x || writes_over q e.1.request x))) None

-- q's client hasn't seen just the upgrades that are installed
abbrev pub other_epoch : State → Request → Option Refusal
other_epoch S q = cond (nat_eq q.epoch (epoch_of S)) None (Some (refused.Reason (reasons.Epoch (epoch_of S))))

-- The first refusal of q that holds, or None where it is accepted, but for the session's end. `stale`
-- is what the session's invalid set has against it, and `full` what the limits have.
abbrev pub first_refusal : State → Window → Option Refusal → Option Refusal → Request → Option Refusal
first_refusal S W stale full q =
    option_or (first_some (blocks q) W.members.pairs)
    (option_or (other_epoch S q)
    (option_or (too_old W q)
    (option_or stale
    (option_or (first_some (comes_earlier q) W.members.pairs)
    (option_or (first_some (comes_later q) W.members.pairs) full)))))

-- the window has no room, and no member that may leave
abbrev pub full_of_undecided : Window → Option Refusal
full_of_undecided W = cond (nat_le room_for (len W.members) && is_none (first_decided W.members.pairs)) (Some (refused.Reason (reasons.Full room_for))) None

-- how many bytes the objects that q wrote have, as they are spelled
abbrev pub bytes_of : Request → ℕ
bytes_of q = sum_by (λ o. length (obj_bytes o)) (values (written q))

-- the buffer of modified objects can't hold what q wrote, were it empty
abbrev pub full_of_writes : Base → Request → Option Refusal
full_of_writes b q = cond (nat_lt b.limit (bytes_of q)) (Some (refused.Reason (reasons.Full b.limit))) None

-- what the limits have against q
abbrev pub full : Base → Window → Request → Option Refusal
full b W q = option_or (full_of_undecided W) (full_of_writes b q)
