-- What stands against a request, by the transactions in a queue: backward validation in timestamp
-- order, with the checks against undecided transactions and against later ones. (Adya and others,
-- SIGMOD 1995; the threshold, the limit and the order of the checks are this project's.)
use Rattle.std.specs.List.{AllByRecursion, fold}
use Rattle.std.specs.Option.{option_map, option_or}
use Rattle.std.specs.Ordering.{is_lt}
use Rattle.std.specs.Prelude.{Bool, Err, List, None, Ok, Option, Result, Some, [], cond, false, find, is_none, not, ◌&&◌, ◌||◌, ◌∷◌, ◌≡◌}
use Rattle.thor_value.specs.FiniteMap.{keys}
use Rattle.thor_value.specs.Names.{later_of, ts_cmp}
use Rattle.thor_value.specs.declared.names.Oref.{Oref}
use Rattle.thor_value.specs.declared.names.Ts.{Ts}
use Rattle.validation_queue.specs.Contents.{Contents, Transaction, first_decided, is_full, room_for}
use Rattle.validation_queue.specs.Names.{is_among}
use Rattle.base_reasons.specs.declared.reason.Reason.TheVariants as reasons
use Rattle.base_reasons.specs.declared.reason.Reason.{Reason}
use Rattle.validation_queue.specs.declared.member.Member.{Member}

-- t comes before u
abbrev pub is_before : Ts → Ts → Bool
is_before t u = is_lt (ts_cmp t u)

-- the first answer that there is
abbrev pub first_some : {A B : Type 0} → (A → Option B) → List A → Option B
first_some f [] = None
first_some f (x ∷ xs) = option_or (f x) (first_some f xs)

-- the timestamp that t has to be above: for an upgrade, that of every member too
abbrev pub bar : Contents → Bool → Ts
bar Q upgrade = cond upgrade (fold later_of Q.threshold (keys Q.members)) Q.threshold

-- t isn't above its bar
abbrev pub too_old : Contents → Transaction → Option Reason
too_old Q t = cond (is_before (bar Q t.upgrade) t.tx) None (Some (reasons.TooOld (bar Q t.upgrade)))

-- an undecided transaction below tx wrote what tx read
abbrev pub comes_earlier : Ts → List Oref → Ts × Member → Option Reason
comes_earlier tx read e = cond (not e.1.decided && is_before e.0 tx) (option_map (reasons.Earlier e.0) (find (is_among e.1.written) read)) None

-- whether m wrote x, or x is written here and m read it
abbrev pub meets_at : List Oref → Member → Oref → Bool
meets_at written m x = is_among m.written x || (is_among written x && is_among m.read x)

-- a transaction above tx wrote what tx read, or read what tx wrote, which is among what tx read
abbrev pub comes_later : Ts → List Oref → List Oref → Ts × Member → Option Reason
comes_later tx read written e = cond (is_before tx e.0) (option_map (reasons.Later e.0) (find (meets_at written e.1) read)) None

-- t isn't before any of the members
abbrev pub IsBehindAll : Ts → List (Ts × Member) → Type 0
IsBehindAll t members = AllByRecursion (λ e. is_before t e.0 ≡ false) members

-- there is no room, and no transaction that may leave
abbrev pub full : Contents → Option Reason
full Q = cond (is_full Q && is_none (first_decided Q)) (Some (reasons.Full room_for)) None

-- What stands against t: the first of these that does, each with the least transaction and then with
-- the least name. (Members are in the order of their timestamps, and the names of a request rise.)
abbrev pub clash : Contents → Transaction → Option Reason
clash Q t =
    option_or (too_old Q t)
    (option_or (first_some (comes_earlier t.tx t.read) Q.members.pairs)
    (option_or (first_some (comes_later t.tx t.read t.written) Q.members.pairs) (full Q)))

-- Ok where nothing stands against it
abbrev pub answer : Option Reason → Result (Unit {0}) Reason
answer None = Ok tt
answer (Some c) = Err c
