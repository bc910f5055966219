-- The test of a history: the same conditions as in Sound, but as a computation that goes over the
-- transactions that are known. `histories_are_checked` says that it decides them.
use Rattle.log_entries.specs.declared.entry.Entry.TheVariants.{Decided, Finished, Life, One, Prepared, Upgraded}
use Rattle.log_entries.specs.declared.entry.Entry.{Entry}
use Rattle.log_entries.specs.declared.request.Request.{Request}
use Rattle.spec_history.specs.History.{Aborted, Base, Committed, Fate, LeftOver, Open, Known, State, epoch_of, is_undecided, or_lost, put, known_in, start, undecided_in}
use Rattle.spec_history.specs.FormChecking.{is_well_formed}
use Rattle.spec_history.specs.Participants.{takes_part}
use Rattle.spec_history.specs.Requests.{bars, has_read, is_upgrade, overwrites, written}
use Rattle.std.specs.List.{list_all, range_with_len}
use Rattle.std.specs.Option.{is_none}
use Rattle.std.specs.Prelude.{Bool, List, None, Option, Some, [], cond, false, nat_eq, nat_le, nat_lt, not, true, ◌&&◌, ◌+◌, ◌∷◌, ◌||◌}
use Rattle.thor_value.specs.FiniteMap.{get, keys, len}
use Rattle.thor_value.specs.declared.names.Ts.{Ts}
use Rattle.thor_value.specs.declared.values.Answer.TheVariants.{Fault, Ints}
use Rattle.thor_value.specs.declared.values.Answer.{Answer}
use Rattle.validation_queue.specs.Clashes.{is_before}
use Rattle.validation_queue.specs.Contents.{room_for}

-- the second, where the first
abbrev pub if_then : Bool → Bool → Bool
if_then x y = not x || y

abbrev pub is_live : Fate → Bool
is_live Open = true
is_live (Committed at) = true
is_live Aborted = false

abbrev pub is_committed : Fate → Bool
is_committed Open = false
is_committed (Committed at) = true
is_committed Aborted = false

abbrev pub is_empty : {X : Type 0} → List X → Bool
is_empty [] = true
is_empty (x ∷ xs) = false

-- whether q can come behind t, which stands as o
abbrev pub is_accepted : Request → Ts → Known → Bool
is_accepted q t o = if_then (is_live o.fate) (if_then (bars q o.request) (is_committed o.fate && is_before t q.tx) && if_then (overwrites q o.request) (is_before t q.tx))

-- whether the test holds of each transaction that is known, as it stands
abbrev pub each_known : Base → State → (Ts → Known → Bool) → Bool
each_known b S test = list_all (λ e. test e.0 (or_lost b S e.0 e.1)) S.known.pairs

-- whether q's participants are this repository and others, and the least coordinates
abbrev pub has_participants : Base → Request → Bool
has_participants b q =
    list_all (λ n. nat_lt n b.repos && not (nat_eq n b.repo)) q.others
    && takes_part b.repo q q.tx.repo
    && list_all (nat_le q.tx.repo) (b.repo ∷ q.others)

abbrev pub answers_nothing : Answer → Bool
answers_nothing (Ints ns) = is_empty ns
answers_nothing (Fault f) = false

-- whether q, if it is an upgrade, changes nothing itself and is everywhere
abbrev pub is_bare_upgrade : Base → Request → Bool
is_bare_upgrade b q =
    is_empty q.ros && is_empty q.writes && is_empty q.fresh && answers_nothing q.answer
    && list_all (takes_part b.repo q) (range_with_len 0 b.repos)

-- whether q owes nothing by itself
abbrev pub is_vouched : Base → State → Request → Bool
is_vouched b S q =
    is_well_formed q && nat_lt 0 S.length && is_none (known_in b S q.tx) && is_none (get b.left q.tx)
    && if_then (nat_eq q.tx.repo b.repo) (nat_eq q.tx.life S.life)
    && has_participants b q
    && list_all (has_read q) (keys (written q))
    && list_all (λ x. nat_eq x.repo b.repo) q.ros
    && list_all (λ w. nat_eq w.1.ver q.epoch) q.writes
    && if_then (is_upgrade q) (is_bare_upgrade b q)

-- whether q owes nothing to S
abbrev pub is_admitted : Base → State → Request → Bool
is_admitted b S q = is_vouched b S q && nat_eq q.epoch (epoch_of S) && is_before b.top q.tx && each_known b S (is_accepted q) && nat_lt (len (undecided_in b S)) room_for

-- whether q's transaction has this one participant
abbrev pub is_alone : Base → Request → Bool
is_alone b q = is_empty q.others && nat_eq q.tx.repo b.repo

abbrev pub settles_so : Bool → Option LeftOver → Bool
settles_so c None = false
settles_so c (Some l) = cond c l.commits (not l.commits)

-- whether t has still to be settled, and so
abbrev pub is_left_so : State → Ts → Bool → Bool
is_left_so S t c = nat_lt 0 S.length && settles_so c (get S.left t)

-- whether the entry owes nothing to S
abbrev pub is_owed : Base → State → Entry → Bool
is_owed b S (Life n) = nat_eq n (S.life + 1)
is_owed b S (One q) = is_admitted b S q && is_alone b q && not (is_upgrade q)
is_owed b S (Prepared q) = is_admitted b S q && not (is_empty q.others)
is_owed b S (Decided t c) = is_undecided (known_in b S t) && nat_eq t.repo b.repo
is_owed b S (Finished t c) = (is_undecided (known_in b S t) && not (nat_eq t.repo b.repo)) || is_left_so S t c
is_owed b S (Upgraded q) = is_admitted b S q && is_alone b q && is_upgrade q

abbrev pub is_kept_by : Base → State → List Entry → Bool
is_kept_by b S [] = true
is_kept_by b S (e ∷ es) = is_owed b S e && is_kept_by b (put b S e) es

-- whether the history is sound
abbrev pub is_sound : Base → List Entry → Bool
is_sound b H = is_kept_by b (start b) H
