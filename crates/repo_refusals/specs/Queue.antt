-- The window as a validation queue holds it: the queue keeps of a request what validation looks at. So a
-- repository that keeps a queue in place of its window answers and changes alike.
use Rattle.log_entries.specs.declared.entry.Entry.TheVariants.{Decided, Finished, Life, One, Prepared, Upgraded}
use Rattle.log_entries.specs.declared.entry.Entry.{Entry}
use Rattle.log_entries.specs.declared.request.Request.{Request}
use Rattle.spec_history.specs.History.{Aborted, Base, Committed, Fate, Open, Known, State, is_undecided, put, known_in}
use Rattle.spec_history.specs.Requests.{is_upgrade}
use Rattle.repo_refusals.specs.Window.{Member, Window}
use Rattle.base_reasons.specs.declared.reason.Reason.TheVariants as reasons
use Rattle.repo_refusals.specs.declared.refusal.Refusal.TheVariants as refused
use Rattle.repo_refusals.specs.declared.refusal.Refusal.{Refusal}
use Rattle.std.specs.Map.{keys_of}
use Rattle.std.specs.Option.{option_and_then, option_map, option_or}
use Rattle.std.specs.Prelude.{Bool, None, Option, Some, cond, false, map, true, ◌&&◌}
use Rattle.thor_value.specs.FiniteMap.{keep}
use Rattle.thor_value.specs.declared.names.Ts.{Ts}
use Rattle.validation_queue.specs.Clashes.{clash}
use Rattle.validation_queue.specs.Contents as queue
use Rattle.validation_queue.specs.Contents.{Contents, Transaction, first_blocking}
use Rattle.validation_queue.specs.Names.{IsInOrder}
use Rattle.base_reasons.specs.declared.reason.Reason.{Reason}
use Rattle.validation_queue.specs.declared.member.Member as queued

-- what validation looks at of a request
abbrev pub transaction_of : Request → Transaction
transaction_of q = queue.transaction q.tx (is_upgrade q) q.ros q.writes

-- a member of the window as one of the queue
abbrev pub queued_of : Member → queued.Member
queued_of m = queue.member (transaction_of m.request) m.decided

-- the queue with the window's members
abbrev pub queue_of : Window → Contents
queue_of W = record { threshold = W.threshold; members = record { pairs = map (λ e. (e.0, queued_of e.1)) W.members.pairs } }

-- q tells its names as a queue wants them: they rise, and it read what it wrote
abbrev pub TellsInOrder : Request → Type 0
TellsInOrder q = IsInOrder q.ros (keys_of q.writes)

-- whether what stands against a request comes before the invalid set is looked at
abbrev pub is_too_old : Reason → Bool
is_too_old (reasons.TooOld threshold) = true
is_too_old r = false

-- the refusal of a clash that comes before the invalid set is looked at
abbrev pub old_of : Reason → Option Refusal
old_of r = cond (is_too_old r) (Some (refused.Reason r)) None

-- The verdict by a queue: what blocks q, then `behind`, which is the test of its epoch, then what the
-- queue answers, with `stale` behind its TooOld alone, and `full` last.
abbrev pub refusal_by : Contents → Request → Option Refusal → Option Refusal → Option Refusal → Option Refusal
refusal_by Q q behind stale full =
    let found = clash Q (transaction_of q) in
    option_or (option_map (λ t. refused.Reason (reasons.Blocked t)) (first_blocking Q (is_upgrade q)))
    (option_or behind
    (option_or (option_and_then old_of found)
    (option_or stale
    (option_or (option_map refused.Reason found) full))))

abbrev pub close_queue_by : Contents → Ts → Bool → Request → Fate → Contents
close_queue_by Q t c q Open = cond (c && is_upgrade q) (queue.cleared t) (queue.decide Q t c)
close_queue_by Q t c q (Committed at) = Q
close_queue_by Q t c q Aborted = Q

-- t, which stands so, is decided
abbrev pub close_queue : Contents → Ts → Bool → Option Known → Contents
close_queue Q t c None = Q
close_queue Q t c (Some o) = close_queue_by Q t c o.request o.fate

-- the queue behind one more entry, where S is the state before it
abbrev pub slide_queue : Base → State → Contents → Entry → Contents
slide_queue b S Q (Life n) = record { threshold = S.top; members = keep Q.members (λ t. is_undecided (known_in b (put b S (Life n)) t)) }
slide_queue b S Q (One q) = queue.enter Q (transaction_of q) true
slide_queue b S Q (Prepared q) = queue.enter Q (transaction_of q) false
slide_queue b S Q (Decided t c) = close_queue Q t c (known_in b S t)
slide_queue b S Q (Finished t c) = close_queue Q t c (known_in b S t)
slide_queue b S Q (Upgraded q) = queue.cleared q.tx
