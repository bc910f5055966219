-- A plain repository: it is its trace, and each call reads its answer off it. It meets what each call of a port
-- promises, so none of these promises is one that nobody keeps.
use Rattle.log_entries.specs.declared.entry.Entry.TheVariants.{Decided, Finished, Prepared}
use Rattle.log_entries.specs.declared.entry.Entry.{Entry}
use Rattle.log_entries.specs.declared.request.Request.{Request}
use Rattle.spec_history.specs.History.{Base, is_undecided, known_by, state}
use Rattle.session_outbox.specs.declared.answers.Asked as answer
use Rattle.session_outbox.specs.declared.answers.Asked.TheVariants as answers
use Rattle.session_outbox.specs.declared.answers.Verdict.{Verdict}
use Rattle.session_outbox.specs.declared.answers.Welcome.{Welcome}
use Rattle.session_outbox.specs.declared.message.Message.TheVariants as messages
use Rattle.session_outbox.specs.declared.message.Message.{Message}
use Rattle.client_port.specs.Views.{Calm, Halted, Unsettled}
use Rattle.client_port.specs.Works.{alone_entry, commits_by, is_prepared_by}
use Rattle.spec_trace.specs.Notices.{lives, is_unended}
use Rattle.spec_trace.specs.Calls.{Asked, Settled, Undecided, asked, drawn_time, last_drawn, next_page, next_session, welcome}
use Rattle.spec_trace.specs.Exact.{most_pages}
use Rattle.spec_trace.specs.Session.{Grant, Invalid, Notice, Page, Session, Upgrade, place_of, session}
use Rattle.spec_trace.specs.Trace.{E, Item, M, entries}
use Rattle.spec_trace.specs.Verdict.{verdict}
use Rattle.spec_trace.specs.declared.mark.Mark.TheVariants as the
use Rattle.std.specs.List.{slice_get}
use Rattle.std.specs.Prelude.{Bool, Err, List, None, Ok, Option, Result, Some, [], cond, length, nat_lt, ℕ, ◌++◌, ◌^◌, ◌∷◌}
use Rattle.thor_value.specs.declared.names.Ts.{Ts}
use Rattle.base_reasons.specs.declared.reason.Reason.TheVariants as reasons
use Rattle.repo_refusals.specs.declared.refusal.Refusal.TheVariants as refused
use Rattle.repo_refusals.specs.declared.refusal.Refusal.{Refusal}

-- an answer, and the trace behind the call
abbrev pub Stepped : Type 0 → Type 0
Stepped X = Result X Refusal × List Item

-- what is unsettled behind an answer, where no call stops while it writes
abbrev pub left_by : {X : Type 0} → Result X Refusal → Unsettled
left_by (Ok x) = Calm
left_by (Err (refused.Reason r)) = Calm
left_by (Err r) = Halted

-- a draw, a grant or a request is refused, with a mark
abbrev pub refuse : {X : Type 0} → List Item → ℕ → Option Request → Refusal → Stepped X
refuse T s q r = (Err r, T ++ M (the.Refused s q r) ∷ [])

abbrev pub connect : Base → List Item → ℕ → Stepped Welcome
connect b T c =
    cond (nat_lt (next_session T) (2 ^ 32))
    (Ok (record { session = (welcome b T).session; epoch = (welcome b T).epoch; threshold = (welcome b T).threshold; place = (welcome b T).place; upgrades = (welcome b T).upgrades }), T ++ M (the.Connected (next_session T) c) ∷ [])
    (Err refused.NoMemory, T)

abbrev pub fetch : Base → List Item → ℕ → ℕ → ℕ → Stepped (Unit {0})
fetch b T s page upto = cond (lives (session b T s)) (Ok tt, T ++ M (the.Fetched s page upto) ∷ []) (Err (refused.Reason (reasons.Gone s)), T)

abbrev pub grant : Base → List Item → ℕ → Stepped (Unit {0})
grant b T s =
    cond (lives (session b T s))
    (cond (nat_lt (next_page b T) most_pages) (Ok tt, T ++ M (the.Granted s (next_page b T)) ∷ []) (refuse T s None (refused.Reason (reasons.Full most_pages))))
    (refuse T s None (refused.Reason (reasons.Gone s)))

-- a message with its bytes, where these say what pages and upgrades hold
abbrev pub message_of : (ℕ → ℕ → List ℕ) → (ℕ → List ℕ) → Notice → Message
message_of pages texts (Page page k) = messages.Page page (pages page k) k
message_of pages texts (Grant page k) = messages.Grant page k
message_of pages texts (Invalid names k) = messages.Invalid names k
message_of pages texts (Upgrade number k) = messages.Upgrade number (texts number) k

abbrev pub received : (Notice → Message) → List Item → ℕ → Option Notice → Stepped (Option Message)
received spell T s None = (Ok None, T)
received spell T s (Some m) = (Ok (Some (spell m)), T ++ M (the.Took s (place_of m)) ∷ [])

abbrev pub received_by : (Notice → Message) → List Item → ℕ → Option Session → Stepped (Option Message)
received_by spell T s None = (Err (refused.Reason (reasons.Gone s)), T)
received_by spell T s (Some v) = cond (lives (Some v)) (received spell T s (slice_get v.sent v.taken)) (Err (refused.Reason (reasons.Gone s)), T)

abbrev pub receive : (Notice → Message) → Base → List Item → ℕ → Stepped (Option Message)
receive spell b T s = received_by spell T s (session b T s)

-- the timestamp that is drawn where the clock says now
abbrev pub next_stamp : Base → List Item → ℕ → ℕ → Ts
next_stamp b T now floor = record { time = drawn_time now (last_drawn b T) floor; repo = b.repo; life = (state b (entries T)).life }

abbrev pub draw : Base → List Item → ℕ → ℕ → ℕ → Stepped Ts
draw b T s now floor =
    cond (lives (session b T s))
    (cond (nat_lt (next_stamp b T now floor).time (2 ^ 62)) (Ok (next_stamp b T now floor), T ++ M (the.Drew s (next_stamp b T now floor)) ∷ []) (refuse T s None (refused.Reason reasons.ClockEnd)))
    (refuse T s None (refused.Reason (reasons.Gone s)))

abbrev pub requested : List Item → ℕ → Request → Entry → Option Refusal → Stepped ℕ
requested T s q e None = (Ok (length (entries T)), T ++ E e ∷ [])
requested T s q e (Some r) = refuse T s (Some q) r

abbrev pub prepare : Base → List Item → ℕ → Request → Stepped ℕ
prepare b T s q = requested T s q (Prepared q) (verdict b T s q)

abbrev pub commit_one : Base → List Item → ℕ → Request → Stepped ℕ
commit_one b T s q = requested T s q (alone_entry q) (verdict b T s q)

abbrev pub decide : Base → List Item → ℕ → Ts → Bool → Stepped Verdict
decide b T s t c =
    cond (is_unended (session b T s))
    (cond (is_prepared_by s (known_by b (entries T) t)) (Ok (record { tx = t; commit = c }), T ++ E (Decided t c) ∷ []) (Ok (record { tx = t; commit = commits_by b T t }), T))
    (Err (refused.Reason (reasons.Gone s)), T)

abbrev pub finish : Base → List Item → Ts → Bool → Stepped (Option ℕ)
finish b T t c = cond (is_undecided (known_by b (entries T) t)) (Ok (Some (length (entries T))), T ++ E (Finished t c) ∷ []) (Ok None, T)

abbrev pub forget : List Item → Ts → Stepped (Unit {0})
forget T t = (Ok tt, T ++ M (the.Forgot t) ∷ [])

abbrev pub answer_of_asked : Ts → Asked → answer.Asked
answer_of_asked t Undecided = answers.Undecided
answer_of_asked t (Settled c) = answers.Settled (record { tx = t; commit = c })

abbrev pub ask : Base → List Item → Ts → Stepped answer.Asked
ask b T t = (Ok (answer_of_asked t (asked b T t)), T)
