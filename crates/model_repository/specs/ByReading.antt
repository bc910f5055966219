-- A plain repository's steps, by what was read of its trace: each is the plain repository's own where what was read tells what
-- the definitions say of the trace.
use Rattle.log_entries.specs.declared.entry.Entry.TheVariants.{Decided, Finished}
use Rattle.log_entries.specs.declared.entry.Entry.{Entry}
use Rattle.log_entries.specs.declared.request.Request.{Request}
use Rattle.spec_history.specs.History.{Base, is_undecided, known_in}
use Rattle.session_outbox.specs.declared.answers.Asked as answer
use Rattle.session_outbox.specs.declared.answers.Verdict.{Verdict}
use Rattle.session_outbox.specs.declared.answers.Welcome.{Welcome}
use Rattle.session_outbox.specs.declared.message.Message.{Message}
use Rattle.client_port.specs.Works.{is_prepared_by}
use Rattle.law_client_views.specs.Plain.{Stepped, received, refuse, answer_of_asked}
use Rattle.base_reasons.specs.declared.reason.Reason.TheVariants as reasons
use Rattle.spec_trace.specs.Calls.{Settled, Undecided, drawn_time, is_forgotten}
use Rattle.spec_trace.specs.Exact.{most_pages}
use Rattle.spec_trace.specs.Notices.{lives, is_unended}
use Rattle.spec_trace.specs.Session.{Notice}
use Rattle.spec_trace.specs.Trace.{E, Item, M}
use Rattle.spec_trace.specs.declared.mark.Mark.TheVariants as the
use Rattle.std.specs.List.{list_any}
use Rattle.std.specs.Option.{option_and_then}
use Rattle.std.specs.Prelude.{Bool, Err, List, None, Ok, Option, Some, [], cond, false, length, nat_eq, nat_lt, not, ℕ, ◌&&◌, ◌++◌, ◌^◌, ◌||◌, ◌∷◌}
use Rattle.thor_value.specs.FiniteMap.{has, values}
use Rattle.thor_value.specs.Names.{same_ts}
use Rattle.thor_value.specs.declared.names.Ts.{Ts}
use Rattle.model_reading.specs.Against.{first_sent}
use Rattle.model_reading.specs.Opening.{base_of}
use Rattle.model_reading.specs.Reading.{Reading}
use Rattle.model_reading.specs.declared.opening.Opening.{Opening}
use Rattle.client_port.specs.Views.{no_base}
use Rattle.repo_refusals.specs.declared.refusal.Refusal.TheVariants as refused
use Rattle.repo_refusals.specs.declared.refusal.Refusal.{Refusal}

-- what the repository of an opening begins with
abbrev pub base_at : Option Opening → Base
base_at None = no_base
base_at (Some o) = base_of o

abbrev pub gone : ℕ → Refusal
gone s = refused.Reason (reasons.Gone s)

-- what a client is told that connects as the session s
abbrev pub welcome_by : Reading → ℕ → Welcome
welcome_by R s = record { session = s; epoch = length R.state.texts; threshold = R.window.threshold; place = R.state.length; upgrades = R.state.texts }

abbrev pub fetch_by : Reading → List Item → ℕ → ℕ → ℕ → Stepped (Unit {0})
fetch_by R T s page upto = cond (lives R.session) (Ok tt, T ++ M (the.Fetched s page upto) ∷ []) (Err (gone s), T)

-- where the session is live
abbrev pub grant_live : Reading → List Item → ℕ → Stepped (Unit {0})
grant_live R T s = cond (nat_lt R.next_page most_pages) (Ok tt, T ++ M (the.Granted s R.next_page) ∷ []) (refuse T s None (refused.Reason (reasons.Full most_pages)))

abbrev pub grant_by : Reading → List Item → ℕ → Stepped (Unit {0})
grant_by R T s = cond (lives R.session) (grant_live R T s) (refuse T s None (gone s))

abbrev pub receive_by : (Notice → Message) → Reading → List Item → ℕ → Stepped (Option Message)
receive_by spell R T s = cond (lives R.session) (received spell T s (option_and_then first_sent R.session)) (Err (gone s), T)

-- the timestamp that is drawn by no clock
abbrev pub stamp_by : Base → Reading → ℕ → Ts
stamp_by b R floor = record { time = drawn_time 0 R.drawn floor; repo = b.repo; life = R.state.life }

-- this timestamp is drawn, where its time is one that there is
abbrev pub draw_live : List Item → ℕ → Ts → Stepped Ts
draw_live T s t = cond (nat_lt t.time (2 ^ 62)) (Ok t, T ++ M (the.Drew s t) ∷ []) (refuse T s None (refused.Reason reasons.ClockEnd))

abbrev pub draw_by : Base → Reading → List Item → ℕ → ℕ → Stepped Ts
draw_by b R T s floor = cond (lives R.session) (draw_live T s (stamp_by b R floor)) (refuse T s None (gone s))

abbrev pub requested_by : ℕ → List Item → ℕ → Request → Entry → Option Refusal → Stepped ℕ
requested_by n T s q e None = (Ok n, T ++ E e ∷ [])
requested_by n T s q e (Some r) = refuse T s (Some q) r

abbrev pub commits_by_reading : Reading → List Item → Ts → Bool
commits_by_reading R T t = (has R.state.kept t && not (is_forgotten T t)) || list_any (same_ts t) (values R.state.alone)

-- whether the session s has the transaction prepared that was found undecided
abbrev pub prepared_of : ℕ → Option (ℕ × Request) → Bool
prepared_of s None = false
prepared_of s (Some x) = nat_eq x.1.session s

-- where the session is live, and the transaction is its own and prepared, or not
abbrev pub decide_live : Reading → List Item → Ts → Bool → Bool → Stepped Verdict
decide_live R T t c own = cond own (Ok (record { tx = t; commit = c }), T ++ E (Decided t c) ∷ []) (Ok (record { tx = t; commit = commits_by_reading R T t }), T)

abbrev pub decide_by : Base → Reading → List Item → ℕ → Ts → Bool → Stepped Verdict
decide_by b R T s t c = cond (is_unended R.session) (decide_live R T t c (is_prepared_by s (known_in b R.state t))) (Err (gone s), T)

abbrev pub finish_by : Base → Reading → List Item → Ts → Bool → Stepped (Option ℕ)
finish_by b R T t c = cond (is_undecided (known_in b R.state t)) (Ok (Some R.state.length), T ++ E (Finished t c) ∷ []) (Ok None, T)

abbrev pub ask_by : Base → Reading → List Item → Ts → Stepped answer.Asked
ask_by b R T t = (Ok (answer_of_asked t (cond (is_undecided (known_in b R.state t) && nat_eq t.repo b.repo) Undecided (Settled (commits_by_reading R T t)))), T)
