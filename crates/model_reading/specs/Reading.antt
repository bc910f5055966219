-- What is read of a trace by going over it once: the state, the window, the commits, one session, and the numbers that are
-- given next. It is a fold over the items, and each part of it is what its own definition says (this project's).
use Rattle.log_entries.specs.declared.entry.Entry.{Entry}
use Rattle.log_entries.specs.declared.request.Request.{Request}
use Rattle.spec_history.specs.History.{Base, State, commit_of, commits, put, start, state}
use Rattle.spec_trace.specs.Calls.{connected_at, drawn_after, granted_at, last_drawn, last_session, next_page}
use Rattle.spec_trace.specs.Session.{Session, meet, session}
use Rattle.spec_trace.specs.Trace.{E, Item, M, entries}
use Rattle.spec_trace.specs.declared.mark.Mark.{Mark}
use Rattle.std.specs.List.{fold}
use Rattle.std.specs.Option.{option_map}
use Rattle.std.specs.Prelude.{List, None, Option, [], length, max, ℕ, ◌++◌, ◌≡◌}
use Rattle.thor_value.specs.FiniteMap.{empty}
use Rattle.model_reading.specs.Settling.{commit_at, committed_by, met_mark, met_with, put_with, slid_with}
use Rattle.repo_refusals.specs.Window.{Window, slide, window}

pub record Reading : Type 0 where
  pub state : State
  pub window : Window
  -- the commits, each with its place
  pub commits : List (ℕ × Request)
  -- the session that is looked for
  pub session : Option Session
  pub last_session : ℕ
  pub next_page : ℕ
  -- the time that was drawn last
  pub drawn : ℕ

-- before the first item
abbrev pub begin : Base → Reading
begin b = record {
  state = start b;
  window = record { threshold = b.top; members = empty };
  commits = [];
  session = None;
  last_session = 0;
  next_page = b.next_page;
  drawn = b.top.time;
}

-- behind one more item, where the session s is looked for
abbrev pub step : Base → ℕ → Reading → Item → Reading
step b s R (E e) = record {
  state = put b R.state e;
  window = slide b R.state R.window e;
  commits = R.commits ++ commit_of b R.state e;
  session = meet b s R.state R.session (E e);
  last_session = R.last_session;
  next_page = R.next_page;
  drawn = drawn_after R.state R.drawn (E e);
}
step b s R (M m) = record {
  state = R.state;
  window = R.window;
  commits = R.commits;
  session = meet b s R.state R.session (M m);
  last_session = max R.last_session (connected_at (M m));
  next_page = max R.next_page (granted_at (M m));
  drawn = drawn_after R.state R.drawn (M m);
}

-- behind an entry that decides this
abbrev pub step_with : Base → ℕ → Reading → Entry → Option (ℕ × Request) → Reading
step_with b s R e x = record {
  state = put_with R.state e x;
  window = slid_with b R.state R.window e x;
  commits = R.commits ++ commit_at R.state.length (committed_by e x);
  session = option_map (met_with s R.state e x) R.session;
  last_session = R.last_session;
  next_page = R.next_page;
  drawn = drawn_after R.state R.drawn (E e);
}

-- behind a mark
abbrev pub step_marked : ℕ → Reading → Mark → Reading
step_marked s R m = record {
  state = R.state;
  window = R.window;
  commits = R.commits;
  session = met_mark s R.state.length R.session m;
  last_session = max R.last_session (connected_at (M m));
  next_page = max R.next_page (granted_at (M m));
  drawn = drawn_after R.state R.drawn (M m);
}

-- behind all items
abbrev pub reading : Base → ℕ → List Item → Reading
reading b s T = fold (step b s) (begin b) T

-- Each part of what is read is what its definition says of the trace.
pub record Tells (b : Base) (s : ℕ) (T : List Item) (R : Reading) : Type 0 where
  pub state_is : R.state ≡ state b (entries T)
  pub window_is : R.window ≡ window b (entries T)
  pub commits_are : R.commits ≡ commits b (entries T)
  pub session_is : R.session ≡ session b T s
  pub last_is : R.last_session ≡ last_session T
  pub page_is : R.next_page ≡ next_page b T
  pub drawn_is : R.drawn ≡ last_drawn b T
  pub count_is : R.state.length ≡ length (entries T)
