-- What a port tells proofs: the repositories that it reaches, as far as its client has seen them.
use Rattle.log_entries.specs.declared.entry.Entry.{Entry}
use Rattle.spec_history.specs.History.{Base}
use Rattle.spec_trace.specs.Trace.{Item}
use Rattle.std.specs.Prelude.{Bool, List, None, [], false, ℕ}
use Rattle.thor_value.specs.FiniteMap.{empty}

-- What may still come of a client's own call that stopped. It can be read off a repository's state, which keeps whether it is
-- up and which entry was being written, and no more.
pub data Unsettled : Type 0 where
  -- nothing: the repository is up
  Calm : Unsettled
  -- the entry of the call that stopped; the repository is down
  MayCome : Entry → Unsettled
  -- nothing of the client's before a Life: the repository is down
  Halted : Unsettled

-- What no call changes.
pub record Opened : Type 0 where
  -- the client whose port it is
  pub client : ℕ
  -- whether nobody else acts while the port is lent
  pub alone : Bool
  -- how many repositories there are, and what each of them was opened with
  pub repos : ℕ
  pub base : ℕ → Base

pub record View : Type 0 where
  pub opened : Opened
  -- the front of each repository's trace that the client has seen
  pub seen : ℕ → List Item
  -- what may still come at the present end of each trace
  pub unsettled : ℕ → Unsettled

-- what a port tells that shows nothing
abbrev pub no_base : Base
no_base = record {
  repo = 0;
  repos = 0;
  life = 0;
  count = 0;
  limit = 0;
  objects = empty;
  top = record { time = 0; repo = 0; life = 0 };
  roots = [];
  texts = [];
  next_page = 0;
  alone = empty;
  left = empty;
  silence = None;
  tells = false;
}

abbrev pub nothing_shown : View
nothing_shown = record {
  opened = record { client = 0; alone = false; repos = 0; base = λ r. no_base };
  seen = λ r. [];
  unsettled = λ r. Calm;
}
