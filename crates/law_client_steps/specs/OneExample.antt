-- A small run over a store's only repository: client 1 connects, draws a timestamp, is granted a page of names and takes it, and
-- commits an object that it creates there. Then another client connects.
use Rattle.client_cache.specs.Copies.{kept}
use Rattle.client_items.specs.declared.meaning.Meaning.TheVariants.{Ran}
use Rattle.law_cache_coherence.specs.Examples.{no_copy}
use Rattle.law_cache_coherence.specs.Fitting.{Copies, with_writes}
use Rattle.client_state.specs.Pending.{IsAsking, NonePending, Pending}
use Rattle.client_state.specs.Writing.{WritesThere}
use Rattle.client_state.specs.declared.held.Held.{Held}
use Rattle.client_state.specs.declared.link.Link.TheVariants.{Apart, Joined}
use Rattle.client_state.specs.declared.link.Link.{Link}
use Rattle.client_state.specs.declared.link.Waits.TheVariants.{Idle, Reply}
use Rattle.log_entries.specs.declared.entry.Entry.TheVariants.{Life, One}
use Rattle.log_entries.specs.declared.request.Request.{Request}
use Rattle.law_client_steps.specs.Positions.{Position}
use Rattle.spec_history.specs.Examples.{at, box, only, setting_x, z}
use Rattle.object_codec.specs.Spelling.{obj_bytes}
use Rattle.page_format.specs.Pages as page
use Rattle.client_port.specs.Views.{Calm, MayCome, View}
use Rattle.spec_trace.specs.Trace.{E, Item, M}
use Rattle.spec_trace.specs.declared.mark.Mark.TheVariants as the
use Rattle.std.specs.Prelude.{List, [], cond, false, nat_eq, take, ℕ, ◌++◌, ◌∷◌, ◌≡◌}
use Rattle.thor_value.specs.FiniteMap.{empty, insert}
use Rattle.thor_value.specs.declared.names.Oref.{Oref}

-- the request that creates z
abbrev pub made : Request
made = record (setting_x 1 7) { upto = 1; ros = z ∷ []; writes = (z, box 7) ∷ []; fresh = z ∷ [] }

abbrev pub whole : List Item
whole =
    E (Life 1) ∷ M (the.Connected 1 1) ∷ M (the.Drew 1 (at 1)) ∷ M (the.Granted 1 1) ∷ M (the.Took 1 1) ∷ E (One made)
    ∷ M (the.Connected 2 2) ∷ []

-- what the port of client 1 shows, where the repository's trace is this
abbrev pub seeing : List Item → View
seeing T = record {
  opened = record { client = 1; alone = false; repos = 1; base = λ r. only };
  seen = λ r. cond (nat_eq r 0) T [];
  unsettled = λ r. Calm;
}

-- the position behind the first items, where nothing is undecided
abbrev pub position_after : ℕ → Held → Position
position_after n held = record { port = seeing (take n whole); held = held; pending = NonePending }

-- Client 1 has this link with the repository, and these copies.
pub record HoldsThis (link : Link) (copies : Copies) (held : Held) : Type 0 where
  pub client : held.client ≡ 1
  pub links : held.links.items ≡ link ∷ []
  pub copies_are : (x : Oref) → kept held.cache.cache x ≡ copies x

-- What the client holds from its beginning on: it has no session, then it has one and no copy, and once its request has committed it has
-- the object that its try has written.
pub record HoldsOnTheWay (first joined drawn waits taken last : Held) : Type 0 where
  pub begins : HoldsThis Apart no_copy first
  pub connects : HoldsThis (Joined 1 1 Idle) no_copy joined
  pub draws : HoldsThis (Joined 1 1 Idle) no_copy drawn
  pub asks : HoldsThis (Joined 1 1 Reply) no_copy waits
  pub takes : HoldsThis (Joined 1 1 Idle) no_copy taken
  pub wrote : WritesThere 0 made.writes taken.cache.cache
  pub commits : HoldsThis (Joined 1 1 Idle) (with_writes made no_copy) last

-- the page of the objects x and y, as they stand at the beginning
abbrev pub first_page : page.Contents
first_page = record { number = 0; objects = insert (insert empty 0 (obj_bytes (box 0))) 1 (obj_bytes (box 0)) }

-- ---- the same where the commit stops

-- the repository's trace behind that: the entry of the commit has come, and the repository was restarted
abbrev pub restarted : List Item
restarted = take 6 whole ++ E (Life 2) ∷ []

-- what the port shows as the call has stopped
abbrev pub stopping : View
stopping = record {
  opened = record { client = 1; alone = false; repos = 1; base = λ r. only };
  seen = λ r. cond (nat_eq r 0) (take 5 whole) [];
  unsettled = λ r. cond (nat_eq r 0) (MayCome (One made)) Calm;
}

-- what is undecided then: the verdict on the request is asked for
abbrev pub asking : Pending
asking = IsAsking (record { ts = made.tx; at = record { repo = 0; session = 1 }; meaning = Ran made.answer; participants = 0 ∷ [] }) 0

-- the position as the call has stopped, and one behind the restart
abbrev pub stopped : Held → Position
stopped held = record { port = stopping; held = held; pending = asking }

abbrev pub behind_it : Held → Pending → Position
behind_it held pending = record { port = seeing restarted; held = held; pending = pending }
