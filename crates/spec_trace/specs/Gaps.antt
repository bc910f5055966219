-- What the growth of a trace by others leaves of a client's session and of its copies.
use Rattle.log_entries.specs.declared.entry.Entry.TheVariants.{Decided, Finished, Life, One, Prepared, Upgraded}
use Rattle.log_entries.specs.declared.request.Request.{Request}
use Rattle.spec_trace.specs.Current.{InStep, IsCurrent, NoneAborted, OthersOrSame, commits_in}
use Rattle.spec_trace.specs.Exact.{exact}
use Rattle.spec_history.specs.History.{Base, known_by}
use Rattle.spec_trace.specs.Session.{Session, session, session_lives, upto_of}
use Rattle.spec_history.specs.Sound.{sound}
use Rattle.spec_trace.specs.Trace.{E, Item, M, entries}
use Rattle.spec_trace.specs.declared.mark.Mark.TheVariants as the
use Rattle.std.specs.Option.{option_and_then, option_map}
use Rattle.std.specs.Prelude.{Bool, List, None, Option, Some, [], false, true, ℕ, ◌++◌, ◌∷◌, ◌≡◌, ◌≢◌, ◌⊎◌}
use Rattle.thor_value.specs.FiniteMap.{Map, get, has}
use Rattle.thor_value.specs.Names.{oref_cmp}
use Rattle.thor_value.specs.declared.names.Oref.{Oref}
use Rattle.thor_value.specs.declared.names.Ts.{Ts}
use Rattle.thor_value.specs.declared.values.Obj.{Obj}

-- the client whose session s is
abbrev pub client_in : Base → List Item → ℕ → Option ℕ
client_in b T s = option_map (λ v. v.client) (session b T s)

-- the client whose call made the item behind the trace T. A Life, a Finished and a Forgot are nobody's
abbrev pub maker : Base → List Item → Item → Option ℕ
maker b T (E (Life n)) = None
maker b T (E (One q)) = client_in b T q.session
maker b T (E (Prepared q)) = client_in b T q.session
maker b T (E (Decided t c)) = option_and_then (λ o. client_in b T o.request.session) (known_by b (entries T) t)
maker b T (E (Finished t c)) = None
maker b T (E (Upgraded q)) = client_in b T q.session
maker b T (M (the.Connected s client)) = Some client
maker b T (M (the.Fetched s page upto)) = client_in b T s
maker b T (M (the.Granted s page)) = client_in b T s
maker b T (M (the.Took s place)) = client_in b T s
maker b T (M (the.Drew s t)) = client_in b T s
maker b T (M (the.Forgot t)) = None
maker b T (M (the.Refused s q r)) = client_in b T s

-- each of the items is another's than the client c's, the first behind T
abbrev pub ByOthers : Base → ℕ → List Item → List Item → Type 0
ByOthers b c T [] = Unit {0}
ByOthers b c T (i ∷ is) = (maker b T i ≢ Some c) × ByOthers b c (T ++ i ∷ []) is

-- the commits that the items are, the first behind T
abbrev pub commits_behind : Base → List Item → List Item → List (ℕ × Request)
commits_behind b T [] = []
commits_behind b T (i ∷ is) = commits_in b (entries T) i ++ commits_behind b (T ++ i ∷ []) is

-- Each of the copies is current, on a page that the session has.
abbrev pub AreCurrent : Base → List Item → ℕ → Session → (Ts → Bool) → Map oref_cmp Obj → Type 0
AreCurrent b T s v committed copies = (x : Oref) (o : Obj) → get copies x ≡ Some o → IsCurrent b (entries T) s v committed x o × (has v.pages x.page ≡ true)

-- What these commits of the session's own wrote of the copies are the copies, and no page of theirs waits.
abbrev pub OwnAreCopies : ℕ → Session → Map oref_cmp Obj → List (ℕ × Request) → Type 0
OwnAreCopies s v copies cs = (x : Oref) (o : Obj) → get copies x ≡ Some o → OthersOrSame s v x o cs

-- The trace T grows by these items, which others made. The session s is live before them and its client in
-- step, the copies are current, nothing that committed at its coordinator is aborted at the end, and
-- what the session's transactions commit here on the way, since others finish them, are the copies.
pub record GrowsByOthers (b : Base) (T more : List Item) (s : ℕ) (v : Session) (committed : Ts → Bool) (copies : Map oref_cmp Obj) : Type 0 where
  pub owed : sound b (entries (T ++ more))
  pub kept : exact b (T ++ more)
  pub before : session b T s ≡ Some v
  pub live : session_lives v ≡ true
  pub step : InStep v
  pub others : ByOthers b v.client T more
  pub none_aborted : NoneAborted b (entries (T ++ more)) committed
  pub own : OwnAreCopies s v copies (commits_behind b T more)
  pub current : AreCurrent b T s v committed copies

-- The session w at the end: it isn't live, or its client is in step, knows what it knew, and its copies are
-- current.
abbrev pub StaysOrEnds : Base → List Item → ℕ → Session → (Ts → Bool) → Map oref_cmp Obj → Session → Type 0
StaysOrEnds b T s v committed copies w =
    (session_lives w ≡ false)
    ⊎ (InStep w × (upto_of w ≡ upto_of v) × AreCurrent b T s w committed copies)
