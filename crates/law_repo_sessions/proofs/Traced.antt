-- What a session of a trace becomes at an item.
use Rattle.log_entries.specs.declared.entry.Entry.{Entry}
use Rattle.log_entries.specs.declared.request.Request.{Request}
use Rattle.spec_history.specs.History.{Base, State, commit_of, is_life}
use Rattle.law_repo_sessions.specs.Agreeing.{retired_at, retired_client_of}
use Rattle.spec_trace.specs.Notices.{lives}
use Rattle.spec_trace.proofs.Traces.{entries-append}
use Rattle.spec_trace.specs.Calls.{connected_at, last_session}
use Rattle.spec_trace.specs.Session.{Ended, Grant, Live, Page, Retired, Session, Stage, acked_by, cache, is_live, is_silent, lives_on, meet, move, moved, or_retired, push, request_in, rested, retired, session_lives, told_of}
use Rattle.spec_trace.specs.Trace.{E, Item, M, entries}
use Rattle.spec_trace.specs.declared.mark.Mark.TheVariants as the
use Rattle.spec_trace.specs.declared.mark.Mark.{Mark}
use Rattle.std.proofs.Common.{Bool, List, [], ap, cond, false, nat_eq, refl, sym, true, ◌+◌, ◌++◌, ◌∙◌, ◌∷◌, ◌≡◌, ℕ}
use Rattle.std.proofs.lemmas.List.Sums.{fold-append}
use Rattle.std.proofs.lemmas.List.{append-nil}
use Rattle.std.specs.Option.{IfSome, option_map}
use Rattle.std.specs.Prelude.{None, Option, Some, max}

live_stage : (t : Stage) → is_live t ≡ true → t ≡ Live
live_stage Live h = refl
live_stage Retired h = cc
live_stage Ended h = cc

-- a live session behind an item
pub lives_to : (b : Base) (s : ℕ) (S : State) (i : Item) (v : Session) (t : Bool) → session_lives v ≡ true → is_silent b.silence (moved b s S v i) ≡ t → move b s S i v ≡ cond t (record (moved b s S v i) { stage = retired (moved b s S v i).stage }) (moved b s S v i)
lives_to b s S i v t h e =
    ap (λ (l : Bool). cond l (or_retired b (moved b s S v i)) (rested v i)) h
    ∙ ap (λ (u : Bool). cond u (record (moved b s S v i) { stage = retired (moved b s S v i).stage }) (moved b s S v i)) e

-- one that isn't silent by the item
pub moves : (b : Base) (s : ℕ) (S : State) (i : Item) (v : Session) → is_silent b.silence (moved b s S v i) ≡ false → session_lives v ≡ true → move b s S i v ≡ moved b s S v i
moves b s S i v q h = lives_to b s S i v false h q

-- one that is
pub retires : (b : Base) (s : ℕ) (S : State) (i : Item) (v : Session) → is_silent b.silence (moved b s S v i) ≡ true → session_lives v ≡ true → move b s S i v ≡ record (moved b s S v i) { stage = retired (moved b s S v i).stage }
retires b s S i v q h = lives_to b s S i v true h q

pub rests : (b : Base) (s : ℕ) (S : State) (i : Item) (v : Session) → session_lives v ≡ false → move b s S i v ≡ rested v i
rests b s S i v h = ap (λ (t : Bool). cond t (or_retired b (moved b s S v i)) (rested v i)) h

pub stays_dead : (v : Session) (i : Item) → session_lives v ≡ false → session_lives (rested v i) ≡ false
stays_dead v i h = by (lives_on v.client i)
  where
    by : (t : Bool) → is_live (cond t v.stage Ended) ≡ false
    by true = h
    by false = refl

-- a session that isn't live is none behind each item at which it doesn't begin
pub none_lives : (b : Base) (s : ℕ) (S : State) (i : Item) (o : Option Session) → lives o ≡ false → lives (option_map (move b s S i) o) ≡ false
none_lives b s S i None h = refl
none_lives b s S i (Some v) h = ap (λ (w : Session). session_lives w) (rests b s S i v h) ∙ stays_dead v i h

-- ---- items that aren't the session's

-- the mark is none of the session's, and no client connects at it
abbrev pub IsQuiet : ℕ → Mark → Type 0
IsQuiet s (the.Connected n c) = ⊥
IsQuiet s (the.Fetched n page upto) = nat_eq n s ≡ false
IsQuiet s (the.Granted n page) = nat_eq n s ≡ false
IsQuiet s (the.Took n k) = nat_eq n s ≡ false
IsQuiet s (the.Drew n t) = Unit {0}
IsQuiet s (the.Forgot t) = Unit {0}
IsQuiet s (the.Refused n q r) = Unit {0}

pub as_live : (v : Session) → session_lives v ≡ true → record v { stage = Live } ≡ v
as_live v h = ap (λ (t : Stage). record v { stage = t }) (sym (live_stage v.stage h))

quiet_moved : (b : Base) (s : ℕ) (S : State) (v : Session) (m : Mark) → IsQuiet s m → session_lives v ≡ true → moved b s S v (M m) ≡ v
quiet_moved b s S v (the.Connected n c) h l = absurd h
quiet_moved b s S v (the.Fetched n page upto) h l =
    ap (λ (t : Bool). record { client = v.client; stage = Live; began = v.began; pages = cond t (cache v.pages page S.length) v.pages; acked = cond t (max v.acked upto) v.acked; sent = push v.sent (cond t (Some (Page page S.length)) None); taken = v.taken }) h
    ∙ as_live v l
quiet_moved b s S v (the.Granted n page) h l =
    ap (λ (t : Bool). record { client = v.client; stage = Live; began = v.began; pages = cond t (cache v.pages page S.length) v.pages; acked = v.acked; sent = push v.sent (cond t (Some (Grant page S.length)) None); taken = v.taken }) h
    ∙ as_live v l
quiet_moved b s S v (the.Took n k) h l =
    ap (λ (t : Bool). record { client = v.client; stage = Live; began = v.began; pages = v.pages; acked = v.acked; sent = v.sent; taken = cond t (v.taken + 1) v.taken }) h
    ∙ as_live v l
quiet_moved b s S v (the.Drew n t) h l = as_live v l
quiet_moved b s S v (the.Forgot t) h l = as_live v l
quiet_moved b s S v (the.Refused n q r) h l = as_live v l

quiet_rested : (s : ℕ) (v : Session) (m : Mark) → IsQuiet s m → rested v (M m) ≡ v
quiet_rested s v (the.Connected n c) h = absurd h
quiet_rested s v (the.Fetched n page upto) h = refl
quiet_rested s v (the.Granted n page) h = refl
quiet_rested s v (the.Took n k) h = refl
quiet_rested s v (the.Drew n t) h = refl
quiet_rested s v (the.Forgot t) h = refl
quiet_rested s v (the.Refused n q r) h = refl

-- a session that is live isn't silent
abbrev pub IsHeard : Base → Option Session → Type 0
IsHeard b o = IfSome o (λ v. session_lives v ≡ true → is_silent b.silence v ≡ false)

quiet_met : (b : Base) (s : ℕ) (S : State) (m : Mark) (o : Option Session) → IsHeard b o → IsQuiet s m → option_map (move b s S (M m)) o ≡ o
quiet_met b s S m None q h = refl
quiet_met b s S m (Some v) q h = ap (λ (w : Session). Some w) (by (session_lives v) refl)
  where
    by : (t : Bool) → session_lives v ≡ t → move b s S (M m) v ≡ v
    by true l =
        let same : moved b s S v (M m) ≡ v = quiet_moved b s S v m h l in
        moves b s S (M m) v (ap (λ (w : Session). is_silent b.silence w) same ∙ q l) l ∙ same
    by false l = rests b s S (M m) v l ∙ quiet_rested s v m h

-- no client connects at the item
abbrev pub IsNoBeginning : Item → Type 0
IsNoBeginning (E e) = Unit {0}
IsNoBeginning (M (the.Connected n c)) = ⊥
IsNoBeginning (M (the.Fetched n page upto)) = Unit {0}
IsNoBeginning (M (the.Granted n page)) = Unit {0}
IsNoBeginning (M (the.Took n k)) = Unit {0}
IsNoBeginning (M (the.Drew n t)) = Unit {0}
IsNoBeginning (M (the.Forgot t)) = Unit {0}
IsNoBeginning (M (the.Refused n q r)) = Unit {0}

pub met : (b : Base) (s : ℕ) (S : State) (o : Option Session) (i : Item) → IsNoBeginning i → meet b s S o i ≡ option_map (move b s S i) o
met b s S o (E e) h = refl
met b s S o (M (the.Connected n c)) h = absurd h
met b s S o (M (the.Fetched n page upto)) h = refl
met b s S o (M (the.Granted n page)) h = refl
met b s S o (M (the.Took n k)) h = refl
met b s S o (M (the.Drew n t)) h = refl
met b s S o (M (the.Forgot t)) h = refl
met b s S o (M (the.Refused n q r)) h = refl

pub uncounted : (i : Item) → IsNoBeginning i → connected_at i ≡ 0
uncounted (E e) h = refl
uncounted (M (the.Connected n c)) h = absurd h
uncounted (M (the.Fetched n page upto)) h = refl
uncounted (M (the.Granted n page)) h = refl
uncounted (M (the.Took n k)) h = refl
uncounted (M (the.Drew n t)) h = refl
uncounted (M (the.Forgot t)) h = refl
uncounted (M (the.Refused n q r)) h = refl

quiet_begins_none : (s : ℕ) (m : Mark) → IsQuiet s m → IsNoBeginning (M m)
quiet_begins_none s (the.Connected n c) h = absurd h
quiet_begins_none s (the.Fetched n page upto) h = tt
quiet_begins_none s (the.Granted n page) h = tt
quiet_begins_none s (the.Took n k) h = tt
quiet_begins_none s (the.Drew n t) h = tt
quiet_begins_none s (the.Forgot t) h = tt
quiet_begins_none s (the.Refused n q r) h = tt

-- a mark that is none of the session's leaves it as it was
pub quiet : (b : Base) (s : ℕ) (S : State) (m : Mark) (o : Option Session) → IsHeard b o → IsQuiet s m → meet b s S o (M m) ≡ o
quiet b s S m o q h = met b s S o (M m) (quiet_begins_none s m h) ∙ quiet_met b s S m o q h

-- ---- the trace behind an item

pub behind_mark : (T : List Item) (m : Mark) → entries (T ++ M m ∷ []) ≡ entries T
behind_mark T m = entries-append T (M m ∷ []) ∙ append-nil (entries T)

pub behind_entry : (T : List Item) (e : Entry) → entries (T ++ E e ∷ []) ≡ entries T ++ e ∷ []
behind_entry T e = entries-append T (E e ∷ [])

pub last_behind : (T : List Item) (i : Item) → last_session (T ++ i ∷ []) ≡ max (last_session T) (connected_at i)
last_behind T i = fold-append (λ (n : ℕ) (j : Item). max n (connected_at j)) 0 T (i ∷ [])

-- ---- items of the session's own

pub fetched : (b : Base) (s : ℕ) (S : State) (v : Session) (n page upto : ℕ) → nat_eq n s ≡ true → session_lives v ≡ true
    → moved b s S v (M (the.Fetched n page upto)) ≡ record v { pages = cache v.pages page S.length; acked = max v.acked upto; sent = v.sent ++ Page page S.length ∷ [] }
fetched b s S v n page upto h l =
    ap (λ (t : Bool). record { client = v.client; stage = Live; began = v.began; pages = cond t (cache v.pages page S.length) v.pages; acked = cond t (max v.acked upto) v.acked; sent = push v.sent (cond t (Some (Page page S.length)) None); taken = v.taken }) h
    ∙ ap (λ (t : Stage). record { client = v.client; stage = t; began = v.began; pages = cache v.pages page S.length; acked = max v.acked upto; sent = v.sent ++ Page page S.length ∷ []; taken = v.taken }) (sym (live_stage v.stage l))

pub granted : (b : Base) (s : ℕ) (S : State) (v : Session) (n page : ℕ) → nat_eq n s ≡ true → session_lives v ≡ true
    → moved b s S v (M (the.Granted n page)) ≡ record v { pages = cache v.pages page S.length; sent = v.sent ++ Grant page S.length ∷ [] }
granted b s S v n page h l =
    ap (λ (t : Bool). record { client = v.client; stage = Live; began = v.began; pages = cond t (cache v.pages page S.length) v.pages; acked = v.acked; sent = push v.sent (cond t (Some (Grant page S.length)) None); taken = v.taken }) h
    ∙ ap (λ (t : Stage). record { client = v.client; stage = t; began = v.began; pages = cache v.pages page S.length; acked = v.acked; sent = v.sent ++ Grant page S.length ∷ []; taken = v.taken }) (sym (live_stage v.stage l))

pub took : (b : Base) (s : ℕ) (S : State) (v : Session) (n k : ℕ) → nat_eq n s ≡ true → session_lives v ≡ true
    → moved b s S v (M (the.Took n k)) ≡ record v { taken = v.taken + 1 }
took b s S v n k h l =
    ap (λ (t : Bool). record { client = v.client; stage = Live; began = v.began; pages = v.pages; acked = v.acked; sent = v.sent; taken = cond t (v.taken + 1) v.taken }) h
    ∙ ap (λ (t : Stage). record { client = v.client; stage = t; began = v.began; pages = v.pages; acked = v.acked; sent = v.sent; taken = v.taken + 1 }) (sym (live_stage v.stage l))

-- an entry that is no Life
pub came : (b : Base) (s : ℕ) (S : State) (v : Session) (e : Entry) (cs : List (ℕ × Request)) → is_life e ≡ false → session_lives v ≡ true → commit_of b S e ≡ cs
    → moved b s S v (E e) ≡ record v { acked = acked_by s v.acked (request_in e); sent = push v.sent (told_of s S v.pages cs) }
came b s S v e cs h l c =
    ap (λ (t : Bool). record { client = v.client; stage = cond (cond t false true) Live Ended; began = v.began; pages = v.pages; acked = acked_by s v.acked (request_in e); sent = push v.sent (told_of s S v.pages (commit_of b S e)); taken = v.taken }) h
    ∙ ap (λ (ds : List (ℕ × Request)). record { client = v.client; stage = Live; began = v.began; pages = v.pages; acked = acked_by s v.acked (request_in e); sent = push v.sent (told_of s S v.pages ds); taken = v.taken }) c
    ∙ ap (λ (t : Stage). record { client = v.client; stage = t; began = v.began; pages = v.pages; acked = acked_by s v.acked (request_in e); sent = push v.sent (told_of s S v.pages cs); taken = v.taken }) (sym (live_stage v.stage l))

-- a Life ends each session, also one that is silent by then
pub ended_by_life : (b : Base) (s : ℕ) (S : State) (e : Entry) (o : Option Session) → is_life e ≡ true → lives (meet b s S o (E e)) ≡ false
ended_by_life b s S e None h = refl
ended_by_life b s S e (Some v) h = by (session_lives v) refl
  where
    ends : is_live (moved b s S v (E e)).stage ≡ false
    ends = ap (λ (t : Bool). is_live (cond (cond t false true) Live Ended)) h

    retired_ends : is_live (retired (moved b s S v (E e)).stage) ≡ false
    retired_ends = ap (λ (t : Bool). is_live (retired (cond (cond t false true) Live Ended))) h

    either : (u : Bool) → session_lives (cond u (record (moved b s S v (E e)) { stage = retired (moved b s S v (E e)).stage }) (moved b s S v (E e))) ≡ false
    either true = retired_ends
    either false = ends

    by : (t : Bool) → session_lives v ≡ t → session_lives (move b s S (E e) v) ≡ false
    by true l =
        let u : Bool = is_silent b.silence (moved b s S v (E e)) in
        ap (λ (w : Session). session_lives w) (lives_to b s S (E e) v u l refl) ∙ either u
    by false l = ap (λ (w : Session). session_lives w) (rests b s S (E e) v l) ∙ stays_dead v (E e) l

-- and none is retired then
pub retired_by_life : (b : Base) (s : ℕ) (S : State) (e : Entry) (o : Option Session) → is_life e ≡ true → retired_client_of (meet b s S o (E e)) ≡ None
retired_by_life b s S e None h = refl
retired_by_life b s S e (Some v) h = by (session_lives v) refl
  where
    either : (u : Bool) → retired_client_of (Some (cond u (record (moved b s S v (E e)) { stage = retired (moved b s S v (E e)).stage }) (moved b s S v (E e)))) ≡ None
    either true = ap (λ (t : Bool). retired_at (retired (cond (cond t false true) Live Ended)) v.client) h
    either false = ap (λ (t : Bool). retired_at (cond (cond t false true) Live Ended) v.client) h

    by : (t : Bool) → session_lives v ≡ t → retired_client_of (Some (move b s S (E e) v)) ≡ None
    by true l =
        let u : Bool = is_silent b.silence (moved b s S v (E e)) in
        ap (λ (w : Session). retired_client_of (Some w)) (lives_to b s S (E e) v u l refl) ∙ either u
    by false l = ap (λ (w : Session). retired_client_of (Some w)) (rests b s S (E e) v l) ∙ ap (λ (t : Bool). retired_at (cond (cond t false true) v.stage Ended) v.client) h
