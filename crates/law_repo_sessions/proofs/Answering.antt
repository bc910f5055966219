-- What is answered by what is kept of a session is what the trace says.
use Rattle.cached_sets.specs.Invalid.{if_behind, set_of}
use Rattle.cached_sets.specs.Sets as sets
use Rattle.log_entries.specs.declared.request.Request.{Request}
use Rattle.repo_sessions.specs.Sessions.{Kept, is_live, has_session}
use Rattle.spec_history.specs.History.{Base}
use Rattle.session_outbox.specs.Messages as messages
use Rattle.session_outbox.specs.Messages.{first}
use Rattle.session_outbox.specs.Outbox as outbox
use Rattle.session_outbox.specs.declared.message.Message.TheVariants as their
use Rattle.session_outbox.specs.declared.message.Message.{Message}
use Rattle.law_repo_sessions.proofs.Marked.{live_session}
use Rattle.law_repo_sessions.proofs.Written.{names_are}
use Rattle.law_repo_sessions.specs.Agreeing.{SessionAgrees, SessionsAgree, retired_at}
use Rattle.spec_trace.specs.Notices.{lives, notice_of, is_unended}
use Rattle.spec_trace.specs.Exact.{IsLiveAnd, MarkIsExact, WaitsAt}
use Rattle.spec_trace.specs.Calls.{last_session}
use Rattle.spec_trace.specs.Session.{Ended, Live, Notice, Retired, Session, Stage, invalid, is_ended, is_live as is_live_stage, place_of, session, session_lives}
use Rattle.spec_trace.specs.Trace.{Item, entries}
use Rattle.spec_trace.specs.Verdict.{stale, stale_from}
use Rattle.spec_trace.specs.declared.mark.Mark.TheVariants as the
use Rattle.std.proofs.Common.{Bool, List, [], ap, arith, cond, drop, false, length, map, nat_le, refl, subst, sym, true, ◌+◌, ◌<◌, ◌^◌, ◌∙◌, ◌∷◌, ◌≡◌, ◌≤◌, ℕ}
use Rattle.std.specs.List.{slice_get}
use Rattle.std.specs.Option.{IsSomeAnd, is_some, option_and_then, option_map, option_or}
use Rattle.std.specs.Prelude.{None, Option, Some, not, suc, zero, ◌||◌}
use Rattle.thor_value.specs.FiniteMap.{get, has}
use Rattle.thor_value.specs.declared.names.Oref.{Oref}
use Rattle.validation_queue.specs.Clashes.{first_some}
use Rattle.validation_queue.specs.Names.{Rises}
use Rattle.base_reasons.specs.declared.reason.Reason.TheVariants as reasons
use Rattle.repo_refusals.specs.declared.refusal.Refusal.TheVariants as refused
use Rattle.repo_refusals.specs.declared.refusal.Refusal.{Refusal}

-- ---- who is live

pub live_answer : (b : Base) (T : List Item) (K : Kept) (s : ℕ) → SessionsAgree b T K → is_live K s ≡ lives (session b T s)
live_answer b T K s a = by (session b T s) (a.each s)
  where
    by : (o : Option Session) → SessionAgrees b (entries T) K s o → is_live K s ≡ lives o
    by None g = ap (λ (p : Option ℕ). is_some p) g.client
    by (Some v) g = ap (λ (p : Option ℕ). is_some p) g.client ∙ at (session_lives v)
      where
        at : (t : Bool) → is_some (cond t (Some v.client) None) ≡ t
        at true = refl
        at false = refl

-- ---- who has ended

pub unended_answer : (b : Base) (T : List Item) (K : Kept) (s : ℕ) → SessionsAgree b T K → has_session K s ≡ is_unended (session b T s)
unended_answer b T K s a = by (session b T s) (a.each s)
  where
    by : (o : Option Session) → SessionAgrees b (entries T) K s o → has_session K s ≡ is_unended o
    by None g = ap (λ (p : Option ℕ). is_some p || has K.retired s) g.client ∙ ap (λ (p : Option ℕ). is_some p) g.retired
    by (Some v) g =
        ap (λ (p : Option ℕ). is_some p || has K.retired s) g.client
        ∙ ap (λ (p : Option ℕ). is_some (cond (session_lives v) (Some v.client) None) || is_some p) g.retired
        ∙ at v.stage
      where
        at : (t : Stage) → (is_some (cond (is_live_stage t) (Some v.client) None) || is_some (retired_at t v.client)) ≡ not (is_ended t)
        at Live = refl
        at Retired = refl
        at Ended = refl

is_some_and : (o : Option Session) (P : Session → Type 0) (v : Session) → o ≡ Some v → P v → IsSomeAnd o P
is_some_and o P v e p = subst (λ (q : Option Session). IsSomeAnd q P) (sym e) p

live_and : (b : Base) (T : List Item) (K : Kept) (s : ℕ) (P : Session → Type 0) → SessionsAgree b T K → is_live K s ≡ true → ((v : Session) → session b T s ≡ Some v → session_lives v ≡ true → P v) → IsLiveAnd b T s P
live_and b T K s P a h p =
    let x = live_session b (entries T) K s (session b T s) (a.each s) h in
    is_some_and (session b T s) (λ v. (session_lives v ≡ true) × P v) x.0 x.1 (x.2, p x.0 x.1 x.2)

pub live_there : (b : Base) (T : List Item) (K : Kept) (s : ℕ) → SessionsAgree b T K → is_live K s ≡ true → IsSomeAnd (session b T s) (λ v. session_lives v ≡ true)
live_there b T K s a h =
    let x = live_session b (entries T) K s (session b T s) (a.each s) h in
    is_some_and (session b T s) (λ v. session_lives v ≡ true) x.0 x.1 x.2

-- ---- what is stale

-- a stale object as a refusal
abbrev pub stale_of : Oref × ℕ → Refusal
stale_of p = refused.Reason (reasons.Stale p.0 p.1)

map_or : (o p : Option (Oref × ℕ)) → option_map stale_of (option_or o p) ≡ option_or (option_map stale_of o) (option_map stale_of p)
map_or None p = refl
map_or (Some x) p = refl

first_mapped : (f : Oref → Option (Oref × ℕ)) (g : Oref → Option Refusal) (names : List Oref) → ((x : Oref) → option_map stale_of (f x) ≡ g x) → option_map stale_of (first_some f names) ≡ first_some g names
first_mapped f g [] h = refl
first_mapped f g (x ∷ xs) h =
    map_or (f x) (first_some f xs)
    ∙ ap (λ (o : Option Refusal). option_or o (option_map stale_of (first_some f xs))) (h x)
    ∙ ap (option_or (g x)) (first_mapped f g xs h)

pub stale_answer : (b : Base) (T : List Item) (K : Kept) (s : ℕ) (v : Session) (names : List Oref) (upto : ℕ) → SessionsAgree b T K → session b T s ≡ Some v
    → option_map stale_of (sets.stale K.sets s names upto) ≡ first_some (λ x. option_and_then (stale_from upto x) (invalid b (entries T) s v x)) names
stale_answer b T K s v names upto a is = first_mapped (λ x. option_and_then (if_behind upto x) (get (set_of K.sets.invalid s) x)) (λ x. option_and_then (stale_from upto x) (invalid b (entries T) s v x)) names (λ x.
    ap (λ (o : Option ℕ). option_map stale_of (option_and_then (if_behind upto x) o)) ((subst (SessionAgrees b (entries T) K s) is (a.each s)).invalid x) ∙ at x (invalid b (entries T) s v x))
  where
    at : (x : Oref) (o : Option ℕ) → option_map stale_of (option_and_then (if_behind upto x) o) ≡ option_and_then (stale_from upto x) o
    at x None = refl
    at x (Some k) = by (nat_le upto k)
      where
        by : (t : Bool) → option_map stale_of (cond t (Some (x, k)) None) ≡ cond t (Some (refused.Reason (reasons.Stale x k))) None
        by true = refl
        by false = refl

pub stale_none : (b : Base) (T : List Item) (K : Kept) (s : ℕ) (v : Session) (names : List Oref) (upto : ℕ) → SessionsAgree b T K → session b T s ≡ Some v → sets.stale K.sets s names upto ≡ None
    → first_some (λ x. option_and_then (stale_from upto x) (invalid b (entries T) s v x)) names ≡ None
stale_none b T K s v names upto a is h = sym (stale_answer b T K s v names upto a is) ∙ ap (option_map stale_of) h

-- of a request whose names rise it is the definition's
pub stale_request : (b : Base) (T : List Item) (K : Kept) (s : ℕ) (v : Session) (q : Request) → SessionsAgree b T K → session b T s ≡ Some v → Rises q.ros
    → option_map stale_of (sets.stale K.sets s q.ros q.upto) ≡ stale b (entries T) s v q
stale_request b T K s v q a is h =
    stale_answer b T K s v q.ros q.upto a is
    ∙ ap (λ (ns : List Oref). first_some (λ x. option_and_then (stale_from q.upto x) (invalid b (entries T) s v x)) ns) (sym (names_are q.ros h))

-- ---- what waits

first_mapped_message : (ms : List Message) → option_map notice_of (first ms) ≡ slice_get (map notice_of ms) 0
first_mapped_message [] = refl
first_mapped_message (m ∷ ms) = refl

first_left : (n : ℕ) (xs : List Notice) → slice_get (drop n xs) 0 ≡ slice_get xs n
first_left zero xs = refl
first_left (suc n) [] = refl
first_left (suc n) (x ∷ xs) = first_left n xs

pub next_message : (b : Base) (T : List Item) (K : Kept) (s : ℕ) (v : Session) → SessionsAgree b T K → session b T s ≡ Some v → session_lives v ≡ true → option_map notice_of (first (outbox.waiting K.waiting s)) ≡ slice_get v.sent v.taken
next_message b T K s v a is l =
    first_mapped_message (outbox.waiting K.waiting s)
    ∙ ap (λ (ms : List Notice). slice_get ms 0) ((subst (SessionAgrees b (entries T) K s) is (a.each s)).waits ∙ ap (λ (t : Bool). cond t (drop v.taken v.sent) []) l)
    ∙ first_left v.taken v.sent

pub same_place : (m : Message) → place_of (notice_of m) ≡ messages.place_of m
same_place (their.Page page bytes k) = refl
same_place (their.Grant page k) = refl
same_place (their.Invalid names k) = refl
same_place (their.Upgrade number text k) = refl

-- ---- what marks owe

pub connected_exact : (b : Base) (T : List Item) (K : Kept) (client s : ℕ) → SessionsAgree b T K → s ≡ K.last + 1 → s < 2 ^ 32 → 0 < length (entries T) → MarkIsExact b T (the.Connected s client)
connected_exact b T K client s a new low begun = let e : s ≡ K.last + 1 = new in let f : K.last ≡ last_session T = a.last in (higher (last_session T) e f, low, begun)
  where
    higher : (k : ℕ) → s ≡ K.last + 1 → K.last ≡ k → k < s
    higher k e f = omega arith

pub fetched_exact : (b : Base) (T : List Item) (K : Kept) (s page upto : ℕ) → SessionsAgree b T K → is_live K s ≡ true → upto ≤ length (entries T) → MarkIsExact b T (the.Fetched s page upto)
fetched_exact b T K s page upto a h u = live_and b T K s (λ v. upto ≤ length (entries T)) a h (λ v is l. u)

pub taken_exact : (b : Base) (T : List Item) (K : Kept) (s : ℕ) (m : Message) → SessionsAgree b T K → is_live K s ≡ true → first (outbox.waiting K.waiting s) ≡ Some m → MarkIsExact b T (the.Took s (messages.place_of m))
taken_exact b T K s m a h f = live_and b T K s (WaitsAt (messages.place_of m)) a h (λ v is l.
    let e : slice_get v.sent v.taken ≡ Some (notice_of m) = sym (next_message b T K s v a is l) ∙ ap (option_map notice_of) f in
    subst (λ (o : Option Notice). IsSomeAnd o (λ n. place_of n ≡ messages.place_of m)) (sym e) (same_place m))
