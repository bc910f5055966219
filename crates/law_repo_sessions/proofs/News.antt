-- The places of the news that a session's client hasn't acknowledged.
use Rattle.cached_sets.specs.Meaning.{NeverFall}
use Rattle.cached_sets.specs.Noted as places
use Rattle.cached_sets.specs.Noted.{most_noted, places_of}
use Rattle.log_entries.specs.declared.entry.Entry.{Entry}
use Rattle.repo_sessions.specs.Sessions.{Kept}
use Rattle.spec_history.specs.History.{Base, State, epoch_of}
use Rattle.law_repo_sessions.proofs.Traced.{IsHeard}
use Rattle.law_repo_sessions.proofs.Written.{push_list}
use Rattle.law_repo_sessions.specs.Agreeing.{SessionAgrees, SessionsAgree, news_places, unanswered_by}
use Rattle.spec_trace.proofs.Sessions.{keeps-order}
use Rattle.spec_trace.specs.Messages.{InOrder, KeepsOrder}
use Rattle.spec_trace.specs.Session as sessions
use Rattle.spec_trace.specs.Session.{Grant, Invalid, Notice, Page, Session, Upgrade, bound, invalid_of, is_news, place_of, push, session, session_lives, told, unanswered}
use Rattle.spec_trace.specs.Trace.{Item, entries}
use Rattle.std.proofs.Common.{Bool, List, [], ap, arith, cond, false, length, map, nat_eq, nat_le, refl, subst, sym, true, ◌+◌, ◌++◌, ◌∙◌, ◌∷◌, ◌≡◌, ◌≤◌, ℕ}
use Rattle.std.proofs.lemmas.Bool.Decides.{nat_tests}
use Rattle.std.proofs.lemmas.List.Elements.{filter-append}
use Rattle.std.proofs.lemmas.List.Sums.{length-filter}
use Rattle.std.proofs.lemmas.List.{append-nil, length-map, map-append}
use Rattle.std.specs.List.{AllByRecursion, filter}
use Rattle.log_entries.specs.declared.request.Request.{Request}
use Rattle.session_outbox.specs.Messages as messages
use Rattle.session_outbox.specs.declared.message.Message.TheVariants as their
use Rattle.session_outbox.specs.declared.message.Message.{Message}
use Rattle.spec_history.specs.Requests.{is_upgrade, written}
use Rattle.spec_trace.specs.Notices.{notice_of}
use Rattle.std.specs.Option.{IfSome, option_to_list}
use Rattle.std.specs.Ordering.{nat_cmp}
use Rattle.std.specs.Prelude.{None, Option, Some, max, nat_lt, ◌&&◌}
use Rattle.thor_value.specs.FiniteMap.{Map, has, keys}
use Rattle.thor_value.specs.declared.names.Oref.{Oref}

-- whether a message is news that isn't acknowledged
abbrev pub is_open_news : ℕ → Notice → Bool
is_open_news acked m = is_news m && nat_le acked (place_of m)

pub news_counted : (v : Session) → length (news_places v) ≡ unanswered v
news_counted v = length-map (filter (is_open_news v.acked) v.sent) place_of ∙ length-filter (is_open_news v.acked) v.sent

-- what is kept of a live session tells whether it is silent
pub heard_at : (b : Base) (H : List Entry) (K : Kept) (s : ℕ) (v : Session) (t : Bool) → b.silence ≡ Some most_noted → SessionAgrees b H K s (Some v) → session_lives v ≡ true → places.is_silent K.sets.noted s ≡ t → sessions.is_silent b.silence v ≡ t
heard_at b H K s v t silence g l e =
    ap (λ (o : Option ℕ). sessions.is_silent o v) silence
    ∙ ap (λ (n : ℕ). nat_lt most_noted n) (sym (ap (λ (ks : List ℕ). length ks) (g.notes ∙ ap (λ (u : Bool). cond u (news_places v) []) l) ∙ news_counted v))
    ∙ e

-- none that is live is silent
pub heard_there : (b : Base) (T : List Item) (K : Kept) (s : ℕ) → SessionsAgree b T K → IsHeard b (session b T s)
heard_there b T K s a = by (session b T s) (a.each s)
  where
    by : (o : Option Session) → SessionAgrees b (entries T) K s o → IsHeard b o
    by None g = tt
    by (Some v) g = λ l. heard_at b (entries T) K s v false a.silence g l (a.heard s)

-- an answer to a call is no news
pub quiet_push : (v : Session) (m : Notice) → is_news m ≡ false → map place_of (filter (is_open_news v.acked) (v.sent ++ m ∷ [])) ≡ news_places v
quiet_push v m h =
    ap (map place_of)
    (filter-append (is_open_news v.acked) v.sent (m ∷ [])
    ∙ ap (λ (t : Bool). filter (is_open_news v.acked) v.sent ++ cond (t && nat_le v.acked (place_of m)) (m ∷ []) []) h
    ∙ append-nil (filter (is_open_news v.acked) v.sent))

-- ---- what is told of a commit

-- it isn't acknowledged
told_open : (s : ℕ) (S : State) (pages : Map nat_cmp ℕ) (q : Request) (acked : ℕ) → acked ≤ S.length → filter (is_open_news acked) (option_to_list (told s S pages q)) ≡ option_to_list (told s S pages q)
told_open s S pages q acked low = by (is_upgrade q) (nat_eq q.session s)
  where
    is_open : (i j : ℕ) → i ≤ j → nat_le i j ≡ true
    is_open i j l = grind (arith, nat_tests)

    here : nat_le acked S.length ≡ true
    here = is_open acked S.length low

    of_names : (names : List Oref) → filter (is_open_news acked) (option_to_list (invalid_of names S.length)) ≡ option_to_list (invalid_of names S.length)
    of_names [] = refl
    of_names (x ∷ xs) = ap (λ (t : Bool). cond t (Invalid (x ∷ xs) S.length ∷ []) []) here

    by : (u own : Bool) → filter (is_open_news acked) (option_to_list (cond u (Some (Upgrade (epoch_of S + 1) S.length)) (cond own None (invalid_of (filter (λ x. has pages x.page) (keys (written q))) S.length))))
        ≡ option_to_list (cond u (Some (Upgrade (epoch_of S + 1) S.length)) (cond own None (invalid_of (filter (λ x. has pages x.page) (keys (written q))) S.length)))
    by true own = ap (λ (t : Bool). cond t (Upgrade (epoch_of S + 1) S.length ∷ []) []) here
    by false true = refl
    by false false = of_names (filter (λ x. has pages x.page) (keys (written q)))

pub news_more : (s : ℕ) (S : State) (v : Session) (q : Request) → v.acked ≤ S.length
    → map place_of (filter (is_open_news v.acked) (push v.sent (told s S v.pages q))) ≡ news_places v ++ map place_of (option_to_list (told s S v.pages q))
news_more s S v q low =
    ap (λ (ms : List Notice). map place_of (filter (is_open_news v.acked) ms)) (push_list v.sent (told s S v.pages q))
    ∙ ap (map place_of) (filter-append (is_open_news v.acked) v.sent (option_to_list (told s S v.pages q)) ∙ ap (λ (ms : List Notice). filter (is_open_news v.acked) v.sent ++ ms) (told_open s S v.pages q v.acked low))
    ∙ map-append place_of (filter (is_open_news v.acked) v.sent) (option_to_list (told s S v.pages q))

-- a message and its notice have one place
one_place : (m : Message) → messages.place_of m ≡ place_of (notice_of m)
one_place (their.Page page bytes k) = refl
one_place (their.Grant page k) = refl
one_place (their.Invalid names k) = refl
one_place (their.Upgrade number text k) = refl

pub same_places : (ms : List Message) → map messages.place_of ms ≡ map place_of (map notice_of ms)
same_places [] = refl
same_places (m ∷ ms) = ap (λ (k : ℕ). k ∷ map messages.place_of ms) (one_place m) ∙ ap (λ (ks : List ℕ). place_of (notice_of m) ∷ ks) (same_places ms)

-- ---- what is acknowledged

-- where the session is the one that acknowledges
abbrev pub acked_where : Bool → ℕ → Session → Session
acked_where t upto v = record v { acked = cond t (max v.acked upto) v.acked }

both_below : (a upto k : ℕ) → nat_le (max a upto) k ≡ (nat_le a k && nat_le upto k)
both_below a upto k = grind (arith, nat_tests)

pub news_acknowledged : (t : Bool) (upto : ℕ) (v : Session) → cond t (filter (nat_le upto) (news_places v)) (news_places v) ≡ news_places (acked_where t upto v)
news_acknowledged false upto v = refl
news_acknowledged true upto v = each v.sent
  where
    each : (ms : List Notice) → filter (nat_le upto) (map place_of (filter (is_open_news v.acked) ms)) ≡ map place_of (filter (is_open_news (max v.acked upto)) ms)
    each [] = refl
    each (m ∷ ms) = rw (both_below v.acked upto (place_of m)) (by (is_news m) (nat_le v.acked (place_of m)) (nat_le upto (place_of m)) refl (each ms))
      where
        by : (news open' : Bool) (high : Bool) → nat_le upto (place_of m) ≡ high → filter (nat_le upto) (map place_of (filter (is_open_news v.acked) ms)) ≡ map place_of (filter (is_open_news (max v.acked upto)) ms)
            → filter (nat_le upto) (map place_of (cond (news && open') (m ∷ filter (is_open_news v.acked) ms) (filter (is_open_news v.acked) ms)))
            ≡ map place_of (cond (news && (open' && high)) (m ∷ filter (is_open_news (max v.acked upto)) ms) (filter (is_open_news (max v.acked upto)) ms))
        by true true true e more = rw e (ap (λ (ks : List ℕ). place_of m ∷ ks) more)
        by true true false e more = rw e more
        by true false high e more = more
        by false open' high e more = more

-- ---- the places of news never fall

open_bound : (m : Notice) → place_of m ≤ bound m
open_bound (Page p k) = omega arith
open_bound (Grant p k) = omega arith
open_bound (Invalid xs k) = omega arith
open_bound (Upgrade n k) = omega arith

lower : (a c : ℕ) (ms : List Notice) → a ≤ c → InOrder c ms → InOrder a ms
lower a c [] l h = tt
lower a c (m ∷ ms) l h = let e : c ≤ place_of m = h.0 in (omega arith, h.1)

all_from : (acked a : ℕ) (ms : List Notice) → InOrder a ms → AllByRecursion (λ j. a ≤ j) (map place_of (filter (is_open_news acked) ms))
all_from acked a [] h = tt
all_from acked a (m ∷ ms) h = by (is_open_news acked m) (all_from acked a ms (lower a (bound m) ms (let e : a ≤ place_of m = h.0 in let f : place_of m ≤ bound m = open_bound m in omega arith) h.1))
  where
    by : (t : Bool) → AllByRecursion (λ j. a ≤ j) (map place_of (filter (is_open_news acked) ms)) → AllByRecursion (λ j. a ≤ j) (map place_of (cond t (m ∷ filter (is_open_news acked) ms) (filter (is_open_news acked) ms)))
    by true more = (h.0, more)
    by false more = more

rise_from : (acked a : ℕ) (ms : List Notice) → InOrder a ms → NeverFall (map place_of (filter (is_open_news acked) ms))
rise_from acked a [] h = tt
rise_from acked a (m ∷ ms) h = by (is_open_news acked m) (rise_from acked (bound m) ms h.1)
  where
    by : (t : Bool) → NeverFall (map place_of (filter (is_open_news acked) ms)) → NeverFall (map place_of (cond t (m ∷ filter (is_open_news acked) ms) (filter (is_open_news acked) ms)))
    by true more = (all_from acked (place_of m) ms (lower (place_of m) (bound m) ms (open_bound m) h.1), more)
    by false more = more

pub news_rise : (b : Base) (T : List Item) (K : Kept) (s : ℕ) → SessionsAgree b T K → NeverFall (places_of K.sets.noted s)
news_rise b T K s a = subst NeverFall (sym (a.each s).notes) (by (session b T s) (keeps-order b T s))
  where
    by : (o : Option Session) → IfSome o (λ v. KeepsOrder v (length (entries T))) → NeverFall (unanswered_by o)
    by None h = tt
    by (Some v) h = at (session_lives v)
      where
        at : (t : Bool) → NeverFall (cond t (news_places v) [])
        at true = rise_from v.acked v.began v.sent h.rise
        at false = tt
