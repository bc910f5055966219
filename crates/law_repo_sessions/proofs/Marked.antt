-- What is kept of the sessions says what the trace says, behind each mark.
use Rattle.cached_sets.proofs.Meaning as meaning
use Rattle.cached_sets.proofs.Ordering as ordering
use Rattle.cached_sets.proofs.Ordering.{ordered_from, ordered_opened}
use Rattle.cached_sets.proofs.Places as places
use Rattle.cached_sets.specs.Meaning.{NeverFall, has_page, place_in, unless_below}
use Rattle.cached_sets.specs.Noted.{is_silent, places_of}
use Rattle.cached_sets.specs.Sets as sets
use Rattle.log_entries.specs.declared.entry.Entry.{Entry}
use Rattle.repo_sessions.specs.Sessions.{Kept, acknowledged, is_live, sent, taken}
use Rattle.spec_history.proofs.Growth.{length-state}
use Rattle.spec_history.specs.History.{Base, State, state, writers}
use Rattle.session_outbox.proofs.Ordered.{behind_push, behind_take}
use Rattle.session_outbox.specs.Messages as messages
use Rattle.session_outbox.specs.Messages.{first}
use Rattle.session_outbox.specs.Outbox as outbox
use Rattle.session_outbox.specs.declared.message.Message.TheVariants as their
use Rattle.session_outbox.specs.declared.message.Message.{Message}
use Rattle.law_repo_sessions.proofs.Invalidated.{acknowledged_place, cached_place, dead_place, has_cache, last_is_below, live_place, place_where}
use Rattle.law_repo_sessions.proofs.News.{acked_where, heard_at, heard_there, news_acknowledged, news_rise, quiet_push}
use Rattle.law_repo_sessions.proofs.Seen.{kept_acknowledged, place_cached, pushed_order, set_cached, taken_order}
use Rattle.law_repo_sessions.proofs.Traced.{IsNoBeginning, IsQuiet, behind_mark, fetched, granted, last_behind, met, moves, quiet, took, uncounted}
use Rattle.law_repo_sessions.specs.Agreeing.{AreInOrder, SessionAgrees, SessionsAgree, news_places, retired_client_of}
use Rattle.spec_trace.specs.Notices.{lives, notice_of}
use Rattle.spec_trace.proofs.Sessions.{session-end}
use Rattle.spec_trace.specs.Calls.{last_session}
use Rattle.spec_trace.specs.Session as stages
use Rattle.spec_trace.specs.Session.{Grant, Notice, Page, Session, cache, is_news, last_other, meet, move, moved, session, session_lives}
use Rattle.spec_trace.specs.Trace.{Item, M, entries}
use Rattle.spec_trace.specs.declared.mark.Mark.TheVariants as the
use Rattle.spec_trace.specs.declared.mark.Mark.{Mark}
use Rattle.std.proofs.Common.{add-one, Bool, List, [], ap, arith, cond, drop, false, length, map, nat_eq, nat_le, refl, subst, sym, true, ◌+◌, ◌++◌, ◌<◌, ◌∙◌, ◌∷◌, ◌≡◌, ◌≤◌, ℕ}
use Rattle.std.proofs.lemmas.Bool.{eqb-true}
use Rattle.std.proofs.lemmas.List.{append-nil, length-append, map-append}
use Rattle.std.specs.List.{filter}
use Rattle.std.specs.Option.{IfSome, is_some, option_and_then, option_map, option_to_list}
use Rattle.std.specs.Prelude.{None, Option, Some, max, suc, zero, ◌&&◌, ◌||◌, ◌↔◌, ◌⊎◌}
use Rattle.thor_value.specs.FiniteMap.{get, has}
use Rattle.thor_value.specs.declared.names.Oref.{Oref}

-- ---- lists

pub drop_more : {X : Type 0} (n : ℕ) (xs ys : List X) → n ≤ length xs → drop n (xs ++ ys) ≡ drop n xs ++ ys
drop_more zero xs ys h = refl
drop_more (suc n) [] ys h = absurd (omega arith)
drop_more (suc n) (x ∷ xs) ys h = drop_more n xs ys (omega arith)

drop_one : {X : Type 0} (n : ℕ) (xs : List X) → drop (suc n) xs ≡ drop 1 (drop n xs)
drop_one zero xs = refl
drop_one (suc n) [] = refl
drop_one (suc n) (x ∷ xs) = drop_one n xs

pub drop_next : {X : Type 0} (n : ℕ) (xs : List X) → drop (n + 1) xs ≡ drop 1 (drop n xs)
drop_next n xs = rw add-one (drop_one n xs)

-- ---- one session

-- one that isn't live: nothing is kept of it
pub record IsAway (K : Kept) (s : ℕ) : Type 0 where
  pub client : get K.clients s ≡ None
  pub notes : places_of K.sets.noted s ≡ []
  pub pages : (page : ℕ) → has_page K.sets s page ≡ false
  pub invalid : (x : Oref) → place_in K.sets s x ≡ None
  pub waits : map notice_of (outbox.waiting K.waiting s) ≡ []

pub is_away : (b : Base) (H : List Entry) (K : Kept) (s : ℕ) (o : Option Session) → lives o ≡ false → SessionAgrees b H K s o → IsAway K s
is_away b H K s None h a = record { client = a.client; notes = a.notes; pages = a.pages; invalid = a.invalid; waits = a.waits }
is_away b H K s (Some v) h a = record {
  client = a.client ∙ ap (λ (t : Bool). cond t (Some v.client) None) h;
  notes = a.notes ∙ ap (λ (t : Bool). cond t (news_places v) []) h;
  pages = λ p. a.pages p ∙ ap (λ (t : Bool). t && has v.pages p) h;
  invalid = λ x. a.invalid x ∙ dead_place v (get v.pages x.page) (last_other s (writers b H x)) h;
  waits = a.waits ∙ ap (λ (t : Bool). cond t (drop v.taken v.sent) []) h;
}

pub away_agrees : (b : Base) (H : List Entry) (K : Kept) (s : ℕ) (o : Option Session) → lives o ≡ false → get K.retired s ≡ retired_client_of o → IsAway K s → SessionAgrees b H K s o
away_agrees b H K s None h r a = record { client = a.client; retired = r; notes = a.notes; pages = a.pages; invalid = a.invalid; waits = a.waits; within = tt }
away_agrees b H K s (Some v) h r a = record {
  client = a.client ∙ sym (ap (λ (t : Bool). cond t (Some v.client) None) h);
  retired = r;
  notes = a.notes ∙ sym (ap (λ (t : Bool). cond t (news_places v) []) h);
  pages = λ p. a.pages p ∙ sym (ap (λ (t : Bool). t && has v.pages p) h);
  invalid = λ x. a.invalid x ∙ sym (dead_place v (get v.pages x.page) (last_other s (writers b H x)) h);
  waits = a.waits ∙ sym (ap (λ (t : Bool). cond t (drop v.taken v.sent) []) h);
  within = λ l. absurd (clash h l);
}
  where
    clash : session_lives v ≡ false → session_lives v ≡ true → ⊥
    clash f t = cc

-- the same is kept of the session
pub record IsSame (K L : Kept) (s : ℕ) : Type 0 where
  pub client : get L.clients s ≡ get K.clients s
  pub retired : get L.retired s ≡ get K.retired s
  pub notes : places_of L.sets.noted s ≡ places_of K.sets.noted s
  pub pages : (page : ℕ) → has_page L.sets s page ≡ has_page K.sets s page
  pub invalid : (x : Oref) → place_in L.sets s x ≡ place_in K.sets s x
  pub waits : outbox.waiting L.waiting s ≡ outbox.waiting K.waiting s

pub same_agrees : (b : Base) (H : List Entry) (K L : Kept) (s : ℕ) (o : Option Session) → IsSame K L s → SessionAgrees b H K s o → SessionAgrees b H L s o
same_agrees b H K L s o e a = record {
  client = e.client ∙ a.client;
  retired = e.retired ∙ a.retired;
  notes = e.notes ∙ a.notes;
  pages = λ p. e.pages p ∙ a.pages p;
  invalid = λ x. e.invalid x ∙ a.invalid x;
  waits = ap (map notice_of) e.waits ∙ a.waits;
  within = a.within;
}

-- ---- all sessions, behind an item at which none begins

pub record IsBehind (b : Base) (T : List Item) (i : Item) (K L : Kept) : Type 0 where
  pub last : L.last ≡ K.last
  pub live : (c s : ℕ) → (get L.live c ≡ Some s) ↔ ((get L.clients s ≡ Some c) ⊎ (get L.retired s ≡ Some c))
  pub heard : (s : ℕ) → is_silent L.sets.noted s ≡ false
  pub each : (s : ℕ) → SessionAgrees b (entries (T ++ i ∷ [])) L s (meet b s (state b (entries T)) (session b T s) i)
  pub opened : (s page : ℕ) → has_page L.sets s page ≡ true → has L.sets.invalid s ≡ true
  pub order : AreInOrder L

pub agree_behind : (b : Base) (T : List Item) (i : Item) (K L : Kept) → IsNoBeginning i → SessionsAgree b T K → IsBehind b T i K L → SessionsAgree b (T ++ i ∷ []) L
agree_behind b T i K L n a h = record {
  silence = a.silence;
  last = h.last ∙ a.last ∙ zeros (last_session T) ∙ sym (last_behind T i ∙ ap (λ (k : ℕ). max (last_session T) k) (uncounted i n));
  unused = λ s l. session-end b T i s ∙ met b s S (session b T s) i n ∙ ap (λ (o : Option Session). option_map (move b s S i) o) (a.unused s (subst (λ (k : ℕ). k < s) h.last l));
  each = λ s. subst (SessionAgrees b (entries (T ++ i ∷ [])) L s) (sym (session-end b T i s)) (h.each s);
  live = h.live;
  heard = h.heard;
  opened = h.opened;
  order = h.order;
}
  where
    S : State
    S = state b (entries T)

    zeros : (k : ℕ) → k ≡ max k 0
    zeros k = omega arith

-- ---- marks that change nothing

-- the mark is of no session's pages and messages
abbrev pub IsNote : Mark → Type 0
IsNote (the.Connected n c) = ⊥
IsNote (the.Fetched n page upto) = ⊥
IsNote (the.Granted n page) = ⊥
IsNote (the.Took n k) = ⊥
IsNote (the.Drew n t) = Unit {0}
IsNote (the.Forgot t) = Unit {0}
IsNote (the.Refused n q r) = Unit {0}

note_quiet : (s : ℕ) (m : Mark) → IsNote m → IsQuiet s m
note_quiet s (the.Connected n c) h = h
note_quiet s (the.Fetched n page upto) h = absurd h
note_quiet s (the.Granted n page) h = absurd h
note_quiet s (the.Took n k) h = absurd h
note_quiet s (the.Drew n t) h = tt
note_quiet s (the.Forgot t) h = tt
note_quiet s (the.Refused n q r) h = tt

note_begins_none : (m : Mark) → IsNote m → IsNoBeginning (M m)
note_begins_none (the.Connected n c) h = h
note_begins_none (the.Fetched n page upto) h = tt
note_begins_none (the.Granted n page) h = tt
note_begins_none (the.Took n k) h = tt
note_begins_none (the.Drew n t) h = tt
note_begins_none (the.Forgot t) h = tt
note_begins_none (the.Refused n q r) h = tt

-- of a session that the mark isn't of, behind it
aside : (b : Base) (T : List Item) (m : Mark) (K L : Kept) (s : ℕ) → SessionsAgree b T K → IsQuiet s m → IsSame K L s → SessionAgrees b (entries (T ++ M m ∷ [])) L s (meet b s (state b (entries T)) (session b T s) (M m))
aside b T m K L s a q e =
    subst (λ (H : List Entry). SessionAgrees b H L s (meet b s (state b (entries T)) (session b T s) (M m))) (sym (behind_mark T m))
    (subst (SessionAgrees b (entries T) L s) (sym (quiet b s (state b (entries T)) m (session b T s) (heard_there b T K s a) q)) (same_agrees b (entries T) K L s (session b T s) e (a.each s)))

pub noted : (b : Base) (T : List Item) (K : Kept) (m : Mark) → IsNote m → SessionsAgree b T K → SessionsAgree b (T ++ M m ∷ []) K
noted b T K m n a = agree_behind b T (M m) K K (note_begins_none m n) a (record {
  last = refl;
  live = a.live;
  heard = a.heard;
  each = λ s. aside b T m K K s a (note_quiet s m n) (record { client = refl; retired = refl; notes = refl; pages = λ p. refl; invalid = λ x. refl; waits = refl });
  opened = a.opened;
  order = a.order;
})

-- ---- a page is sent

-- of the session that it is sent to
sent_agrees : (b : Base) (H : List Entry) (K : Kept) (n s page k : ℕ) (m : Message) (v : Session) → is_news (notice_of m) ≡ false → nat_eq n s ≡ true → session_lives v ≡ true → k ≡ length H → SessionAgrees b H K s (Some v)
    → SessionAgrees b H (sent K n page m) s (Some (record v { pages = cache v.pages page k; sent = v.sent ++ notice_of m ∷ [] }))
sent_agrees b H K n s page k m v reply e l len a =
    let w : Session = record v { pages = cache v.pages page k; sent = v.sent ++ notice_of m ∷ [] } in
    record {
      client = a.client;
      retired = a.retired;
      notes = a.notes ∙ ap (λ (ks : List ℕ). cond (session_lives v) ks []) (sym (quiet_push v (notice_of m) reply));
      pages = λ p.
          meaning.cached K.sets n page s p
          ∙ ap (λ (t : Bool). t || (nat_eq n s && nat_eq page p)) (a.pages p)
          ∙ ap (λ (t : Bool). (t && has v.pages p) || (nat_eq n s && nat_eq page p)) l
          ∙ ap (λ (t : Bool). has v.pages p || (t && nat_eq page p)) e
          ∙ sym (has_cache v.pages page k p)
          ∙ ap (λ (t : Bool). t && has (cache v.pages page k) p) (sym l);
      invalid = λ x.
          place_cached K.sets n page s x
          ∙ a.invalid x
          ∙ live_place v (get v.pages x.page) (last_other s (writers b H x)) l
          ∙ sym (cached_place v.pages page k x.page v.acked (last_other s (writers b H x)) (subst (λ (j : ℕ). IfSome (last_other s (writers b H x)) (λ i. i < j)) (sym len) (last_is_below b H s x)))
          ∙ sym (live_place w (get w.pages x.page) (last_other s (writers b H x)) l);
      waits =
          ap (map notice_of) (behind_push K.waiting n s m ∙ ap (λ (t : Bool). outbox.waiting K.waiting s ++ cond t (m ∷ []) []) e)
          ∙ map-append notice_of (outbox.waiting K.waiting s) (m ∷ [])
          ∙ ap (λ (ms : List Notice). ms ++ notice_of m ∷ []) (a.waits ∙ ap (λ (t : Bool). cond t (drop v.taken v.sent) []) l)
          ∙ sym (drop_more v.taken v.sent (notice_of m ∷ []) (a.within l).taken)
          ∙ ap (λ (t : Bool). cond t (drop v.taken (v.sent ++ notice_of m ∷ [])) []) (sym l);
      within = λ h. let t : v.taken ≤ length v.sent = (a.within l).taken in record { taken = rw length-append (omega arith); acked = (a.within l).acked };
    }

-- of another one
sent_aside : (K : Kept) (n s page : ℕ) (m : Message) → nat_eq n s ≡ false → IsSame K (sent K n page m) s
sent_aside K n s page m e = record {
  client = refl;
  retired = refl;
  notes = refl;
  pages = λ p. meaning.cached K.sets n page s p ∙ ap (λ (t : Bool). has_page K.sets s p || (t && nat_eq page p)) e ∙ or_false (has_page K.sets s p);
  invalid = λ x. place_cached K.sets n page s x;
  waits = behind_push K.waiting n s m ∙ ap (λ (t : Bool). outbox.waiting K.waiting s ++ cond t (m ∷ []) []) e ∙ append-nil (outbox.waiting K.waiting s);
}
  where
    or_false : (t : Bool) → (t || false) ≡ t
    or_false true = refl
    or_false false = refl

sent_opened : (K : Kept) (n page : ℕ) (m : Message) → ((s p : ℕ) → has_page K.sets s p ≡ true → has K.sets.invalid s ≡ true) → (s p : ℕ) → has_page (sent K n page m).sets s p ≡ true → has (sent K n page m).sets.invalid s ≡ true
sent_opened K n page m h s p g = by (nat_eq n s) refl
  where
    old : (t : Bool) → has_page K.sets s p ≡ t → (t || (false && nat_eq page p)) ≡ true → has_page K.sets s p ≡ true
    old true e f = e
    old false e f = cc

    by : (t : Bool) → nat_eq n s ≡ t → has (sets.cache K.sets n page).invalid s ≡ true
    by true e = ap (λ (k : ℕ). has (sets.cache K.sets n page).invalid k) (sym (eqb-true n s e)) ∙ meaning.is_open K.sets.invalid n
    by false e = set_cached K.sets n page s (h s p (old (has_page K.sets s p) refl (ap (λ (t : Bool). has_page K.sets s p || (t && nat_eq page p)) (sym e) ∙ sym (meaning.cached K.sets n page s p) ∙ g)))

-- ---- places are acknowledged

pub acknowledged_agrees : (b : Base) (H : List Entry) (K : Kept) (n s upto : ℕ) (v : Session) → NeverFall (places_of K.sets.noted n) → upto ≤ length H → AreInOrder K → session_lives v ≡ true → SessionAgrees b H K s (Some v) → SessionAgrees b H (acknowledged K n upto) s (Some (acked_where (nat_eq n s) upto v))
acknowledged_agrees b H K n s upto v rise u o l a = record {
  client = a.client;
  retired = a.retired;
  notes =
      places.acknowledged K.sets.noted n upto s rise
      ∙ ap (λ (ks : List ℕ). cond (nat_eq n s) (filter (nat_le upto) ks) ks) (a.notes ∙ ap (λ (t : Bool). cond t (news_places v) []) l)
      ∙ news_acknowledged (nat_eq n s) upto v
      ∙ sym (ap (λ (t : Bool). cond t (news_places (acked_where (nat_eq n s) upto v)) []) l);
  pages = a.pages;
  invalid = λ x.
      ordering.acknowledged K.sets n upto s x o.sets
      ∙ ap (λ (p : Option ℕ). cond (nat_eq n s) (option_and_then (unless_below upto) p) p) (a.invalid x ∙ live_place v (get v.pages x.page) (last_other s (writers b H x)) l)
      ∙ by (nat_eq n s) (get v.pages x.page) (last_other s (writers b H x))
      ∙ sym (live_place (acked_where (nat_eq n s) upto v) (get v.pages x.page) (last_other s (writers b H x)) l);
  waits = a.waits;
  within = λ h. record { taken = (a.within l).taken; acked = most (nat_eq n s) };
}
  where
    by : (t : Bool) (p q : Option ℕ) → cond t (option_and_then (unless_below upto) (place_where p v.acked q)) (place_where p v.acked q) ≡ place_where p (cond t (max v.acked upto) v.acked) q
    by true p q = acknowledged_place p v.acked upto q
    by false p q = refl

    most : (t : Bool) → cond t (max v.acked upto) v.acked ≤ length H
    most true = let i : v.acked ≤ length H = (a.within l).acked in let j : upto ≤ length H = u in omega arith
    most false = (a.within l).acked

pub acknowledged_away : (K : Kept) (n s upto : ℕ) → AreInOrder K → IsAway K s → IsAway (acknowledged K n upto) s
acknowledged_away K n s upto o a = record {
  client = a.client;
  notes = places.none_acknowledged K.sets.noted n upto s a.notes;
  pages = a.pages;
  invalid = λ x. ordering.acknowledged K.sets n upto s x o.sets ∙ ap (λ (p : Option ℕ). cond (nat_eq n s) (option_and_then (unless_below upto) p) p) (a.invalid x) ∙ by (nat_eq n s);
  waits = a.waits;
}
  where
    by : (t : Bool) → cond t (option_and_then (unless_below upto) None) None ≡ None
    by true = refl
    by false = refl

pub acknowledged_aside : (K : Kept) (n s upto : ℕ) → AreInOrder K → nat_eq n s ≡ false → IsSame K (acknowledged K n upto) s
acknowledged_aside K n s upto o e = record {
  client = refl;
  retired = refl;
  notes = places.others_acknowledged K.sets.noted n upto s e;
  pages = λ p. refl;
  invalid = λ x. ordering.acknowledged K.sets n upto s x o.sets ∙ ap (λ (t : Bool). cond t (option_and_then (unless_below upto) (place_in K.sets s x)) (place_in K.sets s x)) e;
  waits = refl;
}

-- ---- the calls on live sessions

-- a session of which a client is kept is live
pub live_session : (b : Base) (H : List Entry) (K : Kept) (s : ℕ) (o : Option Session) → SessionAgrees b H K s o → is_live K s ≡ true → (v : Session) × (o ≡ Some v) × (session_lives v ≡ true)
live_session b H K s None a h = let e : is_live K s ≡ false = ap (λ (p : Option ℕ). is_some p) a.client in absurd cc
live_session b H K s (Some v) a h = (v, refl, by (session_lives v) refl)
  where
    by : (t : Bool) → session_lives v ≡ t → session_lives v ≡ true
    by true e = e
    by false e = let f : is_live K s ≡ false = ap (λ (p : Option ℕ). is_some p) a.client ∙ ap (λ (t : Bool). is_some (cond t (Some v.client) None)) e in cc

sent_order : (K : Kept) (n page : ℕ) (m : Message) → AreInOrder K → AreInOrder (sent K n page m)
sent_order K n page m o = record { clients = o.clients; retired = o.retired; waiting = pushed_order K.waiting n m o.waiting; sets = ordered_opened K.sets.invalid n o.sets; noted = o.noted }

pub fetched_agrees : (b : Base) (T : List Item) (K : Kept) (n page upto : ℕ) (bytes : List ℕ) → SessionsAgree b T K → is_live K n ≡ true → upto ≤ length (entries T)
    → SessionsAgree b (T ++ M (the.Fetched n page upto) ∷ []) (acknowledged (sent K n page (their.Page page bytes (length (entries T)))) n upto)
fetched_agrees b T K n page upto bytes a live u = agree_behind b T i K (acknowledged L n upto) tt a (record {
  last = refl;
  live = a.live;
  heard = λ s. places.still_heard K.sets.noted n upto s (a.heard s);
  each = λ s. by s (nat_eq n s) refl;
  opened = λ s p g. kept_acknowledged L.sets n upto s (sent_opened K n page m a.opened s p g);
  order = record { clients = order.clients; retired = order.retired; waiting = order.waiting; sets = ordered_from L.sets.invalid n upto order.sets; noted = places.kept_order L.sets.noted n upto order.noted };
})
  where
    i : Item
    i = M (the.Fetched n page upto)

    H : List Entry
    H = entries T

    S : State
    S = state b H

    m : Message
    m = their.Page page bytes (length H)

    L : Kept
    L = sent K n page m

    order : AreInOrder L
    order = sent_order K n page m a.order

    then' : (s : ℕ) → nat_eq n s ≡ false → IsSame K (acknowledged L n upto) s
    then' s e =
        let p : IsSame K L s = sent_aside K n s page m e in
        let q : IsSame L (acknowledged L n upto) s = acknowledged_aside L n s upto order e in
        record { client = refl; retired = refl; notes = q.notes ∙ p.notes; pages = λ k. q.pages k ∙ p.pages k; invalid = λ x. q.invalid x ∙ p.invalid x; waits = q.waits ∙ p.waits }

    own : (s : ℕ) → nat_eq n s ≡ true → (v : Session) → session b T s ≡ Some v → session_lives v ≡ true → SessionAgrees b (entries (T ++ i ∷ [])) (acknowledged L n upto) s (meet b s S (session b T s) i)
    own s e v is l =
        let v1 : Session = record v { pages = cache v.pages page (length H); sent = v.sent ++ Page page (length H) ∷ [] } in
        let one : SessionAgrees b H L s (Some v1) = sent_agrees b H K n s page (length H) m v refl e l refl (subst (SessionAgrees b H K s) is (a.each s)) in
        let two : SessionAgrees b H (acknowledged L n upto) s (Some (acked_where (nat_eq n s) upto v1)) = acknowledged_agrees b H L n s upto v1 (news_rise b T K n a) u order l one in
        let w : ℕ → Session = λ k. record v { pages = cache v.pages page k; acked = max v.acked upto; sent = v.sent ++ Page page k ∷ [] } in
        let own' : SessionAgrees b H (acknowledged L n upto) s (Some (w (length H))) = subst (λ (t : Bool). SessionAgrees b H (acknowledged L n upto) s (Some (acked_where t upto v1))) e two in
        let quiet' : stages.is_silent b.silence (moved b s S v i) ≡ false =
        ap (λ (u : Session). stages.is_silent b.silence u) (fetched b s S v n page upto e l ∙ ap w (length-state b H))
        ∙ heard_at b H (acknowledged L n upto) s (w (length H)) false a.silence own' l (places.still_heard K.sets.noted n upto s (a.heard s)) in
        let path : Some (acked_where (nat_eq n s) upto v1) ≡ meet b s S (session b T s) i =
        ap (λ (t : Bool). Some (acked_where t upto v1)) e
        ∙ ap (λ (k : ℕ). Some (record v { pages = cache v.pages page k; acked = max v.acked upto; sent = v.sent ++ Page page k ∷ [] })) (sym (length-state b H))
        ∙ ap (λ (w : Session). Some w) (sym (moves b s S i v quiet' l ∙ fetched b s S v n page upto e l))
        ∙ ap (λ (o : Option Session). meet b s S o i) (sym is) in
        subst (λ (G : List Entry). SessionAgrees b G (acknowledged L n upto) s (meet b s S (session b T s) i)) (sym (behind_mark T (the.Fetched n page upto))) (subst (SessionAgrees b H (acknowledged L n upto) s) path two)

    by : (s : ℕ) (t : Bool) → nat_eq n s ≡ t → SessionAgrees b (entries (T ++ i ∷ [])) (acknowledged L n upto) s (meet b s S (session b T s) i)
    by s true e =
        let x = live_session b H K s (session b T s) (a.each s) (subst (λ (k : ℕ). is_live K k ≡ true) (eqb-true n s e) live) in
        own s e x.0 x.1 x.2
    by s false e = aside b T (the.Fetched n page upto) K (acknowledged L n upto) s a e (then' s e)

pub granted_agrees : (b : Base) (T : List Item) (K : Kept) (n page : ℕ) → SessionsAgree b T K → is_live K n ≡ true
    → SessionsAgree b (T ++ M (the.Granted n page) ∷ []) (sent K n page (their.Grant page (length (entries T))))
granted_agrees b T K n page a live = agree_behind b T i K L tt a (record {
  last = refl;
  live = a.live;
  heard = a.heard;
  each = λ s. by s (nat_eq n s) refl;
  opened = λ s p g. sent_opened K n page m a.opened s p g;
  order = sent_order K n page m a.order;
})
  where
    i : Item
    i = M (the.Granted n page)

    H : List Entry
    H = entries T

    S : State
    S = state b H

    m : Message
    m = their.Grant page (length H)

    L : Kept
    L = sent K n page m

    own : (s : ℕ) → nat_eq n s ≡ true → (v : Session) → session b T s ≡ Some v → session_lives v ≡ true → SessionAgrees b (entries (T ++ i ∷ [])) L s (meet b s S (session b T s) i)
    own s e v is l =
        let v1 : Session = record v { pages = cache v.pages page (length H); sent = v.sent ++ Grant page (length H) ∷ [] } in
        let one : SessionAgrees b H L s (Some v1) = sent_agrees b H K n s page (length H) m v refl e l refl (subst (SessionAgrees b H K s) is (a.each s)) in
        let w : ℕ → Session = λ k. record v { pages = cache v.pages page k; sent = v.sent ++ Grant page k ∷ [] } in
        let quiet' : stages.is_silent b.silence (moved b s S v i) ≡ false =
        ap (λ (u : Session). stages.is_silent b.silence u) (granted b s S v n page e l ∙ ap w (length-state b H))
        ∙ heard_at b H L s v1 false a.silence one l (a.heard s) in
        let path : Some v1 ≡ meet b s S (session b T s) i =
        ap (λ (k : ℕ). Some (record v { pages = cache v.pages page k; sent = v.sent ++ Grant page k ∷ [] })) (sym (length-state b H))
        ∙ ap (λ (w : Session). Some w) (sym (moves b s S i v quiet' l ∙ granted b s S v n page e l))
        ∙ ap (λ (o : Option Session). meet b s S o i) (sym is) in
        subst (λ (G : List Entry). SessionAgrees b G L s (meet b s S (session b T s) i)) (sym (behind_mark T (the.Granted n page))) (subst (SessionAgrees b H L s) path one)

    by : (s : ℕ) (t : Bool) → nat_eq n s ≡ t → SessionAgrees b (entries (T ++ i ∷ [])) L s (meet b s S (session b T s) i)
    by s true e =
        let x = live_session b H K s (session b T s) (a.each s) (subst (λ (k : ℕ). is_live K k ≡ true) (eqb-true n s e) live) in
        own s e x.0 x.1 x.2
    by s false e = aside b T (the.Granted n page) K L s a e (sent_aside K n s page m e)

-- ---- a message is taken

one_left : {X : Type 0} (n : ℕ) (xs : List X) (y : X) (ys : List X) → drop n xs ≡ y ∷ ys → n + 1 ≤ length xs
one_left zero [] y ys h = cc
one_left zero (x ∷ xs) y ys h = omega arith
one_left (suc n) [] y ys h = cc
one_left (suc n) (x ∷ xs) y ys h = let e : n + 1 ≤ length xs = one_left n xs y ys h in omega arith

taken_aside : (K : Kept) (n s : ℕ) → nat_eq n s ≡ false → IsSame K (taken K n) s
taken_aside K n s e = record {
  client = refl;
  retired = refl;
  notes = refl;
  pages = λ p. refl;
  invalid = λ x. refl;
  waits = ap (λ (t : Bool). cond t (option_to_list (first (outbox.waiting K.waiting n))) [] ++ outbox.waiting (outbox.take K.waiting n) s) (sym e) ∙ behind_take K.waiting n s;
}

taken_own : (b : Base) (H : List Entry) (K : Kept) (n s : ℕ) (m : Message) (v : Session) → nat_eq n s ≡ true → session_lives v ≡ true → first (outbox.waiting K.waiting n) ≡ Some m → SessionAgrees b H K s (Some v)
    → SessionAgrees b H (taken K n) s (Some (record v { taken = v.taken + 1 }))
taken_own b H K n s m v e l f a =
    let rest : List Message = outbox.waiting (outbox.take K.waiting n) s in
    let was : m ∷ rest ≡ outbox.waiting K.waiting s =
    ap (λ (o : Option Message). option_to_list o ++ rest) (sym f)
    ∙ ap (λ (t : Bool). cond t (option_to_list (first (outbox.waiting K.waiting n))) [] ++ rest) (sym e)
    ∙ behind_take K.waiting n s in
    let left : drop v.taken v.sent ≡ notice_of m ∷ map notice_of rest = sym (ap (map notice_of) was ∙ a.waits ∙ ap (λ (t : Bool). cond t (drop v.taken v.sent) []) l) in
    record {
      client = a.client;
      retired = a.retired;
      notes = a.notes;
      pages = a.pages;
      invalid = a.invalid;
      waits =
          sym (drop_next v.taken v.sent ∙ ap (drop 1) left)
          ∙ ap (λ (t : Bool). cond t (drop (v.taken + 1) v.sent) []) (sym l);
      within = λ h. record { taken = one_left v.taken v.sent (notice_of m) (map notice_of rest) left; acked = (a.within l).acked };
    }

pub taken_agrees : (b : Base) (T : List Item) (K : Kept) (n : ℕ) (m : Message) → SessionsAgree b T K → is_live K n ≡ true → first (outbox.waiting K.waiting n) ≡ Some m
    → SessionsAgree b (T ++ M (the.Took n (messages.place_of m)) ∷ []) (taken K n)
taken_agrees b T K n m a live f = agree_behind b T i K (taken K n) tt a (record {
  last = refl;
  live = a.live;
  heard = a.heard;
  each = λ s. by s (nat_eq n s) refl;
  opened = a.opened;
  order = record { clients = a.order.clients; retired = a.order.retired; waiting = taken_order K.waiting n a.order.waiting; sets = a.order.sets; noted = a.order.noted };
})
  where
    k : ℕ
    k = messages.place_of m

    i : Item
    i = M (the.Took n k)

    H : List Entry
    H = entries T

    S : State
    S = state b H

    own : (s : ℕ) → nat_eq n s ≡ true → (v : Session) → session b T s ≡ Some v → session_lives v ≡ true → SessionAgrees b (entries (T ++ i ∷ [])) (taken K n) s (meet b s S (session b T s) i)
    own s e v is l =
        let one : SessionAgrees b H (taken K n) s (Some (record v { taken = v.taken + 1 })) = taken_own b H K n s m v e l f (subst (SessionAgrees b H K s) is (a.each s)) in
        let quiet' : stages.is_silent b.silence (moved b s S v i) ≡ false =
        ap (λ (u : Session). stages.is_silent b.silence u) (took b s S v n k e l)
        ∙ heard_at b H (taken K n) s (record v { taken = v.taken + 1 }) false a.silence one l (a.heard s) in
        let path : Some (record v { taken = v.taken + 1 }) ≡ meet b s S (session b T s) i =
        ap (λ (w : Session). Some w) (sym (moves b s S i v quiet' l ∙ took b s S v n k e l))
        ∙ ap (λ (o : Option Session). meet b s S o i) (sym is) in
        subst (λ (G : List Entry). SessionAgrees b G (taken K n) s (meet b s S (session b T s) i)) (sym (behind_mark T (the.Took n k))) (subst (SessionAgrees b H (taken K n) s) path one)

    by : (s : ℕ) (t : Bool) → nat_eq n s ≡ t → SessionAgrees b (entries (T ++ i ∷ [])) (taken K n) s (meet b s S (session b T s) i)
    by s true e =
        let x = live_session b H K s (session b T s) (a.each s) (subst (λ (j : ℕ). is_live K j ≡ true) (eqb-true n s e) live) in
        own s e x.0 x.1 x.2
    by s false e = aside b T (the.Took n k) K (taken K n) s a e (taken_aside K n s e)

-- where none waits nothing changes
pub none_taken : (b : Base) (T : List Item) (K : Kept) (n : ℕ) → SessionsAgree b T K → first (outbox.waiting K.waiting n) ≡ None → SessionsAgree b T (taken K n)
none_taken b T K n a f = record {
  silence = a.silence;
  last = a.last;
  unused = a.unused;
  each = λ s. same_agrees b (entries T) K (taken K n) s (session b T s) (same s) (a.each s);
  live = a.live;
  heard = a.heard;
  opened = a.opened;
  order = record { clients = a.order.clients; retired = a.order.retired; waiting = taken_order K.waiting n a.order.waiting; sets = a.order.sets; noted = a.order.noted };
}
  where
    nothing : (t : Bool) (ms : List Message) → cond t [] [] ++ ms ≡ ms
    nothing true ms = refl
    nothing false ms = refl

    same : (s : ℕ) → IsSame K (taken K n) s
    same s = record {
      client = refl;
      retired = refl;
      notes = refl;
      pages = λ p. refl;
      invalid = λ x. refl;
      waits =
          sym (nothing (nat_eq n s) (outbox.waiting (outbox.take K.waiting n) s))
          ∙ ap (λ (o : Option Message). cond (nat_eq n s) (option_to_list o) [] ++ outbox.waiting (outbox.take K.waiting n) s) (sym f)
          ∙ behind_take K.waiting n s;
    }
