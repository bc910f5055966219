-- What is kept of the sessions says what the trace says, from the beginning on, behind a Life and where a
-- client connects.
use Rattle.cached_sets.proofs.Ordering as ordering
use Rattle.cached_sets.proofs.Ordering.{none_ordered, ordered_removed}
use Rattle.cached_sets.proofs.Places as places
use Rattle.cached_sets.specs.Invalid.{Invalid}
use Rattle.cached_sets.specs.Meaning.{has_page, place_in}
use Rattle.cached_sets.specs.Noted as noted
use Rattle.cached_sets.specs.Noted.{most_noted, places_of}
use Rattle.log_entries.specs.declared.entry.Entry.{Entry}
use Rattle.repo_sessions.specs.Sessions.{Kept, begun, ended, no_sessions, without}
use Rattle.spec_history.specs.History.{Base, State, is_life, state}
use Rattle.session_outbox.specs.Outbox as outbox
use Rattle.session_outbox.specs.declared.message.Message.{Message}
use Rattle.law_repo_sessions.proofs.Marked.{IsAway, IsSame, away_agrees, is_away, same_agrees}
use Rattle.law_repo_sessions.proofs.News.{heard_there}
use Rattle.law_repo_sessions.proofs.Seen.{get_put, get_without, page_dropped}
use Rattle.law_repo_sessions.proofs.Traced.{IsHeard, as_live, behind_mark, ended_by_life, last_behind, moves, none_lives, rests, retired_by_life}
use Rattle.law_repo_sessions.specs.Agreeing.{AreInOrder, SessionAgrees, SessionsAgree, retired_at, retired_client_of}
use Rattle.spec_trace.specs.Notices.{lives, notice_of}
use Rattle.spec_trace.proofs.Sessions.{session-end}
use Rattle.spec_trace.specs.Calls.{last_session}
use Rattle.spec_trace.specs.Session as sessions
use Rattle.spec_trace.specs.Session.{Ended, Live, Retired, Session, Stage, lives_on, meet, move, moved, rested, session, session_lives}
use Rattle.spec_trace.specs.Trace.{E, Item, M, entries}
use Rattle.spec_trace.specs.declared.mark.Mark.TheVariants as the
use Rattle.std.proofs.Common.{Bool, List, [], ap, arith, cond, false, inl, inr, length, map, nat_eq, refl, subst, sym, true, ◌+◌, ◌++◌, ◌<◌, ◌∙◌, ◌∷◌, ◌≡◌, ℕ}
use Rattle.std.proofs.lemmas.Bool.Decides.{nat_tests}
use Rattle.std.proofs.lemmas.Bool.{eq-eqb, eqb-true}
use Rattle.std.specs.Cmp.{nat_cmp_total}
use Rattle.std.specs.List.Sorted.{IsStrictlySortedBy}
use Rattle.std.specs.Option.{is_some, option_map, unwrap_or}
use Rattle.std.specs.Ordering.{nat_cmp}
use Rattle.std.specs.Prelude.{None, Option, Some, max, nat_lt, not, ◌&&◌, ◌↔◌, ◌⊎◌}
use Rattle.thor_value.proofs.FiniteMap.{IsSorted-insert, IsSorted-remove}
use Rattle.thor_value.specs.FiniteMap.{IsSorted, get, has, insert, remove}
use Rattle.thor_value.specs.declared.names.Oref.{Oref}

no_key : IsStrictlySortedBy nat_cmp []
unfolding IsStrictlySortedBy
no_key = tt

none_kept : (K : Kept) (s : ℕ) → IsAway (ended K) s
none_kept K s = record { client = refl; notes = refl; pages = λ p. refl; invalid = λ x. refl; waits = refl }

none_live : (K : Kept) (c s : ℕ) → (get (ended K).live c ≡ Some s) ↔ ((get (ended K).clients s ≡ Some c) ⊎ (get (ended K).retired s ≡ Some c))
none_live K c s = (
  λ e. cc,
  λ h. elim h [
    | inl e ↦ cc
    | inr e ↦ cc
  ],
)

none_opened : (K : Kept) (s page : ℕ) → has_page (ended K).sets s page ≡ true → has (ended K).sets.invalid s ≡ true
none_opened K s page h = cc

none_in_order : (K : Kept) → AreInOrder (ended K)
none_in_order K = record { clients = no_key; retired = no_key; waiting = no_key; sets = none_ordered; noted = no_key }

pub beginning_agrees : (b : Base) → b.silence ≡ Some most_noted → SessionsAgree b [] no_sessions
beginning_agrees b q = record {
  silence = q;
  last = refl;
  unused = λ s l. refl;
  each = λ s. away_agrees b [] no_sessions s None refl refl (none_kept no_sessions s);
  live = none_live no_sessions;
  heard = λ s. refl;
  opened = none_opened no_sessions;
  order = none_in_order no_sessions;
}

-- ---- a Life

pub life_agrees : (b : Base) (T : List Item) (e : Entry) (K : Kept) → is_life e ≡ true → SessionsAgree b T K → SessionsAgree b (T ++ E e ∷ []) (ended K)
life_agrees b T e K h a = record {
  silence = a.silence;
  last = a.last ∙ zeros (last_session T) ∙ sym (last_behind T (E e));
  unused = λ s l. session-end b T (E e) s ∙ ap (λ (o : Option Session). meet b s S o (E e)) (a.unused s l);
  each = λ s. subst (SessionAgrees b (entries (T ++ E e ∷ [])) (ended K) s) (sym (session-end b T (E e) s))
      (away_agrees b (entries (T ++ E e ∷ [])) (ended K) s (meet b s S (session b T s) (E e)) (ended_by_life b s S e (session b T s) h) (sym (retired_by_life b s S e (session b T s) h)) (none_kept K s));
  live = none_live K;
  heard = λ s. refl;
  opened = none_opened K;
  order = none_in_order K;
}
  where
    S : State
    S = state b (entries T)

    zeros : (k : ℕ) → k ≡ max k 0
    zeros k = omega arith

-- ---- a client connects

-- whether it is the session that ends
abbrev is_older : Option ℕ → ℕ → Bool
is_older None s = false
is_older (Some n) s = nat_eq n s

module _ (b : Base) (T : List Item) (K : Kept) (c n : ℕ) (new : n ≡ K.last + 1) (a : SessionsAgree b T K) where
  abbrev H : List Entry
  H = entries T

  abbrev S : State
  S = state b H

  abbrev i : Item
  i = M (the.Connected n c)

  -- with the new session, where the older one is this
  abbrev with_older : Option ℕ → Kept
  with_older older = record (without (record K { clients = insert K.clients n c; live = insert K.live c n }) older) { last = n }

  above : (s : ℕ) → n < s → K.last < s
  above s l = let e : n ≡ K.last + 1 = new in omega arith

  -- the new number is nobody's
  none_there : session b T n ≡ None
  none_there = a.unused n (let e : n ≡ K.last + 1 = new in omega arith)

  none_named : get K.clients n ≡ None
  none_named = (subst (SessionAgrees b H K n) none_there (a.each n)).client

  none_retired : get K.retired n ≡ None
  none_retired = (subst (SessionAgrees b H K n) none_there (a.each n)).retired

  put_in_order : IsSorted (insert K.clients n c)
  put_in_order = IsSorted-insert nat_cmp_total K.clients n c a.order.clients

  -- ---- what is kept then

  client_then : (older : Option ℕ) (s : ℕ) → get (with_older older).clients s ≡ cond (is_older older s) None (cond (nat_eq n s) (Some c) (get K.clients s))
  client_then None s = get_put K.clients n s c
  client_then (Some r) s = get_without (insert K.clients n c) r s put_in_order ∙ ap (cond (nat_eq r s) None) (get_put K.clients n s c)

  retired_then : (older : Option ℕ) (s : ℕ) → get (with_older older).retired s ≡ cond (is_older older s) None (get K.retired s)
  retired_then None s = refl
  retired_then (Some r) s = get_without K.retired r s a.order.retired

  notes_then : (older : Option ℕ) (s : ℕ) → places_of (with_older older).sets.noted s ≡ cond (is_older older s) [] (places_of K.sets.noted s)
  notes_then None s = refl
  notes_then (Some r) s = places.dropped K.sets.noted r s a.order.noted

  heard_then : (older : Option ℕ) (s : ℕ) → noted.is_silent (with_older older).sets.noted s ≡ false
  heard_then older s = ap (λ (ks : List ℕ). nat_lt most_noted (length ks)) (notes_then older s) ∙ by (is_older older s)
    where
      by : (t : Bool) → nat_lt most_noted (length (cond t [] (places_of K.sets.noted s))) ≡ false
      by true = refl
      by false = a.heard s

  live_then : (older : Option ℕ) (d : ℕ) → get (with_older older).live d ≡ cond (nat_eq c d) (Some n) (get K.live d)
  live_then None d = get_put K.live c d n
  live_then (Some r) d = get_put K.live c d n

  page_then : (older : Option ℕ) (s p : ℕ) → has_page (with_older older).sets s p ≡ (not (is_older older s) && has_page K.sets s p)
  page_then None s p = refl
  page_then (Some r) s p = page_dropped K.sets r s p

  place_then : (older : Option ℕ) (s : ℕ) (x : Oref) → place_in (with_older older).sets s x ≡ cond (is_older older s) None (place_in K.sets s x)
  place_then None s x = refl
  place_then (Some r) s x = ordering.dropped K.sets r s x a.order.sets

  waiting_then : (older : Option ℕ) (s : ℕ) → outbox.waiting (with_older older).waiting s ≡ cond (is_older older s) [] (outbox.waiting K.waiting s)
  waiting_then None s = refl
  waiting_then (Some r) s = ap (λ (o : Option (List Message)). unwrap_or o []) (get_without K.waiting r s a.order.waiting) ∙ by (nat_eq r s)
    where
      by : (t : Bool) → unwrap_or (cond t None (get K.waiting s)) [] ≡ cond t [] (outbox.waiting K.waiting s)
      by true = refl
      by false = refl

  opened_then : (older : Option ℕ) (s p : ℕ) → has_page (with_older older).sets s p ≡ true → has (with_older older).sets.invalid s ≡ true
  opened_then None s p h = a.opened s p h
  opened_then (Some r) s p h = by (nat_eq r s) refl (sym (page_dropped K.sets r s p) ∙ h)
    where
      by : (t : Bool) → nat_eq r s ≡ t → (not (nat_eq r s) && has_page K.sets s p) ≡ true → has (remove K.sets.invalid r) s ≡ true
      by true e g = let f : (not (nat_eq r s) && has_page K.sets s p) ≡ false = ap (λ (t : Bool). not t && has_page K.sets s p) e in cc
      by false e g =
          let f : has_page K.sets s p ≡ true = sym (ap (λ (t : Bool). not t && has_page K.sets s p) e) ∙ g in
          ap (λ (o : Option Invalid). is_some o) (get_without K.sets.invalid r s a.order.sets.sessions ∙ ap (λ (t : Bool). cond t None (get K.sets.invalid s)) e) ∙ a.opened s p f

  order_then : (older : Option ℕ) → AreInOrder (with_older older)
  order_then None = record { clients = put_in_order; retired = a.order.retired; waiting = a.order.waiting; sets = a.order.sets; noted = a.order.noted }
  order_then (Some r) = record { clients = IsSorted-remove nat_cmp (insert K.clients n c) r put_in_order; retired = IsSorted-remove nat_cmp K.retired r a.order.retired; waiting = IsSorted-remove nat_cmp K.waiting r a.order.waiting; sets = ordered_removed K.sets.invalid r a.order.sets; noted = places.dropped_order K.sets.noted r a.order.noted }

  -- ---- who the older one is

  -- the older session is the client's
  older_is : (older : Option ℕ) → get K.live c ≡ older → (s : ℕ) → is_older older s ≡ true → (get K.clients s ≡ Some c) ⊎ (get K.retired s ≡ Some c)
  older_is None e s h = cc
  older_is (Some r) e s h = let f : r ≡ s = eqb-true r s h in (a.live c s).0 (e ∙ ap (λ (k : ℕ). Some k) f)

  -- and the client's is the older one
  is_the_older : (older : Option ℕ) → get K.live c ≡ older → (s : ℕ) → (get K.clients s ≡ Some c) ⊎ (get K.retired s ≡ Some c) → is_older older s ≡ true
  is_the_older None e s h = let f : get K.live c ≡ Some s = (a.live c s).1 h in cc
  is_the_older (Some r) e s h = let f : get K.live c ≡ Some s = (a.live c s).1 h in let g : r ≡ s = same r s (sym e ∙ f) in eq-eqb r s g
    where
      same : (j k : ℕ) → Some j ≡ Some k → j ≡ k
      same j k p = cc

  neither : {o : Option ℕ} {k : ℕ} → o ≡ Some k → o ≡ None → ⊥
  neither e f = cc

  new_isnt : (older : Option ℕ) → get K.live c ≡ older → (s : ℕ) → nat_eq n s ≡ true → is_older older s ≡ false
  new_isnt older e s h = by (is_older older s) refl
    where
      by : (t : Bool) → is_older older s ≡ t → t ≡ false
      by false f = refl
      by true f =
          let g : n ≡ s = eqb-true n s h in
          elim (older_is older e s f) [
            | inl j ↦ absurd (neither (ap (get K.clients) g ∙ j) none_named)
            | inr j ↦ absurd (neither (ap (get K.retired) g ∙ j) none_retired)
          ]

  -- ---- each session

  -- the new one
  new_agrees : (older : Option ℕ) → get K.live c ≡ older → (s : ℕ) → nat_eq n s ≡ true → SessionAgrees b H (with_older older) s (Some (sessions.begun c S.length))
  new_agrees older e s h =
      let o : is_older older s ≡ false = new_isnt older e s h in
      let there : session b T s ≡ None = ap (session b T) (sym (eqb-true n s h)) ∙ none_there in
      let was : SessionAgrees b H K s None = subst (SessionAgrees b H K s) there (a.each s) in
      record {
        client = client_then older s ∙ ap (λ (t : Bool). cond t None (cond (nat_eq n s) (Some c) (get K.clients s))) o ∙ ap (λ (t : Bool). cond t (Some c) (get K.clients s)) h;
        retired = retired_then older s ∙ ap (λ (t : Bool). cond t None (get K.retired s)) o ∙ was.retired;
        notes = notes_then older s ∙ ap (λ (t : Bool). cond t [] (places_of K.sets.noted s)) o ∙ was.notes;
        pages = λ p. page_then older s p ∙ ap (λ (t : Bool). not t && has_page K.sets s p) o ∙ was.pages p;
        invalid = λ x. place_then older s x ∙ ap (λ (t : Bool). cond t None (place_in K.sets s x)) o ∙ was.invalid x;
        waits = ap (map notice_of) (waiting_then older s ∙ ap (λ (t : Bool). cond t [] (outbox.waiting K.waiting s)) o) ∙ was.waits;
        within = λ l. record { taken = omega arith; acked = omega arith };
      }

  -- the older one is away
  older_away : (older : Option ℕ) (s : ℕ) → is_older older s ≡ true → IsAway (with_older older) s
  older_away older s o = record {
    client = client_then older s ∙ ap (λ (t : Bool). cond t None (cond (nat_eq n s) (Some c) (get K.clients s))) o;
    notes = notes_then older s ∙ ap (λ (t : Bool). cond t [] (places_of K.sets.noted s)) o;
    pages = λ p. page_then older s p ∙ ap (λ (t : Bool). not t && has_page K.sets s p) o;
    invalid = λ x. place_then older s x ∙ ap (λ (t : Bool). cond t None (place_in K.sets s x)) o;
    waits = ap (map notice_of) (waiting_then older s ∙ ap (λ (t : Bool). cond t [] (outbox.waiting K.waiting s)) o);
  }

  -- another one stays as it was
  other_same : (older : Option ℕ) (s : ℕ) → nat_eq n s ≡ false → is_older older s ≡ false → IsSame K (with_older older) s
  other_same older s h o = record {
    client = client_then older s ∙ ap (λ (t : Bool). cond t None (cond (nat_eq n s) (Some c) (get K.clients s))) o ∙ ap (λ (t : Bool). cond t (Some c) (get K.clients s)) h;
    retired = retired_then older s ∙ ap (λ (t : Bool). cond t None (get K.retired s)) o;
    notes = notes_then older s ∙ ap (λ (t : Bool). cond t [] (places_of K.sets.noted s)) o;
    pages = λ p. page_then older s p ∙ ap (λ (t : Bool). not t && has_page K.sets s p) o;
    invalid = λ x. place_then older s x ∙ ap (λ (t : Bool). cond t None (place_in K.sets s x)) o;
    waits = waiting_then older s ∙ ap (λ (t : Bool). cond t [] (outbox.waiting K.waiting s)) o;
  }

  client_is : (s : ℕ) (v : Session) → session_lives v ≡ true → session b T s ≡ Some v → get K.clients s ≡ Some v.client
  client_is s v l is = (subst (SessionAgrees b H K s) is (a.each s)).client ∙ ap (λ (t : Bool). cond t (Some v.client) None) l

  same_silence : (o : Option ℕ) (v : Session) (x : Stage) → sessions.is_silent o (record v { stage = x }) ≡ sessions.is_silent o v
  same_silence None v x = refl
  same_silence (Some k) v x = refl

  -- a live session of the trace isn't silent
  unheard : (v : Session) (s : ℕ) → session b T s ≡ Some v → session_lives v ≡ true → sessions.is_silent b.silence v ≡ false
  unheard v s is l = subst (λ (o : Option Session). IsHeard b o) is (heard_there b T K s a) l

  -- a session behind the connection, where another client's begins or its own
  turned_to : (v : Session) (s : ℕ) (t : Bool) → session b T s ≡ Some v → session_lives v ≡ true → nat_eq c v.client ≡ t → move b s S i v ≡ record v { stage = cond (cond t false true) Live Ended }
  turned_to v s t is l e = moves b s S i v (same_silence b.silence v (moved b s S v i).stage ∙ unheard v s is l) l ∙ ap (λ (u : Bool). record v { stage = cond (cond u false true) Live Ended }) e

  -- the older session is one of its client
  owner : (older : Option ℕ) → get K.live c ≡ older → (s : ℕ) → is_older older s ≡ true → (v : Session) → session b T s ≡ Some v → c ≡ v.client
  owner older e s o v is =
      let g : SessionAgrees b H K s (Some v) = subst (SessionAgrees b H K s) is (a.each s) in
      elim (older_is older e s o) [
        | inl f ↦ by_live (session_lives v) (sym f ∙ g.client)
        | inr f ↦ by_stage v.stage (sym f ∙ g.retired)
      ]
    where
      by_live : (t : Bool) → Some c ≡ cond t (Some v.client) None → c ≡ v.client
      by_live true f = cc
      by_live false f = cc

      by_stage : (x : Stage) → Some c ≡ retired_at x v.client → c ≡ v.client
      by_stage Live f = cc
      by_stage Retired f = cc
      by_stage Ended f = cc

  -- and is retired no more
  older_goes : (older : Option ℕ) → get K.live c ≡ older → (s : ℕ) → is_older older s ≡ true → retired_client_of (option_map (move b s S i) (session b T s)) ≡ None
  older_goes older e s o = by (session b T s) refl
    where
      at : (v : Session) → session b T s ≡ Some v → (t : Bool) → session_lives v ≡ t → retired_client_of (Some (move b s S i v)) ≡ None
      at v is true l = ap (λ (w : Session). retired_client_of (Some w)) (turned_to v s true is l (eq-eqb c v.client (owner older e s o v is)))
      at v is false l =
          ap (λ (w : Session). retired_client_of (Some w)) (rests b s S i v l)
          ∙ ap (λ (t : Bool). retired_at (cond (cond t false true) v.stage Ended) v.client) (eq-eqb c v.client (owner older e s o v is))

      by : (p : Option Session) → session b T s ≡ p → retired_client_of (option_map (move b s S i) p) ≡ None
      by None is = refl
      by (Some v) is = at v is (session_lives v) refl

  older_ends : (older : Option ℕ) → get K.live c ≡ older → (s : ℕ) → is_older older s ≡ true → lives (option_map (move b s S i) (session b T s)) ≡ false
  older_ends older e s o = by (session b T s) refl
    where
      at : (v : Session) → session b T s ≡ Some v → (t : Bool) → session_lives v ≡ t → session_lives (move b s S i v) ≡ false
      at v is false l = none_lives b s S i (Some v) l
      at v is true l =
          ap (λ (w : Session). session_lives w) (turned_to v s true is l (eq-eqb c v.client (owner older e s o v is)))

      by : (p : Option Session) → session b T s ≡ p → lives (option_map (move b s S i) p) ≡ false
      by None is = refl
      by (Some v) is = at v is (session_lives v) refl

  other_agrees : (older : Option ℕ) → get K.live c ≡ older → (s : ℕ) → nat_eq n s ≡ false → is_older older s ≡ false → SessionAgrees b H (with_older older) s (option_map (move b s S i) (session b T s))
  other_agrees older e s h o =
      same_agrees b H K (with_older older) s (option_map (move b s S i) (session b T s)) (other_same older s h o) (by (session b T s) refl (a.each s))
    where
      -- one that isn't live stays retired where it was so, since it is another client's
      stays : (v : Session) → SessionAgrees b H K s (Some v) → (x : Stage) → v.stage ≡ x → retired_at v.stage v.client ≡ retired_at (rested v i).stage v.client
      stays v g Live f = ap (λ (x : Stage). retired_at x v.client) f ∙ sym (by (lives_on v.client i))
        where
          by : (t : Bool) → retired_at (cond t v.stage Ended) v.client ≡ None
          by true = ap (λ (x : Stage). retired_at x v.client) f
          by false = refl
      stays v g Ended f = ap (λ (x : Stage). retired_at x v.client) f ∙ sym (by (lives_on v.client i))
        where
          by : (t : Bool) → retired_at (cond t v.stage Ended) v.client ≡ None
          by true = ap (λ (x : Stage). retired_at x v.client) f
          by false = refl
      stays v g Retired f = by (nat_eq c v.client) refl
        where
          by : (t : Bool) → nat_eq c v.client ≡ t → retired_at v.stage v.client ≡ retired_at (cond (cond t false true) v.stage Ended) v.client
          by false h = refl
          by true h =
              let j : get K.retired s ≡ Some c = g.retired ∙ ap (λ (x : Stage). retired_at x v.client) f ∙ ap (λ (k : ℕ). Some k) (sym (eqb-true c v.client h)) in
              let k : is_older older s ≡ true = is_the_older older e s (inr j) in
              cc

      at : (v : Session) → session b T s ≡ Some v → SessionAgrees b H K s (Some v) → (t : Bool) → session_lives v ≡ t → SessionAgrees b H K s (Some (move b s S i v))
      at v is g false l =
          away_agrees b H K s (Some (move b s S i v)) (none_lives b s S i (Some v) l)
          (g.retired ∙ stays v g v.stage refl ∙ ap (λ (w : Session). retired_client_of (Some w)) (sym (rests b s S i v l)))
          (is_away b H K s (Some v) l g)
      at v is g true l = apart (nat_eq c v.client) refl
        where
          apart : (t : Bool) → nat_eq c v.client ≡ t → SessionAgrees b H K s (Some (move b s S i v))
          apart true f =
              let j : get K.clients s ≡ Some c = client_is s v l is ∙ ap (λ (k : ℕ). Some k) (sym (eqb-true c v.client f)) in
              let k : is_older older s ≡ true = is_the_older older e s (inl j) in
              cc
          apart false f = subst (SessionAgrees b H K s) (ap (λ (w : Session). Some w) (sym (turned_to v s false is l f ∙ as_live v l))) g

      by : (p : Option Session) → session b T s ≡ p → SessionAgrees b H K s p → SessionAgrees b H K s (option_map (move b s S i) p)
      by None is g = g
      by (Some v) is g = at v is g (session_lives v) refl

  each_then : (older : Option ℕ) → get K.live c ≡ older → (s : ℕ) → SessionAgrees b H (with_older older) s (meet b s S (session b T s) i)
  each_then older e s = by (nat_eq n s) refl (is_older older s) refl
    where
      by : (t : Bool) → nat_eq n s ≡ t → (u : Bool) → is_older older s ≡ u → SessionAgrees b H (with_older older) s (cond (nat_eq n s) (Some (sessions.begun c S.length)) (option_map (move b s S i) (session b T s)))
      by true h u o = subst (λ (t : Bool). SessionAgrees b H (with_older older) s (cond t (Some (sessions.begun c S.length)) (option_map (move b s S i) (session b T s)))) (sym h) (new_agrees older e s h)
      by false h true o = subst (λ (t : Bool). SessionAgrees b H (with_older older) s (cond t (Some (sessions.begun c S.length)) (option_map (move b s S i) (session b T s)))) (sym h) (away_agrees b H (with_older older) s (option_map (move b s S i) (session b T s)) (older_ends older e s o) (retired_then older s ∙ ap (λ (t : Bool). cond t None (get K.retired s)) o ∙ sym (older_goes older e s o)) (older_away older s o))
      by false h false o = subst (λ (t : Bool). SessionAgrees b H (with_older older) s (cond t (Some (sessions.begun c S.length)) (option_map (move b s S i) (session b T s)))) (sym h) (other_agrees older e s h o)

  -- ---- the live session of each client

  -- the older session is of no other client
  one_client : (older : Option ℕ) → get K.live c ≡ older → (s d : ℕ) → is_older older s ≡ true → (get K.clients s ≡ Some d) ⊎ (get K.retired s ≡ Some d) → c ≡ d
  one_client older e s d o g = by (session b T s) refl
    where
      by_live : (v : Session) (t : Bool) → cond t (Some v.client) None ≡ Some d → v.client ≡ d
      by_live v true f = cc
      by_live v false f = cc

      by_stage : (v : Session) (x : Stage) → retired_at x v.client ≡ Some d → v.client ≡ d
      by_stage v Live f = cc
      by_stage v Retired f = cc
      by_stage v Ended f = cc

      its : (v : Session) → SessionAgrees b H K s (Some v) → v.client ≡ d
      its v w = elim g [
        | inl f ↦ by_live v (session_lives v) (sym w.client ∙ f)
        | inr f ↦ by_stage v v.stage (sym w.retired ∙ f)
      ]

      by : (p : Option Session) → session b T s ≡ p → c ≡ d
      by None is =
          let w : SessionAgrees b H K s None = subst (SessionAgrees b H K s) is (a.each s) in
          elim g [
            | inl f ↦ absurd (neither f w.client)
            | inr f ↦ absurd (neither f w.retired)
          ]
      by (Some v) is = owner older e s o v is ∙ its v (subst (SessionAgrees b H K s) is (a.each s))

  abbrev IsOf : Option ℕ → ℕ → ℕ → Type 0
  IsOf older d s = (get (with_older older).clients s ≡ Some d) ⊎ (get (with_older older).retired s ≡ Some d)

  live_agrees : (older : Option ℕ) → get K.live c ≡ older → (d s : ℕ) → (get (with_older older).live d ≡ Some s) ↔ IsOf older d s
  live_agrees older e d s = (λ h. there (nat_eq c d) refl (sym (live_then older d) ∙ h), λ h. live_then older d ∙ back h)
    where
      same : (j k : ℕ) → Some j ≡ Some k → j ≡ k
      same j k p = cc

      -- another client's session isn't the older one
      unolder : (t : Bool) → is_older older s ≡ t → (get K.clients s ≡ Some d) ⊎ (get K.retired s ≡ Some d) → nat_eq c d ≡ false → t ≡ false
      unolder false f g h = refl
      unolder true f g h =
          let k : nat_eq c d ≡ true = eq-eqb c d (one_client older e s d f g) in
          cc

      unnew : (t : Bool) → nat_eq n s ≡ t → get K.clients s ≡ Some d → t ≡ false
      unnew false f g = refl
      unnew true f g = absurd (neither (ap (get K.clients) (eqb-true n s f) ∙ g) none_named)

      stays : is_older older s ≡ false → get K.clients s ≡ Some d → IsOf older d s
      stays o g = inl (client_then older s
          ∙ ap (λ (t : Bool). cond t None (cond (nat_eq n s) (Some c) (get K.clients s))) o
          ∙ ap (λ (t : Bool). cond t (Some c) (get K.clients s)) (unnew (nat_eq n s) refl g)
          ∙ g)

      rests_so : is_older older s ≡ false → get K.retired s ≡ Some d → IsOf older d s
      rests_so o g = inr (retired_then older s ∙ ap (λ (t : Bool). cond t None (get K.retired s)) o ∙ g)

      there : (t : Bool) → nat_eq c d ≡ t → cond (nat_eq c d) (Some n) (get K.live d) ≡ Some s → IsOf older d s
      there true f h =
          let g : n ≡ s = same n s (sym (ap (λ (t : Bool). cond t (Some n) (get K.live d)) f) ∙ h) in
          let k : nat_eq n s ≡ true = eq-eqb n s g in
          inl (client_then older s ∙ ap (λ (t : Bool). cond t None (cond (nat_eq n s) (Some c) (get K.clients s))) (new_isnt older e s k) ∙ ap (λ (t : Bool). cond t (Some c) (get K.clients s)) k ∙ ap (λ (j : ℕ). Some j) (eqb-true c d f))
      there false f h = elim ((a.live d s).0 (sym (ap (λ (t : Bool). cond t (Some n) (get K.live d)) f) ∙ h)) [
        | inl g ↦ stays (unolder (is_older older s) refl (inl g) f) g
        | inr g ↦ rests_so (unolder (is_older older s) refl (inr g) f) g
      ]

      other : (t : Bool) → nat_eq c d ≡ t → is_older older s ≡ false → (get K.clients s ≡ Some d) ⊎ (get K.retired s ≡ Some d) → cond (nat_eq c d) (Some n) (get K.live d) ≡ Some s
      other true f o g =
          let d_is : d ≡ c = sym (eqb-true c d f) in
          let k : is_older older s ≡ true = is_the_older older e s (subst (λ (j : ℕ). (get K.clients s ≡ Some j) ⊎ (get K.retired s ≡ Some j)) d_is g) in
          cc
      other false f o g = ap (λ (t : Bool). cond t (Some n) (get K.live d)) f ∙ (a.live d s).1 g

      from_clients : (t : Bool) → is_older older s ≡ t → (u : Bool) → nat_eq n s ≡ u → cond (is_older older s) None (cond (nat_eq n s) (Some c) (get K.clients s)) ≡ Some d → cond (nat_eq c d) (Some n) (get K.live d) ≡ Some s
      from_clients true f u k h = let g : None ≡ Some d = sym (ap (λ (t : Bool). cond t None (cond (nat_eq n s) (Some c) (get K.clients s))) f) ∙ h in cc
      from_clients false f true k h =
          let g : c ≡ d = same c d (sym (ap (λ (t : Bool). cond t None (cond (nat_eq n s) (Some c) (get K.clients s))) f ∙ ap (λ (t : Bool). cond t (Some c) (get K.clients s)) k) ∙ h) in
          ap (λ (t : Bool). cond t (Some n) (get K.live d)) (eq-eqb c d g) ∙ ap (λ (j : ℕ). Some j) (eqb-true n s k)
      from_clients false f false k h =
          other (nat_eq c d) refl f (inl (sym (ap (λ (t : Bool). cond t None (cond (nat_eq n s) (Some c) (get K.clients s))) f ∙ ap (λ (t : Bool). cond t (Some c) (get K.clients s)) k) ∙ h))

      from_retired : (t : Bool) → is_older older s ≡ t → cond (is_older older s) None (get K.retired s) ≡ Some d → cond (nat_eq c d) (Some n) (get K.live d) ≡ Some s
      from_retired true f h = let g : None ≡ Some d = sym (ap (λ (t : Bool). cond t None (get K.retired s)) f) ∙ h in cc
      from_retired false f h = other (nat_eq c d) refl f (inr (sym (ap (λ (t : Bool). cond t None (get K.retired s)) f) ∙ h))

      back : IsOf older d s → cond (nat_eq c d) (Some n) (get K.live d) ≡ Some s
      back (inl h) = from_clients (is_older older s) refl (nat_eq n s) refl (sym (client_then older s) ∙ h)
      back (inr h) = from_retired (is_older older s) refl (sym (retired_then older s) ∙ h)

  -- ---- all of it

  agree_then : (older : Option ℕ) → get K.live c ≡ older → SessionsAgree b (T ++ i ∷ []) (with_older older)
  agree_then older e = record {
    silence = a.silence;
    last = highest (last_session T) a.last ∙ sym (last_behind T i);
    unused = λ s l. session-end b T i s ∙ ap (λ (t : Bool). cond t (Some (sessions.begun c S.length)) (option_map (move b s S i) (session b T s))) (apart s l) ∙ ap (option_map (move b s S i)) (a.unused s (above s l));
    each = λ s. subst (λ (G : List Entry). SessionAgrees b G (with_older older) s (session b (T ++ i ∷ []) s)) (sym (behind_mark T (the.Connected n c))) (subst (SessionAgrees b H (with_older older) s) (sym (session-end b T i s)) (each_then older e s));
    live = live_agrees older e;
    heard = heard_then older;
    opened = opened_then older;
    order = order_then older;
  }
    where
      highest : (k : ℕ) → K.last ≡ k → n ≡ max k n
      highest k h = let g : n ≡ K.last + 1 = new in omega arith

      apart : (s : ℕ) → n < s → nat_eq n s ≡ false
      apart s l = grind (arith, nat_tests)

  pub begun_agrees : SessionsAgree b (T ++ M (the.Connected n c) ∷ []) (begun K c n)
  begun_agrees = agree_then (get K.live c) refl
