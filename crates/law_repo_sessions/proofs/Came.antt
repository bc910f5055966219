-- What is kept of the sessions says what the trace says, behind each entry that is no Life.
use Rattle.cached_sets.proofs.Ordering.{ordered_from, ordered_marked}
use Rattle.cached_sets.proofs.Places as places
use Rattle.cached_sets.specs.Meaning.{IsOrdered, has_page, place_in}
use Rattle.cached_sets.specs.Noted.{is_silent, most_noted, places_of}
use Rattle.cached_sets.specs.Sets.{Sets, touches}
use Rattle.log_entries.specs.declared.entry.Entry.{Entry}
use Rattle.log_entries.specs.declared.request.Kind.TheVariants.{App, Transform, Upgrade}
use Rattle.log_entries.specs.declared.request.Kind.{Kind}
use Rattle.log_entries.specs.declared.request.Request.{Request}
use Rattle.repo_sessions.specs.Sessions.{Kept, retire}
use Rattle.repo_sessions.specs.Telling.{Retires, UpgradeTold, WritesTold, news_for}
use Rattle.spec_history.proofs.Growth.{length-state}
use Rattle.spec_history.proofs.LastWrite.{commit_shape}
use Rattle.spec_history.specs.History.{Base, State, commit_of, epoch_of, is_life, state, writers}
use Rattle.spec_history.specs.Requests.{has_written, is_upgrade, is_upgrade_kind, written}
use Rattle.session_outbox.specs.Messages as messages
use Rattle.session_outbox.specs.Outbox as outbox
use Rattle.session_outbox.specs.declared.message.Message.TheVariants as their
use Rattle.session_outbox.specs.declared.message.Message.{Message}
use Rattle.law_repo_sessions.proofs.Invalidated.{last_other-end, live_place, place_where, written_place}
use Rattle.law_repo_sessions.proofs.GivenUp.{IsGivenUp, all_given, all_last, all_live, all_order}
use Rattle.law_repo_sessions.proofs.Marked.{IsAway, acknowledged_agrees, acknowledged_away, agree_behind, away_agrees, drop_more, is_away, same_agrees}
use Rattle.law_repo_sessions.proofs.News.{heard_at, news_more, news_rise, same_places}
use Rattle.law_repo_sessions.proofs.Seen.{kept_acknowledged, kept_marked, place_touched}
use Rattle.law_repo_sessions.proofs.Traced.{behind_entry, came, moves, none_lives, rests, retires}
use Rattle.law_repo_sessions.proofs.Written.{among_written, news_are, no_news, push_list}
use Rattle.law_repo_sessions.specs.Agreeing.{AreInOrder, SessionAgrees, SessionsAgree, news_places, retired_at, retired_client_of, unanswered_by}
use Rattle.spec_trace.specs.Notices.{lives, notice_of}
use Rattle.law_repo_sessions.specs.Coming.{CommitsTold, HasCome, IsTellable, acknowledged_by}
use Rattle.spec_trace.proofs.Kept.{writers-end}
use Rattle.spec_trace.proofs.Taken.{keeps-pages}
use Rattle.spec_trace.specs.Session.{Ended, Live, Notice, Retired, Session, Stage, acked_by, invalid_in, is_live as is_live_stage, last_other, meet, move, moved, place_of, push, request_in, retired, session, session_lives, told, told_of}
use Rattle.spec_trace.specs.Session as notices
use Rattle.spec_trace.specs.Trace.{E, Item, entries}
use Rattle.std.proofs.Common.{Bool, List, [], ap, arith, cond, drop, false, inl, inr, length, map, nat_eq, refl, subst, sym, true, ◌+◌, ◌++◌, ◌∙◌, ◌∷◌, ◌≡◌, ◌≤◌, ℕ}
use Rattle.std.proofs.lemmas.List.{append-nil, length-append, map-append}
use Rattle.std.proofs.lemmas.Bool.{both_ways}
use Rattle.std.proofs.lemmas.Cmp.{nat_eq_equiv}
use Rattle.std.specs.List.{AllByRecursion, filter, fold, list_any}
use Rattle.std.specs.Map.{keys_of}
use Rattle.std.specs.Option.{IfSome, is_some, option_or, option_to_list}
use Rattle.std.specs.Ordering.{nat_cmp}
use Rattle.std.specs.Prelude.{None, Option, Some, nat_lt, not, ◌&&◌, ◌↔◌, ◌⊎◌}
use Rattle.thor_value.specs.FiniteMap.{IsSorted, Map, empty, get, has, keys, overwrite}
use Rattle.thor_value.specs.Names.{oref_cmp}
use Rattle.thor_value.specs.declared.names.Oref.{Oref}
use Rattle.thor_value.specs.declared.values.Obj.{Obj}
use Rattle.validation_queue.specs.Names.{Rises, is_among}
use Rattle.repo_volatile.specs.Telling.{CommitTold, KindTold}

-- ---- what is kept beside the sessions' sets and messages

pub record Carries (K L : Kept) : Type 0 where
  pub last : L.last ≡ K.last
  pub clients : L.clients ≡ K.clients
  pub live : L.live ≡ K.live
  pub retired : L.retired ≡ K.retired
  pub opened : ((s page : ℕ) → has_page K.sets s page ≡ true → has K.sets.invalid s ≡ true) → (s page : ℕ) → has_page L.sets s page ≡ true → has L.sets.invalid s ≡ true
  pub order : AreInOrder K → AreInOrder L

carries_all : (J K L : Kept) → Carries J K → Carries K L → Carries J L
carries_all J K L h g = record {
  last = g.last ∙ h.last;
  clients = g.clients ∙ h.clients;
  live = g.live ∙ h.live;
  retired = g.retired ∙ h.retired;
  opened = λ o. g.opened (h.opened o);
  order = λ o. g.order (h.order o);
}

carries_itself : (K : Kept) → Carries K K
carries_itself K = record { last = refl; clients = refl; live = refl; retired = refl; opened = λ o. o; order = λ o. o }

carries_acknowledged : (K : Kept) (r : Option Request) → Carries K (acknowledged_by K r)
carries_acknowledged K None = carries_itself K
carries_acknowledged K (Some q) = record {
  last = refl;
  clients = refl;
  live = refl;
  retired = refl;
  opened = λ o s page h. kept_acknowledged K.sets q.session q.upto s (o s page h);
  order = λ o. record { clients = o.clients; retired = o.retired; waiting = o.waiting; sets = ordered_from K.sets.invalid q.session q.upto o.sets; noted = places.kept_order K.sets.noted q.session q.upto o.noted };
}

carries_writes : (K L : Kept) (w : ℕ) (names : List Oref) (k : ℕ) → WritesTold K L w names k → Carries K L
carries_writes K L w names k h = record {
  last = h.same.last;
  clients = h.same.clients;
  live = h.same.live;
  retired = h.same.retired;
  opened = λ o s page g. subst (λ (C : Sets). has C.invalid s ≡ true) (sym h.sets) (kept_marked K.sets.invalid (touches K.sets.cached w names) k s (o s page (subst (λ (C : Sets). has_page C s page ≡ true) h.sets g)));
  order = λ o. record {
    clients = subst (λ (m : Map nat_cmp ℕ). IsSorted m) (sym h.same.clients) o.clients;
    retired = subst (λ (m : Map nat_cmp ℕ). IsSorted m) (sym h.same.retired) o.retired;
    waiting = h.order o.waiting;
    sets = subst (λ (C : Sets). IsOrdered C.invalid) (sym h.sets) (ordered_marked K.sets.invalid (touches K.sets.cached w names) k o.sets);
    noted = h.notes_order o.noted;
  };
}

carries_upgrade : (K L : Kept) (number : ℕ) (text : List ℕ) (k : ℕ) → UpgradeTold K L number text k → Carries K L
carries_upgrade K L number text k h = record {
  last = h.same.last;
  clients = h.same.clients;
  live = h.same.live;
  retired = h.same.retired;
  opened = λ o s page g. subst (λ (C : Sets). has C.invalid s ≡ true) (sym h.sets) (o s page (subst (λ (C : Sets). has_page C s page ≡ true) h.sets g));
  order = λ o. record {
    clients = subst (λ (m : Map nat_cmp ℕ). IsSorted m) (sym h.same.clients) o.clients;
    retired = subst (λ (m : Map nat_cmp ℕ). IsSorted m) (sym h.same.retired) o.retired;
    waiting = h.order o.waiting;
    sets = subst (λ (C : Sets). IsOrdered C.invalid) (sym h.sets) o.sets;
    noted = h.notes_order o.noted;
  };
}

-- ---- how a commit was told

kinds : (K L : Kept) (q : Request) (number k : ℕ) (kind : Kind) → KindTold K L q number k kind
    → ((is_upgrade_kind kind ≡ false) × WritesTold K L q.session (keys_of q.writes) k) ⊎ ((is_upgrade_kind kind ≡ true) × ((text : List ℕ) × UpgradeTold K L number text k))
kinds K L q number k App h = inl (refl, h)
kinds K L q number k Transform h = inl (refl, h)
kinds K L q number k (Upgrade text) h = inr (refl, (text, h))

carries_commit : (K L : Kept) (q : Request) (number k : ℕ) → KindTold K L q number k q.kind → Carries K L
carries_commit K L q number k h = elim (kinds K L q number k q.kind h) [
  | inl p ↦ carries_writes K L q.session (keys_of q.writes) k p.1
  | inr p ↦ carries_upgrade K L number p.1.0 k p.1.1
]

-- ---- a session that isn't live

away_writes : (K L : Kept) (s w : ℕ) (names : List Oref) (k : ℕ) → WritesTold K L w names k → IsAway K s → IsAway L s
away_writes K L s w names k h a = record {
  client = ap (λ (m : Map nat_cmp ℕ). get m s) h.same.clients ∙ a.client;
  notes = h.notes s ∙ ap (λ (ms : List Message). places_of K.sets.noted s ++ map messages.place_of ms) (no_news K.sets s k w names a.pages) ∙ append-nil (places_of K.sets.noted s) ∙ a.notes;
  pages = λ p. ap (λ (C : Sets). has_page C s p) h.sets ∙ a.pages p;
  invalid = λ x.
      ap (λ (C : Sets). place_in C s x) h.sets
      ∙ place_touched K.sets w names k s x (λ e. absurd (both_ways (has_page K.sets s x.page) (a.pages x.page) e))
      ∙ ap (λ (t : Bool). cond ((not (nat_eq s w) && t) && is_among names x) (Some k) (place_in K.sets s x)) (a.pages x.page)
      ∙ by (nat_eq s w) (is_among names x) (place_in K.sets s x)
      ∙ a.invalid x;
  waits =
      ap (map notice_of) (h.news s ∙ ap (λ (ms : List Message). outbox.waiting K.waiting s ++ ms) (no_news K.sets s k w names a.pages) ∙ append-nil (outbox.waiting K.waiting s))
      ∙ a.waits;
}
  where
    by : (own named : Bool) (o : Option ℕ) → cond ((not own && false) && named) (Some k) o ≡ o
    by true named o = refl
    by false named o = refl

away_upgrade : (K L : Kept) (s number : ℕ) (text : List ℕ) (k : ℕ) → UpgradeTold K L number text k → IsAway K s → IsAway L s
away_upgrade K L s number text k h a = record {
  client = ap (λ (m : Map nat_cmp ℕ). get m s) h.same.clients ∙ a.client;
  notes = h.notes s ∙ ap (λ (o : Option ℕ). places_of K.sets.noted s ++ cond (is_some o) (k ∷ []) []) a.client ∙ append-nil (places_of K.sets.noted s) ∙ a.notes;
  pages = λ p. ap (λ (C : Sets). has_page C s p) h.sets ∙ a.pages p;
  invalid = λ x. ap (λ (C : Sets). place_in C s x) h.sets ∙ a.invalid x;
  waits =
      ap (map notice_of)
      (h.news s
      ∙ ap (λ (o : Option ℕ). outbox.waiting K.waiting s ++ cond (is_some o) (their.Upgrade number text k ∷ []) []) a.client
      ∙ append-nil (outbox.waiting K.waiting s))
      ∙ a.waits;
}

away_commit : (K L : Kept) (s : ℕ) (q : Request) (number k : ℕ) → KindTold K L q number k q.kind → IsAway K s → IsAway L s
away_commit K L s q number k h a = elim (kinds K L q number k q.kind h) [
  | inl p ↦ away_writes K L s q.session (keys_of q.writes) k p.1 a
  | inr p ↦ away_upgrade K L s number p.1.0 k p.1.1 a
]

away_acknowledged : (K : Kept) (s : ℕ) (r : Option Request) → AreInOrder K → IsAway K s → IsAway (acknowledged_by K r) s
away_acknowledged K s None o a = a
away_acknowledged K s (Some q) o a = acknowledged_away K q.session s q.upto o a

-- ---- a live session

-- what the entry commits, behind a history
abbrev IsCommit : Base → List Entry → Entry → Request → Type 0
IsCommit b H e q = commit_of b (state b H) e ≡ (length H, q) ∷ []

-- the last write of x by another session, behind a commit
last_now : (b : Base) (H : List Entry) (e : Entry) (s : ℕ) (x : Oref) (q : Request) → IsCommit b H e q
    → last_other s (writers b (H ++ e ∷ []) x) ≡ cond (has_written q x) (cond (nat_eq q.session s) (last_other s (writers b H x)) (Some (length H))) (last_other s (writers b H x))
last_now b H e s x q c =
    ap (last_other s) (writers-end b H e x ∙ ap (λ (cs : List (ℕ × Request)). writers b H x ++ filter (λ d. has_written d.1 x) cs) c)
    ∙ last_other-end s (writers b H x) (filter (λ d. has_written d.1 x) ((length H, q) ∷ []))
    ∙ by (has_written q x)
  where
    by : (t : Bool) → fold (λ (last : Option ℕ) (d : ℕ × Request). cond (nat_eq d.1.session s) last (Some d.0)) (last_other s (writers b H x)) (cond t ((length H, q) ∷ []) [])
        ≡ cond t (cond (nat_eq q.session s) (last_other s (writers b H x)) (Some (length H))) (last_other s (writers b H x))
    by true = refl
    by false = refl

long_push : (xs : List Notice) (o : Option Notice) (n : ℕ) → n ≤ length xs → n ≤ length (push xs o)
long_push xs None n h = h
long_push xs (Some m) n h = rw length-append (omega arith)

longer : (H : List Entry) (e : Entry) (n : ℕ) → n ≤ length H → n ≤ length (H ++ e ∷ [])
longer H e n h = rw length-append (omega arith)

-- what waits, with what was told
waits_more : (v : Session) (ms : List Notice) (o : Option Notice) → v.taken ≤ length v.sent → ms ≡ option_to_list o → drop v.taken v.sent ++ ms ≡ drop v.taken (push v.sent o)
waits_more v ms o h e = ap (λ (ns : List Notice). drop v.taken v.sent ++ ns) e ∙ sym (drop_more v.taken v.sent (option_to_list o) h) ∙ ap (drop v.taken) (sym (push_list v.sent o))

-- what is asked of a live session before a commit
record Stands (b : Base) (H : List Entry) (K : Kept) (s : ℕ) (v : Session) : Type 0 where
  live : session_lives v ≡ true
  agrees : SessionAgrees b H K s (Some v)
  low : (p c : ℕ) → get v.pages p ≡ Some c → c ≤ length H
  opened : (page : ℕ) → has_page K.sets s page ≡ true → has K.sets.invalid s ≡ true

-- the places of its news, with that of what it was told
noted_more : (b : Base) (H : List Entry) (K : Kept) (s : ℕ) (v : Session) (q : Request) → Stands b H K s v
    → places_of K.sets.noted s ++ map place_of (option_to_list (told s (state b H) v.pages q)) ≡ unanswered_by (Some (record v { sent = push v.sent (told s (state b H) v.pages q) }))
noted_more b H K s v q st =
    let w : Session = record v { sent = push v.sent (told s (state b H) v.pages q) } in
    let low : v.acked ≤ (state b H).length = subst (λ (n : ℕ). v.acked ≤ n) (sym (length-state b H)) (st.agrees.within st.live).acked in
    ap (λ (ks : List ℕ). ks ++ map place_of (option_to_list (told s (state b H) v.pages q))) (st.agrees.notes ∙ ap (λ (t : Bool). cond t (news_places v) []) st.live)
    ∙ sym (news_more s (state b H) v q low)
    ∙ sym (ap (λ (t : Bool). cond t (news_places w) []) st.live)

writes_agree : (b : Base) (H : List Entry) (e : Entry) (K L : Kept) (s : ℕ) (v : Session) (q : Request) → Stands b H K s v → IsCommit b H e q → is_upgrade q ≡ false → Rises (keys_of q.writes) → WritesTold K L q.session (keys_of q.writes) (length H)
    → SessionAgrees b (H ++ e ∷ []) L s (Some (record v { sent = push v.sent (told s (state b H) v.pages q) }))
writes_agree b H e K L s v q st c plain rise h =
    let w : Session = record v { sent = push v.sent (told s (state b H) v.pages q) } in
    let a : SessionAgrees b H K s (Some v) = st.agrees in
    let paged : (p : ℕ) → has_page K.sets s p ≡ has v.pages p = λ p. a.pages p ∙ ap (λ (t : Bool). t && has v.pages p) st.live in
    let news : map notice_of (news_for K.sets q.session (keys_of q.writes) (length H) s) ≡ option_to_list (told s (state b H) v.pages q) = news_are K.sets (state b H) s (length H) v.pages q plain (length-state b H) rise paged in
    record {
      client = ap (λ (m : Map nat_cmp ℕ). get m s) h.same.clients ∙ a.client;
      retired = ap (λ (m : Map nat_cmp ℕ). get m s) h.same.retired ∙ a.retired;
      notes =
          h.notes s
          ∙ ap (λ (ks : List ℕ). places_of K.sets.noted s ++ ks) (same_places (news_for K.sets q.session (keys_of q.writes) (length H) s) ∙ ap (map place_of) news)
          ∙ noted_more b H K s v q st;
      pages = λ p. ap (λ (C : Sets). has_page C s p) h.sets ∙ a.pages p;
      invalid = λ x.
          ap (λ (C : Sets). place_in C s x) h.sets
          ∙ place_touched K.sets q.session (keys_of q.writes) (length H) s x (st.opened x.page)
          ∙ ap (λ (t : Bool). cond ((not t && has_page K.sets s x.page) && is_among (keys_of q.writes) x) (Some (length H)) (place_in K.sets s x)) (nat_eq_equiv.symm s q.session)
          ∙ ap (λ (t : Bool). cond ((not (nat_eq q.session s) && t) && is_among (keys_of q.writes) x) (Some (length H)) (place_in K.sets s x)) (paged x.page)
          ∙ ap (λ (t : Bool). cond ((not (nat_eq q.session s) && has v.pages x.page) && t) (Some (length H)) (place_in K.sets s x)) (among_written q x rise)
          ∙ ap (cond ((not (nat_eq q.session s) && has v.pages x.page) && has_written q x) (Some (length H))) (a.invalid x ∙ live_place v (get v.pages x.page) (last_other s (writers b H x)) st.live)
          ∙ by (last_other s (writers b H x)) (get v.pages x.page) (λ k f. st.low x.page k f) (nat_eq q.session s) (has_written q x)
          ∙ ap (place_where (get v.pages x.page) v.acked) (sym (last_now b H e s x q c))
          ∙ sym (live_place w (get v.pages x.page) (last_other s (writers b (H ++ e ∷ []) x)) st.live);
      waits =
          ap (map notice_of) (h.news s)
          ∙ map-append notice_of (outbox.waiting K.waiting s) (news_for K.sets q.session (keys_of q.writes) (length H) s)
          ∙ ap (λ (ms : List Notice). ms ++ map notice_of (news_for K.sets q.session (keys_of q.writes) (length H) s)) (a.waits ∙ ap (λ (t : Bool). cond t (drop v.taken v.sent) []) st.live)
          ∙ waits_more v (map notice_of (news_for K.sets q.session (keys_of q.writes) (length H) s)) (told s (state b H) v.pages q) (a.within st.live).taken news
          ∙ ap (λ (t : Bool). cond t (drop v.taken (push v.sent (told s (state b H) v.pages q))) []) (sym st.live);
      within = λ l. record { taken = long_push v.sent (told s (state b H) v.pages q) v.taken (a.within st.live).taken; acked = longer H e v.acked (a.within st.live).acked };
    }
  where
    by : (l o : Option ℕ) → ((k : ℕ) → o ≡ Some k → k ≤ length H) → (own wrote : Bool)
        → cond ((not own && is_some o) && wrote) (Some (length H)) (place_where o v.acked l) ≡ place_where o v.acked (cond wrote (cond own l (Some (length H))) l)
    by l None low true wrote = refl
    by l None low false wrote = refl
    by l (Some k) low true true = refl
    by l (Some k) low true false = refl
    by l (Some k) low false true = sym (written_place k v.acked (length H) (low k refl) (st.agrees.within st.live).acked)
    by l (Some k) low false false = refl

upgrade_agrees : (b : Base) (H : List Entry) (e : Entry) (K L : Kept) (s : ℕ) (v : Session) (q : Request) (number : ℕ) (text : List ℕ) → Stands b H K s v → IsCommit b H e q → is_upgrade q ≡ true → q.writes ≡ [] → number ≡ epoch_of (state b H) + 1 → UpgradeTold K L number text (length H)
    → SessionAgrees b (H ++ e ∷ []) L s (Some (record v { sent = push v.sent (told s (state b H) v.pages q) }))
upgrade_agrees b H e K L s v q number text st c wide bare num h =
    let S : State = state b H in
    let w : Session = record v { sent = push v.sent (told s S v.pages q) } in
    let a : SessionAgrees b H K s (Some v) = st.agrees in
    let unwritten : (x : Oref) → has_written q x ≡ false = λ x. ap (λ (ws : List (Oref × Obj)). has {R = oref_cmp} (overwrite empty ws) x) bare in
    let news : told s S v.pages q ≡ Some (notices.Upgrade (epoch_of S + 1) S.length) = ap (λ (t : Bool). cond t (Some (notices.Upgrade (epoch_of S + 1) S.length)) (cond (nat_eq q.session s) None (notices.invalid_of (filter (λ x. has v.pages x.page) (keys (written q))) S.length))) wide in
    let there : has K.clients s ≡ true = ap (λ (o : Option ℕ). is_some o) (a.client ∙ ap (λ (t : Bool). cond t (Some v.client) None) st.live) in
    let sent : option_to_list (Some (notices.Upgrade number (length H))) ≡ option_to_list (told s S v.pages q) =
    ap (λ (n : ℕ). option_to_list (Some (notices.Upgrade n (length H)))) num ∙ ap (λ (n : ℕ). option_to_list (Some (notices.Upgrade (epoch_of S + 1) n))) (sym (length-state b H)) ∙ ap option_to_list (sym news) in
    record {
      client = ap (λ (m : Map nat_cmp ℕ). get m s) h.same.clients ∙ a.client;
      retired = ap (λ (m : Map nat_cmp ℕ). get m s) h.same.retired ∙ a.retired;
      notes =
          h.notes s
          ∙ ap (λ (t : Bool). places_of K.sets.noted s ++ cond t (length H ∷ []) []) there
          ∙ ap (λ (ms : List Notice). places_of K.sets.noted s ++ map place_of ms) sent
          ∙ noted_more b H K s v q st;
      pages = λ p. ap (λ (C : Sets). has_page C s p) h.sets ∙ a.pages p;
      invalid = λ x.
          ap (λ (C : Sets). place_in C s x) h.sets
          ∙ a.invalid x
          ∙ live_place v (get v.pages x.page) (last_other s (writers b H x)) st.live
          ∙ ap (place_where (get v.pages x.page) v.acked) (sym (last_now b H e s x q c ∙ ap (λ (t : Bool). cond t (cond (nat_eq q.session s) (last_other s (writers b H x)) (Some (length H))) (last_other s (writers b H x))) (unwritten x)))
          ∙ sym (live_place w (get v.pages x.page) (last_other s (writers b (H ++ e ∷ []) x)) st.live);
      waits =
          ap (map notice_of) (h.news s ∙ ap (λ (t : Bool). outbox.waiting K.waiting s ++ cond t (their.Upgrade number text (length H) ∷ []) []) there)
          ∙ map-append notice_of (outbox.waiting K.waiting s) (their.Upgrade number text (length H) ∷ [])
          ∙ ap (λ (ms : List Notice). ms ++ notices.Upgrade number (length H) ∷ []) (a.waits ∙ ap (λ (t : Bool). cond t (drop v.taken v.sent) []) st.live)
          ∙ waits_more v (notices.Upgrade number (length H) ∷ []) (told s S v.pages q) (a.within st.live).taken sent
          ∙ ap (λ (t : Bool). cond t (drop v.taken (push v.sent (told s S v.pages q))) []) (sym st.live);
      within = λ l. record { taken = long_push v.sent (told s S v.pages q) v.taken (a.within st.live).taken; acked = longer H e v.acked (a.within st.live).acked };
    }

-- nothing is committed
none_agrees : (b : Base) (H : List Entry) (e : Entry) (K : Kept) (s : ℕ) (v : Session) → session_lives v ≡ true → commit_of b (state b H) e ≡ [] → SessionAgrees b H K s (Some v) → SessionAgrees b (H ++ e ∷ []) K s (Some v)
none_agrees b H e K s v l c a = record {
  client = a.client;
  retired = a.retired;
  notes = a.notes;
  pages = a.pages;
  invalid = λ x.
      a.invalid x
      ∙ ap (λ (cs : List (ℕ × Request)). invalid_in v (get v.pages x.page) (last_other s cs)) (sym (writers-end b H e x ∙ ap (λ (cs : List (ℕ × Request)). writers b H x ++ filter (λ d. has_written d.1 x) cs) c ∙ append-nil (writers b H x)));
  waits = a.waits;
  within = λ h. record { taken = (a.within l).taken; acked = longer H e v.acked (a.within l).acked };
}

-- ---- all sessions

cases : (o : Option Session) → (lives o ≡ false) ⊎ ((v : Session) × (o ≡ Some v) × (session_lives v ≡ true))
cases None = inl refl
cases (Some v) = by (session_lives v) refl
  where
    by : (t : Bool) → session_lives v ≡ t → (session_lives v ≡ false) ⊎ ((w : Session) × (Some v ≡ Some w) × (session_lives w ≡ true))
    by true e = inr (v, refl, e)
    by false e = inl e

module _ (b : Base) (T : List Item) (e : Entry) (K L : Kept) (plain : is_life e ≡ false) (a : SessionsAgree b T K) (h : HasCome b T e K L) where
  abbrev H : List Entry
  H = entries T

  abbrev S : State
  S = state b H

  abbrev J : Kept
  J = acknowledged_by K (request_in e)

  order : AreInOrder J
  order = (carries_acknowledged K (request_in e)).order a.order

  opened : (s page : ℕ) → has_page J.sets s page ≡ true → has J.sets.invalid s ≡ true
  opened = (carries_acknowledged K (request_in e)).opened a.opened

  abbrev Shape : Type 0
  Shape = (commit_of b S e ≡ []) ⊎ ((q : Request) × IsCommit b H e q)

  shape : Shape
  shape = elim (commit_shape b S e) [
    | inl none ↦ inl none
    | inr one ↦ inr (one.0, one.1 ∙ ap (λ (k : ℕ). (k, one.0) ∷ []) (length-state b H))
  ]

  told_none : commit_of b S e ≡ [] → L ≡ J
  told_none c = subst (CommitsTold J L (epoch_of S + 1)) c h.told

  told_one : (q : Request) → IsCommit b H e q → CommitTold J L q (epoch_of S + 1) (length H)
  told_one q c = subst (CommitsTold J L (epoch_of S + 1)) c h.told

  form_of : (q : Request) → IsCommit b H e q → IsTellable q
  form_of q c = let f : AllByRecursion {X = ℕ × Request} (λ d. IsTellable d.1) ((length H, q) ∷ []) = subst (AllByRecursion {X = ℕ × Request} (λ d. IsTellable d.1)) c h.form in f.0

  -- none is silent behind what is acknowledged
  heard : (s : ℕ) → is_silent J.sets.noted s ≡ false
  heard s = by (request_in e)
    where
      by : (r : Option Request) → is_silent (acknowledged_by K r).sets.noted s ≡ false
      by None = a.heard s
      by (Some q) = places.still_heard K.sets.noted q.session q.upto s (a.heard s)

  -- ---- what is kept where the commit was told and none is given up yet

  -- and which sessions are given up then
  record Comes (M : Kept) : Type 0 where
    carries : Carries J M
    away : (s : ℕ) → IsAway J s → IsAway M s
    live : (s : ℕ) (u : Session) → Stands b H J s u → SessionAgrees b (H ++ e ∷ []) M s (Some (record u { sent = push u.sent (told_of s S u.pages (commit_of b S e)) }))
    silent : List ℕ
    each : (s : ℕ) → list_any (nat_eq s) silent ≡ is_silent M.sets.noted s
    rest : L ≡ fold retire M silent

  none_come : commit_of b S e ≡ [] → Comes J
  none_come c = record {
    carries = carries_itself J;
    away = λ s d. d;
    live = λ s u st. subst (λ (cs : List (ℕ × Request)). SessionAgrees b (H ++ e ∷ []) J s (Some (record u { sent = push u.sent (told_of s S u.pages cs) }))) (sym c) (none_agrees b H e J s u st.live c st.agrees);
    silent = [];
    each = λ s. sym (heard s);
    rest = told_none c;
  }

  one_comes : (q : Request) (M : Kept) → IsCommit b H e q → KindTold J M q (epoch_of S + 1) (length H) q.kind → Retires J M L → Comes M
  one_comes q M c k r = record {
    carries = carries_commit J M q (epoch_of S + 1) (length H) k;
    away = λ s d. away_commit J M s q (epoch_of S + 1) (length H) k d;
    live = λ s u st. subst (λ (cs : List (ℕ × Request)). SessionAgrees b (H ++ e ∷ []) M s (Some (record u { sent = push u.sent (told_of s S u.pages cs) }))) (sym c) (one s u st (kinds J M q (epoch_of S + 1) (length H) q.kind k));
    silent = r.silent;
    each = λ s. r.each s (heard s);
    rest = r.rest;
  }
    where
      one : (s : ℕ) (u : Session) → Stands b H J s u
          → ((is_upgrade_kind q.kind ≡ false) × WritesTold J M q.session (keys_of q.writes) (length H)) ⊎ ((is_upgrade_kind q.kind ≡ true) × ((text : List ℕ) × UpgradeTold J M (epoch_of S + 1) text (length H)))
          → SessionAgrees b (H ++ e ∷ []) M s (Some (record u { sent = push u.sent (told s S u.pages q) }))
      one s u st (inl p) = writes_agree b H e J M s u q st c p.0 (form_of q c).rise p.1
      one s u st (inr p) = upgrade_agrees b H e J M s u q (epoch_of S + 1) p.1.0 st c p.0 ((form_of q c).bare p.0) refl p.1.1

  middle : (M : Kept) × Comes M
  middle = elim shape [
    | inl c ↦ (J, none_come c)
    | inr p ↦ let t : CommitTold J L p.0 (epoch_of S + 1) (length H) = told_one p.0 p.1 in (t.0, one_comes p.0 t.0 p.1 t.1 t.2)
  ]

  acked : (s : ℕ) (v : Session) → session_lives v ≡ true → SessionAgrees b H K s (Some v) → SessionAgrees b H J s (Some (record v { acked = acked_by s v.acked (request_in e) }))
  acked s v l g = by (request_in e) h.upto
    where
      by : (r : Option Request) → IfSome r (λ q. q.upto ≤ length H) → SessionAgrees b H (acknowledged_by K r) s (Some (record v { acked = acked_by s v.acked r }))
      by None u = g
      by (Some q) u = acknowledged_agrees b H K q.session s q.upto v (news_rise b T K q.session a) u a.order l g

  -- ---- what is kept then

  module _ (M : Kept) (m : Comes M) where
    all : Carries K M
    all = carries_all K J M (carries_acknowledged K (request_in e)) m.carries

    M_order : AreInOrder M
    M_order = all.order a.order

    given : (s : ℕ) → IsGivenUp M L s (is_silent M.sets.noted s)
    given s = subst (λ (t : Bool). IsGivenUp M L s t) (m.each s) (subst (λ (N : Kept). IsGivenUp M N s (list_any (nat_eq s) m.silent)) (sym m.rest) (all_given M m.silent s M_order))

    -- of what isn't there nothing is given up
    stays_away : (s : ℕ) (t : Bool) → IsGivenUp M L s t → IsAway M s → IsAway L s
    stays_away s true g d = record { client = g.client; notes = g.notes; pages = g.pages; invalid = g.invalid; waits = ap (map notice_of) g.waits }
    stays_away s false g d = record {
      client = g.client ∙ d.client;
      notes = g.notes ∙ d.notes;
      pages = λ p. g.pages p ∙ d.pages p;
      invalid = λ x. g.invalid x ∙ d.invalid x;
      waits = ap (map notice_of) g.waits ∙ d.waits;
    }

    same_client : (s : ℕ) (t : Bool) → IsGivenUp M L s t → IsAway M s → get L.retired s ≡ get K.retired s
    same_client s true g d = g.retired ∙ ap (λ (o : Option ℕ). option_or o (get M.retired s)) d.client ∙ ap (λ (R : Map nat_cmp ℕ). get R s) all.retired
    same_client s false g d = g.retired ∙ ap (λ (R : Map nat_cmp ℕ). get R s) all.retired

    -- a session that isn't live stays as it is behind an entry that is no Life
    rests_so : (s : ℕ) (o : Option Session) → lives o ≡ false → retired_client_of o ≡ retired_client_of (meet b s S o (E e))
    rests_so s None d = refl
    rests_so s (Some v) d =
        ap (λ (t : Bool). retired_at (cond (cond t false true) v.stage Ended) v.client) (sym plain)
        ∙ ap (λ (w : Session). retired_client_of (Some w)) (sym (rests b s S (E e) v d))

    away : (s : ℕ) → lives (session b T s) ≡ false → SessionAgrees b (H ++ e ∷ []) L s (meet b s S (session b T s) (E e))
    away s d =
        let before : IsAway J s = away_acknowledged K s (request_in e) a.order (is_away b H K s (session b T s) d (a.each s)) in
        let then' : IsAway M s = m.away s before in
        let g : IsGivenUp M L s (is_silent M.sets.noted s) = given s in
        away_agrees b (H ++ e ∷ []) L s (meet b s S (session b T s) (E e)) (none_lives b s S (E e) (session b T s) d)
        (same_client s (is_silent M.sets.noted s) g then' ∙ (a.each s).retired ∙ rests_so s (session b T s) d)
        (stays_away s (is_silent M.sets.noted s) g then')

    -- a live one that leaves no more news than it may
    stays_live : (s : ℕ) (w : Session) → IsGivenUp M L s false → SessionAgrees b (H ++ e ∷ []) M s (Some w) → SessionAgrees b (H ++ e ∷ []) L s (Some w)
    stays_live s w g x = same_agrees b (H ++ e ∷ []) M L s (Some w) (record { client = g.client; retired = g.retired; notes = g.notes; pages = g.pages; invalid = g.invalid; waits = g.waits }) x

    unlive : (x : Stage) → is_live_stage x ≡ true → is_live_stage (retired x) ≡ false
    unlive Live l = refl
    unlive Retired l = refl
    unlive Ended l = cc

    as_retired : (x : Stage) (client : ℕ) → is_live_stage x ≡ true → Some client ≡ retired_at (retired x) client
    as_retired Live client l = refl
    as_retired Retired client l = cc
    as_retired Ended client l = cc

    -- one that leaves more
    given_up : (s : ℕ) (w : Session) → session_lives w ≡ true → IsGivenUp M L s true → SessionAgrees b (H ++ e ∷ []) M s (Some w) → SessionAgrees b (H ++ e ∷ []) L s (Some (record w { stage = retired w.stage }))
    given_up s w l g x =
        away_agrees b (H ++ e ∷ []) L s (Some (record w { stage = retired w.stage })) (unlive w.stage l)
        (g.retired ∙ ap (λ (o : Option ℕ). option_or o (get M.retired s)) (x.client ∙ ap (λ (t : Bool). cond t (Some w.client) None) l) ∙ as_retired w.stage w.client l)
        (record { client = g.client; notes = g.notes; pages = g.pages; invalid = g.invalid; waits = ap (map notice_of) g.waits })

    live : (s : ℕ) (v : Session) → session b T s ≡ Some v → session_lives v ≡ true → SessionAgrees b (H ++ e ∷ []) L s (meet b s S (session b T s) (E e))
    live s v is l =
        let u : Session = record v { acked = acked_by s v.acked (request_in e) } in
        let w : Session = record u { sent = push v.sent (told_of s S v.pages (commit_of b S e)) } in
        let g : SessionAgrees b H J s (Some u) = acked s v l (subst (SessionAgrees b H K s) is (a.each s)) in
        let st : Stands b H J s u = record { live = l; agrees = g; low = (keeps-pages b s T v is l).below; opened = opened s } in
        let x : SessionAgrees b (H ++ e ∷ []) M s (Some w) = m.live s u st in
        let to : moved b s S v (E e) ≡ w = came b s S v e (commit_of b S e) plain l refl in
        subst (SessionAgrees b (H ++ e ∷ []) L s) (ap (λ (o : Option Session). meet b s S o (E e)) (sym is)) (by w to x (is_silent M.sets.noted s) refl)
      where
        by : (w : Session) → moved b s S v (E e) ≡ w → SessionAgrees b (H ++ e ∷ []) M s (Some w) → (t : Bool) → is_silent M.sets.noted s ≡ t → SessionAgrees b (H ++ e ∷ []) L s (Some (move b s S (E e) v))
        by w to x true f =
            let lw : session_lives w ≡ true = sym (ap (λ (z : Session). session_lives z) to) ∙ moved_live in
            let q : notices.is_silent b.silence (moved b s S v (E e)) ≡ true = ap (λ (z : Session). notices.is_silent b.silence z) to ∙ heard_at b (H ++ e ∷ []) M s w true a.silence x lw f in
            subst (λ (z : Session). SessionAgrees b (H ++ e ∷ []) L s (Some z)) (sym (retires b s S (E e) v q l ∙ ap (λ (z : Session). record z { stage = retired z.stage }) to))
            (given_up s w lw (subst (IsGivenUp M L s) f (given s)) x)
          where
            moved_live : session_lives (moved b s S v (E e)) ≡ true
            moved_live = ap (λ (t : Bool). is_live_stage (cond (cond t false true) Live Ended)) plain
        by w to x false f =
            let lw : session_lives w ≡ true = sym (ap (λ (z : Session). session_lives z) to) ∙ ap (λ (t : Bool). is_live_stage (cond (cond t false true) Live Ended)) plain in
            let q : notices.is_silent b.silence (moved b s S v (E e)) ≡ false = ap (λ (z : Session). notices.is_silent b.silence z) to ∙ heard_at b (H ++ e ∷ []) M s w false a.silence x lw f in
            subst (λ (z : Session). SessionAgrees b (H ++ e ∷ []) L s (Some z)) (sym (moves b s S (E e) v q l ∙ to))
            (stays_live s w (subst (IsGivenUp M L s) f (given s)) x)

    -- ---- who is kept

    still_heard : (s : ℕ) → is_silent L.sets.noted s ≡ false
    still_heard s = by (is_silent M.sets.noted s) refl (given s)
      where
        by : (t : Bool) → is_silent M.sets.noted s ≡ t → IsGivenUp M L s t → is_silent L.sets.noted s ≡ false
        by true f g = ap (λ (ks : List ℕ). nat_lt most_noted (length ks)) g.notes
        by false f g = ap (λ (ks : List ℕ). nat_lt most_noted (length ks)) g.notes ∙ f

    still_opened : (s page : ℕ) → has_page L.sets s page ≡ true → has L.sets.invalid s ≡ true
    still_opened s page p = by (is_silent M.sets.noted s) (given s)
      where
        by : (t : Bool) → IsGivenUp M L s t → has L.sets.invalid s ≡ true
        by true g = let no : true ≡ false = sym p ∙ g.pages page in cc
        by false g = g.set ∙ all.opened a.opened s page (sym (g.pages page) ∙ p)

    -- no session is live and given up
    only_one : (s c : ℕ) → get K.clients s ≡ Some c → get K.retired s ≡ None
    only_one s c k = by (session b T s) (a.each s)
      where
        by : (o : Option Session) → SessionAgrees b H K s o → get K.retired s ≡ None
        by None g = g.retired
        by (Some v) g = g.retired ∙ at v.stage (sym g.client ∙ k)
          where
            at : (x : Stage) → cond (is_live_stage x) (Some v.client) None ≡ Some c → retired_at x v.client ≡ None
            at Live q = refl
            at Retired q = cc
            at Ended q = refl

    abbrev IsOf : Option ℕ → Option ℕ → ℕ → Type 0
    IsOf p q c = (p ≡ Some c) ⊎ (q ≡ Some c)

    turns : (p q : Option ℕ) → ((d : ℕ) → p ≡ Some d → q ≡ None) → (c : ℕ) → IsOf p q c ↔ IsOf None (option_or p q) c
    turns None q only c = (
      λ x. elim x [
        | inl y ↦ cc
        | inr y ↦ inr y
      ],
      λ x. elim x [
        | inl y ↦ cc
        | inr y ↦ inr y
      ],
    )
    turns (Some d) q only c = (
      λ x. elim x [
        | inl y ↦ inr y
        | inr y ↦ let z : q ≡ None = only d refl in cc
      ],
      λ x. elim x [
        | inl y ↦ cc
        | inr y ↦ inl y
      ],
    )

    its_client : (s : ℕ) (t : Bool) → IsGivenUp M L s t → (c : ℕ) → IsOf (get K.clients s) (get K.retired s) c ↔ IsOf (get L.clients s) (get L.retired s) c
    its_client s true g c =
        let p : get L.clients s ≡ None = g.client in
        let q : get L.retired s ≡ option_or (get K.clients s) (get K.retired s) = g.retired ∙ ap (λ (C : Map nat_cmp ℕ). option_or (get C s) (get M.retired s)) all.clients ∙ ap (λ (R : Map nat_cmp ℕ). option_or (get K.clients s) (get R s)) all.retired in
        rw (p, q) (turns (get K.clients s) (get K.retired s) (only_one s) c)
    its_client s false g c =
        let p : get L.clients s ≡ get K.clients s = g.client ∙ ap (λ (C : Map nat_cmp ℕ). get C s) all.clients in
        let q : get L.retired s ≡ get K.retired s = g.retired ∙ ap (λ (R : Map nat_cmp ℕ). get R s) all.retired in
        rw (p, q) (λ x. x, λ x. x)

    L_live : L.live ≡ K.live
    L_live = ap (λ (N : Kept). N.live) m.rest ∙ all_live M m.silent ∙ all.live

    live_of : (c s : ℕ) → (get L.live c ≡ Some s) ↔ IsOf (get L.clients s) (get L.retired s) c
    live_of c s =
        let there = its_client s (is_silent M.sets.noted s) (given s) c in
        (λ x. there.0 ((a.live c s).0 (sym (ap (λ (N : Map nat_cmp ℕ). get N c) L_live) ∙ x)), λ x. ap (λ (N : Map nat_cmp ℕ). get N c) L_live ∙ (a.live c s).1 (there.1 x))

    agrees : SessionsAgree b (T ++ E e ∷ []) L
    agrees = agree_behind b T (E e) K L tt a (record {
      last = ap (λ (N : Kept). N.last) m.rest ∙ all_last M m.silent ∙ all.last;
      live = live_of;
      heard = still_heard;
      each = λ s. subst (λ (G : List Entry). SessionAgrees b G L s (meet b s S (session b T s) (E e))) (sym (behind_entry T e)) (elim (cases (session b T s)) [
        | inl d ↦ away s d
        | inr p ↦ live s p.0 p.1 p.2
      ]);
      opened = still_opened;
      order = subst AreInOrder (sym m.rest) (all_order M m.silent M_order);
    })

  pub entry_agrees : SessionsAgree b (T ++ E e ∷ []) L
  entry_agrees = agrees middle.0 middle.1
