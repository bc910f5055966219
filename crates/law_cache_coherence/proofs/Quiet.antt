-- What growth and calls leave of a session of whose transactions no other will commit.
use Rattle.log_entries.specs.declared.entry.Entry.TheVariants.{Decided, Finished, Life, One, Prepared, Upgraded}
use Rattle.log_entries.specs.declared.entry.Entry.{Entry}
use Rattle.log_entries.specs.declared.request.Request.{Request}
use Rattle.law_cache_coherence.proofs.AtOnce.{commits_at_once}
use Rattle.law_cache_coherence.proofs.Leaving.{HasCalled, Left, acts, behind_call, is_such, seen_right}
use Rattle.law_cache_coherence.proofs.Other.{asked}
use Rattle.law_cache_coherence.proofs.Passing.{after_entry, was_live, was_open}
use Rattle.law_cache_coherence.proofs.Staying.{clients_stay}
use Rattle.law_cache_coherence.proofs.Telling.{client_stays, of_client, unbegun}
use Rattle.law_cache_coherence.proofs.UncommittedCalls.{acted}
use Rattle.client_port.specs.Acting.{Acts}
use Rattle.law_cache_coherence.specs.Doomed.{ActsWithin, IsDoomed, IsQuiet, concerns, decides, entry_asked}
use Rattle.law_cache_coherence.specs.Seen.{IsSeenRight}
use Rattle.spec_history.proofs.Growth.{owed-end, sound-beginning}
use Rattle.spec_history.proofs.Listed.{recorded}
use Rattle.spec_history.proofs.Places.{came_end}
use Rattle.spec_history.specs.History.{Base, Committed, Known, Open, State, commit_of, known_by, state}
use Rattle.spec_history.specs.Laws.{Asks}
use Rattle.spec_history.specs.Sound.{sound}
use Rattle.client_port.specs.Growing.{ComesDown, Gains, GainsAll, Grew, MayHalt}
use Rattle.client_port.specs.Views.{Calm, Halted, MayCome, Opened, Unsettled, View}
use Rattle.spec_trace.proofs.Exactness.{exact-beginning, exact-owed, move-lives}
use Rattle.spec_trace.proofs.Taken.{after-mark}
use Rattle.spec_trace.proofs.Traces.{entries-append}
use Rattle.spec_trace.specs.Exact.{ItemIsExact, exact}
use Rattle.spec_trace.specs.Gaps.{client_in, maker}
use Rattle.spec_trace.specs.Notices.{lives}
use Rattle.spec_trace.specs.Session.{Session, move, session, session_lives}
use Rattle.spec_trace.specs.Trace.{E, Item, M, entries}
use Rattle.std.proofs.Common.{Bool, List, [], ap, append_assoc, arith, false, inl, inr, is_eq, length, refl, subst, sym, true, ◌++◌, ◌∙◌, ◌∷◌, ◌≡◌, ◌≢◌, ◌≤◌, ℕ}
use Rattle.std.proofs.lemmas.Cmp.{tied_itself}
use Rattle.std.proofs.lemmas.List.{append-nil}
use Rattle.std.specs.Prelude.{Some, ◌⊎◌}
use Rattle.thor_value.proofs.NameOrders.{ts_total}
use Rattle.thor_value.specs.Names.{same_ts}
use Rattle.thor_value.specs.declared.names.Ts.{Ts}

-- ---- requests

same_as : (u t : Ts) → u ≡ t → same_ts u t ≡ true
same_as u t e = ap (λ (v : Ts). same_ts v t) e ∙ ap is_eq (tied_itself ts_total t)

-- a request concerns its transaction, or commits at its own entry
asks_concern : (b : Base) (S : State) (e : Entry) (q : Request) (t : Ts) → Asks e q → q.tx ≡ t → (concerns t e ≡ true) ⊎ (commit_of b S e ≡ (S.length, q) ∷ [])
asks_concern b S (Life n) q t x e = absurd x
asks_concern b S (One r) q t x e = inr (ap (λ (z : Request). (S.length, z) ∷ []) x)
asks_concern b S (Prepared r) q t x e = inl (same_as r.tx t (ap (λ (z : Request). z.tx) x ∙ e))
asks_concern b S (Decided u k) q t x e = absurd x
asks_concern b S (Finished u k) q t x e = absurd x
asks_concern b S (Upgraded r) q t x e = inr (ap (λ (z : Request). (S.length, z) ∷ []) x)

pub undecided : (t : Ts) (e : Entry) → concerns t e ≡ false → decides t e ≡ false
undecided t (Life n) h = refl
undecided t (One q) h = refl
undecided t (Prepared q) h = refl
undecided t (Decided u k) h = h
undecided t (Finished u k) h = refl
undecided t (Upgraded q) h = refl

-- ---- one item

module _ (c : ℕ) (b : Base) (s : ℕ) where
  -- t was prepared by the session and is undecided
  pub record StandsOpen (T : List Item) (t : Ts) : Type 0 where
    pub o : Known
    pub there : known_by b (entries T) t ≡ Some o
    pub open' : o.fate ≡ Open
    pub own : o.request.session ≡ s

  entry_back : (T : List Item) (e : Entry) (t : Ts) → sound b (entries T ++ e ∷ []) → StandsOpen (T ++ E e ∷ []) t → ((q : Request) → Asks e q → q.tx ≡ t → q.session ≡ s → ⊥) → StandsOpen T t
  entry_back T e t sd w unasked = elim (came_end b (entries T) e (sound-beginning b (entries T) (e ∷ []) sd) (owed-end b (entries T) e sd) t w.o (ap (λ (H : List Entry). known_by b H t) (sym (after_entry b T e)) ∙ w.there)) [
    | inl new ↦ absurd (unasked w.o.request new.1.0 new.1.1 w.own)
    | inr old ↦ record {
      o = old.0;
      there = old.1;
      open' = was_open b (commit_of b (state b (entries T)) e) (length (entries T)) old.0.request old.0.fate w.o.fate w.open' old.2.2;
      own = ap (λ (r : Request). r.session) (sym old.2.1) ∙ w.own;
    }
  ]

  mark_back : (T : List Item) (m : _) (t : Ts) → StandsOpen (T ++ M m ∷ []) t → StandsOpen T t
  mark_back T m t w = record { o = w.o; there = ap (λ (H : List Entry). known_by b H t) (sym (after-mark b T m)) ∙ w.there; open' = w.open'; own = w.own }

  -- behind an item that isn't concerned with it
  item_back : (T : List Item) (i : Item) (t : Ts) → is_such (concerns t) i ≡ false → sound b (entries (T ++ i ∷ [])) → StandsOpen (T ++ i ∷ []) t → StandsOpen T t
  item_back T (M m) t other sd w = mark_back T m t w
  item_back T (E e) t other sd w = entry_back T e t behind w (λ q x named own. elim (asks_concern b (state b (entries T)) e q t x named) [
    | inl is ↦ let f : false ≡ true = sym other ∙ is in cc
    | inr commits ↦
        let there : known_by b (entries T ++ e ∷ []) t ≡ Some w.o = ap (λ (H : List Entry). known_by b H t) (sym (after_entry b T e)) ∙ w.there in
        let f : Open ≡ Committed (state b (entries T)).length = sym w.open' ∙ commits_at_once b (entries T) e q (sound-beginning b (entries T) (e ∷ []) behind) commits t w.o there named in cc
  ])
    where
      behind : sound b (entries T ++ e ∷ [])
      behind = subst (sound b) (after_entry b T e) sd

  -- behind an item of another's
  others_back : (T : List Item) (i : Item) (t : Ts) → client_in b T s ≡ Some c → maker b T i ≢ Some c → sound b (entries (T ++ i ∷ [])) → StandsOpen (T ++ i ∷ []) t → StandsOpen T t
  others_back T (M m) t mine other sd w = mark_back T m t w
  others_back T (E e) t mine other sd w =
      let y = of_client c b (session b T s) mine in
      entry_back T e t (subst (sound b) (after_entry b T e) sd) w (λ q x named own. asked b c T s y.0 (λ u. false) y.1 y.2 e other q x own)

  -- ---- the session

  lived : (T : List Item) (i : Item) → ItemIsExact b T i → client_in b T s ≡ Some c → lives (session b (T ++ i ∷ []) s) ≡ true → (v : Session) × (session b T s ≡ Some v) × (session_lives (move b s (state b (entries T)) i v) ≡ true)
  lived T i k mine live =
      let y = of_client c b (session b T s) mine in
      (y.0, y.1, ap lives (sym (unbegun c b T s y.0 i y.1 k)) ∙ live)

  pub lives_back : (T : List Item) (i : Item) → ItemIsExact b T i → client_in b T s ≡ Some c → lives (session b (T ++ i ∷ []) s) ≡ true → lives (session b T s) ≡ true
  lives_back T i k mine live = let y = lived T i k mine live in ap lives y.1 ∙ was_live b s (state b (entries T)) i y.0 y.2

  -- none is live behind a Life
  pub ends : (T : List Item) (n : ℕ) → ItemIsExact b T (E (Life n)) → client_in b T s ≡ Some c → lives (session b (T ++ E (Life n) ∷ []) s) ≡ true → ⊥
  ends T n k mine live = let y = lived T (E (Life n)) k mine live in let f : false ≡ true = (move-lives b s (state b (entries T)) (E (Life n)) y.0 y.2).1 in cc

  -- ---- growth

  -- nothing is unsettled, the session is live, and t stands so
  abbrev pub Was : Unsettled → List Item → Ts → Type 0
  Was u T t = (u ≡ Calm) × (lives (session b T s) ≡ true) × StandsOpen T t

  pub coming_calm : (e : Entry) (w : Unsettled) → w ≡ MayCome e → w ≡ Calm → ⊥
  coming_calm e w is f = let g : MayCome e ≡ Calm = sym is ∙ f in cc

  pub halted_calm : (w : Unsettled) → w ≡ Halted → w ≡ Calm → ⊥
  halted_calm w e f = let g : Halted ≡ Calm = sym e ∙ f in cc

  pub down_calm : (e d : Entry) (T : List Item) (w : Unsettled) → ComesDown b c e T d w → w ≡ Calm → ⊥
  down_calm e d T w h f = elim h [
    | inl own ↦ halted_calm w own.1 f
    | inr other ↦ coming_calm e w other.1 f
  ]

  one_back : (T : List Item) (u w : Unsettled) (i : Item) (t : Ts) → Gains b c u T i w → ItemIsExact b T i → sound b (entries (T ++ i ∷ [])) → client_in b T s ≡ Some c → Was w (T ++ i ∷ []) t → Was u T t
  one_back T Calm w i t g k sd mine was = (refl, lives_back T i k mine was.1, others_back T i t mine g.0 sd was.2)
  one_back T (MayCome e) w (M m) t g k sd mine was = absurd (coming_calm e w g.1 was.0)
  one_back T (MayCome e) w (E (Life n)) t g k sd mine was = absurd (ends T n k mine was.1)
  one_back T (MayCome e) w (E (One q)) t g k sd mine was = absurd (down_calm e (One q) T w g was.0)
  one_back T (MayCome e) w (E (Prepared q)) t g k sd mine was = absurd (down_calm e (Prepared q) T w g was.0)
  one_back T (MayCome e) w (E (Decided v d)) t g k sd mine was = absurd (down_calm e (Decided v d) T w g was.0)
  one_back T (MayCome e) w (E (Finished v d)) t g k sd mine was = absurd (down_calm e (Finished v d) T w g was.0)
  one_back T (MayCome e) w (E (Upgraded q)) t g k sd mine was = absurd (down_calm e (Upgraded q) T w g was.0)
  one_back T Halted w (M m) t g k sd mine was = absurd (halted_calm w g.1 was.0)
  one_back T Halted w (E (Life n)) t g k sd mine was = absurd (ends T n k mine was.1)
  one_back T Halted w (E (One q)) t g k sd mine was = absurd (halted_calm w g.1 was.0)
  one_back T Halted w (E (Prepared q)) t g k sd mine was = absurd (halted_calm w g.1 was.0)
  one_back T Halted w (E (Decided v d)) t g k sd mine was = absurd (halted_calm w g.1 was.0)
  one_back T Halted w (E (Finished v d)) t g k sd mine was = absurd (halted_calm w g.1 was.0)
  one_back T Halted w (E (Upgraded q)) t g k sd mine was = absurd (halted_calm w g.1 was.0)

  pub calm_back : (u w : Unsettled) → MayHalt u w → w ≡ Calm → u ≡ Calm
  calm_back Calm w m e = refl
  calm_back (MayCome d) Calm m e = absurd m
  calm_back (MayCome d) (MayCome f) m e = cc
  calm_back (MayCome d) Halted m e = cc
  calm_back Halted Calm m e = absurd m
  calm_back Halted (MayCome f) m e = absurd m
  calm_back Halted Halted m e = e

  all_back : (T is : List Item) (u w : Unsettled) (t : Ts) → GainsAll b c u T is w → exact b (T ++ is) → sound b (entries (T ++ is)) → client_in b T s ≡ Some c → Was w (T ++ is) t → Was u T t
  all_back T [] u w t g k sd mine was = let now : Was w T t = subst (λ (S : List Item). Was w S t) (append-nil T) was in (calm_back u w g now.0, now.1, now.2)
  all_back T (i ∷ is) u w t g k sd mine was =
      let U : List Item = T ++ i ∷ [] in
      let again : U ++ is ≡ T ++ (i ∷ is) = append_assoc T (i ∷ []) is in
      let k' : exact b (U ++ is) = subst (exact b) (sym again) k in
      let sd' : sound b (entries (U ++ is)) = subst (λ (S : List Item). sound b (entries S)) (sym again) sd in
      let here : sound b (entries U) = sound-beginning b (entries U) (entries is) (subst (sound b) (entries-append U is) sd') in
      let one : ItemIsExact b T i = exact-owed b T i (exact-beginning b U is k') in
      one_back T u g.0 i t g.1 one here mine (all_back U is g.0 w t g.2 k' sd' (client_stays c b T i s one mine) (subst (λ (S : List Item). Was w S t) (sym again) was))

  pub grown_back : (T S : List Item) (u w : Unsettled) (t : Ts) → Grew b c u T w S → exact b S → sound b (entries S) → client_in b T s ≡ Some c → Was w S t → Was u T t
  grown_back T S u w t g k sd mine was = all_back T g.gap u w t g.gains (subst (exact b) g.ends k) (subst (λ (Z : List Item). sound b (entries Z)) g.ends sd) mine (subst (λ (Z : List Item). Was w Z t) g.ends was)

  pub grown_client : (T S : List Item) (u w : Unsettled) → Grew b c u T w S → exact b S → client_in b T s ≡ Some c → client_in b S s ≡ Some c
  grown_client T S u w g k mine = subst (λ (Z : List Item). client_in b Z s ≡ Some c) (sym g.ends) (clients_stay c b s T g.gap (subst (exact b) g.ends k) mine)

  -- behind what a call left
  left_back : (at after : List Item) (met u : Unsettled) (t : Ts) → Left (concerns t) met at after u → exact b after → sound b (entries after) → client_in b at s ≡ Some c → Was u after t → Was met at t
  left_back at after met u t (inl (calm, (inl same, coming))) k sd mine was = let now : Was u at t = subst (λ (S : List Item). Was u S t) same was in (calm, now.1, now.2)
  left_back at after met u t (inl (calm, (inr (i, is, other), coming))) k sd mine was =
      let now : Was u (at ++ i ∷ []) t = subst (λ (S : List Item). Was u S t) is was in
      (calm, lives_back at i (exact-owed b at i (subst (exact b) is k)) mine now.1, item_back at i t other (subst (λ (S : List Item). sound b (entries S)) is sd) now.2)
  left_back at after met u t (inr (met', same, halts)) k sd mine was = absurd (met' (sym halts ∙ was.0))

-- ---- a call of a port

module _ (old new : View) (r s : ℕ) (running committed : Ts → Bool) (seen : (n : ℕ) → n ≤ r → IsSeenRight new n committed) (a : Acts old new) (within : ActsWithin old new a running) (q : IsQuiet old r s running) where
  itself : (n : ℕ) → n ≤ n
  itself n = omega arith

  -- the coordinator of what is known isn't above the repository
  coordinated : (t : Ts) (o : Known) → known_by (new.opened.base r) (entries (new.seen r)) t ≡ Some o → t.repo ≤ r
  coordinated t o there =
      let right = seen r (itself r) in
      let k = recorded (new.opened.base r) (entries (new.seen r)) right.owed t o there in
      subst (λ (n : ℕ). t.repo ≤ n) right.numbered (subst (λ (u : Ts). u.repo ≤ (new.opened.base r).repo) k.named k.judged.vouched.participants.least.0)

  -- what isn't running the call isn't concerned with
  unconcerned : (t : Ts) → running t ≡ false → (e : Entry) → entry_asked old new a ≡ Some e → concerns t e ≡ false
  unconcerned t not e is = by (concerns t e) refl
    where
      by : (x : Bool) → concerns t e ≡ x → concerns t e ≡ false
      by false f = f
      by true f = let g : false ≡ true = sym not ∙ within e t is f in cc

  abbrev WasOpen : Ts → ℕ → Type 0
  WasOpen t n = Was old.opened.client (old.opened.base n) s (new.unsettled n) (new.seen n) t → Was old.opened.client (old.opened.base n) s (old.unsettled n) (old.seen n) t

  was : (t : Ts) (h : HasCalled (concerns t) old new) → WasOpen t r
  was t h =
      let right = seen_right old new r committed h.called.same (seen r (itself r)) in
      let c : ℕ = old.opened.client in
      let b : Base = old.opened.base r in
      behind_call (concerns t) old new h r (WasOpen t)
      (λ grew now. grown_back c b s (old.seen r) (new.seen r) (old.unsettled r) (new.unsettled r) t grew right.kept right.owed q.own now)
      (λ grew left front now.
      let k : exact b (h.at ++ front.0) = subst (exact b) front.1 right.kept in
      let sd : sound b (entries h.at ++ entries front.0) = subst (sound b) (entries-append h.at front.0) (subst (λ (S : List Item). sound b (entries S)) front.1 right.owed) in
      let k' : exact b h.at = exact-beginning b h.at front.0 k in
      let mine : client_in b h.at s ≡ Some c = grown_client c b s (old.seen r) h.at (old.unsettled r) h.met grew k' q.own in
      grown_back c b s (old.seen r) h.at (old.unsettled r) h.met t grew k' (sound-beginning b (entries h.at) (entries front.0) sd) q.own
      (left_back c b s h.at (new.seen r) h.met (new.unsettled r) t left right.kept right.owed mine now))

  mine : (h : HasCalled (λ e. false) old new) → client_in (old.opened.base r) (new.seen r) s ≡ Some old.opened.client
  mine h =
      let right = seen_right old new r committed h.called.same (seen r (itself r)) in
      let c : ℕ = old.opened.client in
      let b : Base = old.opened.base r in
      behind_call (λ e. false) old new h r (λ n. client_in (old.opened.base n) (new.seen n) s ≡ Some c)
      (λ grew. grown_client c b s (old.seen r) (new.seen r) (old.unsettled r) (new.unsettled r) grew right.kept q.own)
      (λ grew left front.
      let k : exact b (h.at ++ front.0) = subst (exact b) front.1 right.kept in
      let k' : exact b h.at = exact-beginning b h.at front.0 k in
      subst (λ (S : List Item). client_in b S s ≡ Some c) (sym front.1) (clients_stay c b s h.at front.0 k (grown_client c b s (old.seen r) h.at (old.unsettled r) h.met grew k' q.own)))

  abbrev AreDoomed : View → Type 0
  AreDoomed v = v.unsettled r ≡ Calm → lives (session (v.opened.base r) (v.seen r) s) ≡ true
      → (t : Ts) (o : Known) → known_by (v.opened.base r) (entries (v.seen r)) t ≡ Some o → o.fate ≡ Open → o.request.session ≡ s
      → running t ≡ false → IsDoomed v t

  are_doomed : AreDoomed new
  are_doomed calm live t o there open' own not = elim (acts (concerns t) old new a (unconcerned t not)) [
    | inl same ↦ subst AreDoomed (sym same) q.doomed calm live t o there open' own not
    | inr h ↦
        let same = h.called.same in
        let now : Was old.opened.client (old.opened.base r) s (new.unsettled r) (new.seen r) t = (
          calm,
          subst (λ (d : Opened). lives (session (d.base r) (new.seen r) s) ≡ true) same live,
          record { o = o; there = subst (λ (d : Opened). known_by (d.base r) (entries (new.seen r)) t ≡ Some o) same there; open' = open'; own = own },
        ) in
        let y = was t h now in
        acted old new t committed (seen t.repo (coordinated t o there)) (q.doomed y.0 y.1 t y.2.o y.2.there y.2.open' y.2.own not) a (λ e is. undecided t e (unconcerned t not e is))
  ]

  pub stays_quiet : IsQuiet new r s running
  stays_quiet = elim (acts (λ e. false) old new a (λ e is. refl)) [
    | inl same ↦ subst (λ (v : View). IsQuiet v r s running) (sym same) q
    | inr h ↦ record { own = subst (λ (d : Opened). client_in (d.base r) (new.seen r) s ≡ Some d.client) (sym h.called.same) (mine h); doomed = are_doomed }
  ]
