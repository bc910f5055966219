-- The sessions of requests are there, so a new one has prepared nothing; and what is doomed has not committed.
use Rattle.law_atomic_commit.specs.Several.{committed, is_committed_part}
use Rattle.log_entries.specs.declared.entry.Entry.TheVariants.{Decided, Finished, Life, One, Prepared, Upgraded}
use Rattle.log_entries.specs.declared.entry.Entry.{Entry}
use Rattle.log_entries.specs.declared.request.Request.{Request}
use Rattle.law_cache_coherence.proofs.Asking.{same_number}
use Rattle.law_cache_coherence.proofs.Passing.{after_entry}
use Rattle.law_cache_coherence.proofs.Telling.{client_stays, of_client}
use Rattle.law_cache_coherence.specs.Doomed.{IsDoomed, IsQuiet}
use Rattle.law_cache_coherence.specs.Fitting.{NoneToFinish}
use Rattle.law_cache_coherence.specs.Seen.{IsSeenRight}
use Rattle.law_client_views.specs.Conditions.{seen_histories}
use Rattle.spec_history.proofs.Growth.{owed-end, sound-beginning}
use Rattle.spec_history.proofs.Places.{came_end}
use Rattle.spec_history.specs.Checking.{is_committed}
use Rattle.spec_history.specs.History.{Aborted, Base, Committed, Fate, IsCommitted, Known, Open, known_by, state}
use Rattle.spec_history.specs.Laws.{Asks}
use Rattle.spec_history.specs.Sound.{sound}
use Rattle.session_outbox.specs.declared.answers.Welcome.{Welcome}
use Rattle.client_port.specs.Views.{Calm, Halted, MayCome, Opened, Unsettled, View}
use Rattle.client_port.specs.Works.{Answered, ConnectWork, Does}
use Rattle.spec_trace.proofs.Exactness.{by_items, exact-beginning, known}
use Rattle.spec_trace.proofs.Sessions.{session-end}
use Rattle.spec_trace.proofs.Taken.{after-mark}
use Rattle.spec_trace.specs.Calls.{last_session, next_session}
use Rattle.spec_trace.specs.Exact.{EntryIsExact, ItemIsExact, exact}
use Rattle.spec_trace.specs.Gaps.{client_in}
use Rattle.spec_trace.specs.Notices.{lives}
use Rattle.spec_trace.specs.Session.{Session, begun, move, session}
use Rattle.spec_trace.specs.Trace.{E, Item, M, entries}
use Rattle.spec_trace.specs.declared.mark.Mark.TheVariants as the
use Rattle.std.proofs.Common.{Bool, List, [], ap, arith, cond, false, inl, inr, refl, subst, sym, true, ◌++◌, ◌<◌, ◌∙◌, ◌∷◌, ◌≡◌, ◌≤◌, ℕ}
use Rattle.std.specs.Option.{IsSomeAnd, option_map}
use Rattle.std.specs.Prelude.{None, Ok, Option, Some}
use Rattle.thor_value.specs.declared.names.Ts.{Ts}

module _ (b : Base) where
  told_client : (o : Option Session) (d : ℕ) → IsSomeAnd o (λ v. v.client ≡ d) → option_map (λ (v : Session). v.client) o ≡ Some d
  told_client None d h = absurd h
  told_client (Some v) d h = ap (λ (n : ℕ). Some n) h

  -- a request comes from a session that is there
  asked_in : (T : List Item) (e : Entry) (q : Request) → Asks e q → EntryIsExact b T e → client_in b T q.session ≡ Some q.who.client
  asked_in T (Life n) q x k = absurd x
  asked_in T (One r) q x k = subst (λ (z : Request). client_in b T z.session ≡ Some z.who.client) x (told_client (session b T r.session) r.who.client k.client)
  asked_in T (Prepared r) q x k = subst (λ (z : Request). client_in b T z.session ≡ Some z.who.client) x (told_client (session b T r.session) r.who.client k.client)
  asked_in T (Decided t c) q x k = absurd x
  asked_in T (Finished t c) q x k = absurd x
  asked_in T (Upgraded r) q x k = subst (λ (z : Request). client_in b T z.session ≡ Some z.who.client) x (told_client (session b T r.session) r.who.client k.client)

  HaveSessions : List Item → Type 0
  HaveSessions T = sound b (entries T) → (t : Ts) (o : Known) → known_by b (entries T) t ≡ Some o → (d : ℕ) × (client_in b T o.request.session ≡ Some d)

  step : (T : List Item) (i : Item) → exact b T → HaveSessions T → ItemIsExact b T i → HaveSessions (T ++ i ∷ [])
  unfolding HaveSessions
  step T (M m) x h k sd t o is =
      let y = h (subst (sound b) (after-mark b T m) sd) t o (ap (λ (H : List Entry). known_by b H t) (sym (after-mark b T m)) ∙ is) in
      (y.0, client_stays y.0 b T (M m) o.request.session k y.1)
  step T (E e) x h k sd t o is =
      let sd' : sound b (entries T ++ e ∷ []) = subst (sound b) (after_entry b T e) sd in
      let before : sound b (entries T) = sound-beginning b (entries T) (e ∷ []) sd' in
      elim (came_end b (entries T) e before (owed-end b (entries T) e sd') t o (ap (λ (H : List Entry). known_by b H t) (sym (after_entry b T e)) ∙ is)) [
        | inl new ↦ (o.request.who.client, client_stays o.request.who.client b T (E e) o.request.session k (asked_in T e o.request new.1.0 k))
        | inr old ↦
            let y = h before t old.0 old.1 in
            (y.0, client_stays y.0 b T (E e) o.request.session k (ap (λ (r : Request). client_in b T r.session) old.2.1 ∙ y.1))
      ]

  none_yet : (t : Ts) (o : Known) → known_by b [] t ≡ Some o → ⊥
  none_yet t o e = cc

  begins : HaveSessions []
  unfolding HaveSessions
  begins sd t o is = absurd (none_yet t o is)

  have_sessions : (T : List Item) → exact b T → HaveSessions T
  have_sessions = by_items b HaveSessions begins step

  pub request_sessions : (T : List Item) → exact b T → sound b (entries T) → (t : Ts) (o : Known) → known_by b (entries T) t ≡ Some o → (d : ℕ) × (client_in b T o.request.session ≡ Some d)
  unfolding HaveSessions
  request_sessions T k = have_sessions T k

  -- a session that begins has prepared nothing
  pub none_prepared : (T : List Item) (s : ℕ) → exact b T → sound b (entries T) → last_session T < s → (t : Ts) (o : Known) → known_by b (entries T) t ≡ Some o → o.request.session ≡ s → ⊥
  none_prepared T s k sd up t o is own =
      let y = request_sessions T k sd t o is in
      let z = of_client y.0 b (session b T o.request.session) y.1 in
      let low : o.request.session ≤ last_session T = known b T o.request.session z.0 z.1 in
      let low' : s ≤ last_session T = subst (λ (n : ℕ). n ≤ last_session T) own low in
      absurd (omega arith)

  begun_client : (T : List Item) (s c : ℕ) → client_in b (T ++ M (the.Connected s c) ∷ []) s ≡ Some c
  begun_client T s c =
      ap (option_map (λ (v : Session). v.client)) (session-end b T (M (the.Connected s c)) s
      ∙ ap (λ (x : Bool). cond x (Some (begun c (state b (entries T)).length)) (option_map (move b s (state b (entries T)) (M (the.Connected s c))) (session b T s))) (same_number s))

  pub begins_quiet : (T : List Item) (s c : ℕ) → exact b T → sound b (entries T) → last_session T < s
      → (client_in b (T ++ M (the.Connected s c) ∷ []) s ≡ Some c) × ((t : Ts) (o : Known) → known_by b (entries (T ++ M (the.Connected s c) ∷ [])) t ≡ Some o → o.request.session ≡ s → ⊥)
  begins_quiet T s c k sd up = (
    begun_client T s c,
    λ t o is own. none_prepared T s k sd up t o (ap (λ (H : List Entry). known_by b H t) (sym (after-mark b T (the.Connected s c))) ∙ is) own,
  )

-- ---- behind a connection

pub joined_quiet : (old new : View) (r : ℕ) (w : Welcome) (committed : Ts → Bool) → Does {X = Welcome} old new r (Ok w) (ConnectWork old.opened.client (Ok w)) → IsSeenRight new r committed → IsQuiet new r w.session (λ t. false)
joined_quiet old new r w committed d seen = by d.met refl d.answer
  where
    c : ℕ
    c = old.opened.client

    b : Base
    b = old.opened.base r

    by : (u : Unsettled) → d.met ≡ u → Answered {X = Welcome} r (Ok w) u d.at (new.seen r) (new.unsettled r) (ConnectWork c (Ok w) b d.at (new.seen r) (new.unsettled r)) → IsQuiet new r w.session (λ t. false)
    by (MayCome e) m a = absurd a.0
    by Halted m a = absurd a.0
    by Calm m a =
        let after : new.seen r ≡ d.at ++ M (the.Connected w.session c) ∷ [] = a.1.0 in
        let k : exact b (d.at ++ M (the.Connected w.session c) ∷ []) = subst (exact b) after (subst (λ (o : Opened). exact (o.base r) (new.seen r)) d.called.same seen.kept) in
        let sd : sound b (entries d.at) = subst (sound b) (after-mark b d.at (the.Connected w.session c)) (subst (λ (S : List Item). sound b (entries S)) after (subst (λ (o : Opened). sound (o.base r) (entries (new.seen r))) d.called.same seen.owed)) in
        let number : w.session ≡ next_session d.at = a.0.session in
        let y = begins_quiet b d.at w.session c (exact-beginning b d.at (M (the.Connected w.session c) ∷ []) k) sd (omega (arith, number)) in
        record {
          own = subst (λ (o : Opened). client_in (o.base r) (new.seen r) w.session ≡ Some o.client) (sym d.called.same) (subst (λ (S : List Item). client_in b S w.session ≡ Some c) (sym after) y.0);
          doomed = λ calm live t o there open' own not. absurd (y.1 t o (ap (λ (S : List Item). known_by b (entries S) t) (sym after) ∙ subst (λ (z : Opened). known_by (z.base r) (entries (new.seen r)) t ≡ Some o) d.called.same there) own);
        }

-- ---- what is doomed has not committed

uncommitted_by : (f : Fate) → ¬ IsCommitted f → is_committed f ≡ false
uncommitted_by Open n = refl
uncommitted_by (Committed at) n = absurd (n tt)
uncommitted_by Aborted n = refl

pub doomed_uncommitted : (port : View) (t : Ts) → IsDoomed port t → committed (seen_histories port) t ≡ false
doomed_uncommitted port t d = ap is_committed_part d.there ∙ uncommitted_by d.o.fate d.uncommitted

pub owes_nothing : (port : View) (r s : ℕ) → IsQuiet port r s (λ t. false) → port.unsettled r ≡ Calm → lives (session (port.opened.base r) (port.seen r) s) ≡ true → NoneToFinish (port.opened.base r) (entries (port.seen r)) s (committed (seen_histories port))
owes_nothing port r s q calm live t o there open' own = doomed_uncommitted port t (q.doomed calm live t o there open' own refl)
