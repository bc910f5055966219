-- A timestamp is drawn once, and one transaction goes out under it.
use Rattle.client_cache.specs.Copies.{Contents}
use Rattle.client_items.specs.declared.news.News.{News}
use Rattle.client_port.specs.Views.{Calm, Halted, MayCome, Opened, Unsettled, View}
use Rattle.client_port.specs.Works.{Answered, Does, DrawWork}
use Rattle.client_state.specs.Drawing.{DrawsNow, DrawsSo, PreparesOut, RefusesOut, SendsOut, StaysDrawn}
use Rattle.client_state.specs.Moving.{Aborted, AskedInVain, AskedOwn, CommitRefused, Committed, DecideRefused, Decided, Finished, Forgot, Moves, PrepareRefused, Prepared, ReceiveRefused, ReceiveStopped, Received, ReceivedNone, Transformed, Unsent}
use Rattle.client_state.specs.Pending.{Pending}
use Rattle.client_state.specs.Stepping.{PreparesFirst, PreparesInVain, PreparesNext, PreparesSo, Present, RefusesFirst, RefusesNext, TriesSo}
use Rattle.client_state.specs.declared.held.Held.{Held}
use Rattle.client_state.specs.declared.link.Link.{Link}
use Rattle.client_state.specs.declared.requests.Sending.{Sending}
use Rattle.law_two_phase_clients.specs.Stamping.{AreSeen, DrawnStands, GoesOut, PreparesFirstOf, RefusesFirstOf, SeesMore, WasDrawn}
use Rattle.spec_trace.proofs.Drawn.{drawn-once}
use Rattle.spec_trace.specs.Trace.{Item, M}
use Rattle.spec_trace.specs.declared.mark.Mark.TheVariants as the
use Rattle.std.proofs.Common.{List, [], ap, arith, inl, inr, length, refl, subst, suc, sym, zero, ℕ, ◌++◌, ◌+◌, ◌<◌, ◌≡◌, ◌≤◌, ◌∙◌, ◌∷◌}
use Rattle.std.proofs.lemmas.Bool.{cases_lt}
use Rattle.std.proofs.lemmas.Option.{same_Some}
use Rattle.std.specs.Prelude.{None, Ok, Option, Some, slice_get, ◌⊎◌}
use Rattle.thor_value.specs.declared.names.Ts.{Ts}

-- ---- lists

there_on : (xs ys : List Item) (m : ℕ) (x : Item) → slice_get xs m ≡ Some x → slice_get (xs ++ ys) m ≡ Some x
there_on [] ys m x h = cc
there_on (y ∷ xs) ys zero x h = h
there_on (y ∷ xs) ys (suc m) x h = there_on xs ys m x h

within : (xs : List Item) (m : ℕ) (x : Item) → slice_get xs m ≡ Some x → m < length xs
within [] m x h = cc
within (y ∷ xs) zero x h = omega arith
within (y ∷ xs) (suc m) x h = let l : m < length xs = within xs m x h in omega (arith, l)

longer : (xs ys : List Item) → length xs ≤ length (xs ++ ys)
longer [] ys = omega arith
longer (x ∷ xs) ys = let l : length xs ≤ length (xs ++ ys) = longer xs ys in omega (arith, l)

not_none : (xs : List Item) (x : Item) → xs ++ x ∷ [] ≡ [] → ⊥
not_none [] x h = cc
not_none (y ∷ xs) x h = cc

at_the_end : (xs : List Item) (x : Item) → slice_get (xs ++ x ∷ []) (length xs) ≡ Some x
at_the_end [] x = refl
at_the_end (y ∷ xs) x = at_the_end xs x

-- ---- the draw of a step

-- what the call has drawn
record Drew (old new : View) (r : ℕ) (t : Ts) : Type 0 where
  at : List Item
  gap : List Item
  session : ℕ
  reached : at ≡ old.seen r ++ gap
  same : new.opened ≡ old.opened
  behind : new.seen r ≡ at ++ M (the.Drew session t) ∷ []
  home : t.repo ≡ (old.opened.base r).repo

module _ (old new : View) (r s floor : ℕ) (t : Ts) where
  by_answer : (d : Does {X = Ts} old new r (Ok t) (DrawWork s floor (Ok t))) (u : Unsettled)
      → Answered {X = Ts} r (Ok t) u d.at (new.seen r) (new.unsettled r) (DrawWork s floor (Ok t) (old.opened.base r) d.at (new.seen r) (new.unsettled r)) → Drew old new r t
  by_answer d Calm h = record { at = d.at; gap = d.called.reached.gap; session = s; reached = d.called.reached.ends; same = d.called.same; behind = h.3.0; home = h.1.repo }
  by_answer d (MayCome e) h = absurd h.0
  by_answer d Halted h = absurd h.0

  drew_by : Does {X = Ts} old new r (Ok t) (DrawWork s floor (Ok t)) → Drew old new r t
  drew_by d = by_answer d d.met d.answer

module _ (old new : View) (seen : AreSeen new) (r : ℕ) (t : Ts) (drew : Drew old new r t) where
  home_by : (r < new.opened.repos) ⊎ (new.opened.repos ≤ r) → t.repo ≡ r
  home_by (inl l) = drew.home ∙ (sym (ap (λ (o : Opened). (o.base r).repo) drew.same) ∙ seen.numbered r l)
  home_by (inr l) = absurd (not_none drew.at (M (the.Drew drew.session t)) (sym drew.behind ∙ seen.outside r l))

  at_home : t.repo ≡ r
  at_home = home_by (cases_lt r new.opened.repos)

  mark_there : slice_get (new.seen r) (length drew.at) ≡ Some (M (the.Drew drew.session t))
  mark_there = ap (λ (T : List Item). slice_get T (length drew.at)) drew.behind ∙ at_the_end drew.at (M (the.Drew drew.session t))

  is_marked : WasDrawn new t
  is_marked = record { place = length drew.at; session = drew.session; there = ap (λ (n : ℕ). slice_get (new.seen n) (length drew.at)) at_home ∙ mark_there }

  -- it wasn't drawn before
  never_before : {A : Type 0} → WasDrawn old t → A
  never_before was =
      let there : slice_get (old.seen r) was.place ≡ Some (M (the.Drew was.session t)) = subst (λ (n : ℕ). slice_get (old.seen n) was.place ≡ Some (M (the.Drew was.session t))) at_home was.there in
      let reached : slice_get drew.at was.place ≡ Some (M (the.Drew was.session t)) = ap (λ (T : List Item). slice_get T was.place) drew.reached ∙ there_on (old.seen r) drew.gap was.place (M (the.Drew was.session t)) there in
      let still : slice_get (new.seen r) was.place ≡ Some (M (the.Drew was.session t)) = ap (λ (T : List Item). slice_get T was.place) drew.behind ∙ there_on drew.at (M (the.Drew drew.session t) ∷ []) was.place (M (the.Drew was.session t)) reached in
      let same : was.place ≡ length drew.at = drawn-once (new.opened.base r) (new.seen r) (seen.sound_each r) (seen.exact_each r) was.place (length drew.at) was.session drew.session t still mark_there in
      let less : was.place < length drew.at = within drew.at was.place (M (the.Drew was.session t)) reached in
      absurd (omega (arith, same, less))

pub stays : (old new : View) (t : Ts) → SeesMore old new → WasDrawn old t → WasDrawn new t
stays old new t more was = record { place = was.place; session = was.session; there = ap (λ (T : List Item). slice_get T was.place) (more t.repo).1 ∙ there_on (old.seen t.repo) (more t.repo).0 was.place (M (the.Drew was.session t)) was.there }

-- ---- what is drawn behind a step

module _ (old new : View) (drawn left : Option Ts) where
  out_left : (s : Sending) → SendsOut s drawn left → StaysDrawn drawn left
  out_left s h = inl h.1

  prepares_left : (item : Present) (links : List Link) (c : Contents) (s : Sending) (a z : Pending) (so : PreparesSo item links c s a z) → PreparesOut item links c s a z so drawn left → StaysDrawn drawn left
  prepares_left item links c s a z (PreparesFirst rest sends holds is) h = out_left s h.0
  prepares_left item links c s a z (PreparesNext at rs rest more holds is) h = h

  refuses_left : (item : Present) (links : List Link) (c : Contents) (s : Sending) (a : Pending) (so : PreparesInVain item links c s a) → RefusesOut item links c s a so drawn left → StaysDrawn drawn left
  refuses_left item links c s a (RefusesFirst rest sends) h = out_left s h.0
  refuses_left item links c s a (RefusesNext at rs rest more) h = h

  module _ (item : Present) (before after : Held) (a z : Pending) (came : News) where
    left_by : (n : Moves old new before after) (tries : TriesSo item old new before after n a z came) → DrawsSo item old new before after n a z came tries drawn left → StaysDrawn drawn left ⊎ DrawsNow old new left
    left_by (Unsent sends) tries h = h
    left_by (Received at m does there takes same) tries h = inl h
    left_by (ReceivedNone at does there stays same fewer) tries h = inl h
    left_by (ReceiveRefused at k does there loses same) tries h = inl h
    left_by (ReceiveStopped at k does there outage stops same fewer) tries h = inl h
    left_by (Prepared s place does of less) tries h = inl (prepares_left item before.links.items before.cache.cache s a z tries.0 h)
    left_by (PrepareRefused s k does of idle learns same) tries h = inl (refuses_left item before.links.items before.cache.cache s a tries.0 h)
    left_by (Committed s place does of session wrote held idle keeps) tries h = inl (out_left s h)
    left_by (Transformed s place oref made does of session writes here held idle keeps) tries h = inl (out_left s h)
    left_by (CommitRefused s k does of idle learns same) tries h = inl (out_left s h)
    left_by (Decided at t v does idle ends) tries h = inl h
    left_by (Aborted at t v does less) tries h = inl h
    left_by (DecideRefused at t commit k does loses same) tries h = inl h
    left_by (Finished r t commit result does less) tries h = inl h
    left_by (Forgot r t result does less) tries h = inl h
    left_by (AskedOwn r t v does ends) tries h = inl h
    left_by (AskedInVain r t result does leaves same fewer) tries h = inl h

    prepares_goes : (links : List Link) (c : Contents) (s : Sending) (so : PreparesSo item links c s a z) (t : Ts) → PreparesOut item links c s a z so drawn left → PreparesFirstOf item links c s a z so t → (drawn ≡ Some t) × (left ≡ None)
    prepares_goes links c s (PreparesFirst rest sends holds is) t h e = (h.0.0 ∙ ap Some e, h.0.1)
    prepares_goes links c s (PreparesNext at rs rest more holds is) t h e = absurd e

    refuses_goes : (links : List Link) (c : Contents) (s : Sending) (so : PreparesInVain item links c s a) (t : Ts) → RefusesOut item links c s a so drawn left → RefusesFirstOf item links c s a so t → (drawn ≡ Some t) × (left ≡ None)
    refuses_goes links c s (RefusesFirst rest sends) t h e = (h.0.0 ∙ ap Some e, h.0.1)
    refuses_goes links c s (RefusesNext at rs rest more) t h e = absurd e

    pub goes : (n : Moves old new before after) (tries : TriesSo item old new before after n a z came) → DrawsSo item old new before after n a z came tries drawn left → (t : Ts) → GoesOut item old new before after n a z came tries t → (drawn ≡ Some t) × (left ≡ None)
    goes (Unsent sends) tries h t e = absurd e
    goes (Received at m does there takes same) tries h t e = absurd e
    goes (ReceivedNone at does there stays same fewer) tries h t e = absurd e
    goes (ReceiveRefused at k does there loses same) tries h t e = absurd e
    goes (ReceiveStopped at k does there outage stops same fewer) tries h t e = absurd e
    goes (Prepared s place does of less) tries h t e = prepares_goes before.links.items before.cache.cache s tries.0 t h e
    goes (PrepareRefused s k does of idle learns same) tries h t e = refuses_goes before.links.items before.cache.cache s tries.0 t h e
    goes (Committed s place does of session wrote held idle keeps) tries h t e = (h.0 ∙ ap Some e, h.1)
    goes (Transformed s place oref made does of session writes here held idle keeps) tries h t e = (h.0 ∙ ap Some e, h.1)
    goes (CommitRefused s k does of idle learns same) tries h t e = (h.0 ∙ ap Some e, h.1)
    goes (Decided at u v does idle ends) tries h t e = absurd e
    goes (Aborted at u v does less) tries h t e = absurd e
    goes (DecideRefused at u commit k does loses same) tries h t e = absurd e
    goes (Finished r u commit result does less) tries h t e = absurd e
    goes (Forgot r u result does less) tries h t e = absurd e
    goes (AskedOwn r u v does ends) tries h t e = absurd e
    goes (AskedInVain r u result does leaves same fewer) tries h t e = absurd e

  drew_now : DrawsNow old new left → (t : Ts) → left ≡ Some t → (r : ℕ) × Drew old new r t
  drew_now h t is = let same : h.t ≡ t = same_Some h.t t (sym h.now ∙ is) in (h.repo, subst (Drew old new h.repo) same (drew_by old new h.repo h.session h.floor h.t h.call))

  module _ (seen : AreSeen new) where
    never_by : StaysDrawn drawn left ⊎ DrawsNow old new left → (t : Ts) → WasDrawn old t → (drawn ≡ Some t → ⊥) → left ≡ Some t → ⊥
    never_by (inl (inl none)) t was other is = let no : None ≡ Some t = sym none ∙ is in cc
    never_by (inl (inr same)) t was other is = other (sym same ∙ is)
    never_by (inr now) t was other is = let d = drew_now now t is in never_before old new seen d.0 t d.1 was

    stands_by : SeesMore old new → DrawnStands old drawn → StaysDrawn drawn left ⊎ DrawsNow old new left → DrawnStands new left
    stands_by more stands (inl (inl none)) t is = absurd (let no : None ≡ Some t = sym none ∙ is in cc)
    stands_by more stands (inl (inr same)) t is = stays old new t more (stands t (sym same ∙ is))
    stands_by more stands (inr now) t is = let d = drew_now now t is in is_marked old new seen d.0 t d.1

pub once : (item : Present) (old new : View) (before after : Held) (n : Moves old new before after) (a z : Pending) (came : News) (tries : TriesSo item old new before after n a z came) (drawn left : Option Ts)
    → DrawsSo item old new before after n a z came tries drawn left → AreSeen new → (t : Ts) → WasDrawn old t → (drawn ≡ Some t → ⊥) → left ≡ Some t → ⊥
once item old new before after n a z came tries drawn left draws seen = never_by old new drawn left seen (left_by old new drawn left item before after a z came n tries draws)

pub stands : (item : Present) (old new : View) (before after : Held) (n : Moves old new before after) (a z : Pending) (came : News) (tries : TriesSo item old new before after n a z came) (drawn left : Option Ts)
    → DrawsSo item old new before after n a z came tries drawn left → AreSeen new → SeesMore old new → DrawnStands old drawn → DrawnStands new left
stands item old new before after n a z came tries drawn left draws seen more was = stands_by old new drawn left seen more was (left_by old new drawn left item before after a z came n tries draws)
