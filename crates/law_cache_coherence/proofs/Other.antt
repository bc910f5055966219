-- Items that others make are passive for a client's session.
use Rattle.law_cache_coherence.proofs.Passing.{IsFinishing, IsPassive, after_entry, answers_in}
use Rattle.law_cache_coherence.specs.Fitting.{Agrees}
use Rattle.log_entries.specs.declared.entry.Entry.TheVariants.{Decided, Finished, Life, One, Prepared, Upgraded}
use Rattle.log_entries.specs.declared.entry.Entry.{Entry}
use Rattle.log_entries.specs.declared.request.Request.{Request}
use Rattle.spec_history.proofs.Growth.{owed-end, sound-beginning, state-end}
use Rattle.spec_history.proofs.LastWrite.{commit_here}
use Rattle.spec_history.proofs.Places.{came_end, placed}
use Rattle.spec_history.specs.History.{Aborted, Base, Committed, Fate, IsCommitted, Known, Open, State, commit_by, commit_of, epoch_of, is_open, known_by, known_in, state}
use Rattle.spec_history.specs.Laws.{Asks}
use Rattle.spec_history.specs.Requests.{is_upgrade, written}
use Rattle.spec_history.specs.Sound.{sound}
use Rattle.spec_trace.proofs.Exactness.{known}
use Rattle.spec_trace.proofs.Taken.{after-mark}
use Rattle.spec_trace.specs.Calls.{last_session}
use Rattle.spec_trace.specs.Current.{commits_in, is_taking}
use Rattle.spec_trace.specs.Exact.{ItemIsExact}
use Rattle.spec_trace.specs.Gaps.{client_in, maker}
use Rattle.spec_trace.specs.Session.{Grant, Page, Session, Upgrade, acked_after, invalid_of, notice, session, told_of, upto_of}
use Rattle.spec_trace.specs.Trace.{E, Item, M, entries}
use Rattle.spec_trace.specs.declared.mark.Mark.TheVariants as the
use Rattle.std.proofs.Common.{Bool, List, [], ap, arith, cond, false, inl, inr, refl, subst, sym, true, ◌++◌, ◌<◌, ◌∙◌, ◌∷◌, ◌≡◌, ◌≢◌, ◌≤◌, ℕ}
use Rattle.std.proofs.lemmas.Bool.{eqb-true}
use Rattle.std.proofs.lemmas.List.Elements.{All-cons, All-nil}
use Rattle.std.specs.List.{All, filter}
use Rattle.std.specs.Option.{option_and_then, option_map}
use Rattle.std.specs.Prelude.{None, Option, Some, max, nat_eq, ◌+◌, ◌&&◌}
use Rattle.thor_value.specs.FiniteMap.{has, keys}
use Rattle.thor_value.specs.declared.names.Oref.{Oref}
use Rattle.thor_value.specs.declared.names.Ts.{Ts}

-- news are no answers
pub told_plain : (s : ℕ) (S : State) (v : Session) (cs : List (ℕ × Request)) → answers_in (told_of s S v.pages cs) ≡ []
told_plain s S v [] = refl
told_plain s S v (c ∷ cs) = by (is_upgrade c.1)
  where
    invalid : (xs : List Oref) (k : ℕ) → answers_in (invalid_of xs k) ≡ []
    invalid [] k = refl
    invalid (x ∷ xs) k = refl

    own : (t : Bool) (xs : List Oref) (k : ℕ) → answers_in (cond t None (invalid_of xs k)) ≡ []
    own true xs k = refl
    own false xs k = invalid xs k

    by : (t : Bool) → answers_in (cond t (Some (Upgrade (epoch_of S + 1) S.length)) (cond (nat_eq c.1.session s) None (invalid_of (filter (λ x. has v.pages x.page) (keys (written c.1))) S.length))) ≡ []
    by true = refl
    by false = own (nat_eq c.1.session s) (filter (λ x. has v.pages x.page) (keys (written c.1))) S.length

module _ (b : Base) (c : ℕ) (T : List Item) (s : ℕ) (v : Session) (committed : Ts → Bool) (there : session b T s ≡ Some v) (own : v.client ≡ c) where
  pub mine : client_in b T s ≡ Some c
  mine = ap (option_map (λ (w : Session). w.client)) there ∙ ap (λ (n : ℕ). Some n) own

  -- another client's session is another one
  pub apart : (n : ℕ) → client_in b T n ≢ Some c → nat_eq n s ≡ false
  apart n other = by (nat_eq n s) refl
    where
      by : (t : Bool) → nat_eq n s ≡ t → nat_eq n s ≡ false
      by false e = e
      by true e = absurd (other (ap (λ k. client_in b T k) (eqb-true n s e) ∙ mine))

  fresh_number : (n d : ℕ) → last_session T < n → nat_eq n s ≡ false
  fresh_number n d up = by (nat_eq n s) refl
    where
      by : (t : Bool) → nat_eq n s ≡ t → nat_eq n s ≡ false
      by false e = e
      by true e = let low = known b T s v there in let same = eqb-true n s e in absurd (omega arith)

  pub taking : (i : Item) → maker b T i ≢ Some c → ItemIsExact b T i → is_taking s i ≡ false
  taking (M (the.Took n place)) other k = apart n other
  taking (M (the.Connected n d)) other k = fresh_number n d k.0
  taking (E e) other k = refl
  taking (M (the.Fetched n page upto)) other k = refl
  taking (M (the.Granted n page)) other k = refl
  taking (M (the.Drew n t)) other k = refl
  taking (M (the.Forgot t)) other k = refl
  taking (M (the.Refused n q r)) other k = refl

  unacked : (n x : ℕ) → client_in b T n ≢ Some c → cond (nat_eq n s) x v.acked ≡ v.acked
  unacked n x other = ap (λ t. cond t x v.acked) (apart n other)

  acked : (i : Item) → maker b T i ≢ Some c → acked_after s v.acked i ≡ v.acked
  acked (E (Life n)) other = refl
  acked (E (One q)) other = unacked q.session (max v.acked q.upto) other
  acked (E (Prepared q)) other = unacked q.session (max v.acked q.upto) other
  acked (E (Decided t k)) other = refl
  acked (E (Finished t k)) other = refl
  acked (E (Upgraded q)) other = unacked q.session (max v.acked q.upto) other
  acked (M (the.Fetched n page upto)) other = unacked n (max v.acked upto) other
  acked (M (the.Connected n d)) other = refl
  acked (M (the.Granted n page)) other = refl
  acked (M (the.Took n place)) other = refl
  acked (M (the.Drew n t)) other = refl
  acked (M (the.Forgot t)) other = refl
  acked (M (the.Refused n q r)) other = refl

  pub plain : (i : Item) → maker b T i ≢ Some c → answers_in (notice b s (state b (entries T)) v.pages i) ≡ []
  plain (E e) other = told_plain s (state b (entries T)) v (commit_of b (state b (entries T)) e)
  plain (M (the.Fetched n page upto)) other = ap (λ (t : Bool). answers_in (cond t (Some (Page page (state b (entries T)).length)) None)) (apart n other)
  plain (M (the.Granted n page)) other = ap (λ (t : Bool). answers_in (cond t (Some (Grant page (state b (entries T)).length)) None)) (apart n other)
  plain (M (the.Connected n d)) other = refl
  plain (M (the.Took n place)) other = refl
  plain (M (the.Drew n t)) other = refl
  plain (M (the.Forgot t)) other = refl
  plain (M (the.Refused n q r)) other = refl

  -- ---- what an item commits of the session's own

  abbrev Finishes : ℕ × Request → Type 0
  Finishes k = nat_eq k.1.session s ≡ true → IsFinishing b (entries T) committed k.1

  abbrev none : All Finishes []
  none = All-nil Finishes

  others_one : (n : ℕ) (q : Request) → client_in b T q.session ≢ Some c → All Finishes ((n, q) ∷ [])
  others_one n q other = All-cons Finishes (n, q) [] (λ e. let f : false ≡ true = sym (apart q.session other) ∙ e in cc) none

  -- what the entry commits has committed behind it
  behind_commit : (e : Entry) (q : Request) → sound b (entries T ++ e ∷ []) → commit_of b (state b (entries T)) e ≡ ((state b (entries T)).length, q) ∷ [] → (w : Known) × (known_by b (entries T ++ e ∷ []) q.tx ≡ Some w) × (w.request ≡ q) × IsCommitted w.fate
  behind_commit e q sd is =
      let here = commit_here b (state b (entries T)) e q (placed b (entries T) (sound-beginning b (entries T) (e ∷ []) sd)) is in
      (here.0, ap (λ (S : State). known_in b S q.tx) (state-end b (entries T) e) ∙ here.1, here.2, subst IsCommitted (sym here.3) tt)

  -- a decision's commit, where the undecided transaction that it commits is another session's or is finished
  decision : (t : Ts) (k : Bool) → ((o : Known) → known_by b (entries T) t ≡ Some o → (k && is_open o.fate) ≡ true → Finishes ((state b (entries T)).length, o.request)) → All Finishes (commit_by (state b (entries T)) k (known_by b (entries T) t))
  decision t k h = by (known_by b (entries T) t) refl
    where
      one : (o : Known) → known_by b (entries T) t ≡ Some o → (x : Bool) → (k && is_open o.fate) ≡ x → All Finishes (cond x (((state b (entries T)).length, o.request) ∷ []) [])
      one o is true e = All-cons Finishes ((state b (entries T)).length, o.request) [] (h o is e) none
      one o is false e = none

      by : (o : Option Known) → known_by b (entries T) t ≡ o → All Finishes (commit_by (state b (entries T)) k o)
      by None is = none
      by (Some o) is = one o is (k && is_open o.fate) refl

  both : (k : Bool) (f : Fate) → (k && is_open f) ≡ true → (k ≡ true) × (f ≡ Open)
  both true Open e = (refl, refl)
  both true (Committed at) e = cc
  both true Aborted e = cc
  both false f e = cc

  finished : (t : Ts) (k : Bool) → sound b (entries T ++ Finished t k ∷ []) → Agrees b (entries T ++ Finished t k ∷ []) s committed → (o : Known) → known_by b (entries T) t ≡ Some o → (k && is_open o.fate) ≡ true → Finishes ((state b (entries T)).length, o.request)
  finished t k sd a o is e same =
      let y = both k o.fate e in
      let commits : commit_of b (state b (entries T)) (Finished t k) ≡ ((state b (entries T)).length, o.request) ∷ [] =
      ap (λ (p : Option Known). commit_by (state b (entries T)) k p) is ∙ ap (λ (x : Bool). cond x (((state b (entries T)).length, o.request) ∷ []) []) e in
      let z = behind_commit (Finished t k) o.request sd commits in
      let named : o.request.tx ≡ t = ((placed b (entries T) (sound-beginning b (entries T) (Finished t k ∷ []) sd)).fits t o is).named in
      let own' : z.0.request.session ≡ s = ap (λ (r : Request). r.session) z.2 ∙ eqb-true o.request.session s same in
      record { t = t; o = o; there = is; open' = y.1; request = refl; settled = a.led t z.0 (ap (known_by b (entries T ++ Finished t k ∷ [])) (sym named) ∙ z.1) own' z.3 }

  commits : (e : Entry) → maker b T (E e) ≢ Some c → sound b (entries T ++ e ∷ []) → Agrees b (entries T ++ e ∷ []) s committed → All Finishes (commit_of b (state b (entries T)) e)
  commits (Life n) other sd a = none
  commits (One q) other sd a = others_one (state b (entries T)).length q other
  commits (Prepared q) other sd a = none
  commits (Upgraded q) other sd a = others_one (state b (entries T)).length q other
  commits (Decided t k) other sd a = decision t k (λ o is e same. absurd (other (ap (option_and_then (λ p. client_in b T p.request.session)) is ∙ ap (client_in b T) (eqb-true o.request.session s same) ∙ mine)))
  commits (Finished t k) other sd a = decision t k (finished t k sd a)

  -- ---- what an item prepares

  pub asked : (e : Entry) → maker b T (E e) ≢ Some c → (q : Request) → Asks e q → q.session ≡ s → ⊥
  asked (Life n) other q x e = x
  asked (One r) other q x e = other (ap (λ (z : Request). client_in b T z.session) x ∙ ap (client_in b T) e ∙ mine)
  asked (Prepared r) other q x e = other (ap (λ (z : Request). client_in b T z.session) x ∙ ap (client_in b T) e ∙ mine)
  asked (Decided t k) other q x e = x
  asked (Finished t k) other q x e = x
  asked (Upgraded r) other q x e = other (ap (λ (z : Request). client_in b T z.session) x ∙ ap (client_in b T) e ∙ mine)

  fresh : (i : Item) → maker b T i ≢ Some c → sound b (entries (T ++ i ∷ [])) → (t : Ts) (w : Known) → known_by b (entries (T ++ i ∷ [])) t ≡ Some w → w.request.session ≡ s → known_by b (entries T) t ≡ None → ⊥
  fresh (M m) other sd t w is e none =
      let f : None ≡ Some w = sym none ∙ ap (λ (H : List Entry). known_by b H t) (sym (after-mark b T m)) ∙ is in cc
  fresh (E d) other sd t w is e none =
      let sd' : sound b (entries T ++ d ∷ []) = subst (sound b) (after_entry b T d) sd in
      elim (came_end b (entries T) d (sound-beginning b (entries T) (d ∷ []) sd') (owed-end b (entries T) d sd') t w (ap (λ (H : List Entry). known_by b H t) (sym (after_entry b T d)) ∙ is)) [
        | inl new ↦ asked d other w.request new.1.0 e
        | inr old ↦ let f : None ≡ Some old.0 = sym none ∙ old.1 in cc
      ]

  -- an item that another makes is passive
  pub passive : (i : Item) → maker b T i ≢ Some c → ItemIsExact b T i → v.acked ≤ upto_of v → sound b (entries (T ++ i ∷ [])) → Agrees b (entries (T ++ i ∷ [])) s committed → IsPassive b T s v committed i
  passive i other k step sd a = record {
    taking = taking i other k;
    acked = subst (λ (n : ℕ). n ≤ upto_of v) (sym (acked i other)) step;
    commits = by i other sd a;
    fresh = λ t w is open' e settled none. fresh i other sd t w is e none;
  }
    where
      by : (i : Item) → maker b T i ≢ Some c → sound b (entries (T ++ i ∷ [])) → Agrees b (entries (T ++ i ∷ [])) s committed → All Finishes (commits_in b (entries T) i)
      by (M m) other sd a = none
      by (E e) other sd a = commits e other (subst (sound b) (after_entry b T e) sd) (subst (λ (H : List Entry). Agrees b H s committed) (after_entry b T e) a)
